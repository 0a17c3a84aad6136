-- Each step of the book agrees with the history that has the call.
use Rattle.std.proofs.Common.{◌≡◌, ℕ, zero, suc, ◌+◌, ◌<◌, ◌≤◌, Bool, true, false, cond, eqb, ltb, List, [], ◌∷◌, length, get_or, set, replicate, ℤ, Ok, Err, count_by, sym, refl, ap, ◌∙◌, subst, ⊎_elim, arith}
use Rattle.std.specs.List.{AllByRecursion as All}
use Rattle.std.proofs.lemmas.List.{length-set, set-set}
use Rattle.std.proofs.ByRecursion.{All-get_or, All-weaker, All-set}
use Rattle.std.proofs.lemmas.List.Sums.{sum_by-cons, sum_by-set}
use Rattle.std.proofs.lemmas.Bool.{cases_Bool, eqb-true, eqb-false, eq-eqb, ne_eqb, ltb-true}
use Rattle.refusal.specs.declared.refusal.Refusal.TheVariants as refusal
use Rattle.stage.specs.Meaning.{Meaning}
use Rattle.stage.specs.Meaning as stage
use Rattle.book.specs.declared.tallies.Counts.{Counts}
use Rattle.book.specs.declared.call.Call.{Call}
use Rattle.book.specs.declared.call.Call.TheVariants as call
use Rattle.book.specs.declared.answer.Answer.TheVariants as answer
use Rattle.book.specs.Limits.{place_count, last_serial, within}
use Rattle.book.specs.Rows.{Answers, Outcome, answered}
use Rattle.book.specs.Book.{Book, Spot, Free, Open, Held, is_free, open_as, held_as, first, found, put, hold, one_opened, one_filed, one_spoiled, one_aborted, blank, next, told, cleared}
use Rattle.book.specs.Law.{Event, opens, files, spoils, aborts, withdraws, clears, nothing, event, Fate, never, open_at, held_at, fate, given, since}
use Rattle.book.specs.Law as law
use Rattle.book.specs.Agreement.{Fares, bears, stands, Agrees}
use Rattle.book.proofs.Spots.{one, first_passes, all_fail, all_both}
use Rattle.book.proofs.Fates.{was_given}

eqb_swap : (s t : ℕ) → eqb s t ≡ false → eqb t s ≡ false
eqb_swap s t e = ne_eqb t s (λ q. eqb-false s t e (sym q))

-- ---- what was found

free_spot : (p : Spot) → is_free p ≡ true → p ≡ Free
free_spot Free e = refl
free_spot (Open s x) e = absurd (let z : ◌≡◌ {A = ℕ} 0 1 = cc in omega arith)
free_spot (Held s x r l u) e = absurd (let z : ◌≡◌ {A = ℕ} 0 1 = cc in omega arith)

open_spot : (es : List Event) (t : ℕ) (p : Spot) → open_as t p ≡ true → Fares es p → (x : ℤ) × (p ≡ Open t x) × (fate t es ≡ open_at x)
open_spot es t Free e f = absurd (let z : ◌≡◌ {A = ℕ} 0 1 = cc in omega arith)
open_spot es t (Open s x) e f = let q = eqb-true s t e in (x, ap (λ n. Open n x) q, subst (λ n. fate n es ≡ open_at x) q f)
open_spot es t (Held s x r l u) e f = absurd (let z : ◌≡◌ {A = ℕ} 0 1 = cc in omega arith)

-- the fate of what is held
pub record HeldAs (es : List Event) (t : ℕ) (p : Spot) : Type 0 where
  pub argument : ℤ
  pub reading : ℤ
  pub lower : ℤ
  pub upper : ℤ
  pub spot : p ≡ Held t argument reading lower upper
  pub fares : fate t es ≡ held_at argument reading lower upper

held_spot : (es : List Event) (t : ℕ) (p : Spot) → held_as t p ≡ true → Fares es p → HeldAs es t p
held_spot es t Free e f = absurd (let z : ◌≡◌ {A = ℕ} 0 1 = cc in omega arith)
held_spot es t (Open s x) e f = absurd (let z : ◌≡◌ {A = ℕ} 0 1 = cc in omega arith)
held_spot es t (Held s x r l u) e f =
    let q = eqb-true s t e in
    record { argument = x; reading = r; lower = l; upper = u; spot = ap (λ n. Held n x r l u) q; fares = subst (λ n. fate n es ≡ held_at x r l u) q f }

-- ---- one spot changes

fares_on : (es : List Event) (e : Event) (t : ℕ) → ((s : ℕ) → eqb s t ≡ false → fate s (e ∷ es) ≡ fate s es) → (p : Spot) → (bears t p ≡ false) × Fares es p → Fares (e ∷ es) p
fares_on es e t others Free f = tt
fares_on es e t others (Open s x) f = others s f.0 ∙ f.1
fares_on es e t others (Held s x r l u) f = others s f.0 ∙ f.1

all_free : (es : List Event) (n : ℕ) → All (Fares es) (replicate n Free)
all_free es zero = tt
all_free es (suc n) = (tt, all_free es n)

swept_none : (f : Fate) → stands (law.sweep f) ≡ false
swept_none never = refl
swept_none f = refl

-- at index i the spot becomes q, by an event for the serial t alone
record Move (es : List Event) (b : Book) (e : Event) (t i : ℕ) (q : Spot) : Type 0 where
  pub inside : i < length b.spots
  pub was : (s : ℕ) → eqb s t ≡ false → bears s (get_or b.spots i Free) ≡ false
  pub was_own : bears t (get_or b.spots i Free) ≡ stands (fate t es)
  pub now' : (s : ℕ) → eqb s t ≡ false → bears s q ≡ false
  pub now_own : bears t q ≡ stands (fate t (e ∷ es))
  pub fares : Fares (e ∷ es) q
  pub others : (s : ℕ) → eqb s t ≡ false → fate s (e ∷ es) ≡ fate s es
  pub low : 1 ≤ t
  pub high : t ≤ given (e ∷ es)

module _ (es : List Event) (b : Book) (g : Agrees es b) where
  module _ (e : Event) (t i : ℕ) (q : Spot) (move : Move es b e t i q) where
    change : (s : ℕ) (p : Spot) → count_by (bears s) (set b.spots i p) + one (bears s (get_or b.spots i Free)) ≡ count_by (bears s) b.spots + one (bears s p)
    change s p = sum_by-set (λ p. one (bears s p)) b.spots i p Free move.inside

    each_moved : All (Fares (e ∷ es)) (set b.spots i q)
    each_moved =
        let rest = set b.spots i Free in
        let o : one (bears t (get_or b.spots i Free)) ≡ one (stands (fate t es)) = ap one move.was_own in
        let none : count_by (bears t) rest ≡ 0 = omega (arith, change t Free, g.once t, o) in
        let fails = all_fail (bears t) rest none in
        let old = All-set (Fares es) b.spots i Free tt g.each in
        let kept = All-weaker (λ p. (bears t p ≡ false) × Fares es p) (Fares (e ∷ es)) (fares_on es e t move.others) rest (all_both (λ p. bears t p ≡ false) (Fares es) rest fails old) in
        subst (All (Fares (e ∷ es))) (set-set b.spots i Free q) (All-set (Fares (e ∷ es)) rest i q move.fares kept)

    once_moved : (s : ℕ) → count_by (bears s) (set b.spots i q) ≡ one (stands (fate s (e ∷ es)))
    once_moved s = ⊎_elim
        (λ (y : eqb s t ≡ true). subst (λ n. count_by (bears n) (set b.spots i q) ≡ one (stands (fate n (e ∷ es)))) (sym (eqb-true s t y))
        (let a : one (bears t (get_or b.spots i Free)) ≡ one (stands (fate t es)) = ap one move.was_own in
        let c : one (bears t q) ≡ one (stands (fate t (e ∷ es))) = ap one move.now_own in
        omega (arith, change t q, g.once t, a, c)))
        (λ (d : eqb s t ≡ false).
        let a : one (bears s (get_or b.spots i Free)) ≡ 0 = ap one (move.was s d) in
        let c : one (bears s q) ≡ 0 = ap one (move.now' s d) in
        let f : one (stands (fate s (e ∷ es))) ≡ one (stands (fate s es)) = ap (λ f. one (stands f)) (move.others s d) in
        omega (arith, change s q, g.once s, a, c, f))
        (cases_Bool (eqb s t))

    moved : (b' : Book) → given es ≤ given (e ∷ es) → b'.spots ≡ set b.spots i q → b'.last ≡ given (e ∷ es)
        → b'.counts ≡ law.counts (since (e ∷ es)) → Agrees (e ∷ es) b'
    moved b' more spots last counts = record {
      long = ap length spots ∙ length-set b.spots i q ∙ g.long;
      last = last;
      counts = counts;
      first = (let low = move.low in move.others 0 (ne_eqb 0 t (λ z. omega arith)) ∙ g.first);
      fresh = λ s past. (let high = move.high in move.others s (ne_eqb s t (λ z. omega arith)) ∙ g.fresh s (omega arith));
      each = subst (All (Fares (e ∷ es))) (sym spots) each_moved;
      once = λ s. ap (count_by (bears s)) spots ∙ once_moved s;
    }

  -- nothing changes
  pub still : Agrees (nothing ∷ es) b
  unfolding fate since
  still = record {
    long = g.long;
    last = g.last;
    counts = g.counts;
    first = g.first;
    fresh = g.fresh;
    once = g.once;
    each = All-weaker (Fares es) (Fares (nothing ∷ es)) same b.spots g.each;
  }
    where
      same : (p : Spot) → Fares es p → Fares (nothing ∷ es) p
      same Free f = tt
      same (Open s x) f = f
      same (Held s x r l u) f = f

  -- all is cleared
  pub swept : Agrees (clears ∷ es) (cleared b.last)
  unfolding fate since
  swept = record {
    long = refl;
    last = g.last;
    counts = refl;
    first = ap law.sweep g.first;
    fresh = λ s past. ap law.sweep (g.fresh s past);
    each = all_free (clears ∷ es) place_count;
    once = λ s. sym (ap one (swept_none (fate s es)));
  }

  found_inside : (test : Spot → Bool) → found test b ≡ true → first test b < length b.spots
  found_inside test e = let l = g.long in let k = ltb-true (first test b) place_count e in omega arith

-- the spot at index i bears t, which is open or held, and no other serial
record Bearing (es : List Event) (b : Book) (t i : ℕ) : Type 0 where
  pub inside : i < length b.spots
  pub was : (s : ℕ) → eqb s t ≡ false → bears s (get_or b.spots i Free) ≡ false
  pub was_own : bears t (get_or b.spots i Free) ≡ stands (fate t es)
  pub low : 1 ≤ t
  pub high : t ≤ given es

module _ (es : List Event) (b : Book) (g : Agrees es b) where
  bearing : (t : ℕ) (test : Spot → Bool) → found test b ≡ true → (p : Spot) → get_or b.spots (first test b) Free ≡ p → ((s : ℕ) → bears s p ≡ eqb t s)
      → (f : Fate) → fate t es ≡ f → (f ≡ never → ⊥) → stands f ≡ true → Bearing es b t (first test b)
  bearing t test e p is own f fares some up =
      let r = was_given es b g t (λ z. some (sym fares ∙ z)) in
      record {
        inside = found_inside es b g test e;
        was = λ s d. ap (bears s) is ∙ own s ∙ eqb_swap s t d;
        was_own = ap (bears t) is ∙ own t ∙ eq-eqb t t refl ∙ sym (ap stands fares ∙ up);
        low = r.0;
        high = r.1;
      }

  bearing_open : (t : ℕ) → found (open_as t) b ≡ true → Bearing es b t (first (open_as t) b)
  bearing_open t e =
      let lt = found_inside es b g (open_as t) e in
      let k = open_spot es t (get_or b.spots (first (open_as t) b) Free) (first_passes (open_as t) b.spots Free lt) (All-get_or (Fares es) b.spots (first (open_as t) b) Free lt g.each) in
      bearing t (open_as t) e _ k.1 (λ s. refl) _ k.2 (λ z. let n : ◌≡◌ {A = ℕ} 0 1 = cc in omega arith) refl

  bearing_held : (t : ℕ) → found (held_as t) b ≡ true → Bearing es b t (first (held_as t) b)
  bearing_held t e =
      let lt = found_inside es b g (held_as t) e in
      let k = held_spot es t (get_or b.spots (first (held_as t) b) Free) (first_passes (held_as t) b.spots Free lt) (All-get_or (Fares es) b.spots (first (held_as t) b) Free lt g.each) in
      bearing t (held_as t) e _ k.spot (λ s. refl) _ k.fares (λ z. let n : ◌≡◌ {A = ℕ} 0 1 = cc in omega arith) refl

  -- the serial comes to an end, and its spot is freed
  ends : (e : Event) (t i : ℕ) (f : Fate) → Bearing es b t i → stands f ≡ false → given (e ∷ es) ≡ given es → ((s : ℕ) → fate s (e ∷ es) ≡ cond (eqb s t) f (fate s es)) → Move es b e t i Free
  ends e t i f bearing over same turns = record {
    inside = bearing.inside;
    was = bearing.was;
    was_own = bearing.was_own;
    now' = λ s d. refl;
    now_own = sym (ap stands (turns t ∙ ap (λ x. cond x f (fate t es)) (eq-eqb t t refl)) ∙ over);
    fares = tt;
    others = λ s d. turns s ∙ ap (λ x. cond x f (fate s es)) d;
    low = bearing.low;
    high = (let h = bearing.high in omega arith);
  }

  -- a reading that is taken
  holds : (t : ℕ) (r l u : ℤ) → found (open_as t) b ≡ true
      → Agrees (files t r l u ∷ es) (one_filed (put b (first (open_as t) b) (hold r l u (get_or b.spots (first (open_as t) b) Free))))
  unfolding fate since
  holds t r l u e =
      let i = first (open_as t) b in
      let lt = found_inside es b g (open_as t) e in
      let k = open_spot es t (get_or b.spots i Free) (first_passes (open_as t) b.spots Free lt) (All-get_or (Fares es) b.spots i Free lt g.each) in
      let x = k.0 in
      let me = eq-eqb t t refl in
      let be = bearing_open t e in
      let turned : fate t (files t r l u ∷ es) ≡ held_at x r l u = ap (λ y. cond y (law.file r l u (fate t es)) (fate t es)) me ∙ ap (law.file r l u) k.2 in
      let move : Move es b (files t r l u) t i (Held t x r l u) = record {
        inside = be.inside;
        was = be.was;
        was_own = be.was_own;
        now' = λ s d. eqb_swap s t d;
        now_own = me ∙ sym (ap stands turned);
        fares = turned;
        others = λ s d. ap (λ y. cond y (law.file r l u (fate s es)) (fate s es)) d;
        low = be.low;
        high = be.high;
      } in
      moved es b g (files t r l u) t i (Held t x r l u) move _ (omega arith) (ap (λ p. set b.spots i (hold r l u p)) k.1) g.last
      (ap {A = Counts} (λ c. record c { filed = c.filed + 1 }) g.counts ∙ ap {B = Counts} (λ n. record (law.counts (since es)) { filed = n }) (omega (arith, sum_by-cons (λ e. one (law.filing e)) (files t r l u) (since es))))

  -- a reading that is not
  spoils_agrees : (t : ℕ) → found (open_as t) b ≡ true → Agrees (spoils t ∷ es) (one_spoiled (put b (first (open_as t) b) Free))
  unfolding fate since
  spoils_agrees t e =
      let i = first (open_as t) b in
      moved es b g (spoils t) t i Free (ends (spoils t) t i law.spoiled (bearing_open t e) refl refl (λ s. refl)) _ (omega arith) refl g.last
      (ap {A = Counts} (λ c. record c { spoiled = c.spoiled + 1 }) g.counts ∙ ap {B = Counts} (λ n. record (law.counts (since es)) { spoiled = n }) (omega (arith, sum_by-cons (λ e. one (law.spoiling e)) (spoils t) (since es))))

  aborts_agrees : (t : ℕ) → found (open_as t) b ≡ true → Agrees (aborts t ∷ es) (one_aborted (put b (first (open_as t) b) Free))
  unfolding fate since
  aborts_agrees t e =
      let i = first (open_as t) b in
      moved es b g (aborts t) t i Free (ends (aborts t) t i law.aborted (bearing_open t e) refl refl (λ s. refl)) _ (omega arith) refl g.last
      (ap {A = Counts} (λ c. record c { aborted = c.aborted + 1 }) g.counts ∙ ap {B = Counts} (λ n. record (law.counts (since es)) { aborted = n }) (omega (arith, sum_by-cons (λ e. one (law.aborting e)) (aborts t) (since es))))

  withdraws_agrees : (t : ℕ) → found (held_as t) b ≡ true → Agrees (withdraws t ∷ es) (put b (first (held_as t) b) Free)
  unfolding fate since
  withdraws_agrees t e =
      let i = first (held_as t) b in
      moved es b g (withdraws t) t i Free (ends (withdraws t) t i law.withdrawn (bearing_held t e) refl refl (λ s. refl)) _ (omega arith) refl g.last
      g.counts

  -- a new point
  opens_agrees : (x : ℤ) → found is_free b ≡ true → Agrees (opens (b.last + 1) x ∷ es) (one_opened (put b (first is_free b) (Open (b.last + 1) x)))
  unfolding fate since
  opens_agrees x e =
      let i = first is_free b in
      let t = b.last + 1 in
      let lt = found_inside es b g is_free e in
      let p = free_spot (get_or b.spots i Free) (first_passes is_free b.spots Free lt) in
      let me = eq-eqb t t refl in
      let l = g.last in
      let more = sum_by-cons (λ e. one (law.opening e)) (opens t x) es in
      let turned : fate t (opens t x ∷ es) ≡ open_at x = ap (λ y. cond y (open_at x) (fate t es)) me in
      let move : Move es b (opens t x) t i (Open t x) = record {
        inside = lt;
        was = λ s d. ap (bears s) p;
        was_own = ap (bears t) p ∙ sym (ap stands (g.fresh t (omega arith)));
        now' = λ s d. eqb_swap s t d;
        now_own = me ∙ sym (ap stands turned);
        fares = turned;
        others = λ s d. ap (λ y. cond y (open_at x) (fate s es)) d;
        low = omega arith;
        high = omega (arith, more);
      } in
      moved es b g (opens t x) t i (Open t x) move _ (omega (arith, more)) refl (omega (arith, more))
      (ap {A = Counts} (λ c. record c { opened = c.opened + 1 }) g.counts ∙ ap {B = Counts} (λ n. record (law.counts (since es)) { opened = n }) (omega (arith, sum_by-cons (λ e. one (law.opening e)) (opens t x) (since es))))

module _ (m : Meaning) (n : ℕ) (es : List Event) (b : Book) (g : Agrees es b) where
  agrees_open : (x : ℤ) (w f l : Bool) → found is_free b ≡ f
      → Agrees (event (call.Open x) (cond w (answered (answer.Opened n) (cond f (cond l (Ok (b.last + 1)) (Err refusal.NoSerialLeft)) (Err refusal.NoFreePlace))) (Err refusal.ArgumentOutOfLimits)) ∷ es)
      (cond w (cond f (cond l (one_opened (put b (first is_free b) (Open (b.last + 1) x))) b) b) b)
  agrees_open x true true true e = opens_agrees es b g x e
  agrees_open x true true false e = still es b g
  agrees_open x true false l e = still es b g
  agrees_open x false f l e = still es b g

  agrees_file : (k s : ℕ) (r : ℤ) (x y z : Bool) → found (open_as s) b ≡ y
      → Agrees (event (call.File k s r) (cond x (answered {A = ℤ × ℤ} (λ ends. answer.Filed s ends.0 ends.1) (cond y (cond z (Ok (m.lower r, m.upper r)) (Err (refusal.ReadingNotTaken (stage.told (m.place r)) (m.value r)))) (Err refusal.PointNotOpen))) (Err refusal.PointNotOpen)) ∷ es)
      (cond x (cond y (cond z (one_filed (put b (first (open_as s) b) (hold r (m.lower r) (m.upper r) (get_or b.spots (first (open_as s) b) Free)))) (one_spoiled (put b (first (open_as s) b) Free))) b) b)
  agrees_file k s r true true true e = holds es b g s r (m.lower r) (m.upper r) e
  agrees_file k s r true true false e = spoils_agrees es b g s e
  agrees_file k s r true false z e = still es b g
  agrees_file k s r false y z e = still es b g

  agrees_abort : (k s : ℕ) (x y : Bool) → found (open_as s) b ≡ y
      → Agrees (event (call.Abort k s) (cond x (answered {A = Unit {0}} (λ done. answer.Aborted s) (cond y (Ok tt) (Err refusal.PointNotOpen))) (Err refusal.PointNotOpen)) ∷ es)
      (cond x (cond y (one_aborted (put b (first (open_as s) b) Free)) b) b)
  agrees_abort k s true true e = aborts_agrees es b g s e
  agrees_abort k s true false e = still es b g
  agrees_abort k s false y e = still es b g

  agrees_withdraw : (s : ℕ) (y : Bool) → found (held_as s) b ≡ y
      → Agrees (event (call.Withdraw s) (answered {A = Unit {0}} (λ done. answer.Withdrawn s) (cond y (Ok tt) (Err refusal.SerialNotHeld))) ∷ es) (cond y (put b (first (held_as s) b) Free) b)
  agrees_withdraw s true e = withdraws_agrees es b g s e
  agrees_withdraw s false e = still es b g

  -- the book after a call agrees with the history that has the call
  pub agrees_next : (c : Call) (r : Outcome) (question : Type 0) → Answers (told m n b c) question r → Agrees (event c r ∷ es) (next m n b c)
  agrees_next (call.Open x) r question e = subst (λ r. Agrees (event (call.Open x) r ∷ es) (next m n b (call.Open x))) (sym e) (agrees_open x (within x) (found is_free b) (ltb b.last last_serial) refl)
  agrees_next (call.File k s x) r question e = subst (λ r. Agrees (event (call.File k s x) r ∷ es) (next m n b (call.File k s x))) (sym e) (agrees_file k s x (eqb k n) (found (open_as s) b) (m.taken x) refl)
  agrees_next (call.Abort k s) r question e = subst (λ r. Agrees (event (call.Abort k s) r ∷ es) (next m n b (call.Abort k s))) (sym e) (agrees_abort k s (eqb k n) (found (open_as s) b) refl)
  agrees_next (call.Withdraw s) r question e = subst (λ r. Agrees (event (call.Withdraw s) r ∷ es) (next m n b (call.Withdraw s))) (sym e) (agrees_withdraw s (found (held_as s) b) refl)
  agrees_next call.Clear r question e = subst (λ r. Agrees (event call.Clear r ∷ es) (next m n b call.Clear)) (sym e) (swept es b g)
  agrees_next call.Verdict r question e = still es b g
  agrees_next call.Slope r question e = still es b g
  agrees_next (call.Value x) r question e = still es b g
  agrees_next call.Tallies r question e = still es b g

pub agrees_blank : Agrees [] blank
unfolding fate since
agrees_blank = record {
  long = refl;
  last = refl;
  counts = refl;
  first = refl;
  fresh = λ s past. refl;
  each = all_free [] place_count;
  once = λ s. refl;
}
