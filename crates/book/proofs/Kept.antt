-- What every book keeps that calls lead to.
use Rattle.std.proofs.Common.{◌≡◌, ℕ, zero, suc, ◌+◌, ◌<◌, Bool, true, false, cond, eqb, ltb, List, [], ◌∷◌, length, get_or, set, replicate, ℤ, ◌≤ℤ◌, ◌≤◌, sym, refl, ◌∙◌, subst, arith}
use Rattle.std.specs.List.{AllByRecursion as All}
use Rattle.std.proofs.lemmas.List.{length-set}
use Rattle.std.proofs.ByRecursion.{All-get_or, All-set}
use Rattle.std.proofs.lemmas.List.Sums.{sum_by-set}
use Rattle.std.proofs.lemmas.Bool.{ltb-true}
use Rattle.stage.specs.Meaning.{Meaning, Sound}
use Rattle.exact.specs.Limits.{least_end, greatest_end}
use Rattle.book.specs.declared.call.Call.{Call}
use Rattle.book.specs.declared.tallies.Counts.{Counts}
use Rattle.book.specs.declared.call.Call.TheVariants as call
use Rattle.book.specs.Limits.{place_count, last_serial, within}
use Rattle.book.specs.Rows.{Row}
use Rattle.book.specs.Book.{Book, Spot, Free, Open, Held, is_free, is_open, open_as, held_as, first, found, put, hold, one_opened, one_filed, one_spoiled, one_aborted, blank, next, held_rows, rows}
use Rattle.book.specs.Run.{after}
use Rattle.book.specs.Agreement.{Taken, Kept, Measured}
use Rattle.book.proofs.Spots.{one, first_passes}

free_shut : (p : Spot) → is_free p ≡ true → one (is_open p) ≡ 0
free_shut Free e = refl
free_shut (Open s x) e = absurd (let z : ◌≡◌ {A = ℕ} 0 1 = cc in omega arith)
free_shut (Held s x r l u) e = refl

open_is : (t : ℕ) (p : Spot) → open_as t p ≡ true → one (is_open p) ≡ 1
open_is t Free e = absurd (let z : ◌≡◌ {A = ℕ} 0 1 = cc in omega arith)
open_is t (Open s x) e = refl
open_is t (Held s x r l u) e = absurd (let z : ◌≡◌ {A = ℕ} 0 1 = cc in omega arith)

held_shut : (t : ℕ) (p : Spot) → held_as t p ≡ true → one (is_open p) ≡ 0
held_shut t Free e = refl
held_shut t (Open s x) e = absurd (let z : ◌≡◌ {A = ℕ} 0 1 = cc in omega arith)
held_shut t (Held s x r l u) e = refl

hold_shut : (r l u : ℤ) (p : Spot) → one (is_open (hold r l u p)) ≡ 0
hold_shut r l u Free = refl
hold_shut r l u (Open s x) = refl
hold_shut r l u (Held s x r' l' u') = refl

hold_taken : (m : Meaning) (r : ℤ) (p : Spot) → m.taken r ≡ true → Taken m p → Taken m (hold r (m.lower r) (m.upper r) p)
hold_taken m r Free t k = tt
hold_taken m r (Open s x) t k = (k, t, refl, refl)
hold_taken m r (Held s x r' l u) t k = k

all_free : (m : Meaning) (n : ℕ) → All (Taken m) (replicate n Free)
all_free m zero = tt
all_free m (suc n) = (tt, all_free m n)

module _ (m : Meaning) (b : Book) (k : Kept m b) where
  inside : (test : Spot → Bool) → found test b ≡ true → first test b < length b.spots
  inside test e = let l = k.long in let h = ltb-true (first test b) place_count e in omega arith

  -- the first spot that passes a test becomes another, and the tallies follow what is open
  kept_put : (test : Spot → Bool) (q : Spot) (was : ℕ) → found test b ≡ true → ((p : Spot) → test p ≡ true → one (is_open p) ≡ was) → Taken m q
      → (last : ℕ) (c : Counts) → last ≤ last_serial → c.opened ≤ last
      → c.filed + c.spoiled + c.aborted + one (is_open q) + b.counts.opened ≡ b.counts.filed + b.counts.spoiled + b.counts.aborted + was + c.opened
      → Kept m (record { spots = set b.spots (first test b) q; last = last; counts = c })
  kept_put test q was f open_was taken last c few given tally =
      let i = first test b in
      let lt = inside test f in
      let o = open_was (get_or b.spots i Free) (first_passes test b.spots Free lt) in
      let change = sum_by-set (λ p. one (is_open p)) b.spots i q Free lt in
      let over = k.ended in
      record {
        long = length-set b.spots i q ∙ k.long;
        few = few;
        given = given;
        ended = omega arith;
        taken = All-set (Taken m) b.spots i q taken k.taken;
      }

  kept_open : (x : ℤ) (w f l : Bool) → within x ≡ w → found is_free b ≡ f → ltb b.last last_serial ≡ l
      → Kept m (cond w (cond f (cond l (one_opened (put b (first is_free b) (Open (b.last + 1) x))) b) b) b)
  kept_open x true true true w f l =
      let some = ltb-true b.last last_serial l in let gave = k.given in
      kept_put is_free (Open (b.last + 1) x) 0 f free_shut w (b.last + 1) _ (omega arith) (omega arith) (omega arith)
  kept_open x true true false w f l = k
  kept_open x true false l w f e = k
  kept_open x false f l w e e' = k

  kept_file : (s : ℕ) (r : ℤ) (x y z : Bool) → found (open_as s) b ≡ y → m.taken r ≡ z
      → Kept m (cond x (cond y (cond z (one_filed (put b (first (open_as s) b) (hold r (m.lower r) (m.upper r) (get_or b.spots (first (open_as s) b) Free)))) (one_spoiled (put b (first (open_as s) b) Free))) b) b)
  kept_file s r true true true f t =
      let p = get_or b.spots (first (open_as s) b) Free in
      let h = hold_shut r (m.lower r) (m.upper r) p in
      kept_put (open_as s) (hold r (m.lower r) (m.upper r) p) 1 f (open_is s) (hold_taken m r p t (All-get_or (Taken m) b.spots _ Free (inside (open_as s) f) k.taken)) b.last _ k.few k.given (omega arith)
  kept_file s r true true false f t = kept_put (open_as s) Free 1 f (open_is s) tt b.last _ k.few k.given (omega arith)
  kept_file s r true false z f t = k
  kept_file s r false y z f t = k

  kept_abort : (s : ℕ) (x y : Bool) → found (open_as s) b ≡ y → Kept m (cond x (cond y (one_aborted (put b (first (open_as s) b) Free)) b) b)
  kept_abort s true true f = kept_put (open_as s) Free 1 f (open_is s) tt b.last _ k.few k.given (omega arith)
  kept_abort s true false f = k
  kept_abort s false y f = k

  kept_withdraw : (s : ℕ) (y : Bool) → found (held_as s) b ≡ y → Kept m (cond y (put b (first (held_as s) b) Free) b)
  kept_withdraw s true f = kept_put (held_as s) Free 0 f (held_shut s) tt b.last _ k.few k.given (omega arith)
  kept_withdraw s false f = k

  pub kept_next : (n : ℕ) (c : Call) → Kept m (next m n b c)
  kept_next n (call.Open x) = kept_open x (within x) (found is_free b) (ltb b.last last_serial) refl refl refl
  kept_next n (call.File c s r) = kept_file s r (eqb c n) (found (open_as s) b) (m.taken r) refl refl
  kept_next n (call.Abort c s) = kept_abort s (eqb c n) (found (open_as s) b) refl
  kept_next n (call.Withdraw s) = kept_withdraw s (found (held_as s) b) refl
  kept_next n call.Clear = record { long = refl; few = k.few; given = omega arith; ended = refl; taken = all_free m place_count }
  kept_next n call.Verdict = k
  kept_next n call.Slope = k
  kept_next n (call.Value x) = k
  kept_next n call.Tallies = k

pub kept_blank : (m : Meaning) → Kept m blank
kept_blank m = record { long = refl; few = omega arith; given = omega arith; ended = refl; taken = all_free m place_count }

pub kept_after : (m : Meaning) (n : ℕ) (b : Book) → Kept m b → (cs : List Call) → Kept m (after m n b cs)
unfolding after
kept_after m n b k [] = k
kept_after m n b k (c ∷ cs) = kept_after m n (next m n b c) (kept_next m b k n c) cs

-- ---- the rows

rows_of : (m : Meaning) (ps : List Spot) → All (Taken m) ps → All (Measured m) (held_rows ps)
unfolding held_rows
rows_of m [] k = tt
rows_of m (Free ∷ ps) k = rows_of m ps k.1
rows_of m (Open s x ∷ ps) k = rows_of m ps k.1
rows_of m (Held s x r l u ∷ ps) k =
    (record { at_argument = k.0.0; reading = r; taken = k.0.1; lower = k.0.2; upper = k.0.3 }, rows_of m ps k.1)

-- each row that is held came from a reading that is taken, at an argument
pub rows_measured : (m : Meaning) (b : Book) → Kept m b → All (Measured m) (rows b)
rows_measured m b k = rows_of m b.spots k.taken

-- so its ends are in order and within their limits
pub measured_ordered : (m : Meaning) → Sound m → (x : Row) → Measured m x → x.lower ≤ℤ x.upper
measured_ordered m s x k =
    let o = s.ordered k.reading k.taken in
    subst (λ l. l ≤ℤ x.upper) (sym k.lower) (subst (λ u. m.lower k.reading ≤ℤ u) (sym k.upper) o)

pub measured_within : (m : Meaning) → Sound m → (x : Row) → Measured m x → (least_end ≤ℤ x.lower) × (x.upper ≤ℤ greatest_end)
measured_within m s x k =
    let w = s.within k.reading k.taken in
    (subst (λ l. least_end ≤ℤ l) (sym k.lower) w.0, subst (λ u. u ≤ℤ greatest_end) (sym k.upper) w.1)
