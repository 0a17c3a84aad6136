-- What a book that agrees with a history has of each serial.
use Rattle.std.proofs.Common.{◌≡◌, ℕ, zero, suc, ◌+◌, ◌<◌, ◌≤◌, Bool, true, false, cond, eqb, ltb, List, [], ◌∷◌, length, sum_by, count_by, sym, refl, ap, ◌∙◌, subst, ⊎_elim, arith}
use Rattle.std.specs.List.{AllByRecursion as All}
use Rattle.std.proofs.ByRecursion.{All-weaker}
use Rattle.std.proofs.lemmas.List.Sums.{sum_by-cons}
use Rattle.std.proofs.lemmas.Bool.{cases_Bool, cases_lt, cases_eq, eqb-true, eq-eqb, ne_eqb, lt-ltb, le-ltb}
use Rattle.book.specs.Limits.{place_count}
use Rattle.book.specs.Book.{Book, Spot, Free, Open, Held, is_free, open_as, held_as, first, found}
use Rattle.book.specs.Book as book
use Rattle.book.specs.Law.{Event, Fate, never, open_at, held_at, is_open, is_held, fate, given, up_to, serials, open_count, held_count}
use Rattle.book.specs.Agreement.{Fares, bears, stands, Agrees}
use Rattle.book.proofs.Spots.{one, sum_same, sum_none, sum_swap, found_by}

neither : (b : Bool) → ◌≡◌ {A = ℕ} 0 (cond b 0 0)
neither true = refl
neither false = refl

-- a spot of a serial is counted where the fate of that serial passes the test
bears_by : (es : List Event) (s t : ℕ) (test : Fate → Bool) (f : Fate) → fate t es ≡ f → cond (test f) (one (eqb t s)) 0 ≡ cond (test (fate s es)) (one (eqb t s)) 0
bears_by es s t test f e = ⊎_elim
    (λ (y : eqb t s ≡ true). ap (λ g. cond (test g) (one (eqb t s)) 0) (sym e ∙ ap (λ n. fate n es) (eqb-true t s y)))
    (λ (n : eqb t s ≡ false). rw n (sym (neither (test f)) ∙ neither (test (fate s es))))
    (cases_Bool (eqb t s))

-- the spots that are open under a serial are those that bear it, if it is open; so too if it is held
open_bears : (es : List Event) (s : ℕ) (p : Spot) → Fares es p → one (open_as s p) ≡ cond (is_open (fate s es)) (one (bears s p)) 0
open_bears es s Free f = neither (is_open (fate s es))
open_bears es s (Open t x) f = bears_by es s t is_open (open_at x) f
open_bears es s (Held t x r l u) f = bears_by es s t is_open (held_at x r l u) f

held_bears : (es : List Event) (s : ℕ) (p : Spot) → Fares es p → one (held_as s p) ≡ cond (is_held (fate s es)) (one (bears s p)) 0
held_bears es s Free f = neither (is_held (fate s es))
held_bears es s (Open t x) f = bears_by es s t is_held (open_at x) f
held_bears es s (Held t x r l u) f = bears_by es s t is_held (held_at x r l u) f

-- a count that goes by a test of the fate
by_fate : (ps : List Spot) (f g : Spot → ℕ) (b c : Bool) → All (λ p. f p ≡ cond b (g p) 0) ps → sum_by g ps ≡ one c → (b ≡ true → c ≡ true) → sum_by f ps ≡ one b
by_fate ps f g true c e count implies = sum_same f g ps e ∙ count ∙ ap one (implies refl)
by_fate ps f g false c e count implies = sum_same f (λ p. 0) ps e ∙ sum_none ps

open_stands : (f : Fate) → is_open f ≡ true → stands f ≡ true
open_stands f e = rw e

held_stands : (f : Fate) → is_held f ≡ true → stands f ≡ true
held_stands (open_at x) e = refl
held_stands (held_at x r l u) e = refl
held_stands f e = e

-- the sum over serials of one that is among them
sum_at : (t n : ℕ) → n < t → sum_by (λ s. one (eqb t s)) (up_to n) ≡ 0
unfolding up_to
sum_at t zero past = refl
sum_at t (suc n) past =
    let o : one (eqb t (suc n)) ≡ 0 = ap one (ne_eqb t (suc n) (λ e. omega arith)) in
    omega (arith, sum_by-cons (λ s. one (eqb t s)) (suc n) (up_to n), sum_at t n (omega arith), o)

sum_in : (t n : ℕ) → 1 ≤ t → t ≤ n → sum_by (λ s. one (eqb t s)) (up_to n) ≡ 1
unfolding up_to
sum_in t zero low high = absurd (omega arith)
sum_in t (suc n) low high =
    let k = sum_by-cons (λ s. one (eqb t s)) (suc n) (up_to n) in
    ⊎_elim
    (λ (e : t ≡ suc n). let o : one (eqb t (suc n)) ≡ 1 = ap one (eq-eqb t (suc n) e) in omega (arith, k, sum_at t n (omega arith), o))
    (λ (d : t ≡ suc n → ⊥).
    let o : one (eqb t (suc n)) ≡ 0 = ap one (ne_eqb t (suc n) d) in
    let less : t ≤ n = ⊎_elim (λ (l : n < t). absurd (d (omega arith))) (λ (l : t ≤ n). l) (cases_lt n t) in
    omega (arith, k, sum_in t n low less, o))
    (cases_eq t (suc n))

module _ (es : List Event) (b : Book) (g : Agrees es b) where
  pub open_once : (s : ℕ) → count_by (open_as s) b.spots ≡ one (is_open (fate s es))
  open_once s = by_fate b.spots (λ p. one (open_as s p)) (λ p. one (bears s p)) (is_open (fate s es)) (stands (fate s es))
      (All-weaker (Fares es) _ (open_bears es s) b.spots g.each) (g.once s) (open_stands (fate s es))

  pub held_once : (s : ℕ) → count_by (held_as s) b.spots ≡ one (is_held (fate s es))
  held_once s = by_fate b.spots (λ p. one (held_as s p)) (λ p. one (bears s p)) (is_held (fate s es)) (stands (fate s es))
      (All-weaker (Fares es) _ (held_bears es s) b.spots g.each) (g.once s) (held_stands (fate s es))

  -- a spot is found open or held under a serial exactly where the serial is
  pub found_open : (s : ℕ) → found (open_as s) b ≡ is_open (fate s es)
  found_open s = found_by (open_as s) b.spots place_count _ g.long (open_once s) ∙ elim (is_open (fate s es)) as (λ x. ltb 0 (one x) ≡ x) [ true ↦ refl | false ↦ refl ]

  pub found_held : (s : ℕ) → found (held_as s) b ≡ is_held (fate s es)
  found_held s = found_by (held_as s) b.spots place_count _ g.long (held_once s) ∙ elim (is_held (fate s es)) as (λ x. ltb 0 (one x) ≡ x) [ true ↦ refl | false ↦ refl ]

  -- a serial that is not never given is among those given
  pub was_given : (s : ℕ) → (fate s es ≡ never → ⊥) → (1 ≤ s) × (s ≤ given es)
  was_given s some = (
    ⊎_elim (λ (l : s < 1). absurd (some (subst (λ n. fate n es ≡ never) (zero_is s l) g.first))) (λ (l : 1 ≤ s). l) (cases_lt s 1),
    ⊎_elim (λ (l : given es < s). absurd (some (g.fresh s l))) (λ (l : s ≤ given es). l) (cases_lt (given es) s),
  )
    where
      zero_is : (s : ℕ) → s < 1 → 0 ≡ s
      zero_is s l = omega arith

  open_sum : (p : Spot) → Fares es p → sum_by (λ s. one (open_as s p)) (serials es) ≡ one (book.is_open p)
  open_sum Free f = sum_none (serials es)
  open_sum (Open t x) f = let k = was_given t (λ e. let z : ◌≡◌ {A = ℕ} 0 1 = cc in omega arith) in sum_in t (given es) k.0 k.1
  open_sum (Held t x r l u) f = sum_none (serials es)

  held_sum : (p : Spot) → Fares es p → sum_by (λ s. one (held_as s p)) (serials es) ≡ one (book.is_held p)
  held_sum Free f = sum_none (serials es)
  held_sum (Open t x) f = sum_none (serials es)
  held_sum (Held t x r l u) f = let k = was_given t (λ e. let z : ◌≡◌ {A = ℕ} 0 1 = cc in omega arith) in sum_in t (given es) k.0 k.1

  -- as many spots are open, and as many are held, as there are such serials
  same_count : (under : ℕ → Spot → Bool) (is : Spot → Bool) (fared : Fate → Bool) → ((p : Spot) → Fares es p → sum_by (λ s. one (under s p)) (serials es) ≡ one (is p))
      → ((s : ℕ) → count_by (under s) b.spots ≡ one (fared (fate s es))) → count_by is b.spots ≡ count_by (λ s. fared (fate s es)) (serials es)
  same_count under is fared sum once =
      sym (sum_same (λ p. sum_by (λ s. one (under s p)) (serials es)) (λ p. one (is p)) b.spots (All-weaker (Fares es) _ sum b.spots g.each))
      ∙ sym (sum_swap (λ s p. one (under s p)) (serials es) b.spots)
      ∙ sum_same (λ s. count_by (under s) b.spots) (λ s. one (fared (fate s es))) (serials es) (every (serials es))
    where
      every : (ss : List ℕ) → All (λ s. count_by (under s) b.spots ≡ one (fared (fate s es))) ss
      every [] = tt
      every (s ∷ ss) = (once s, every ss)

  pub open_same : count_by book.is_open b.spots ≡ open_count es
  open_same = same_count open_as book.is_open is_open open_sum open_once

  pub held_same : count_by book.is_held b.spots ≡ held_count es
  held_same = same_count held_as book.is_held is_held held_sum held_once

  -- every spot is free, open or held
  all_spots : (ps : List Spot) → count_by is_free ps + count_by book.is_open ps + count_by book.is_held ps ≡ length ps
  all_spots [] = refl
  all_spots (p ∷ ps) = omega (arith, sum_by-cons (λ q. one (is_free q)) p ps, sum_by-cons (λ q. one (book.is_open q)) p ps, sum_by-cons (λ q. one (book.is_held q)) p ps, all_spots ps, this p)
    where
      this : (q : Spot) → one (is_free q) + one (book.is_open q) + one (book.is_held q) ≡ 1
      this Free = refl
      this (Open s x) = refl
      this (Held s x r l u) = refl

  pub found_free : found is_free b ≡ ltb (open_count es + held_count es) place_count
  found_free =
      let a = all_spots b.spots in let o = open_same in let h = held_same in let l = g.long in
      found_by is_free b.spots place_count _ l refl ∙ ⊎_elim
      (λ (l : open_count es + held_count es < place_count). lt-ltb 0 _ (omega arith) ∙ sym (lt-ltb _ place_count l))
      (λ (l : place_count ≤ open_count es + held_count es). le-ltb 0 _ (omega arith) ∙ sym (le-ltb _ place_count l))
      (cases_lt (open_count es + held_count es) place_count)
