-- How many places are open, and how many are held.
use Rattle.std.proofs.Common.{◌≡◌, ℕ, ◌+◌, ◌<◌, ◌≤◌, Bool, true, false, List, length, get_or, take, ℤ, count_by, refl, arith}
use Rattle.std.proofs.lemmas.List.Sums.{count_by_more_yes, count_by_more_no}
use Rattle.exact.specs.declared.argument.Argument.{Argument}
use Rattle.exact.specs.declared.set.UncertaintySet.{UncertaintySet}
use Rattle.places.specs.declared.place.Place.{Place}
use Rattle.places.specs.declared.place.Place.TheVariants.{Free, Open, Held}
use Rattle.places.specs.Search.{is_open, is_held}

pub not_open : (p : Place) → ((s : ℕ) (x : Argument) → p ≡ Open s x → ⊥) → is_open p ≡ false
not_open Free other = refl
not_open (Open s x) other = absurd (other s x refl)
not_open (Held s x r u) other = refl

pub not_held : (p : Place) → ((s : ℕ) (x : Argument) (r : ℤ) (u : UncertaintySet) → p ≡ Held s x r u → ⊥) → is_held p ≡ false
not_held Free other = refl
not_held (Open s x) other = refl
not_held (Held s x r u) other = absurd (other s x r u refl)

module _ (test : Place → Bool) (ps : List Place) (i n n' : ℕ) (d : Place) (lt : i < length ps) (so_far : n ≡ count_by test (take i ps)) (few : n ≤ i) where
  pub one_more : test (get_or ps i d) ≡ true → n' ≡ n + 1 → (n' ≡ count_by test (take (i + 1) ps)) × (n' ≤ i + 1)
  one_more e is = let k = count_by_more_yes test ps i d lt e in (omega arith, omega arith)

  pub as_many : test (get_or ps i d) ≡ false → n' ≡ n → (n' ≡ count_by test (take (i + 1) ps)) × (n' ≤ i + 1)
  as_many e is = let k = count_by_more_no test ps i d lt e in (omega arith, omega arith)
