-- The test of an argument, and its limits.
use Rattle.std.proofs.Common.{◌≡◌, true, false, ℤ, ◌≤ℤ◌, ◌<ℤ◌, ⊎_elim, arith}
use lib.Signed.{le_z}
use Rattle.std.proofs.lemmas.Int.{ints}
use Rattle.std.proofs.lemmas.Bool.{and_parts, and_from, and_left, and_right}
use Rattle.exact.specs.Limits.{least_argument, greatest_argument, NoArgument}
use Rattle.book.specs.Limits.{within}

test : (a b : ℤ) → a ≤ℤ b → le_z a b ≡ true
test a b h = grind (arith, ints)

fails : (a b : ℤ) → b <ℤ a → le_z a b ≡ false
fails a b h = grind (arith, ints)

passed : (a b : ℤ) → le_z a b ≡ true → a ≤ℤ b
passed a b h = omega (arith, ints)

pub within_true : (x : ℤ) → least_argument ≤ℤ x → x ≤ℤ greatest_argument → within x ≡ true
within_true x low high = and_from _ _ (test least_argument x low) (test x greatest_argument high)

pub within_false : (x : ℤ) → NoArgument x → within x ≡ false
within_false x none = ⊎_elim
    (λ (low : x <ℤ least_argument). and_left _ _ (fails least_argument x low))
    (λ (high : greatest_argument <ℤ x). and_right _ _ (fails x greatest_argument high))
    none

pub within_limits : (x : ℤ) → within x ≡ true → (least_argument ≤ℤ x) × (x ≤ℤ greatest_argument)
within_limits x e =
    let k = and_parts (le_z least_argument x) (le_z x greatest_argument) e in
    (passed least_argument x k.0, passed x greatest_argument k.1)
