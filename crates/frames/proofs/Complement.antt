-- Two's complement, at any width: k bits are those of a number and its half.
use Rattle.std.proofs.Common.{◌≡◌, ℕ, suc, ◌+◌, ◌-◌, ◌^◌, ◌<◌, Bool, true, false, cond, ltb, ℤ, pos, negsuc, ◌-ℤ◌, refl, subst, arith, ltb-false, ltb-true}
use Rattle.std.proofs.lemmas.Bool.Decides.{nat_tests}
use Rattle.std.proofs.lemmas.Int.{ints}
use Rattle.frames.specs.Tape.{signed}
use Rattle.frames.specs.Writing.{bits, Within}

abbrev pub Halves : ℕ → Type 0
Halves k = 2 ^ k ≡ 2 ^ (k - 1) + 2 ^ (k - 1)

pub signed_bits : (k : ℕ) (x : ℤ) → Halves k → Within k x → signed k (bits k x) ≡ x
signed_bits k (pos n) e h = grind (arith, nat_tests)
signed_bits k (negsuc n) e h = grind (arith, nat_tests, ints)

pub bits_below : (k : ℕ) (x : ℤ) → Halves k → Within k x → bits k x < 2 ^ k
bits_below k (pos n) e h = omega arith
bits_below k (negsuc n) e h = omega arith

abbrev Back : ℕ → ℕ → ℤ → Type 0
Back k n z = (bits k z ≡ n) × Within k z

pub bits_signed : (k n : ℕ) → Halves k → n < 2 ^ k → Back k n (signed k n)
bits_signed k n e h = go (ltb n (2 ^ (k - 1))) refl
  where
    go : (b : Bool) → ltb n (2 ^ (k - 1)) ≡ b → Back k n (cond b (pos n) (pos n -ℤ pos (2 ^ k)))
    go true t = (refl, omega (arith, ltb-true))
    go false t =
        let z : negsuc (2 ^ k - suc n) ≡ pos n -ℤ pos (2 ^ k) = omega (arith, ints) in
        subst (Back k n) z (omega arith, omega (arith, ltb-false))
