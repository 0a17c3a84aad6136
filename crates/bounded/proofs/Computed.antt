-- The ends of a bounded stage from numbers as 64 bits hold them.
use Rattle.std.proofs.Common.{◌≡◌, ℕ, cond, ℤ, pos, negsuc, ◌*ℤ◌, ◌≤ℤ◌, ◌<ℤ◌, unsigned_abs, refl, ◌∙◌, arith, to_z, of_z, w32, w64}
use Rattle.std.specs.Int.Signed.{non_neg}
use Rattle.algebra.proofs.Ring.{linear}
use Rattle.exact.specs.Division.{floor, ceiling}
use Rattle.bounded.specs.Limits.{million}
use Rattle.bounded.specs.Rounded.{divisor, lowered}

-- a number as it is computed in 64 bits, and a reading that is widened to them
abbrev pub computed : ℤ → ℤ
computed z = to_z w64 (of_z w64 z)

abbrev pub widened : ℤ → ℤ
widened r = computed (to_z w32 (of_z w32 r))

-- what is divided and rounded down is the lower end by w, where the dividend is w in millionths and the divisor the one at w
pub by_floor : (d : ℕ) (w x y z : ℤ) → z ≡ floor x (unsigned_abs y) → x ≡ w *ℤ pos million → y ≡ divisor d w → z ≡ lowered d w
by_floor d w x y z told e f = told ∙ (λ i. floor (e i) (unsigned_abs (f i)))

-- the same rounded up, with a for the divisor where w is not negative, and else b
pub by_ceiling : (a b : ℕ) (w x y z : ℤ) → z ≡ ceiling x (unsigned_abs y) → x ≡ w *ℤ pos million → y ≡ pos (cond (non_neg w) a b) → z ≡ ceiling (w *ℤ pos million) (cond (non_neg w) a b)
by_ceiling a b w x y z told e f = told ∙ (λ i. ceiling (e i) (unsigned_abs (f i)))

-- which of two divisors it is: a where w is not negative, b where it is
pub divisor_is : (a b : ℕ) (w : ℤ) → (pos 0 ≤ℤ w → pos (cond (non_neg w) a b) ≡ pos a) × (w <ℤ pos 0 → pos (cond (non_neg w) a b) ≡ pos b)
divisor_is a b (pos n) = ((λ h. refl), (λ h. absurd (omega (arith, linear))))
divisor_is a b (negsuc n) = ((λ h. absurd (omega (arith, linear))), (λ h. refl))
