-- The product of a step and a reading as 64 bits hold them.
use Rattle.std.proofs.Common.{◌≡◌, ℕ, ◌≤◌, ℤ, pos, ◌*ℤ◌, FitsSigned, arith, w32, w64, to_z, of_z}
use Rattle.std.proofs.lemmas.Int.{ints}
use Rattle.step.specs.Ends.{greatest_step}

-- the product of the two in 64 bits is that of the two themselves
pub scaled_cast : (s : ℕ) (r : ℤ) → s ≤ greatest_step → FitsSigned w32 r → to_z w64 s *ℤ to_z w64 (of_z w64 (to_z w32 (of_z w32 r))) ≡ pos s *ℤ r
scaled_cast s r few f =
    let a : to_z w64 s ≡ pos s = omega (arith, ints) in
    let b : to_z w64 (of_z w64 (to_z w32 (of_z w32 r))) ≡ r = omega (arith, ints) in
    λ i. a i *ℤ b i
