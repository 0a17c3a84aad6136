-- The product of a step and a reading.
use Rattle.std.specs.Prelude.{ℕ, ◌≤◌, ℤ, pos, ◌*ℤ◌, neg_ℤ, ◌≤ℤ◌, FitsSigned}
use Rattle.std.proofs.Common.{arith}
use Rattle.std.proofs.Math.IntN.{*ℤ_comm}
use Rattle.std.specs.Int.{w32}
use Rattle.std.proofs.lemmas.Int.{ints}
use Rattle.algebra.proofs.Ring.{linear, times_grows}
use Rattle.exact.proofs.Products.{within}
use Rattle.step.specs.Ends.{greatest_step, lower_end, upper_end}

-- the greatest magnitude of a product: 1,000 times 2^31
pub scaled_within : (s : ℕ) (r : ℤ) → s ≤ greatest_step → FitsSigned w32 r → (neg_ℤ (pos 2147483648000) ≤ℤ (pos s *ℤ r)) × ((pos s *ℤ r) ≤ℤ pos 2147483648000)
scaled_within s r few f = within (pos s) r (pos 1000) (pos 2147483648) (omega (arith, ints)) (omega (arith, ints)) (omega (arith, ints)) (omega (arith, ints))

rises : (s : ℕ) (a b : ℤ) → a ≤ℤ b → (pos s *ℤ a) ≤ℤ (pos s *ℤ b)
rises s a b h = omega (arith, linear, times_grows (pos s) (omega (arith, linear)) h, *ℤ_comm (pos s) a, *ℤ_comm (pos s) b)

pub lower_rises : (s : ℕ) (a b : ℤ) → a ≤ℤ b → lower_end s a ≤ℤ lower_end s b
lower_rises s a b h = omega (arith, linear, rises s a b h)

pub upper_rises : (s : ℕ) (a b : ℤ) → a ≤ℤ b → upper_end s a ≤ℤ upper_end s b
upper_rises s a b h = omega (arith, linear, rises s a b h)

pub ends_ordered : (s : ℕ) (r : ℤ) → lower_end s r ≤ℤ upper_end s r
ends_ordered s r = omega (arith, linear)
