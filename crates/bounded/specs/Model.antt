-- The error model: reading = t + ε + δ t for the true value t, with ε within the absolute and δ within the relative limit.
use Rattle.std.proofs.Common.{arith}
use Rattle.std.specs.Prelude.{ℕ, ℤ, pos, ◌+ℤ◌, ◌-ℤ◌}
use Rattle.std.proofs.lemmas.Int.{ints}
use Rattle.rational.specs.Rational.{Rational, ◌≼◌, ◌≺◌, ◌≈◌, whole, opposite, plus, times}
use Rattle.bounded.specs.Limits.{million}

-- so many millionths
abbrev pub millionths : ℕ → Rational
millionths d = record { num = pos d; den = pos million; above = omega (arith, ints) }

-- no further from 0 than the limit, on either side
abbrev pub Within : Rational → Rational → Type 0
Within limit a = (opposite limit ≼ a) × (a ≼ limit)

-- the true value t can have given the reading r
abbrev pub Possible : ℕ → ℕ → ℤ → Rational → Type 0
Possible e d r t = (ε : Rational) × (δ : Rational) × Within (whole (pos e)) ε × Within (millionths d) δ × (whole r ≈ plus (plus t ε) (times δ t))

-- the set from l to u has every possible value, and either end moved in by a tick loses one
pub record Encloses (e d : ℕ) (r l u : ℤ) : Type 0 where
  pub every : (t : Rational) → Possible e d r t → (whole l ≼ t) × (t ≼ whole u)
  pub lower_tight : (t : Rational) × Possible e d r t × (t ≺ whole (l +ℤ pos 1))
  pub upper_tight : (t : Rational) × Possible e d r t × (whole (u -ℤ pos 1) ≺ t)
