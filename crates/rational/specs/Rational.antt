-- Rational numbers of any size, compared by multiplying across.
use Rattle.std.specs.Prelude.{◌≡◌, ℤ, pos, ◌+ℤ◌, ◌*ℤ◌, neg_ℤ, ◌≤ℤ◌, ◌<ℤ◌}
use Rattle.std.specs.declared.cmp.Ordering.{Ordering}
use Rattle.std.specs.Ordering.{int_cmp}
use Rattle.std.proofs.Common.{arith}
use Rattle.std.proofs.lemmas.Int.{ints}
use Rattle.algebra.proofs.Ring.{product_positive}

-- a whole number over a whole number from 1 up
pub record Rational : Type 0 where
  pub num : ℤ
  pub den : ℤ
  pub above : pos 0 <ℤ den

infix 50 ◌≼◌ ◌≺◌ ◌≈◌
-- at most
abbrev pub ◌≼◌ : Rational → Rational → Type 0
a ≼ b = (a.num *ℤ b.den) ≤ℤ (b.num *ℤ a.den)

-- below
abbrev pub ◌≺◌ : Rational → Rational → Type 0
a ≺ b = (a.num *ℤ b.den) <ℤ (b.num *ℤ a.den)

-- the same quantity
abbrev pub ◌≈◌ : Rational → Rational → Type 0
a ≈ b = a.num *ℤ b.den ≡ b.num *ℤ a.den

-- how two compare
abbrev pub compare : Rational → Rational → Ordering
compare a b = int_cmp (a.num *ℤ b.den) (b.num *ℤ a.den)

-- a whole number
abbrev pub whole : ℤ → Rational
whole n = record { num = n; den = pos 1; above = omega (arith, ints) }

-- the same distance from 0 on the other side
abbrev pub opposite : Rational → Rational
opposite a = record { num = neg_ℤ a.num; den = a.den; above = a.above }

abbrev pub plus : Rational → Rational → Rational
plus a b = record { num = a.num *ℤ b.den +ℤ b.num *ℤ a.den; den = a.den *ℤ b.den; above = product_positive a.above b.above }

abbrev pub times : Rational → Rational → Rational
times a b = record { num = a.num *ℤ b.num; den = a.den *ℤ b.den; above = product_positive a.above b.above }
