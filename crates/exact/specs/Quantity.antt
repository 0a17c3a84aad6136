-- What a fraction stands for.
use Rattle.std.specs.Prelude.{pos}
use Rattle.std.proofs.Common.{arith}
use Rattle.std.proofs.lemmas.Int.{ints}
use Rattle.rational.specs.Rational.{Rational}
use Rattle.exact.specs.declared.fraction.Fraction.{Fraction}

-- the rational number that a fraction is a way of writing
abbrev pub quantity : Fraction → Rational
quantity f = record { num = f.numerator; den = pos f.denominator; above = omega (arith, ints, f.some) }
