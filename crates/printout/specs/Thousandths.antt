-- A fraction in thousandths.
use Rattle.std.specs.Prelude.{ℤ, pos, ◌*ℤ◌}
use Rattle.exact.specs.declared.fraction.Fraction.{Fraction}
use Rattle.exact.specs.Division.{floor, ceiling}

abbrev pub rounded_down : Fraction → ℤ
rounded_down f = floor (pos 1000 *ℤ f.numerator) f.denominator

abbrev pub rounded_up : Fraction → ℤ
rounded_up f = ceiling (pos 1000 *ℤ f.numerator) f.denominator
