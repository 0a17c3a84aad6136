-- A fraction that writes a rational number is as great as that number.
use Rattle.std.proofs.Common.{◌≡◌, pos, ◌*ℤ◌, sym, arith}
use Rattle.algebra.proofs.Ring.{linear}
use Rattle.rational.specs.Rational.{Rational, ◌≼◌}
use Rattle.exact.specs.Quantity.{quantity}
use Rattle.exact.specs.declared.fraction.Fraction.{Fraction}
use Rattle.lines.specs.Slopes.{Rises}
use Rattle.lines.specs.Sheet.{Measurement}
use Rattle.pairs.specs.declared.quantity.Quantity.{Quantity}
use Rattle.pairs.specs.declared.quantity.Quantity.TheVariants.{Slope, Value}
use Rattle.pairs.specs.Low.{low_of, Writes}

module _ (f : Fraction) (r : Rational) (w : Writes f r) where
  crossed : r.num *ℤ pos f.denominator ≡ f.numerator *ℤ r.den
  crossed = λ i. sym w.numerator i *ℤ w.denominator i

  pub written_over : r ≼ quantity f
  written_over = omega (arith, linear, crossed)

  pub written_under : quantity f ≼ r
  written_under = omega (arith, linear, crossed)

-- how it is shown that the pair rises does not count
pub same_low : (q : Quantity) (j i : Measurement) (h k : Rises j i) (f : Fraction) → Writes f (low_of q j i h) → Writes f (low_of q j i k)
same_low Slope j i h k f w = record { numerator = w.numerator; denominator = w.denominator }
same_low (Value x) j i h k f w = record { numerator = w.numerator; denominator = w.denominator }
