-- The least that two measurements allow of a quantity.
use Rattle.std.specs.Prelude.{◌≡◌, pos}
use Rattle.rational.specs.Rational.{Rational}
use Rattle.rational.specs.Line.{Line, slope, value_at}
use Rattle.exact.specs.declared.fraction.Fraction.{Fraction}
use Rattle.lines.specs.Sheet.{Measurement}
use Rattle.lines.specs.Slopes.{Rises, low_slope}
use Rattle.lines.specs.Values.{low_value}
use Rattle.places.specs.Samples.{measured}
use Rattle.pairs.specs.declared.quantity.Quantity.{Quantity}
use Rattle.pairs.specs.declared.quantity.Quantity.TheVariants.{Slope, Value}
use Rattle.pairs.specs.declared.rising.Rising.{Rising}

-- the quantity of a line
abbrev pub quantity_of : Quantity → Line → Rational
quantity_of Slope l = slope l
quantity_of (Value x) l = value_at l x.value

-- the least of it over the lines that meet both
abbrev pub low_of : Quantity → (j i : Measurement) → Rises j i → Rational
low_of Slope j i h = low_slope j i h
low_of (Value x) j i h = low_value j i h x.value

abbrev pub low_of_pair : Quantity → Rising → Rational
low_of_pair q p = low_of q (measured p.first) (measured p.second) p.rises

-- the fraction is written with these two numbers
pub record Writes (f : Fraction) (r : Rational) : Type 0 where
  pub numerator : f.numerator ≡ r.num
  pub denominator : pos f.denominator ≡ r.den
