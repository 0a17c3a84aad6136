-- The bounds that all pairs leave.
use Rattle.std.specs.Prelude.{◌≡◌, List, neg_ℤ, Some, None, Option}
use Rattle.std.specs.List.{ContainsAt as Has}
use Rattle.rational.specs.Rational.{Rational, ◌≼◌}
use Rattle.exact.specs.Quantity.{quantity}
use Rattle.lines.specs.Sheet.{Measurement, OneArgument}
use Rattle.lines.specs.Slopes.{Rises, high_slope}
use Rattle.lines.specs.Values.{high_value}
use Rattle.lines.specs.Mirror.{mirrored}
use Rattle.places.specs.Samples.{measured}
use Rattle.pairs.specs.declared.quantity.Quantity.{Quantity}
use Rattle.pairs.specs.declared.quantity.Quantity.TheVariants.{Slope, Value}
use Rattle.pairs.specs.declared.candidate.Candidate.{Candidate}
use Rattle.pairs.specs.declared.extremes.Extremes.{Extremes}
use Rattle.pairs.specs.declared.rising.Rising.{Rising}
use Rattle.pairs.specs.Low.{low_of, low_of_pair, Writes}

-- the greatest of the quantity over the lines that meet both
abbrev pub high_of : Quantity → (j i : Measurement) → Rises j i → Rational
high_of Slope j i h = high_slope j i h
high_of (Value x) j i h = high_value j i h x.value

abbrev pub high_of_pair : Quantity → Rising → Rational
high_of_pair q p = high_of q (measured p.first) (measured p.second) p.rises

-- the greatest low of all pairs
pub record LowBound (q : Quantity) (s : List Measurement) (c : Candidate) : Type 0 where
  pub first : Has s (measured c.pair.first)
  pub second : Has s (measured c.pair.second)
  pub writes : Writes c.bound (low_of_pair q c.pair)
  pub over : (a b : Measurement) → Has s a → Has s b → (h : Rises a b) → low_of q a b h ≼ quantity c.bound

-- the least high of all pairs
pub record HighBound (q : Quantity) (s : List Measurement) (c : Candidate) : Type 0 where
  pub first : Has s (measured c.pair.first)
  pub second : Has s (measured c.pair.second)
  pub writes : Writes c.bound (high_of_pair q c.pair)
  pub under : (a b : Measurement) → Has s a → Has s b → (h : Rises a b) → quantity c.bound ≼ high_of q a b h

-- both; neither where all measurements have one argument
abbrev pub Narrowest : Quantity → List Measurement → Option Extremes → Type 0
Narrowest q s None = OneArgument s
Narrowest q s (Some e) = LowBound q s e.least × HighBound q s e.greatest

-- every value goes to its opposite
pub record TurnedPair (p r : Rising) : Type 0 where
  pub first : measured r.first ≡ mirrored (measured p.first)
  pub second : measured r.second ≡ mirrored (measured p.second)

pub record Turned (c r : Candidate) : Type 0 where
  pub pair : TurnedPair c.pair r.pair
  pub numerator : r.bound.numerator ≡ neg_ℤ c.bound.numerator
  pub denominator : r.bound.denominator ≡ c.bound.denominator
