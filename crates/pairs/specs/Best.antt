-- Of all pairs, one whose least is the greatest.
use Rattle.std.specs.Prelude.{◌≡◌, ◌⊎◌, List, Some, None, Option}
use Rattle.std.specs.List.{ContainsAt as Has}
use Rattle.rational.specs.Rational.{Rational, ◌≼◌}
use Rattle.exact.specs.Quantity.{quantity}
use Rattle.lines.specs.Sheet.{Measurement}
use Rattle.lines.specs.Slopes.{Rises}
use Rattle.places.specs.declared.sample.Sample.{Sample}
use Rattle.places.specs.Samples.{measured}
use Rattle.pairs.specs.declared.quantity.Quantity.{Quantity}
use Rattle.pairs.specs.declared.candidate.Candidate.{Candidate}
use Rattle.pairs.specs.Low.{low_of, low_of_pair, Writes}

-- a candidate is there, and its bound is not below
abbrev pub Below : Rational → Option Candidate → Type 0
Below b None = ⊥
Below b (Some c) = b ≼ quantity c.bound

-- if there is a candidate, it is of two measurements of the sheet, and its bound is their least
abbrev pub Among : Quantity → List Measurement → Option Candidate → Type 0
Among q s None = Unit {0}
Among q s (Some c) = Has s (measured c.pair.first) × Has s (measured c.pair.second) × Writes c.bound (low_of_pair q c.pair)

-- what the pair of these two allows is not above the candidate's bound
abbrev pub Covers : Quantity → Option Candidate → Measurement → Measurement → Type 0
Covers q r a b = (h : Rises a b) → Below (low_of q a b h) r

-- of all pairs of the sheet, one whose least is the greatest; none where no pair rises
pub record GreatestLow (q : Quantity) (s : List Measurement) (r : Option Candidate) : Type 0 where
  pub among : Among q s r
  pub covers : (a b : Measurement) → Has s a → Has s b → Covers q r a b

-- a candidate made of these two samples
abbrev pub MadeOf : Quantity → Sample → Sample → Option Candidate → Type 0
MadeOf q a b None = ⊥
MadeOf q a b (Some c) = (c.pair.first ≡ a) × (c.pair.second ≡ b) × Writes c.bound (low_of_pair q c.pair)

-- the best so far with one more pair looked at
pub record Looked (q : Quantity) (best : Option Candidate) (a b : Sample) (r : Option Candidate) : Type 0 where
  pub covers : Covers q r (measured a) (measured b)
  pub keeps : (x : Rational) → Below x best → Below x r
  pub origin : (r ≡ best) ⊎ MadeOf q a b r
