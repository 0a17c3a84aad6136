-- The slopes that two measurements allow, and the chords that three allow.
use Rattle.std.specs.Prelude.{◌≡◌, List, ◌+ℤ◌, ◌-ℤ◌, ◌*ℤ◌, ◌≤ℤ◌, ◌<ℤ◌}
use Rattle.std.proofs.Common.{arith}
use Rattle.std.specs.List.{ContainsAt as Has}
use Rattle.std.proofs.lemmas.Int.{ints}
use Rattle.rational.specs.Rational.{Rational, ◌≼◌}
use Rattle.lines.specs.Sheet.{Measurement}

-- j lies before i
abbrev pub Rises : Measurement → Measurement → Type 0
Rises j i = j.argument <ℤ i.argument

-- the least slope of a line that meets both: from the upper end of j to the lower end of i
abbrev pub low_slope : (j i : Measurement) → Rises j i → Rational
low_slope j i h = record { num = i.lower -ℤ j.upper; den = i.argument -ℤ j.argument; above = omega (arith, ints) }

-- the greatest: from the lower end of j to the upper end of i
abbrev pub high_slope : (j i : Measurement) → Rises j i → Rational
high_slope j i h = record { num = i.upper -ℤ j.lower; den = i.argument -ℤ j.argument; above = omega (arith, ints) }

-- of all pairs of the sheet, j and i have the greatest low slope
pub record SteepestLow (s : List Measurement) (j i : Measurement) : Type 0 where
  pub first : Has s j
  pub second : Has s i
  pub rises : Rises j i
  pub steepest : (a b : Measurement) → Has s a → Has s b → (h : Rises a b) → low_slope a b h ≼ low_slope j i rises

-- of all pairs of the sheet, j and i have the least high slope
pub record GentlestHigh (s : List Measurement) (j i : Measurement) : Type 0 where
  pub first : Has s j
  pub second : Has s i
  pub rises : Rises j i
  pub gentlest : (a b : Measurement) → Has s a → Has s b → (h : Rises a b) → high_slope j i rises ≼ high_slope a b h

-- measurements at one argument have a value in common, two by two
abbrev pub PairsMeet : List Measurement → Type 0
PairsMeet s = (a b : Measurement) → Has s a → Has s b → a.argument ≡ b.argument → a.lower ≤ℤ b.upper

-- the chord of the lower ends of a and c does not pass above b
abbrev pub LowChord : Measurement → Measurement → Measurement → Type 0
LowChord a b c = (a.lower *ℤ (c.argument -ℤ b.argument) +ℤ c.lower *ℤ (b.argument -ℤ a.argument)) ≤ℤ (b.upper *ℤ (c.argument -ℤ a.argument))

-- the chord of the upper ends of a and c does not pass below b
abbrev pub HighChord : Measurement → Measurement → Measurement → Type 0
HighChord a b c = (b.lower *ℤ (c.argument -ℤ a.argument)) ≤ℤ (a.upper *ℤ (c.argument -ℤ b.argument) +ℤ c.upper *ℤ (b.argument -ℤ a.argument))
