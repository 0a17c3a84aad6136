-- The values at an argument x that two measurements allow.
use Rattle.std.specs.Prelude.{◌≡◌, cond, ◌⊎◌, List, ℤ, pos, ◌+ℤ◌, ◌-ℤ◌, ◌*ℤ◌, int_lt}
use Rattle.std.proofs.Common.{arith}
use Rattle.std.specs.List.{ContainsAt as Has}
use Rattle.std.proofs.lemmas.Int.{ints}
use Rattle.rational.specs.Rational.{Rational, ◌≼◌, whole}
use Rattle.lines.specs.Sheet.{Measurement}
use Rattle.lines.specs.Slopes.{Rises}

-- the greatest and the least product of w with a value of the set
unfoldable pub most : Measurement → ℤ → ℤ
most m w = cond (int_lt w (pos 0)) m.lower m.upper *ℤ w

unfoldable pub least : Measurement → ℤ → ℤ
least m w = cond (int_lt w (pos 0)) m.upper m.lower *ℤ w

-- the greatest value at x of a line that meets both: its values at the two arguments are weighed by how far x is from the other
abbrev pub high_value : (j i : Measurement) → Rises j i → ℤ → Rational
high_value j i h x = record { num = most j (i.argument -ℤ x) +ℤ most i (x -ℤ j.argument); den = i.argument -ℤ j.argument; above = omega (arith, ints) }

-- the least
abbrev pub low_value : (j i : Measurement) → Rises j i → ℤ → Rational
low_value j i h x = record { num = least j (i.argument -ℤ x) +ℤ least i (x -ℤ j.argument); den = i.argument -ℤ j.argument; above = omega (arith, ints) }

-- b is the least of the high values of all pairs, and of the upper ends at x
pub record LeastHighValue (s : List Measurement) (x : ℤ) (b : Rational) : Type 0 where
  pub here : (m : Measurement) → Has s m → m.argument ≡ x → b ≼ whole m.upper
  pub pairs : (j i : Measurement) → Has s j → Has s i → (h : Rises j i) → b ≼ high_value j i h x
  pub reached : ((m : Measurement) × Has s m × (m.argument ≡ x) × (whole m.upper ≼ b))
      ⊎ ((j : Measurement) × (i : Measurement) × Has s j × Has s i × (h : Rises j i) × (high_value j i h x ≼ b))

-- b is the greatest of the low values of all pairs, and of the lower ends at x
pub record GreatestLowValue (s : List Measurement) (x : ℤ) (b : Rational) : Type 0 where
  pub here : (m : Measurement) → Has s m → m.argument ≡ x → whole m.lower ≼ b
  pub pairs : (j i : Measurement) → Has s j → Has s i → (h : Rises j i) → low_value j i h x ≼ b
  pub reached : ((m : Measurement) × Has s m × (m.argument ≡ x) × (b ≼ whole m.lower))
      ⊎ ((j : Measurement) × (i : Measurement) × Has s j × Has s i × (h : Rises j i) × (b ≼ low_value j i h x))
