-- Which straight lines are possible for a sheet of measurements.
use Rattle.std.specs.Prelude.{◌≡◌, ℕ, List, [], ◌∷◌, ℤ, ◌≤ℤ◌}
use Rattle.std.specs.List.{ContainsAt as Has}
use Rattle.rational.specs.Rational.{Rational, ◌≼◌, ◌≈◌, whole}
use Rattle.rational.specs.Line.{Line, value_at}

-- a measurement: its serial, its exact argument, and the set in which its value lies, both ends included
pub record Measurement : Type 0 where
  pub serial : ℕ
  pub argument : ℤ
  pub lower : ℤ
  pub upper : ℤ
  pub ordered : lower ≤ℤ upper

-- a line meets a measurement when its value at the argument lies within the set
abbrev pub Meets : Line → Measurement → Type 0
Meets l m = (whole m.lower ≼ value_at l m.argument) × (value_at l m.argument ≼ whole m.upper)

-- it is admissible when it meets each measurement of the sheet
abbrev pub Admissible : List Measurement → Line → Type 0
Admissible s l = (m : Measurement) → Has s m → Meets l m

-- some line meets them all
abbrev pub Consistent : List Measurement → Type 0
Consistent s = (l : Line) × Admissible s l

-- no line meets them all
abbrev pub Conflict : List Measurement → Type 0
Conflict s = Consistent s → ⊥

-- the greatest of a quantity over the admissible lines: one of them has it, and none passes it
abbrev pub Greatest : (Line → Rational) → List Measurement → Rational → Type 0
Greatest f s b = ((l : Line) × Admissible s l × (f l ≈ b)) × ((l : Line) → Admissible s l → f l ≼ b)

abbrev pub Least : (Line → Rational) → List Measurement → Rational → Type 0
Least f s b = ((l : Line) × Admissible s l × (f l ≈ b)) × ((l : Line) → Admissible s l → b ≼ f l)

-- all measurements have one argument
abbrev pub OneArgument : List Measurement → Type 0
OneArgument s = (a b : Measurement) → Has s a → Has s b → a.argument ≡ b.argument
