-- The bounds of a quantity where all measurements have one argument.
use Rattle.std.specs.Prelude.{◌≡◌, ◌⊎◌, List, ℤ, ◌≤ℤ◌, Some, None, Option}
use Rattle.std.specs.List.{ContainsAt as Has}
use Rattle.lines.specs.Sheet.{Measurement}

-- the best is there, and the number is not over it
abbrev pub NotOver : ℤ → Option ℤ → Type 0
NotOver z None = ⊥
NotOver z (Some v) = z ≤ℤ v

-- if there is a best, it is the lower end of a measurement at the argument
abbrev pub LowerAt : ℤ → List Measurement → Option ℤ → Type 0
LowerAt x s None = Unit {0}
LowerAt x s (Some v) = (m : Measurement) × Has s m × (m.argument ≡ x) × (m.lower ≡ v)

-- the greatest lower end at an argument; none where no measurement has it
pub record GreatestLower (x : ℤ) (s : List Measurement) (r : Option ℤ) : Type 0 where
  pub reached : LowerAt x s r
  pub over : (m : Measurement) → Has s m → m.argument ≡ x → NotOver m.lower r

-- the greater of the best so far and a number
pub record Higher (best : Option ℤ) (v r : ℤ) : Type 0 where
  pub new : v ≤ℤ r
  pub keeps : (z : ℤ) → NotOver z best → z ≤ℤ r
  pub origin : (best ≡ Some r) ⊎ (v ≡ r)
