-- Which measurements a conflict names.
use Rattle.std.specs.Prelude.{◌≡◌, ◌≤◌, ◌⊎◌, List, [], ◌∷◌, ◌+ℤ◌, ◌-ℤ◌, ◌*ℤ◌, ◌<ℤ◌, Some, None, Option}
use Rattle.std.specs.List.{ContainsAt as Has, AllByRecursion}
use Rattle.refusal.specs.declared.conflict.Conflict.{Conflict as Naming}
use Rattle.lines.specs.Sheet.{Measurement, Consistent, Conflict}
use Rattle.places.specs.declared.sample.Sample.{Sample}
use Rattle.places.specs.Samples.{measured}
use Rattle.pairs.specs.declared.rising.Rising.{Rising}
use Rattle.questions.specs.Told.{Named}

-- two samples by their serials
pub record InOrder (a b x y : Sample) : Type 0 where
  pub order : x.serial ≤ y.serial
  pub same : ((x ≡ a) × (y ≡ b)) ⊎ ((x ≡ b) × (y ≡ a))

-- the same measurements, in whatever order
abbrev pub Same : List Measurement → List Measurement → Type 0
Same s t = AllByRecursion (Has s) t × AllByRecursion (Has t) s

-- these two are named
pub record NamesTwo (a b : Measurement) (r : Naming) : Type 0 where
  pub x : Measurement
  pub y : Measurement
  pub same : Same (x ∷ y ∷ []) (a ∷ b ∷ [])
  pub first : x.serial ≡ r.first
  pub second : y.serial ≡ r.second
  pub order : r.first ≤ r.second
  pub third : r.third ≡ None

-- these three are named
pub record NamesThree (a b c : Measurement) (r : Naming) : Type 0 where
  pub x : Measurement
  pub y : Measurement
  pub z : Measurement
  pub same : Same (x ∷ y ∷ z ∷ []) (a ∷ b ∷ c ∷ [])
  pub first : x.serial ≡ r.first
  pub second : y.serial ≡ r.second
  pub order : (x.serial ≤ y.serial) × (y.serial ≤ z.serial)
  pub third : r.third ≡ Some z.serial

-- at one argument the first lies above the second
abbrev pub LiesAbove : Measurement → Measurement → Type 0
LiesAbove a b = (a.argument ≡ b.argument) × (b.upper <ℤ a.lower)

-- the chord of the lower ends of a and c passes above b
abbrev pub ChordAbove : Measurement → Measurement → Measurement → Type 0
ChordAbove a b c = (b.upper *ℤ (c.argument -ℤ a.argument)) <ℤ (a.lower *ℤ (c.argument -ℤ b.argument) +ℤ c.lower *ℤ (b.argument -ℤ a.argument))

-- the four measurements of two pairs
abbrev pub four : Rising → Rising → List Measurement
four p r = measured p.first ∷ measured p.second ∷ measured r.first ∷ measured r.second ∷ []

-- three of these that conflict are named
pub record Broken (t : List Measurement) (r : Naming) : Type 0 where
  pub a : Measurement
  pub b : Measurement
  pub c : Measurement
  pub among : AllByRecursion (Has t) (a ∷ b ∷ c ∷ [])
  pub conflict : Conflict (a ∷ b ∷ c ∷ [])
  pub names : NamesThree a b c r

-- a conflict, if there is one
abbrev pub Found : List Measurement → Option Naming → Type 0
Found s None = Consistent s
Found s (Some c) = Conflict s × Named s c
