-- What the questions tell of a sheet. Two answers are free: which conflict is named, bound by `Named`, and how a fraction is
-- written, bound by its quantity.
use Rattle.std.specs.Prelude.{◌≡◌, ℕ, ◌<◌, ◌≤◌, ◌⊎◌, List, [], ◌∷◌, ℤ, Some, None, Ok, Err, Option, Result}
use Rattle.std.specs.List.{ContainsAt as Has}
use Rattle.rational.specs.Rational.{Rational}
use Rattle.rational.specs.Line.{Line, slope, value_at}
use Rattle.exact.specs.Limits.{NoArgument}
use Rattle.exact.specs.Quantity.{quantity}
use Rattle.exact.specs.declared.fraction.Fraction.{Fraction}
use Rattle.refusal.specs.declared.conflict.Conflict.{Conflict as Naming}
use Rattle.refusal.specs.declared.refusal.Refusal.{Refusal}
use Rattle.refusal.specs.declared.refusal.Refusal.TheVariants as refusal
use Rattle.lines.specs.Sheet.{Measurement, Consistent, Conflict, Greatest, Least, OneArgument}
use Rattle.lines.specs.Serials.{DistinctSerials}
use Rattle.questions.specs.declared.verdict.Verdict.{Verdict}
use Rattle.questions.specs.declared.verdict.Verdict.TheVariants as verdict

-- something is held
abbrev pub SomeHeld : List Measurement → Type 0
SomeHeld s = (m : Measurement) × Has s m

-- two held measurements that no line meets, by their serials in rising order
pub record TwoNamed (s : List Measurement) (i j : ℕ) : Type 0 where
  pub a : Measurement
  pub b : Measurement
  pub a_held : Has s a
  pub b_held : Has s b
  pub a_serial : a.serial ≡ i
  pub b_serial : b.serial ≡ j
  pub order : i ≤ j
  pub distinct : DistinctSerials s → i < j
  pub conflict : Conflict (a ∷ b ∷ [])

-- three held measurements that no line meets, where no two that are held conflict
pub record ThreeNamed (s : List Measurement) (i j k : ℕ) : Type 0 where
  pub a : Measurement
  pub b : Measurement
  pub c : Measurement
  pub a_held : Has s a
  pub b_held : Has s b
  pub c_held : Has s c
  pub a_serial : a.serial ≡ i
  pub b_serial : b.serial ≡ j
  pub c_serial : c.serial ≡ k
  pub order : (i ≤ j) × (j ≤ k)
  pub distinct : DistinctSerials s → (i < j) × (j < k)
  pub conflict : Conflict (a ∷ b ∷ c ∷ [])
  pub no_two : (x y : Measurement) → Has s x → Has s y → Consistent (x ∷ y ∷ [])

abbrev pub NamedBy : List Measurement → ℕ → ℕ → Option ℕ → Type 0
NamedBy s i j None = TwoNamed s i j
NamedBy s i j (Some k) = ThreeNamed s i j k

-- what binds the naming of a conflict
abbrev pub Named : List Measurement → Naming → Type 0
Named s c = NamedBy s c.first c.second c.third

-- the verdict: "line" exactly if an admissible line exists
abbrev pub TellsVerdict : List Measurement → Result Verdict Refusal → Type 0
TellsVerdict s (Ok verdict.Line) = SomeHeld s × Consistent s
TellsVerdict s (Ok (verdict.Conflict c)) = Conflict s × Named s c
TellsVerdict s (Err e) = (s ≡ []) × (e ≡ refusal.NothingHeld)

-- the least and the greatest of a quantity over the admissible lines, over denominators of at most 20,000
pub record Bounds (f : Line → Rational) (s : List Measurement) (low high : Fraction) : Type 0 where
  pub least : Least f s (quantity low)
  pub greatest : Greatest f s (quantity high)
  pub low_denominator : low.denominator ≤ 20000
  pub high_denominator : high.denominator ≤ 20000

-- neither a least nor a greatest exists
abbrev pub Unbounded : (Line → Rational) → List Measurement → Type 0
Unbounded f s = (b : Rational) → (Least f s b → ⊥) × (Greatest f s b → ⊥)

-- why no bounds are told: nothing is held; a conflict; or all that is held has one argument, so that there are no bounds
abbrev pub NoBounds : (Line → Rational) → List Measurement → Refusal → Type 0
NoBounds f s e =
    ((s ≡ []) × (e ≡ refusal.NothingHeld))
    ⊎ (((c : Naming) × Conflict s × Named s c × (e ≡ refusal.NoAdmissibleLine c))
    ⊎ (SomeHeld s × Consistent s × OneArgument s × Unbounded f s × (e ≡ refusal.OneArgument)))

abbrev pub TellsBounds : (Line → Rational) → List Measurement → Result (Fraction × Fraction) Refusal → Type 0
TellsBounds f s (Ok p) = SomeHeld s × Consistent s × Bounds f s p.0 p.1
TellsBounds f s (Err e) = NoBounds f s e

abbrev pub TellsSlope : List Measurement → Result (Fraction × Fraction) Refusal → Type 0
TellsSlope s r = TellsBounds slope s r

-- the value at an argument, which is looked at first
abbrev pub TellsValue : List Measurement → ℤ → Result (Fraction × Fraction) Refusal → Type 0
TellsValue s x r = (NoArgument x × (r ≡ Err refusal.ArgumentOutOfLimits)) ⊎ ((NoArgument x → ⊥) × TellsBounds (λ l. value_at l x) s r)

-- a conflict can always be shown by two or three: if every two and every three measurements are met by some line, one line meets all
abbrev pub TwoAndThree : Type 0
TwoAndThree = (s : List Measurement)
    → ((a b : Measurement) → Has s a → Has s b → Consistent (a ∷ b ∷ []))
    → ((a b c : Measurement) → Has s a → Has s b → Has s c → Consistent (a ∷ b ∷ c ∷ []))
    → Consistent s
