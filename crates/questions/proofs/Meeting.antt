-- Two measurements at one argument that have a value in common.
use Rattle.std.proofs.Common.{◌≡◌, List, [], ◌∷◌, ◌≤ℤ◌, inr}
use Rattle.std.specs.List.{ContainsAt as Has}
use Rattle.refusal.specs.declared.conflict.Conflict.{Conflict as Naming}
use Rattle.lines.specs.Sheet.{Measurement, Conflict}
use Rattle.lines.proofs.Pairs.{two_conflict}
use Rattle.lines.proofs.Parts.{conflict_whole}
use Rattle.places.specs.declared.place.Place.{Place}
use Rattle.places.specs.Held.{held}
use Rattle.questions.specs.Told.{Named}
use Rattle.questions.specs.Naming.{LiesAbove, NamesTwo}
use Rattle.questions.proofs.Serials.{named_two}

abbrev pub Meet : Measurement → Measurement → Type 0
Meet a b = a.argument ≡ b.argument → a.lower ≤ℤ b.upper

-- it meets all that is held
abbrev pub MeetsAll : List Place → Measurement → Type 0
MeetsAll ps x = (y : Measurement) → Has (held ps) y → Meet x y

pub above_conflict : (s : List Measurement) (a b : Measurement) (r : Naming) → Has s a → Has s b → LiesAbove a b → NamesTwo a b r → Conflict s × Named s r
above_conflict s a b r atA at_b (level, above) n =
    let never = (two_conflict a b).1 (level, inr above) in
    (conflict_whole s (a ∷ b ∷ []) (atA, (at_b, tt)) never, named_two s a b r atA at_b never n)
