-- Which measurements the places hold.
use Rattle.std.specs.Prelude.{List, [], ◌∷◌}
use Rattle.lines.specs.Sheet.{Measurement}
use Rattle.places.specs.declared.place.Place.{Place}
use Rattle.places.specs.declared.place.Place.TheVariants.{Free, Open, Held}

-- the measurements of the held places, in the order of the places
abbrev pub held : List Place → List Measurement
held [] = []
held (Free ∷ ps) = held ps
held (Open serial argument ∷ ps) = held ps
held (Held serial argument reading set ∷ ps) =
    record { serial = serial; argument = argument.value; lower = set.lower; upper = set.upper; ordered = set.ordered } ∷ held ps
