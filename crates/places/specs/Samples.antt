-- What single places hold.
use Rattle.std.specs.Prelude.{List, [], ◌∷◌, Some, None, Option}
use Rattle.lines.specs.Sheet.{Measurement}
use Rattle.places.specs.declared.place.Place.{Place}
use Rattle.places.specs.declared.place.Place.TheVariants.{Free, Open, Held}
use Rattle.places.specs.declared.sample.Sample.{Sample}

-- the measurement that a sample is
abbrev pub measured : Sample → Measurement
measured a = record { serial = a.serial; argument = a.argument.value; lower = a.set.lower; upper = a.set.upper; ordered = a.set.ordered }

-- the sample in a place
abbrev pub sampled : Place → Option Sample
sampled Free = None
sampled (Open serial argument) = None
sampled (Held serial argument reading set) = Some (record { serial = serial; argument = argument; set = set })

-- the measurements that it adds
abbrev pub adds : Option Sample → List Measurement
adds None = []
adds (Some a) = measured a ∷ []
