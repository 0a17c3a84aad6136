-- Places by their status.
use Rattle.std.specs.Prelude.{ℕ, Bool, true, false, List, ℤ, Option, ◌==◌, position}
use Rattle.exact.specs.declared.set.UncertaintySet.{UncertaintySet}
use Rattle.places.specs.declared.place.Place.{Place}
use Rattle.places.specs.declared.place.Place.TheVariants.{Free, Open, Held}
use Rattle.places.specs.declared.status.Status.{Status}
use Rattle.places.specs.declared.status.Status.TheVariants as status

abbrev pub is_free : Place → Bool
is_free Free = true
is_free (Open s x) = false
is_free (Held s x r u) = false

abbrev pub is_open : Place → Bool
is_open Free = false
is_open (Open s x) = true
is_open (Held s x r u) = false

abbrev pub is_held : Place → Bool
is_held Free = false
is_held (Open s x) = false
is_held (Held s x r u) = true

abbrev pub open_as : ℕ → Place → Bool
open_as t Free = false
open_as t (Open s x) = s == t
open_as t (Held s x r u) = false

abbrev pub held_as : ℕ → Place → Bool
held_as t Free = false
held_as t (Open s x) = false
held_as t (Held s x r u) = s == t

-- whether a place has a status
abbrev pub has : Status → Place → Bool
has status.Free p = is_free p
has (status.Open t) p = open_as t p
has (status.Held t) p = held_as t p

-- the index of the first place of a status, where there is one
abbrev pub index : Status → List Place → Option ℕ
index w ps = position (has w) ps

-- an open place with a reading and its set; any other stays
abbrev pub held_with : ℤ → UncertaintySet → Place → Place
held_with r u Free = Free
held_with r u (Open s x) = Held s x r u
held_with r u (Held s x r' u') = Held s x r' u'
