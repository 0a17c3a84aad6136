-- A register as a page of the bench book.
use Rattle.std.specs.Prelude.{map}
use Rattle.book.specs.Book.{Book, Spot, Free, Open, Held}
use Rattle.places.specs.declared.place.Place.{Place}
use Rattle.places.specs.declared.place.Place.TheVariants as place
use Rattle.register.specs.declared.register.Register.{Register}

-- what stands at a place
abbrev pub spot : Place → Spot
spot place.Free = Free
spot (place.Open s x) = Open s x.value
spot (place.Held s x r u) = Held s x.value r u.lower u.upper

abbrev pub page : Register → Book
page r = record { spots = map spot r.places.all; last = r.last; counts = r.counts }
