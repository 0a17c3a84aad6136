use Rattle.std.proofs.Common.{[], ◌∷◌, refl, ap}
use Rattle.places.specs.declared.sample.Sample.{Sample}
use Rattle.places.proofs.Turned.{turned_sample}
use Rattle.places.proofs.place.Place.mirrored.Goals as goal

pub returns-in-Held : goal.returns-in-Held
returns-in-Held c =
    let a : Sample = record { serial = c.in-Held.serial; argument = c.in-Held.argument; set = c.in-Held.set } in
    let b : Sample = record { serial = c.in-Held.serial; argument = c.in-Held.argument; set = c.mirrored.result } in
    rw c.in-Held.is (ap (λ m. m ∷ []) (turned_sample a b refl refl c.mirrored.ensures))
