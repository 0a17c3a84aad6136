use Rattle.std.proofs.Common.{refl}
use Rattle.std.proofs.lemmas.Int.{to_z-of_z}
use Rattle.band.specs.Positions.{some_rows}
use Rattle.band.proofs.band.Band.set.Goals as goal

pub returns-in-Some : goal.returns-in-Some
returns-in-Some c = let fits = c.ranges.last in (simp to_z-of_z at c.in-Some.ensures, refl)

pub padded-requires : goal.padded-requires
padded-requires c = (some_rows _ _ c.in_default.ensures).1

pub invariant_of-self-clause-sound : goal.invariant_of-self-clause-sound
invariant_of-self-clause-sound c = rw c.padded.ensures c.in_default.ensures
