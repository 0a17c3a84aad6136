use Rattle.std.proofs.Common.{◌+◌, true, refl, arith}
use Rattle.places.specs.declared.place.Place.TheVariants.{Open}
use Rattle.places.specs.declared.status.Status.TheVariants.{Free}
use Rattle.register.proofs.Pages.{open_after}
use Rattle.register.proofs.register.Register.open.Goals as goal

pub invariant_of-self-clause-ended : goal.invariant_of-self-clause-ended
invariant_of-self-clause-ended c = let n = open_after c.args.self.now Free _ (Open (c.args.self.now.last + 1) c.args.argument) (rw c.in_ok-i.ensures.ok_part at c.first.ensures) true refl in omega arith
