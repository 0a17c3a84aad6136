use Rattle.std.proofs.Common.{false, ap, arith}
use Rattle.places.specs.Search.{is_open}
use Rattle.places.specs.declared.status.Status.TheVariants.{Open}
use Rattle.register.proofs.Pages.{open_after}
use Rattle.register.proofs.register.Register.abort.Goals as goal

pub invariant_of-self-clause-ended : goal.invariant_of-self-clause-ended
invariant_of-self-clause-ended c = let n = open_after c.args.self.now (Open c.args.serial) _ _ (rw c.in_ok-i.ensures.ok_part at c.first.ensures) false (ap is_open c.release.ensures) in omega arith
