use Rattle.std.proofs.Common.{arith, length-take}
use Rattle.tape.proofs.play_with_room.Goals as goal

pub unreachable-requires : goal.unreachable-requires
unreachable-requires c = omega (arith, c.requires, c.in-Err.ensures.0, length-take 4096 c.args.tape.now)
