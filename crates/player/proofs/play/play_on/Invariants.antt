use Rattle.std.proofs.Common.{length}
use Rattle.player.specs.Steps.{player}
use Rattle.player.proofs.Playing.{Playing}
use Rattle.player.proofs.play.play_on.Given as goal

abbrev pub invariant-loop-frame : goal.invariant-loop-frame
invariant-loop-frame g l = Playing g.S.Stage.meaning (g.S.Stage.meaning l.fn.stage) l.fn.number l.fn.tape l.initial.out (player l.channel l.pending) l.reader.left.now l.at l.out

abbrev pub decreases-loop-frame : goal.decreases-loop-frame
decreases-loop-frame g l = length l.reader.left.now
