use Rattle.player.specs.Steps.{player}
use Rattle.player.proofs.Reaching.{closed}
use Rattle.player.proofs.turn.close.Goals as goal

pub returns-clause-run : goal.returns-clause-run
returns-clause-run g c = closed g.S.Stage.meaning (player c.args.channel.now c.args.pending) c.in_ok-point.point c.in_ok-point.was c.interrupt.new.channel c.interrupt.result c.interrupt.ensures
