use Rattle.std.proofs.Common.{◌≡◌, take, drop}
use Rattle.channel.proofs.Wholes.{Ran}
use Rattle.channel.proofs.replay.replay.Given as goal

abbrev pub invariant-loop-i : goal.invariant-loop-i
invariant-loop-i g l =
    Ran g.S.Stage.meaning l.number l.fn.stage (take l.i l.calls) (take l.i l.answers) l.channel
    × (drop l.i l.answers ≡ drop l.i l.initial.answers)
