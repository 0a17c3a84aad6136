use Rattle.std.proofs.Common.{◌≡◌, ◌-◌, ◌≤◌, length, take}
use Rattle.std.specs.Io.KnownBytes.{Consumes}
use Rattle.tape.proofs.read_tape.Given as goal

-- what was read stands at the front of the tape
abbrev pub invariant-loop-length : goal.invariant-loop-length
invariant-loop-length g l =
    (l.length ≤ 4096) × (length l.tape ≡ 4096) × Consumes (g.R.Read.remaining l.fn.source) (g.R.Read.remaining l.source) (take l.length l.tape)

abbrev pub decreases-loop-length : goal.decreases-loop-length
decreases-loop-length g l = 4096 - l.length
