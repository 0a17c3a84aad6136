use Rattle.std.proofs.Common.{◌≡◌, ◌+◌, ◌++◌, length, map}
use Rattle.printout.specs.Words.{shown}
use Rattle.printout.proofs.wording.Text.remark.Given as goal

-- what is left of the reason stands before the text in the end
abbrev pub invariant-loop-left : goal.invariant-loop-left
invariant-loop-left l =
    (map shown l.left ++ l.self ≡ map shown l.reason ++ l.initial.self) × (length l.left + length l.self ≡ length l.reason + length l.initial.self)

abbrev pub decreases-loop-left : goal.decreases-loop-left
decreases-loop-left l = length l.left
