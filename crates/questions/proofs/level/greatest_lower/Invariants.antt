use Rattle.questions.proofs.Lowers.{Lowest}
use Rattle.questions.proofs.level.greatest_lower.Given as goal

abbrev pub invariant-loop-place : goal.invariant-loop-place
invariant-loop-place l = Lowest l.argument.value l.places.all l.place-index l.best
