use Rattle.pairs.proofs.Passes.{Sofar, Within}
use Rattle.pairs.proofs.best.greatest_low.Given as goal

abbrev pub invariant-loop-a : goal.invariant-loop-a
invariant-loop-a l = Sofar l.quantity l.places.all l.a-index l.best

abbrev pub invariant-loop-b : goal.invariant-loop-b
invariant-loop-b l = Within l.quantity l.places.all l.initial.best l.first l.b-index l.best
