use Rattle.std.proofs.Common.{◌≡◌, ◌<◌, length}
use Rattle.places.specs.Samples.{measured}
use Rattle.places.proofs.Rows.{Row}
use Rattle.questions.proofs.Meeting.{Meet, MeetsAll}
use Rattle.questions.proofs.apart.apart.Given as goal

-- the pairs so far meet; that there are 64 places is seen once one is read
abbrev pub invariant-loop-a : goal.invariant-loop-a
invariant-loop-a l = Row (MeetsAll l.places.all) l.places.all l.a-index × (0 < l.a-index → length l.places.all ≡ 64)

abbrev pub invariant-loop-b : goal.invariant-loop-b
invariant-loop-b l = Row (Meet (measured l.first)) l.places.all l.b-index
