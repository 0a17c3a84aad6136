use Rattle.places.specs.Held.{held}
use Rattle.lines.proofs.Consistency.{consistent_flat}
use Rattle.questions.proofs.Slopes.{slopes_line, slopes_named}
use Rattle.questions.proofs.conflicts.any_conflict.Goals as goal

pub returns-in_err-slopes : goal.returns-in_err-slopes
returns-in_err-slopes c = rw c.from_residual.ensures (consistent_flat (held c.args.places.now.all) c.in_default.ensures c.in_err-slopes.ensures)

pub returns-then-le : goal.returns-then-le
returns-then-le c =
    let e = c.in_ok-slopes.slopes in let (l, h) = c.in_ok-slopes.ensures in
    slopes_line (held c.args.places.now.all) e.least e.greatest l h c.in_default.ensures c.if-le.ensures

pub returns : goal.returns
returns c =
    let e = c.in_ok-slopes.slopes in let (l, h) = c.in_ok-slopes.ensures in
    slopes_named (held c.args.places.now.all) e.least e.greatest l h c.in_default.ensures c.broken.result
    c.if-le.ensures c.broken.ensures
