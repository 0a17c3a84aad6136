use Rattle.pairs.proofs.Looking.{picked}
use Rattle.pairs.proofs.best.with_pair.Goals as goal

pub returns : goal.returns
returns c =
    let made = c.in-Some.ensures in
    picked c.args.quantity c.args.first c.args.second (record { pair = c.in-Some.pair; bound = c.low-bound.result }) made.0 made.1 c.low-bound.ensures
    c.args.best c.greater.result c.greater.ensures.value c.greater.ensures.first c.greater.ensures.second
