use Rattle.std.proofs.Common.{Ok, subst}
use Rattle.places.specs.Held.{held}
use Rattle.questions.specs.Told.{TellsVerdict}
use Rattle.questions.proofs.Extremes.{bounds_told}
use Rattle.questions.proofs.ask.bounds.Goals as goal

pub returns-in-Some : goal.returns-in-Some
returns-in-Some c =
    let s = held c.args.places.now.all in let e = c.in-Some.pairs in
    let (some, line) = subst (λ v. TellsVerdict s (Ok v)) c.in_default.is c.in_ok-conflict.ensures.tells in
    let (l, h) = c.in-Some.ensures in
    (some, line, bounds_told s line e.least e.greatest c.args.quantity l h)
