use Rattle.std.proofs.Common.{[], ◌∷◌, None, sym, subst, rules}
use Rattle.book.specs.declared.call.Call.TheVariants as call
use Rattle.frames.specs.Tape.{frame}
use Rattle.frames.specs.Answers.{meaning as says}
use Rattle.printout.specs.Text.{text}
use Rattle.player.specs.Steps.{player, Made, Deals, idle}
use Rattle.player.proofs.Frames.{stops}
use Rattle.player.proofs.Reaching.{both, deals, read, abandoned, closed}
use Rattle.player.proofs.turn.turn.Goals as goal

pub returns-in_default-clause-run : goal.returns-in_default-clause-run
returns-in_default-clause-run g c =
    let asked = c.ask-pending in
    let now = c.args.channel.now in
    subst (λ o. Deals g.S.Stage.meaning (player now o) (says c.args.frame) (player asked.new.channel asked.result.0) (text asked.result.1)) (sym c.in_default.is)
    (deals g.S.Stage.meaning now asked.new.channel asked.result.0 asked.result.1 (says c.args.frame) asked.ensures.asked)

pub returns-in-Reading-clause-run : goal.returns-in-Reading-clause-run
returns-in-Reading-clause-run g c =
    let x = c.in-Reading.reading in
    let p = c.in-Some.point in
    let now = c.args.channel.now in
    let made : Made g.S.Stage.meaning now (call.File p.number p.serial x) [] c.file.new.channel None c.file.result = search rules in
    subst (λ f. Deals g.S.Stage.meaning (player now c.args.pending) (says f) (idle c.file.new.channel) (text c.file.result)) (sym c.in-Reading.is)
    (read g.S.Stage.meaning (player now c.args.pending) p c.in-Some.is c.file.new.channel c.file.result x made)

pub returns-in-Abort-clause-run : goal.returns-in-Abort-clause-run
returns-in-Abort-clause-run g c =
    let now = player c.args.channel.now c.args.pending in
    subst (λ f. Deals g.S.Stage.meaning now (says f) (idle c.abort.new.channel) (text c.abort.result)) (sym c.in-Abort.is)
    (abandoned g.S.Stage.meaning now c.in-Some.point c.in-Some.is c.abort.new.channel c.abort.result c.in-Abort.reason.now c.abort.ensures)

-- the open point is aborted, and then no point is open
pub returns-in_default-frame-clause-run : goal.returns-in_default-frame-clause-run
returns-in_default-frame-clause-run g c =
    let now = player c.args.channel.now c.args.pending in
    let between = c.interrupt-aborted.new.channel in
    let asked = c.ask-pending-in_default-frame in
    let m = says c.args.frame in
    λ ss k.
    both g.S.Stage.meaning now (idle between) (player asked.new.channel asked.result.0) (frame m k ∷ ss) (frame m k ∷ ss) ss (text c.interrupt-aborted.result) (text asked.result.1)
    (closed g.S.Stage.meaning now c.in-Some.point c.in-Some.is between c.interrupt-aborted.result c.interrupt-aborted.ensures (frame m k) ss
    (stops c.args.frame c.in_default-frame.not-Reading c.in_default-frame.not-Abort k))
    (deals g.S.Stage.meaning between asked.new.channel asked.result.0 asked.result.1 m asked.ensures.asked ss k)
