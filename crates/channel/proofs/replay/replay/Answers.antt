use Rattle.std.proofs.Common.{◌≡◌, ◌<◌, min, length, take, pos, subst, refl, arith}
use Rattle.book.specs.declared.call.Call.TheVariants as call
use Rattle.register.specs.Page.{page}
use Rattle.channel.specs.Runs.{Whole}
use Rattle.channel.proofs.Wholes.{ran_none, ran_more, rest_more, whole}
use Rattle.channel.proofs.replay.replay.Goals as goal

pub loop-i-init : goal.loop-i-init
loop-i-init g c = (ran_none _ _ _ _ c.new-channel.ensures.channel, refl)

pub loop-i-preserved : goal.loop-i-preserved
loop-i-preserved g c =
    let calls = c.args.calls.now in let i = c.loop-i.i in
    let lt : i < length calls = omega (arith, c.min-count.ensures, c.loop-i-test.true) in
    let lt' : i < length c.loop-i.answers = omega (arith, c.min-count.ensures, c.loop-i-test.true, c.loop-i.auto.answers) in
    (ran_more _ _ _ calls _ i (call.Open (pos 0)) _ _ _ lt lt' c.loop-i.invariant.0 c.perform.ensures, rest_more c.loop-i.answers _ i _ c.loop-i.invariant.1)

pub returns-clause-run : goal.returns-clause-run
returns-clause-run g c =
    let calls = c.args.calls.now in let i = c.loop-i.i in
    let end : i ≡ min (length calls) (length c.args.answers.now) = omega (arith, c.min-count.ensures, c.loop-i-test.false, c.loop-i.auto.i-end) in
    subst (λ n. Whole (g.S.Stage.meaning c.args.stage) c.args.number (take n calls) (take n c.loop-i.answers) (page c.loop-i.channel.register)) end
    (whole _ _ c.args.stage _ _ c.loop-i.channel c.loop-i.invariant.0)
