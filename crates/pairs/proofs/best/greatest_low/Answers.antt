use Rattle.std.proofs.Common.{◌≡◌, length, rules}
use Rattle.pairs.proofs.Passes.{finish, skip_row, end_row, skip, step}
use Rattle.pairs.proofs.best.greatest_low.Goals as goal

pub loop-a-preserved-in_default : goal.loop-a-preserved-in_default
loop-a-preserved-in_default c =
    let long : length c.args.places.now.all ≡ 64 = search rules in
    skip_row _ _ _ _ long c.loop-a-test.true _ c.loop-a.invariant c.in_default.ensures

pub loop-b-preserved-in_default-sample : goal.loop-b-preserved-in_default-sample
loop-b-preserved-in_default-sample c =
    let long : length c.args.places.now.all ≡ 64 = search rules in
    skip _ _ _ _ long c.loop-a-test.true _ c.loop-a.invariant _ c.in-Some.ensures _ _ c.loop-b.invariant c.loop-b-test.true _ c.in_default-sample.ensures

pub loop-b-preserved : goal.loop-b-preserved
loop-b-preserved c =
    let long : length c.args.places.now.all ≡ 64 = search rules in
    step _ _ _ _ long c.loop-a-test.true _ c.loop-a.invariant _ c.in-Some.ensures _ _ c.loop-b.invariant c.loop-b-test.true _ _ _ c.in-Some-sample.ensures c.with_pair-best.ensures

pub loop-a-preserved : goal.loop-a-preserved
loop-a-preserved c =
    let long : length c.args.places.now.all ≡ 64 = search rules in
    end_row _ _ _ _ long c.loop-a-test.true _ c.loop-a.invariant _ c.in-Some.ensures _ _ c.loop-b-test.false c.loop-b.invariant

pub returns : goal.returns
returns c = finish _ _ _ _ c.loop-a-test.false c.loop-a.invariant
