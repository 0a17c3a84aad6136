use Rattle.std.proofs.Common.{◌≡◌, length, Some, None, arith, rules}
use Rattle.places.specs.Held.{held}
use Rattle.places.specs.Samples.{measured}
use Rattle.places.proofs.Rows.{row_more, row_all, has_here}
use Rattle.questions.proofs.Meeting.{Meet, MeetsAll, above_conflict}
use Rattle.questions.proofs.apart.apart.Goals as goal

pub loop-a-preserved-in_default : goal.loop-a-preserved-in_default
loop-a-preserved-in_default c =
    let ps = c.args.places.now.all in let long : length ps ≡ 64 = search rules in
    (row_more (MeetsAll ps) ps c.loop-a.a-index _ None (omega (arith, c.loop-a-test.true)) c.in_default.ensures tt c.loop-a.invariant.0, λ more. long)

pub loop-b-preserved-in_default-sample : goal.loop-b-preserved-in_default-sample
loop-b-preserved-in_default-sample c =
    let ps = c.args.places.now.all in let long : length ps ≡ 64 = search rules in
    row_more (Meet (measured c.in-Some.first)) ps c.loop-b.b-index _ None (omega (arith, c.loop-b-test.true)) c.in_default-sample.ensures tt c.loop-b.invariant

pub loop-b-preserved : goal.loop-b-preserved
loop-b-preserved c =
    let ps = c.args.places.now.all in let long : length ps ≡ 64 = search rules in
    row_more (Meet (measured c.in-Some.first)) ps c.loop-b.b-index _ (Some c.in-Some-sample.second) (omega (arith, c.loop-b-test.true)) c.in-Some-sample.ensures c.if-lies_above.ensures c.loop-b.invariant

pub loop-a-preserved : goal.loop-a-preserved
loop-a-preserved c =
    let ps = c.args.places.now.all in let long : length ps ≡ 64 = search rules in let a = c.in-Some.first in (
      row_more (MeetsAll ps) ps c.loop-a.a-index _ (Some a) (omega (arith, c.loop-a-test.true)) c.in-Some.ensures
          (row_all (Meet (measured a)) ps c.loop-b.b-index (omega (arith, c.loop-b-test.false)) c.loop-b.invariant) c.loop-a.invariant.0,
      λ more. long,
    )

pub returns-then-lies_above : goal.returns-then-lies_above
returns-then-lies_above c =
    let ps = c.args.places.now.all in let long : length ps ≡ 64 = search rules in
    above_conflict (held ps) _ _ c.two.result
    (has_here ps c.loop-a.a-index _ c.in-Some.first (omega (arith, c.loop-a-test.true)) c.in-Some.ensures)
    (has_here ps c.loop-b.b-index _ c.in-Some-sample.second (omega (arith, c.loop-b-test.true)) c.in-Some-sample.ensures)
    c.if-lies_above.ensures c.two.ensures

pub returns : goal.returns
returns c =
    let ps = c.args.places.now.all in let (rows, seen) = c.loop-a.invariant in
    let long : length ps ≡ 64 = seen (omega (arith, c.loop-a-test.false)) in
    λ a b atA. row_all (MeetsAll ps) ps c.loop-a.a-index (omega (arith, c.loop-a-test.false)) rows a atA b
