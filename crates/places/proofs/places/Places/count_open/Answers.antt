use Rattle.std.proofs.Common.{◌≡◌, ◌<◌, length, count_by, ap, ◌∙◌, arith, rules}
use Rattle.std.proofs.lemmas.List.{take_all}
use Rattle.places.specs.Search.{is_open}
use Rattle.places.proofs.Counted.{not_open, one_more, as_many}
use Rattle.places.proofs.places.Places.count_open.Goals as goal
use Rattle.places.proofs.places.Places.count_open.Goals.{in-Open, in_default}

pub loop-place-preserved : goal.loop-place-preserved
loop-place-preserved c =
    let ps = c.args.self.now.all in
    let long : length ps ≡ 64 = search rules in
    let inv = c.loop-place.invariant in
    let lt : c.loop-place.place-index < length ps = omega arith in
    elim c.match-place.branch [
      | in-Open w ↦ let e = one_more is_open ps c.loop-place.place-index c.loop-place.count c.match-place.count _ lt inv.0 inv.1 (ap is_open w.in-Open.is) w.count-is in (e.0, e.1, λ more. long)
      | in_default w ↦ let e = as_many is_open ps c.loop-place.place-index c.loop-place.count c.match-place.count _ lt inv.0 inv.1 (not_open _ w.in_default.not-Open) w.count-is in (e.0, e.1, λ more. long)
    ]

pub returns : goal.returns
returns c =
    let i = c.loop-place.invariant in
    i.0 ∙ ap (count_by is_open) (take_all c.loop-place.place-index c.args.self.now.all (omega (arith, i.2 (omega arith))))
