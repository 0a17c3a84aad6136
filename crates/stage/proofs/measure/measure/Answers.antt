use Rattle.std.proofs.Common.{arith, rules}
use Rattle.std.proofs.lemmas.Int.{ints, to_z-of_z}
use Rattle.stage.proofs.Answered.{taken_ends}
use Rattle.stage.proofs.measure.measure.Goals as goal

pub invariant_of-result : goal.invariant_of-result
invariant_of-result g c =
    let r = c.args.reading in let fits = c.ranges.reading in
    let told = taken_ends (g.S.Stage.meaning c.args.stage.now) r c.in_ok-lower.lower c.in_ok-lower.upper (simp to_z-of_z at c.in_ok-lower.ensures) in
    let sound = g.met.S.Stage.sound c.args.stage.now in
    let ordered = sound.ordered r told.0 in let within = sound.within r told.0 in
    search (rules, arith, ints)
