use Rattle.std.proofs.Common.{arith}
use Rattle.std.proofs.lemmas.List.{set-get_or}
use Rattle.places.proofs.Turned.{each_turned}
use Rattle.places.proofs.places.Places.mirrored.Goals as goal

-- `grind` sees what is written after the loop, so that a place that is turned there fails by its value
pub returns : goal.returns
returns c =
    let (long, done, rest) = c.loop-place.invariant in
    let turned = each_turned c.args.self.now.all c.loop-place.place-items long (λ i lt d. done i (omega (arith, long, c.loop-place-test.false)) d) in
    grind (arith, set-get_or)
