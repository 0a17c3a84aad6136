use Rattle.std.proofs.Common.{◌≡◌, arith, rules, tests}
use Rattle.std.proofs.lemmas.Grind.{common_steps}
use Rattle.std.proofs.lemmas.Iterator.{YieldsList-from_slice}
use Rattle.std.proofs.lemmas.Iterator.Search.{position_from_yields_List}
use Rattle.places.specs.Search.{has, index}
use Rattle.places.proofs.places.Places.first.Goals as goal

-- `grind` sees what is done with the index that the search found, so that an index that is turned fails by its value
pub returns : goal.returns
returns c =
    let ps = c.args.self.now.all in
    let found : c.position.result ≡ index c.args.status ps =
    position_from_yields_List (has c.args.status) _ _ c.position.result c.position.ensures.ran (YieldsList-from_slice ps cc) (λ x b q k. search (rules, tests)) in
    grind (arith, common_steps)
