use Rattle.std.proofs.Common.{false, get_or, ap, ◌∙◌, arith, w32}
use Rattle.std.proofs.lemmas.Int.{to_z-of_z}
use Rattle.places.specs.Search.{is_open, held_with}
use Rattle.places.specs.declared.status.Status.TheVariants.{Open}
use Rattle.register.proofs.Pages.{files_page, files_ends, open_after, held_shut}
use Rattle.register.proofs.register.Register.file.Goals as goal

pub invariant_of-self-clause-ended : goal.invariant_of-self-clause-ended
invariant_of-self-clause-ended g c = let n = open_after c.args.self.now (Open c.args.serial) _ _ (rw c.in_ok-i.ensures.ok_part at c.first.ensures) false (ap is_open c.hold.ensures ∙ held_shut _ _ _) in omega arith

pub invariant_of-self-in-Err-clause-ended : goal.invariant_of-self-in-Err-clause-ended
invariant_of-self-in-Err-clause-ended g c = let n = open_after c.args.self.now (Open c.args.serial) _ _ (rw c.in_ok-i.ensures.ok_part at c.first.ensures) false (ap is_open c.release.ensures) in omega arith

pub returns-in-Ok-clause-page : goal.returns-in-Ok-clause-page
returns-in-Ok-clause-page g c =
    let fits = c.ranges.reading in
    let told = simp to_z-of_z at c.in-Ok.ensures in
    let held = c.hold.ensures ∙ ap (λ z. held_with z c.in-Ok.set (get_or c.args.self.now.places.all c.in_ok-i.i c.index-self-i.result)) (to_z-of_z w32 c.args.reading fits) in
    files_page c.args.self.now _ (g.S.Stage.meaning c.args.stage.now) c.args.serial c.args.reading c.in-Ok.set _ _ (rw c.in_ok-i.ensures.ok_part at c.first.ensures) held told

pub returns-in-Ok-clause-told : goal.returns-in-Ok-clause-told
returns-in-Ok-clause-told g c =
    let fits = c.ranges.reading in
    let told = simp to_z-of_z at c.in-Ok.ensures in
    files_ends c.args.self.now _ (g.S.Stage.meaning c.args.stage.now) c.args.serial c.args.reading c.in-Ok.set (rw c.in_ok-i.ensures.ok_part at c.first.ensures) told
