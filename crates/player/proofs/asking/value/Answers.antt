use Rattle.std.proofs.Common.{Ok, Err}
use Rattle.std.proofs.lemmas.Int.{to_z-of_z}
use Rattle.player.proofs.Making.{told_value}
use Rattle.player.proofs.asking.value.Goals as goal

pub returns-in-Ok : goal.returns-in-Ok
returns-in-Ok g c =
    let fits = c.ranges.argument in
    told_value g.S.Stage.meaning c.args.channel.now c.value-in-Ok.result c.args.argument (Ok (c.in-Ok.least, c.in-Ok.greatest)) (simp to_z-of_z at c.in-Ok.ensures.told) c.value-in-Ok.ensures

pub returns-in-Err : goal.returns-in-Err
returns-in-Err g c =
    let fits = c.ranges.argument in
    told_value g.S.Stage.meaning c.args.channel.now c.refused.result c.args.argument (Err c.in-Err.refusal) (simp to_z-of_z at c.in-Err.ensures.told) c.refused.ensures
