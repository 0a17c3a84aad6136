use Rattle.std.proofs.Common.{◌≡◌, refl, rules}
use Rattle.book.specs.Rows.{answered}
use Rattle.places.specs.Held.{held}
use Rattle.questions.specs.Told.{TellsValue}
use Rattle.channel.specs.Told as told
use Rattle.channel.proofs.replay.perform.Goals as goal

pub returns-in-Value : goal.returns-in-Value
returns-in-Value g c =
    let tells : TellsValue (held c.args.channel.now.register.places.all) c.in-Value.argument c.value.result = search rules in
    let noted : c.map-in-Value.result ≡ answered told.valued c.value.result = search rules in
    rw c.in-Value.is (record { stands = refl; told = (c.value.result, noted, tells) })
