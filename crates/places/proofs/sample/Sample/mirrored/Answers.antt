use Rattle.std.proofs.Common.{refl}
use Rattle.places.proofs.Turned.{turned_sample}
use Rattle.places.proofs.sample.Sample.mirrored.Goals as goal

pub returns : goal.returns
returns c = turned_sample c.args.self (record { serial = c.args.self.serial; argument = c.args.self.argument; set = c.mirrored.result }) refl refl c.mirrored.ensures
