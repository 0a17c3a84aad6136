use Rattle.std.proofs.Common.{take}
use Rattle.tape.specs.Program.{WritesPrintout}
use Rattle.tape.proofs.Reading.{of_source, on_ok_more}
use Rattle.tape.proofs.play_through.Goals as goal

pub returns : goal.returns
returns g c =
    on_ok_more c.write_printout.result _ _ (of_source (g.R.Read.remaining c.args.source.now) 4096
    (λ tape. WritesPrintout tape (g.W.Write.contents c.args.sink.now) (g.W.Write.contents c.write_printout.new.sink))
    (take c.in_ok-length.length c.read_tape.new.tape) c.in_ok-length.ensures.bytes) c.write_printout.ensures
