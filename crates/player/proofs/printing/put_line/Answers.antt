use Rattle.std.proofs.Common.{sym, ◌∙◌}
use Rattle.player.proofs.Putting.{put}
use Rattle.player.proofs.printing.put_line.Goals as goal

pub returns-clause-prints : goal.returns-clause-prints
returns-clause-prints c = put c.args.line.now c.args.out.now c.print.new.buffer c.args.at c.unwrap.result c.requires.0 c.requires.1 (sym c.unwrap.ensures ∙ c.print.ensures.answer) c.print.ensures.bytes
