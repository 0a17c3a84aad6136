use Rattle.questions.proofs.Serials.{names_three}
use Rattle.questions.proofs.naming.three.Goals as goal

pub returns : goal.returns
returns c = names_three c.args.a c.args.b c.args.c _ _ _ _ _ _ c.in_order.ensures c.in_order-2.ensures c.in_order-3.ensures
