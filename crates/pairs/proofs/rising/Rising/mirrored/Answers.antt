use Rattle.std.proofs.Common.{ap, arith}
use Rattle.std.proofs.lemmas.Int.{ints}
use Rattle.lines.specs.Sheet.{Measurement}
use Rattle.pairs.proofs.rising.Rising.mirrored.Goals as goal

pub invariant_of-result : goal.invariant_of-result
invariant_of-result c =
    record { rises = omega (arith, ints, ap (λ (m : Measurement). m.argument) c.mirrored.ensures, ap (λ (m : Measurement). m.argument) c.mirrored-2.ensures, c.args.self.rises) }
