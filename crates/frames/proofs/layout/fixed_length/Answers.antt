use Rattle.std.proofs.Common.{◌/◌, ◌%◌, ◌<◌, sym, ap, ◌∙◌, arith, rules}
use Rattle.frames.specs.Tape.{fixed_length}
use Rattle.frames.proofs.Lengths.{of_code, length_of_kind}
use Rattle.frames.proofs.layout.fixed_length.Goals as goal

pub returns-then-kind-eq-QUESTION : goal.returns-then-kind-eq-QUESTION
returns-then-kind-eq-QUESTION c =
    let head = c.args.head in
    of_code (head % 16) (omega arith) ∙ ap (λ k. fixed_length k (head % 16)) (sym c.if-kind-eq-QUESTION.true)

pub returns-else-kind-eq-QUESTION : goal.returns-else-kind-eq-QUESTION
returns-else-kind-eq-QUESTION c =
    let head = c.args.head in
    let fits : head < 256 = search rules in
    length_of_kind (head % 16) (head / 16) (omega arith) c.if-kind-eq-QUESTION.false
