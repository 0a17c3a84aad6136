use Rattle.std.proofs.Common.{◌≡◌, ◌∙◌, subst, inr, ⊎_elim, arith, w32}
use Rattle.std.proofs.lemmas.Int.{ints, to_z-of_z}
use Rattle.rational.specs.Line.{value_at}
use Rattle.exact.specs.Limits.{NoArgument}
use Rattle.exact.specs.declared.argument.Argument.{Argument}
use Rattle.places.specs.Held.{held}
use Rattle.questions.specs.Told.{TellsBounds}
use Rattle.questions.proofs.ask.value.Goals as goal

in_limits : (a : Argument) → NoArgument a.value → ⊥
in_limits a = ⊎_elim (λ below. omega (arith, ints, a.low)) (λ above. omega (arith, ints, a.high))

pub returns : goal.returns
returns c =
    let s = held c.args.places.now.all in let a = c.in_ok-argument.argument in
    let same : a.value ≡ c.args.argument = (rw c.in_ok-argument.ensures.ok_part at c.new.ensures) ∙ to_z-of_z w32 _ c.ranges.argument in
    inr (subst (λ x. NoArgument x → ⊥) same (in_limits a), subst (λ x. TellsBounds (λ l. value_at l x) s c.bounds.result) same c.bounds.ensures)
