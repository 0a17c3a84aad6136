use Rattle.std.proofs.Common.{neg_ℤ, Some, None, sym, ap, ◌∙◌, subst, w32, SFits, rules}
use Rattle.std.proofs.lemmas.Int.{to_z-of_z}
use Rattle.refusal.specs.declared.refusal.Refusal.TheVariants as refusal
use Rattle.pairs.specs.Low.{quantity_of}
use Rattle.places.specs.Held.{held}
use Rattle.questions.specs.Told.{Bounds, NoBounds}
use Rattle.questions.specs.Asked.{GreatestLower}
use Rattle.questions.proofs.OneArgument.{no_slope, no_value, not_here_turned, value_told}
use Rattle.questions.proofs.level.at_one_argument.Goals as goal

pub returns-in_default : goal.returns-in_default
returns-in_default c =
    let s = held c.args.places.now.all in
    subst (λ q. NoBounds (quantity_of q) s refusal.OneArgument) (sym c.in_default.is) (no_slope s c.requires.held c.requires.line c.requires.one)

pub returns-in_default-greatest_lower : goal.returns-in_default-greatest_lower
returns-in_default-greatest_lower c =
    let s = held c.args.places.now.all in let x = c.in-Value.argument.value in
    subst (λ q. NoBounds (quantity_of q) s refusal.OneArgument) (sym c.in-Value.is)
    (no_value s c.requires.held c.requires.line c.requires.one x c.in_default-greatest_lower.ensures.over)

pub returns-in_default-greatest_lower-2 : goal.returns-in_default-greatest_lower-2
returns-in_default-greatest_lower-2 c =
    let s = held c.args.places.now.all in let x = c.in-Value.argument.value in
    subst (λ q. NoBounds (quantity_of q) s refusal.OneArgument) (sym c.in-Value.is)
    (no_value s c.requires.held c.requires.line c.requires.one x (not_here_turned s c.requires.held c.requires.line c.requires.one x
    (subst (λ t. GreatestLower x t None) c.mirrored-turned.ensures c.in_default-greatest_lower-2.ensures)))

pub returns : goal.returns
returns c =
    let s = held c.args.places.now.all in let x = c.in-Value.argument.value in
    let l = c.in-Some.lower in let o = c.in-Some-greatest_lower.opposite in
    let fl : SFits w32 l = search rules in let fo : SFits w32 o = search rules in
    let low = c.whole.ensures in let up = c.whole-2.ensures in let high = c.opposite.ensures in (
      c.requires.held,
      c.requires.line,
      subst (λ q. Bounds (quantity_of q) s c.whole.result c.opposite.result) (sym c.in-Value.is)
          (value_told s c.requires.held c.requires.line c.requires.one x l o c.whole.result c.opposite.result c.in-Some.ensures
          (subst (λ t. GreatestLower x t (Some o)) c.mirrored-turned.ensures c.in-Some-greatest_lower.ensures)
          (low.0 ∙ to_z-of_z w32 l fl) low.1 (high.0 ∙ ap neg_ℤ (up.0 ∙ to_z-of_z w32 o fo)) (high.1 ∙ up.1)),
    )
