use Rattle.std.proofs.Common.{◌≡◌, ◌+◌, length, sym, ap, ◌∙◌, subst, arith, w32, SFits, to_z, of_z, rules}
use borrow.Author.Differences.{fits_in}
use Rattle.std.proofs.lemmas.Int.{ints, to_z-of_z}
use Rattle.exact.specs.declared.argument.Argument.{Argument}
use Rattle.questions.proofs.Lowers.{Lowest, lowest_same, lowest_here, lowest_elsewhere, lowest_all}
use Rattle.questions.proofs.level.greatest_lower.Goals as goal
use Rattle.questions.proofs.level.greatest_lower.Goals.{then-sample-argument, else-sample-argument}

same_argument : (a b : Argument) → of_z w32 a.value ≡ of_z w32 b.value → a.value ≡ b.value
same_argument a b e =
    let fa : SFits w32 a.value = fits_in w32 a.value (omega (arith, ints, a.low, a.high)) in
    let fb : SFits w32 b.value = fits_in w32 b.value (omega (arith, ints, b.low, b.high)) in
    sym (to_z-of_z w32 _ fa) ∙ ap (to_z w32) e ∙ to_z-of_z w32 _ fb

pub loop-place-preserved-in_default : goal.loop-place-preserved-in_default
loop-place-preserved-in_default c =
    let long : length c.args.places.now.all ≡ 64 = search rules in
    lowest_same _ _ _ _ c.loop-place.invariant long c.loop-place-test.true _ c.in_default.ensures

pub loop-place-preserved : goal.loop-place-preserved
loop-place-preserved c =
    let long : length c.args.places.now.all ≡ 64 = search rules in
    let x = c.args.argument in let ps = c.args.places.now.all in let i = c.loop-place.place-index in let a = c.in-Some.sample in
    elim c.if-sample-argument.branch [
      | then-sample-argument w ↦ let g = w.greater-best.ensures in let fits : SFits w32 a.set.lower = search rules in
          subst (Lowest x.value ps (i + 1)) (sym w.best-is)
          (lowest_here _ _ _ _ c.loop-place.invariant long c.loop-place-test.true _ a c.in-Some.ensures
          (same_argument a.argument x w.if-sample-argument.true) _ (to_z-of_z w32 _ fits) w.greater-best.result g.value g.first g.second)
      | else-sample-argument w ↦ subst (Lowest x.value ps (i + 1)) (sym w.best-is)
          (lowest_elsewhere _ _ _ _ c.loop-place.invariant long c.loop-place-test.true _ a c.in-Some.ensures (λ e. w.if-sample-argument.false (ap (of_z w32) e)))
    ]

pub returns : goal.returns
returns c = lowest_all _ _ _ _ c.loop-place-test.false c.loop-place.invariant
