use Rattle.std.proofs.Common.{ℕ, subst}
use Rattle.stage.specs.Meaning.{Meaning, single}
use Rattle.stage.specs.Chains.{chained}
use Rattle.step.specs.Ends as step
use Rattle.bounded.specs.Ends as bounded
use Rattle.player.specs.Played.{Played}
use Rattle.player.proofs.play.play.Goals as goal

-- the chain of a display of a step on a bounded stage
abbrev chain : ℕ → ℕ → ℕ → Meaning
chain s e d = chained (single (step.lower_end s) (step.upper_end s)) (single (bounded.lower_end e d) (bounded.upper_end e d))

pub returns : goal.returns
returns c =
    let made = c.standard_chain.ensures in
    let r = c.play_on.result in
    let tape = c.args.tape.now in
    let out = c.args.out.now in
    let out' = c.play_on.new.out in
    let s = c.standard_chain.result.upper.size in
    let e = c.standard_chain.result.lower.absolute in
    subst (λ d. Played (chain 10 20 d) 0 tape out out' r) made.relative
    (subst (λ e. Played (chain 10 e c.standard_chain.result.lower.relative) 0 tape out out' r) made.absolute
    (subst (λ s. Played (chain s c.standard_chain.result.lower.absolute c.standard_chain.result.lower.relative) 0 tape out out' r) made.step c.play_on.ensures))
