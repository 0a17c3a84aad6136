use Rattle.std.proofs.Common.{ℕ, ℤ, pos, Result, ◌∙◌}
use Rattle.stage.specs.declared.not_taken.NotTaken.{NotTaken}
use Rattle.stage.specs.Meaning.{answer, single}
use Rattle.stage.specs.Chains.{chained}
use Rattle.step.specs.Ends as step
use Rattle.bounded.specs.Ends as bounded
use Rattle.figures.proofs.Lines.{line_figures, tally_figures}
use Rattle.figures.proofs.worked_figures.Goals as goal

-- what a chain of a step on a bounded stage answers to 9,999,999
told : ℕ → ℕ → ℕ → Result (ℤ × ℤ) NotTaken
told s e d = answer (chained (single (step.lower_end s) (step.upper_end s)) (single (bounded.lower_end e d) (bounded.upper_end e d))) (pos 9999999)

pub returns-clause-chain : goal.returns-clause-chain
unfolding told
returns-clause-chain c =
    let made = c.standard_chain-chain.ensures in
    c.ask-6.ensures ∙ (λ i. told (made.step i) (made.absolute i) (made.relative i))

pub returns-clause-lines : goal.returns-clause-lines
returns-clause-lines c = line_figures

pub returns-clause-tallies : goal.returns-clause-tallies
returns-clause-tallies c = tally_figures
