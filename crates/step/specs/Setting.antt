-- What comes of setting the step.
use Rattle.std.specs.Prelude.{◌≡◌, ℕ, ◌<◌, ◌⊎◌, Ok, Err, Result}
use Rattle.stage.specs.declared.out_of_limits.OutOfLimits.{OutOfLimits}
use Rattle.step.specs.declared.step.Step.{Step}
use Rattle.step.specs.Ends.{greatest_step}

-- a stage of that step, or the position of the step where it is out of its range
abbrev pub Set : ℕ → Result Step OutOfLimits → Type 0
Set n (Ok s) = s.size ≡ n
Set n (Err e) = ((n < 1) ⊎ (greatest_step < n)) × (e.position ≡ 1)
