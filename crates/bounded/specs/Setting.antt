-- What comes of setting the two limits.
use Rattle.std.specs.Prelude.{◌≡◌, ℕ, ◌<◌, ◌≤◌, ◌⊎◌, Ok, Err, Result}
use Rattle.stage.specs.declared.out_of_limits.OutOfLimits.{OutOfLimits}
use Rattle.bounded.specs.declared.bounded.Bounded.{Bounded}
use Rattle.bounded.specs.Limits.{greatest_absolute, greatest_relative}

-- a stage with both limits as they were set, or the position of the first one past its range
abbrev pub Set : ℕ → ℕ → Result Bounded OutOfLimits → Type 0
Set e d (Ok s) = (s.absolute ≡ e) × (s.relative ≡ d)
Set e d (Err x) = ((greatest_absolute < e) × (x.position ≡ 1)) ⊎ ((e ≤ greatest_absolute) × (greatest_relative < d) × (x.position ≡ 2))
