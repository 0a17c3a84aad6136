-- The ends of a display of step s at the reading r.
use Rattle.std.specs.Prelude.{ℕ, ◌+◌, ◌/◌, ℤ, pos, ◌+ℤ◌, ◌-ℤ◌, ◌*ℤ◌}

abbrev pub greatest_step : ℕ
greatest_step = 1000

-- half a step, rounded up
abbrev pub half : ℕ → ℕ
half s = (s + 1) / 2

abbrev pub lower_end : ℕ → ℤ → ℤ
lower_end s r = pos s *ℤ r -ℤ pos (half s)

abbrev pub upper_end : ℕ → ℤ → ℤ
upper_end s r = pos s *ℤ r +ℤ pos (half s)
