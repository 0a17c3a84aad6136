-- The ends of a bounded stage with the absolute limit e and the relative limit d, at the reading r.
use Rattle.std.specs.Prelude.{ℕ, ◌+◌, ◌-◌, cond, ℤ, pos, ◌+ℤ◌, ◌-ℤ◌, ◌*ℤ◌}
use Rattle.std.specs.Int.Signed.{non_neg}
use Rattle.exact.specs.Division.{floor, ceiling}
use Rattle.bounded.specs.Limits.{million}

-- w × 1,000,000 / v rounded down, for w = r - e, with v = 1,000,000 + d if w is not negative, else 1,000,000 - d
abbrev pub lower_end : ℕ → ℕ → ℤ → ℤ
lower_end e d r = floor ((r -ℤ pos e) *ℤ pos million) (cond (non_neg (r -ℤ pos e)) (million + d) (million - d))

-- rounded up, for w = r + e, with the two divisors exchanged
abbrev pub upper_end : ℕ → ℕ → ℤ → ℤ
upper_end e d r = ceiling ((r +ℤ pos e) *ℤ pos million) (cond (non_neg (r +ℤ pos e)) (million - d) (million + d))
