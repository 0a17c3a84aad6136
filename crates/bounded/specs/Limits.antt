-- The ranges of the two limits.
use Rattle.std.specs.Prelude.{ℕ}

-- in ticks
abbrev pub greatest_absolute : ℕ
greatest_absolute = 1000000

-- in millionths
abbrev pub greatest_relative : ℕ
greatest_relative = 100000

-- how many millionths are one
abbrev pub million : ℕ
million = 1000000
