-- The ranges of the numbers that are kept.
use Rattle.std.specs.Prelude.{ℕ, ◌<◌, ◌⊎◌, ℤ, pos, neg_ℤ, ◌<ℤ◌}

-- the ends of an uncertainty set, in ticks
abbrev pub greatest_end : ℤ
greatest_end = pos 100000000

abbrev pub least_end : ℤ
least_end = neg_ℤ greatest_end

-- the argument of a measurement
abbrev pub greatest_argument : ℤ
greatest_argument = pos 10000

abbrev pub least_argument : ℤ
least_argument = neg_ℤ greatest_argument

-- the numerator of a fraction
abbrev pub greatest_numerator : ℤ
greatest_numerator = pos 6000000000000

abbrev pub least_numerator : ℤ
least_numerator = neg_ℤ greatest_numerator

-- the denominator of a fraction, from 1
abbrev pub greatest_denominator : ℕ
greatest_denominator = 40000

-- these two numbers make no fraction
abbrev pub OutOfRange : ℤ → ℕ → Type 0
OutOfRange n d = ((n <ℤ least_numerator) ⊎ (greatest_numerator <ℤ n)) ⊎ ((d < 1) ⊎ (greatest_denominator < d))

-- these two ends make no uncertainty set
abbrev pub NoSet : ℤ → ℤ → Type 0
NoSet l u = (l <ℤ least_end) ⊎ ((u <ℤ l) ⊎ (greatest_end <ℤ u))

-- this number is no argument
abbrev pub NoArgument : ℤ → Type 0
NoArgument x = (x <ℤ least_argument) ⊎ (greatest_argument <ℤ x)
