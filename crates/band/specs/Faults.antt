-- Which positions of a band's setting are at fault.
use Rattle.std.specs.Prelude.{◌≡◌, ℕ, ◌-◌, ◌<◌, Bool, true, false, cond, not, ◌&&◌, ◌||◌, List, length, ℤ, pos, Some, None, Option, ◌==◌, int_le, int_lt, nat_lt, slice_index_or}
use Rattle.exact.specs.Limits.{least_end, greatest_end}
use Rattle.band.specs.declared.row.Row.{Row}

abbrev pub zeros : Row
zeros = record { first = pos 0; lower = pos 0; upper = pos 0 }

-- the row at an index from 0
abbrev pub row : List Row → ℕ → Row
row rows k = slice_index_or rows k zeros

-- the lower end is at most the upper end, and both are within the limits
abbrev pub in_order : Row → Bool
in_order r = int_le least_end r.lower && (int_le r.lower r.upper && int_le r.upper greatest_end)

-- b can stand after a: it begins later, and neither end falls
abbrev pub follows : Row → Row → Bool
follows a b = int_lt a.first b.first && (int_le a.lower b.lower && int_le a.upper b.upper)

-- the number of rows is not from 1 to 16
abbrev pub count_fault : List Row → Bool
count_fault rows = nat_lt (length rows) 1 || nat_lt 16 (length rows)

-- the row at an index is at fault by itself, or at odds with the one before it
abbrev pub row_fault : List Row → ℕ → Bool
row_fault rows k = not (in_order (row rows k)) || (nat_lt 0 k && not (follows (row rows (k - 1)) (row rows k)))

-- the last reading is before the last row's first
abbrev pub last_fault : List Row → ℤ → Bool
last_fault rows last = int_lt last (row rows (length rows - 1)).first

-- whether a position is at fault: 0 stands for the number of rows, 17 for the last reading, any other for the row of that number
abbrev pub at_fault : List Row → ℤ → ℕ → Bool
at_fault rows last p = cond (p == 0) (count_fault rows) (cond (p == 17) (last_fault rows last) (nat_lt (p - 1) (length rows) && row_fault rows (p - 1)))

-- no position is at fault
abbrev pub Faultless : List Row → ℤ → Type 0
Faultless rows last = (p : ℕ) → at_fault rows last p ≡ false

-- the smallest position at fault, if any
abbrev pub FirstFault : List Row → ℤ → Option ℕ → Type 0
FirstFault rows last None = Faultless rows last
FirstFault rows last (Some p) = (at_fault rows last p ≡ true) × ((q : ℕ) → q < p → at_fault rows last q ≡ false)
