-- Numbers in decimal, as the library writes them.
use Rattle.std.specs.Prelude.{◌≡◌, ℕ, ◌+◌, ◌-◌, ◌*◌, ◌^◌, ◌<◌, true, List, [], ◌∷◌, slice_index}
use Rattle.std.specs.Str.{all_ascii_digits}
use Rattle.std.specs.Fmt.{decimal}

-- the number that digits write, after n
abbrev pub read_on : ℕ → List ℕ → ℕ
read_on n [] = n
read_on n (d ∷ ds) = read_on (10 * n + (d - 48)) ds

-- a number is written by digits alone that read as the number, the first of them not 0 unless the number is
abbrev pub ReadsBack : Type 0
ReadsBack = (n : ℕ) → n < 2 ^ 64 → (all_ascii_digits (decimal n) ≡ true) × (read_on 0 (decimal n) ≡ n) × (0 < n → 48 < slice_index (decimal n) 0)
