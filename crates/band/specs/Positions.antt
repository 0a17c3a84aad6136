-- From what is known of the rows to what is said of the positions, and back.
use Rattle.std.specs.Prelude.{◌≡◌, ℕ, ◌+◌, ◌-◌, ◌<◌, ◌≤◌, Bool, true, false, cond, ◌&&◌, ◌||◌, List, length, ℤ, Some, ◌==◌, nat_lt}
use Rattle.std.proofs.Common.{sym, ap, ◌∙◌, arith}
use Rattle.std.proofs.lemmas.Bool.Decides.{nat_tests}
use Rattle.band.specs.declared.row.Row.{Row}
use Rattle.band.specs.Faults.{count_fault, row_fault, last_fault, Faultless, FirstFault}

-- the test of a position, over the tests of its three kinds
abbrev pick : ℕ → ℕ → Bool → Bool → Bool → Bool
pick p n count last here = cond (p == 0) count (cond (p == 17) last (nat_lt (p - 1) n && here))

row_position : (k n : ℕ) (count last here : Bool) → k < 16 → k < n → pick (k + 1) n count last here ≡ here
row_position k n count last here few lt = grind (arith, nat_tests)

count_few : (n : ℕ) → (nat_lt n 1 || nat_lt 16 n) ≡ false → (1 ≤ n) × (n ≤ 16)
count_few n h = (grind (arith, nat_tests), grind (arith, nat_tests))

pub count_fine : (n : ℕ) → 1 ≤ n → n ≤ 16 → (nat_lt n 1 || nat_lt 16 n) ≡ false
count_fine n h k = grind (arith, nat_tests)

-- a position before the one of the row at i
before : (q i n : ℕ) (count last here : Bool) → i < 16 → q < i + 1 → count ≡ false → (0 < q → q - 1 < i → here ≡ false) → pick q n count last here ≡ false
before q i n count last here few lt c h = grind (arith, nat_tests)

-- any position, where no row is at fault
never : (q n : ℕ) (count last here : Bool) → count ≡ false → last ≡ false → (0 < q → q - 1 < n → here ≡ false) → pick q n count last here ≡ false
never q n count last here c l h = grind (arith, nat_tests)

-- a position before the last reading's
early : (q n : ℕ) (count last here : Bool) → q < 17 → count ≡ false → (0 < q → q - 1 < n → here ≡ false) → pick q n count last here ≡ false
early q n count last here lt c h = grind (arith, nat_tests)

module _ (rows : List Row) (last : ℤ) where
  pub first_count : count_fault rows ≡ true → FirstFault rows last (Some 0)
  first_count h = (h, λ q lt. absurd (omega arith))

  pub first_row : (i : ℕ) → count_fault rows ≡ false → i < length rows → ((k : ℕ) → k < i → row_fault rows k ≡ false) → row_fault rows i ≡ true → FirstFault rows last (Some (i + 1))
  first_row i c lt fine bad =
      let few : i < 16 = omega (arith, count_few (length rows) c) in
      let same : i + 1 - 1 ≡ i = omega arith in (
        row_position i (length rows) (count_fault rows) (last_fault rows last) (row_fault rows (i + 1 - 1)) few lt ∙ ap (row_fault rows) same ∙ bad,
        λ q below. before q i (length rows) (count_fault rows) (last_fault rows last) (row_fault rows (q - 1)) few below c (λ from under. fine (q - 1) under),
      )

  pub first_last : count_fault rows ≡ false → ((k : ℕ) → k < length rows → row_fault rows k ≡ false) → last_fault rows last ≡ true → FirstFault rows last (Some 17)
  first_last c fine bad = (bad, λ q lt. early q (length rows) (count_fault rows) (last_fault rows last) (row_fault rows (q - 1)) lt c (λ from under. fine (q - 1) under))

  pub no_fault : count_fault rows ≡ false → ((k : ℕ) → k < length rows → row_fault rows k ≡ false) → last_fault rows last ≡ false → Faultless rows last
  no_fault c fine l q = never q (length rows) (count_fault rows) (last_fault rows last) (row_fault rows (q - 1)) c l (λ from under. fine (q - 1) under)

  pub some_rows : Faultless rows last → (1 ≤ length rows) × (length rows ≤ 16)
  some_rows h = count_few (length rows) (h 0)

  pub rows_fine : Faultless rows last → (k : ℕ) → k < length rows → row_fault rows k ≡ false
  rows_fine h k lt =
      let few : k < 16 = omega (arith, some_rows h) in
      let same : k + 1 - 1 ≡ k = omega arith in
      ap (row_fault rows) (sym same) ∙ sym (row_position k (length rows) (count_fault rows) (last_fault rows last) (row_fault rows (k + 1 - 1)) few lt) ∙ h (k + 1)
