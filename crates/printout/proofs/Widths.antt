-- How many digits a number has.
use Rattle.std.proofs.Common.{ℕ, ◌^◌, ◌<◌, ◌≤◌, length, arith}
use Rattle.std.specs.Fmt.{decimal}
use Rattle.std.proofs.lemmas.Fmt.{length-decimal-le}

pub ten_digits : (n : ℕ) → n < 2 ^ 32 → length (decimal n) ≤ 10
ten_digits n fits = length-decimal-le 10 n (omega arith) (omega arith) (omega arith)

pub nineteen_digits : (n : ℕ) → n ≤ 2 ^ 63 → length (decimal n) ≤ 19
nineteen_digits n fits = length-decimal-le 19 n (omega arith) (omega arith) (omega arith)
