-- The test of one row, from whether it is in order (i), whether it follows the one before it (f), and its index k.
use Rattle.std.proofs.Common.{◌≡◌, ℕ, ◌<◌, Bool, true, false, not, ◌&&◌, ◌||◌, nat_lt, arith}
use Rattle.std.proofs.lemmas.Bool.Decides.{nat_tests}

-- a row that is not in order is at fault
pub bad_itself : (i f : Bool) (k : ℕ) → i ≡ false → (not i || (nat_lt 0 k && not f)) ≡ true
bad_itself i f k h = grind (arith, nat_tests)

-- a row behind the first one that does not follow the one before it is at fault
pub bad_pair : (i f : Bool) (k : ℕ) → 0 < k → f ≡ false → (not i || (nat_lt 0 k && not f)) ≡ true
bad_pair i f k lt h = grind (arith, nat_tests)

-- a row in order that is the first one, or follows the one before it, is not at fault
pub fine_pair : (i f : Bool) (k : ℕ) → i ≡ true → (0 < k → f ≡ true) → (not i || (nat_lt 0 k && not f)) ≡ false
fine_pair i f k h g = grind (arith, nat_tests)
