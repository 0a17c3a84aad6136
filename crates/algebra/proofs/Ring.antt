-- Laws of ℤ as an ordered ring. A whole number z is read as the difference `up z - down z` of two naturals.
use Rattle.std.proofs.Common.{◌≡◌, ℕ, ◌*◌, true, false, ℤ, pos, negsuc, ◌+ℤ◌, ◌-ℤ◌, ◌*ℤ◌, neg_ℤ, ◌≤ℤ◌, ◌<ℤ◌, sym, ap, ◌∙◌, mul-le-mul_right, mul-lt-mul_of_pos_right, le_of_mul-le-mul_right, arith}
use lib.IntN.{*ℤ_comm, neg_ℤ-neg_ℤ, zero-*ℤ, *ℤ-zero}
use lib.Signed.{le_z}
use Rattle.std.proofs.lemmas.Int.{by_lt_z, ints}
use borrow.Author.Differences.{up, down, product_is, sum_is_lem, neg_is, same_in, same_out, le_out, lt_out, below_in, at_most_in}

-- `omega (arith, linear)`: linear arithmetic over ℤ in which each product is an unknown
pub ruleset linear = (same_out, same_in, lt_out, le_out, below_in, at_most_in, sum_is_lem, neg_is)

pub distrib_left : (a b c : ℤ) → a *ℤ (b +ℤ c) ≡ a *ℤ b +ℤ a *ℤ c
distrib_left a b c = omega (arith, linear, product_is, ap (λ (n : ℕ). up a * n) (sum_is_lem b c), ap (λ (n : ℕ). down a * n) (sum_is_lem b c))

pub distrib_right : (a b c : ℤ) → (a +ℤ b) *ℤ c ≡ a *ℤ c +ℤ b *ℤ c
distrib_right a b c = *ℤ_comm (a +ℤ b) c ∙ distrib_left c a b ∙ (λ i. *ℤ_comm c a i +ℤ *ℤ_comm c b i)

pub neg_left : (a b : ℤ) → neg_ℤ a *ℤ b ≡ neg_ℤ (a *ℤ b)
neg_left a b =
    let times : ℕ → ℕ → ℕ = λ k n. n * k in
    same_in _ _ (omega (
      arith,
      product_is (neg_ℤ a) b,
      product_is a b,
      neg_is (a *ℤ b),
      ap (times (up b)) (neg_is a).0,
      ap (times (down b)) (neg_is a).0,
      ap (times (up b)) (neg_is a).1,
      ap (times (down b)) (neg_is a).1,
    ))

pub neg_right : (a b : ℤ) → a *ℤ neg_ℤ b ≡ neg_ℤ (a *ℤ b)
neg_right a b = *ℤ_comm a (neg_ℤ b) ∙ neg_left b a ∙ ap neg_ℤ (*ℤ_comm b a)

pub assoc : (a b c : ℤ) → (a *ℤ b) *ℤ c ≡ a *ℤ (b *ℤ c)
assoc a b c =
    let p = product_is a b in let q = product_is b c in
    omega (
      arith,
      linear,
      product_is,
      ap (λ (n : ℕ). n * up c) p.0,
      ap (λ (n : ℕ). n * down c) p.0,
      ap (λ (n : ℕ). n * up c) p.1,
      ap (λ (n : ℕ). n * down c) p.1,
      ap (λ (n : ℕ). up a * n) q.0,
      ap (λ (n : ℕ). down a * n) q.0,
      ap (λ (n : ℕ). up a * n) q.1,
      ap (λ (n : ℕ). down a * n) q.1,
    )

pub swap_left : (a b c : ℤ) → a *ℤ (b *ℤ c) ≡ b *ℤ (a *ℤ c)
swap_left a b c = sym (assoc a b c) ∙ ap (λ x. x *ℤ c) (*ℤ_comm a b) ∙ assoc b a c

pub one_left : (a : ℤ) → pos 1 *ℤ a ≡ a
one_left a = omega (arith, linear, product_is)

pub one_right : (a : ℤ) → a *ℤ pos 1 ≡ a
one_right a = *ℤ_comm a (pos 1) ∙ one_left a

-- `simp ring` multiplies out into a sum of products, each with its factors in one order
pub ruleset ring = (distrib_left, distrib_right, neg_left, neg_right, neg_ℤ-neg_ℤ, zero-*ℤ, *ℤ-zero, one_left, one_right, assoc, *ℤ_comm, swap_left)

pub times_grows : {a b : ℤ} (k : ℤ) → pos 0 ≤ℤ k → a ≤ℤ b → (a *ℤ k) ≤ℤ (b *ℤ k)
times_grows {a} {b} (pos n) h le = omega (arith, linear, product_is, mul-le-mul_right n (le_out a b le))
times_grows (negsuc n) h le = absurd (omega (arith, linear))

pub times_grows_strictly : {a b : ℤ} (k : ℤ) → pos 0 <ℤ k → a <ℤ b → (a *ℤ k) <ℤ (b *ℤ k)
times_grows_strictly {a} {b} (pos n) h lt = omega (arith, linear, product_is, mul-lt-mul_of_pos_right {k = n} (lt_out a b lt) (omega (arith, linear)))
times_grows_strictly (negsuc n) h lt = absurd (omega (arith, linear))

pub cancel : {a b : ℤ} (k : ℤ) → pos 0 <ℤ k → (a *ℤ k) ≤ℤ (b *ℤ k) → a ≤ℤ b
cancel {a} {b} k h le = by_lt_z b a (λ lt. absurd (omega (arith, linear, times_grows_strictly {a = b} {b = a} k h lt))) (λ under. under)

pub cancel_strictly : {a b : ℤ} (k : ℤ) → pos 0 ≤ℤ k → (a *ℤ k) <ℤ (b *ℤ k) → a <ℤ b
cancel_strictly {a} {b} k h lt = by_lt_z a b (λ under. under) (λ le. absurd (omega (arith, linear, times_grows k h le)))

pub cancel_equal : {a b : ℤ} (k : ℤ) → pos 0 <ℤ k → a *ℤ k ≡ b *ℤ k → a ≡ b
cancel_equal {a} {b} k h e = omega (arith, linear, cancel {a = a} {b = b} k h (omega (arith, linear)), cancel {a = b} {b = a} k h (omega (arith, linear)))

pub product_not_negative : {a b : ℤ} → pos 0 ≤ℤ a → pos 0 ≤ℤ b → pos 0 ≤ℤ (a *ℤ b)
product_not_negative {a} {b} h k = omega (arith, linear, times_grows b k h, zero-*ℤ b)

pub product_positive : {a b : ℤ} → pos 0 <ℤ a → pos 0 <ℤ b → pos 0 <ℤ (a *ℤ b)
product_positive {a} {b} h k = omega (arith, linear, times_grows_strictly b k h, zero-*ℤ b)

-- an order as a test, and back
pub le_test : {a b : ℤ} → a ≤ℤ b → le_z a b ≡ true
le_test {a} {b} h = grind (arith, ints)

pub test_le : {a b : ℤ} → le_z a b ≡ true → a ≤ℤ b
test_le {a} {b} h = omega (arith, ints)

pub test_gt : {a b : ℤ} → le_z a b ≡ false → b <ℤ a
test_gt {a} {b} h = omega (arith, ints)
