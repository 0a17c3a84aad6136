-- The order of the rational numbers is total and transitive, and turns round at the opposite.
use Rattle.std.proofs.Common.{◌≡◌, true, false, ◌⊎◌, ℤ, pos, ◌*ℤ◌, ◌<ℤ◌, sym, ap, ◌∙◌, inl, inr, arith}
use lib.Signed.{≤ℤ_refl}
use Rattle.std.proofs.lemmas.Int.{by_lt_z, ints}
use Rattle.algebra.proofs.Ring.{linear, ring, times_grows, times_grows_strictly, cancel, neg_left}
use Rattle.rational.specs.Rational.{Rational, ◌≼◌, ◌≺◌, ◌≈◌, compare, opposite}
use Rattle.std.specs.declared.cmp.Ordering.TheVariants.{Less, Equal, Greater}
use Rattle.std.specs.Ordering.{is_gt, is_le, int_cmp}
use Rattle.std.specs.Cmp.{IsTotalOrder}
use Rattle.std.proofs.lemmas.Cmp.{int_cmp_total}

pub ≼_refl : (a : Rational) → a ≼ a
≼_refl a = ≤ℤ_refl (a.num *ℤ a.den)

pub ≼_trans : (a b c : Rational) → a ≼ b → b ≼ c → a ≼ c
≼_trans a b c h k = cancel b.den b.above
    (simp ring (omega (arith, linear, simp ring at (times_grows c.den (omega (arith, linear, c.above)) h), simp ring at (times_grows a.den (omega (arith, linear, a.above)) k))))

pub ≼-total : (a b : Rational) → (a ≼ b) ⊎ (b ≼ a)
≼-total a b = by_lt_z (a.num *ℤ b.den) (b.num *ℤ a.den) (λ h. inl (omega (arith, linear))) (λ h. inr h)

-- either at most or above
pub ≼-or : {P : Type 0} (a b : Rational) → (a ≼ b → P) → (b ≺ a → P) → P
≼-or a b under over = by_lt_z (b.num *ℤ a.den) (a.num *ℤ b.den) (λ h. over h) (λ h. under h)

pub ≺-≼-trans : (a b c : Rational) → a ≺ b → b ≼ c → a ≺ c
≺-≼-trans a b c h k = ≼-or c a (λ back. absurd (omega (arith, linear, ≼_trans b c a k back))) (λ out. out)

pub ≼-≺-trans : (a b c : Rational) → a ≼ b → b ≺ c → a ≺ c
≼-≺-trans a b c h k = ≼-or c a (λ back. absurd (omega (arith, linear, ≼_trans c a b back h))) (λ out. out)

pub opposite-≼ : (a b : Rational) → a ≼ b → opposite b ≼ opposite a
opposite-≼ a b h = omega (arith, linear, neg_left a.num b.den, neg_left b.num a.den)

less : {x y : ℤ} → x <ℤ y → int_cmp x y ≡ Less
less {x} {y} h = grind (arith, ints)

more : {x y : ℤ} → y <ℤ x → int_cmp x y ≡ Greater
more {x} {y} h = grind (arith, ints)

even : {x y : ℤ} → x ≡ y → int_cmp x y ≡ Equal
even {x} {y} h = grind (arith, ints)

is_even : {x y : ℤ} → int_cmp x y ≡ Equal → x ≡ y
is_even {x} {y} h = grind (arith, ints)

-- numbers compare as their products with a number from 1 up
scaled : (x y k : ℤ) → pos 0 <ℤ k → int_cmp (x *ℤ k) (y *ℤ k) ≡ int_cmp x y
scaled x y k h =
    by_lt_z x y (λ lt. less (times_grows_strictly k h lt) ∙ sym (less lt)) (λ ge.
    by_lt_z y x (λ gt. more (times_grows_strictly k h gt) ∙ sym (more gt)) (λ le.
    let e : x ≡ y = omega (arith, linear) in even (ap (λ z. z *ℤ k) e) ∙ sym (even e)))

-- equal quantities compare alike
alike : (a b c : Rational) → a ≈ b → compare a c ≡ compare b c
alike a b c e =
    let here : (a.num *ℤ c.den) *ℤ b.den ≡ (b.num *ℤ c.den) *ℤ a.den = simp ring (omega (arith, linear, simp ring at (ap (λ z. z *ℤ c.den) e))) in
    let there : (c.num *ℤ a.den) *ℤ b.den ≡ (c.num *ℤ b.den) *ℤ a.den = simp ring in
    sym (scaled (a.num *ℤ c.den) (c.num *ℤ a.den) b.den b.above) ∙ (λ i. int_cmp (here i) (there i)) ∙ scaled (b.num *ℤ c.den) (c.num *ℤ b.den) a.den a.above

pub below : (a b : Rational) → compare a b ≡ Less → a ≺ b
below a b h = grind (arith, ints)

pub compare_total : IsTotalOrder compare
compare_total = record {
  antisymm = λ a b. int_cmp_total.antisymm (a.num *ℤ b.den) (b.num *ℤ a.den);
  trans = λ a b c h k. less (≺-≼-trans a b c (below a b h) (omega (arith, linear, below b c k)));
  congr = λ a b c h. alike a b c (is_even {x = a.num *ℤ b.den} {y = b.num *ℤ a.den} h);
}

-- what is not greater is at most
pub not_greater : (a b : Rational) → is_gt (compare a b) ≡ false → a ≼ b
not_greater a b h = grind (arith, ints)

-- what the test of `<=` says
pub tested : (a b : Rational) → is_le (compare a b) ≡ true → a ≼ b
tested a b h = grind (arith, ints)

pub failed : (a b : Rational) → is_le (compare a b) ≡ false → b ≺ a
failed a b h = grind (arith, ints)
