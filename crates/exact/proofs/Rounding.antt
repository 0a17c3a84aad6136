-- Rounded division does what it says, and only one number does.
use Rattle.std.proofs.Common.{◌≡◌, suc, ◌/◌, ◌⊎◌, ℤ, pos, negsuc, ◌+ℤ◌, ◌-ℤ◌, ◌*ℤ◌, neg_ℤ, nat_abs, ◌≤ℤ◌, ◌<ℤ◌, inl, inr, mod-lt, div-add-mod', div-le_self, arith, w64, SFits}
use lib.IntN.{*ℤ_comm}
use lib.Signed.{≤ℤ_refl, quot_z, rem_z, mag_rem}
use Rattle.std.proofs.lemmas.Int.{by_lt_z, ints}
use borrow.Author.Differences.{product_is}
use Rattle.algebra.proofs.Ring.{linear, times_grows, distrib_right, neg_left, one_left}
use Rattle.exact.specs.Division.{floor, ceiling, RoundsDown, RoundsUp}

-- a whole number is at most q exactly if its product with v is at most q v + r, for r from 0 to v - 1
pub below : (w v q r : ℤ) → q *ℤ v +ℤ r ≡ w → pos 0 ≤ℤ r → r <ℤ v → RoundsDown w v q
below w v q r e low high n = (
  (λ under. by_lt_z q n
      (λ past. absurd (omega (arith, linear, times_grows {a = q +ℤ pos 1} {b = n} v (omega (arith, linear)) (omega (arith, linear)), distrib_right q (pos 1) v, one_left v)))
      (λ le. le)),
  (λ le. omega (arith, linear, times_grows {a = n} {b = q} v (omega (arith, linear)) le)),
)

-- rounding up is rounding down on the other side of 0
pub mirrored : (w v q : ℤ) → RoundsDown (neg_ℤ w) v (neg_ℤ q) → RoundsUp w v q
mirrored w v q h n =
    let r = h (neg_ℤ n) in
    ((λ le. omega (arith, linear, r.0 (omega (arith, linear, neg_left n v)))), (λ le. omega (arith, linear, r.1 (omega (arith, linear)), neg_left n v)))

pub above : (w v q r : ℤ) → q *ℤ v ≡ w +ℤ r → pos 0 ≤ℤ r → r <ℤ v → RoundsUp w v q
above w v q r e low high = mirrored w v q (below (neg_ℤ w) v (neg_ℤ q) r (omega (arith, linear, neg_left q v)) low high)

pub rounds_down : (w v : ℤ) → pos 0 <ℤ v → RoundsDown w v (floor w (nat_abs v))
rounds_down (pos n) (pos v) h =
    below (pos n) (pos v) (pos (n / v)) (pos n -ℤ pos (n / v) *ℤ pos v) (omega (arith, linear))
    (omega (arith, linear, product_is (pos (n / v)) (pos v), div-add-mod' n v))
    (omega (arith, linear, product_is (pos (n / v)) (pos v), div-add-mod' n v, mod-lt n {m = v} (omega (arith, linear))))
rounds_down (negsuc n) (pos v) h =
    below (negsuc n) (pos v) (negsuc (n / v)) (negsuc n -ℤ negsuc (n / v) *ℤ pos v) (omega (arith, linear))
    (omega (arith, linear, product_is (negsuc (n / v)) (pos v), div-add-mod' n v, mod-lt n {m = v} (omega (arith, linear))))
    (omega (arith, linear, product_is (negsuc (n / v)) (pos v), div-add-mod' n v))
rounds_down w (negsuc v) h = absurd (omega (arith, linear))

pub rounds_up : (w v : ℤ) → pos 0 <ℤ v → RoundsUp w v (ceiling w (nat_abs v))
rounds_up w v h = mirrored w v (ceiling w (nat_abs v)) (back (rounds_down (neg_ℤ w) v h))
  where
    back : RoundsDown (neg_ℤ w) v (floor (neg_ℤ w) (nat_abs v)) → RoundsDown (neg_ℤ w) v (neg_ℤ (ceiling w (nat_abs v)))
    back f n = ((λ le. omega (arith, linear, (f n).0 le)), (λ le. (f n).1 (omega (arith, linear))))

pub down_unique : (w v r s : ℤ) → RoundsDown w v r → RoundsDown w v s → r ≡ s
down_unique w v r s f g = omega (arith, linear, (g r).0 ((f r).1 (≤ℤ_refl r)), (f s).0 ((g s).1 (≤ℤ_refl s)))

pub up_unique : (w v r s : ℤ) → RoundsUp w v r → RoundsUp w v s → r ≡ s
up_unique w v r s f g = omega (arith, linear, (f s).0 ((g s).1 (≤ℤ_refl s)), (g r).0 ((f r).1 (≤ℤ_refl r)))

-- the division of the code, which rounds towards 0: what remains is smaller than the divisor
pub truncated : (w v : ℤ) → pos 0 <ℤ v → (quot_z w v *ℤ v +ℤ rem_z w v ≡ w) × (neg_ℤ v <ℤ rem_z w v) × (rem_z w v <ℤ v)
truncated (pos n) (pos v) h =
    let rest = mod-lt n {m = v} (omega (arith, linear)) in
    (omega (arith, linear, product_is (pos (n / v)) (pos v), div-add-mod' n v), omega (arith, linear), omega (arith, linear))
truncated (negsuc n) (pos v) h =
    let rest = mod-lt (suc n) {m = v} (omega (arith, linear)) in
    (omega (arith, linear, neg_left (pos (suc n / v)) (pos v), product_is (pos (suc n / v)) (pos v), div-add-mod' (suc n) v), omega (arith, linear), omega (arith, linear))
truncated w (negsuc v) h = absurd (omega (arith, linear))

pub quotient_fits : (w v : ℤ) → pos 0 <ℤ v → SFits w64 w → SFits w64 (quot_z w v)
quotient_fits (pos n) (pos v) h f = omega (arith, ints, div-le_self n v)
quotient_fits (negsuc n) (pos v) h f = omega (arith, ints, div-le_self (suc n) v)
quotient_fits w (negsuc v) h f = absurd (omega (arith, linear))

pub remainder_fits : (w v : ℤ) → SFits w64 w → SFits w64 (rem_z w v)
remainder_fits w v f = record { sfits = omega (arith, mag_rem w v, f.sfits) }

-- the quotient is 0 or lies between 0 and the number where something remains
pub towards_zero : (w v q r : ℤ) → pos 0 <ℤ v → q *ℤ v +ℤ r ≡ w → ((pos 0 ≤ℤ q) × ((q +ℤ r) ≤ℤ w)) ⊎ ((q ≤ℤ pos 0) × (w ≤ℤ (q +ℤ r)))
towards_zero w v q r h e = by_lt_z q (pos 0)
    (λ less. inr (omega (arith, linear), omega (arith, linear, times_grows {a = pos 1} {b = v} (neg_ℤ q) (omega (arith, linear)) (omega (arith, linear)), one_left (neg_ℤ q), neg_left q v, *ℤ_comm v (neg_ℤ q))))
    (λ from. inl (from, omega (arith, linear, times_grows {a = pos 1} {b = v} q from (omega (arith, linear)), one_left q, *ℤ_comm v q)))
