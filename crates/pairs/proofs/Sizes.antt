-- How large ends, distances and least products are.
use Rattle.std.proofs.Common.{◌≡◌, ℤ, pos, ◌+ℤ◌, ◌-ℤ◌, neg_ℤ, ◌≤ℤ◌, arith, w32, w64, SFits, to_z, of_z}
use borrow.Author.Differences.{fits_in}
use Rattle.std.proofs.lemmas.Int.{by_lt_z, ints}
use Rattle.exact.specs.Limits.{least_numerator, greatest_numerator}
use Rattle.exact.specs.declared.argument.Argument.{Argument}
use Rattle.exact.proofs.Products.{within}
use Rattle.algebra.proofs.Ring.{linear}
use Rattle.lines.specs.Values.{least}
use Rattle.lines.proofs.Values.{least_up, least_down}
use Rattle.places.specs.declared.sample.Sample.{Sample}
use Rattle.places.specs.Samples.{measured}

-- a weight is the distance of two arguments
pub record Weight (w : ℤ) : Type 0 where
  pub low : neg_ℤ (pos 20000) ≤ℤ w
  pub high : w ≤ℤ pos 20000

pub distance : (a b : Argument) → Weight (a.value -ℤ b.value)
distance a b = record { low = omega (arith, ints, a.low, b.high); high = omega (arith, ints, a.high, b.low) }

pub record Small (z : ℤ) : Type 0 where
  pub low : neg_ℤ (pos 2000000000000) ≤ℤ z
  pub high : z ≤ℤ pos 2000000000000

pub least_small : (a : Sample) (w : ℤ) → Weight w → Small (least (measured a) w)
least_small a w h =
    let t = a.set in
    let most = pos 100000000 in
    by_lt_z w (pos 0)
    (λ lt. let k = within t.upper w most (pos 20000) (omega (arith, linear, t.low, t.ordered)) t.high h.low h.high in
    let e = least_down (measured a) w (omega (arith, linear)) in record { low = omega (arith, linear); high = omega (arith, linear) })
    (λ ge. let k = within t.lower w most (pos 20000) t.low (omega (arith, linear, t.ordered, t.high)) h.low h.high in
    let e = least_up (measured a) w (omega (arith, linear)) in record { low = omega (arith, linear); high = omega (arith, linear) })

-- the distance as it is computed
pub distance_cast : (a b : Argument) → to_z w32 (of_z w32 (to_z w32 (of_z w32 a.value) -ℤ to_z w32 (of_z w32 b.value))) ≡ a.value -ℤ b.value
distance_cast a b = omega (arith, ints, a.low, a.high, b.low, b.high)

-- the sum of two least products, as it is computed
module _ (y z : ℤ) (small-y : Small y) (small-z : Small z) where
  abbrev pub summed : ℤ
  summed = to_z w64 (of_z w64 y) +ℤ to_z w64 (of_z w64 z)

  pub sum_fits : SFits w64 summed
  sum_fits = fits_in w64 summed (omega (arith, ints, small-y.low, small-y.high, small-z.low, small-z.high))

  pub sum_cast : to_z w64 (of_z w64 summed) ≡ y +ℤ z
  sum_cast = omega (arith, ints, small-y.low, small-y.high, small-z.low, small-z.high)

  pub sum_in_range : (least_numerator ≤ℤ to_z w64 (of_z w64 summed)) × (to_z w64 (of_z w64 summed) ≤ℤ greatest_numerator)
  sum_in_range =
      (omega (arith, ints, small-y.low, small-y.high, small-z.low, small-z.high), omega (arith, ints, small-y.low, small-y.high, small-z.low, small-z.high))
