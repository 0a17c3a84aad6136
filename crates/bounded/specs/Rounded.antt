-- The lower end as a quotient, how it rises, and the upper end as the lower one on the other side of 0.
use Rattle.std.specs.Prelude.{◌≡◌, ℕ, zero, suc, ◌+◌, ◌-◌, ◌≤◌, cond, ℤ, pos, negsuc, ◌+ℤ◌, ◌-ℤ◌, ◌*ℤ◌, neg_ℤ, ◌≤ℤ◌, ◌<ℤ◌}
use Rattle.std.proofs.Common.{ap, ◌∙◌, sym, arith}
use Rattle.std.proofs.Math.Nat.{zero-div}
use Rattle.std.proofs.Math.IntN.{zero-*ℤ}
use Rattle.std.specs.Int.Signed.{non_neg, ≤ℤ_refl}
use Rattle.std.proofs.lemmas.Int.{by_lt_z, ints}
use borrow.Author.Differences.{product_is}
use Rattle.algebra.proofs.Ring.{linear, times_grows, neg_left}
use Rattle.exact.specs.Division.{floor, ceiling, RoundsDown}
use Rattle.exact.proofs.Rounding.{rounds_down}
use Rattle.bounded.specs.Limits.{million, greatest_relative}
use Rattle.bounded.specs.Ends.{lower_end, upper_end}

-- the divisor at w, as a whole number
abbrev pub divisor : ℕ → ℤ → ℤ
divisor d w = pos (cond (non_neg w) (million + d) (million - d))

-- the lower end by w, the reading less the absolute limit
abbrev pub lowered : ℕ → ℤ → ℤ
lowered d w = floor (w *ℤ pos million) (cond (non_neg w) (million + d) (million - d))

module _ (d : ℕ) (few : d ≤ greatest_relative) where
  pub divisor_positive : (w : ℤ) → pos 0 <ℤ divisor d w
  divisor_positive (pos n) = omega (arith, ints)
  divisor_positive (negsuc n) = omega (arith, ints)

  pub lowered_down : (w : ℤ) → RoundsDown (w *ℤ pos million) (divisor d w) (lowered d w)
  lowered_down w = rounds_down (w *ℤ pos million) (divisor d w) (divisor_positive w)

  pub not_above : (w : ℤ) → (lowered d w *ℤ divisor d w) ≤ℤ (w *ℤ pos million)
  not_above w = (lowered_down w (lowered d w)).1 (≤ℤ_refl (lowered d w))

  pub negative : (n : ℕ) → lowered d (negsuc n) <ℤ pos 0
  negative n = by_lt_z (lowered d (negsuc n)) (pos 0) (λ less. less)
      (λ from. absurd (omega (
        arith,
        linear,
        product_is,
        not_above (negsuc n),
        times_grows {a = pos 0} {b = lowered d (negsuc n)} (divisor d (negsuc n)) (omega (arith, linear, divisor_positive (negsuc n))) from,
        zero-*ℤ (divisor d (negsuc n)),
      )))

  pub lowered_rises : (w z : ℤ) → w ≤ℤ z → lowered d w ≤ℤ lowered d z
  lowered_rises (pos n) (pos m) h = (lowered_down (pos m) (lowered d (pos n))).0 (omega (arith, linear, not_above (pos n), times_grows {a = pos n} {b = pos m} (pos million) (omega (arith, linear)) h))
  lowered_rises (negsuc n) (negsuc m) h = (lowered_down (negsuc m) (lowered d (negsuc n))).0 (omega (arith, linear, not_above (negsuc n), times_grows {a = negsuc n} {b = negsuc m} (pos million) (omega (arith, linear)) h))
  lowered_rises (negsuc n) (pos m) h = omega (arith, linear, negative n)
  lowered_rises (pos n) (negsuc m) h = absurd (omega (arith, linear))

  -- rounded up with the divisors exchanged
  raised : (w : ℤ) → ceiling (w *ℤ pos million) (cond (non_neg w) (million - d) (million + d)) ≡ neg_ℤ (lowered d (neg_ℤ w))
  raised (pos zero) = omega (arith, linear, zero-div (million - d), zero-div (million + d))
  raised (pos (suc n)) = ap (λ z. neg_ℤ (floor z (million - d))) (sym (neg_left (pos (suc n)) (pos million)))
  raised (negsuc n) = ap (λ z. neg_ℤ (floor z (million + d))) (sym (neg_left (negsuc n) (pos million)))

  pub mirrored_end : (e : ℕ) (r : ℤ) → upper_end e d r ≡ neg_ℤ (lower_end e d (neg_ℤ r))
  mirrored_end e r = let same : neg_ℤ (r +ℤ pos e) ≡ neg_ℤ r -ℤ pos e = omega (arith, linear) in raised (r +ℤ pos e) ∙ ap (λ w. neg_ℤ (lowered d w)) same
