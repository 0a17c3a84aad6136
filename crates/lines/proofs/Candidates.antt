-- What the least high value and the greatest low value of a sheet rest on: the pairs, where the sheet has some, else the ends at x.
use Rattle.std.proofs.Common.{◌≡◌, List, ℤ, pos, ◌-ℤ◌, ◌*ℤ◌, ◌≤ℤ◌, sym, ap, inl, inr, arith}
use lib.IntN.{*ℤ-zero}
use Rattle.std.specs.List.{ContainsAt as Has}
use Rattle.std.proofs.lemmas.Int.{by_lt_z}
use Rattle.algebra.proofs.Ring.{linear, one_right}
use Rattle.rational.specs.Rational.{Rational, ◌≼◌, whole}
use Rattle.rational.proofs.Order.{≼_refl, ≼_trans}
use Rattle.lines.specs.Sheet.{Measurement, OneArgument}
use Rattle.lines.specs.Slopes.{Rises}
use Rattle.lines.specs.Values.{high_value, low_value, LeastHighValue, GreatestLowValue}
use Rattle.lines.proofs.Values.{high_between, low_between}

no_width : (y x z : ℤ) → z ≡ x → y *ℤ (x -ℤ z) ≡ pos 0
no_width y x z e = let w : x -ℤ z ≡ pos 0 = omega (arith, linear) in rw w (simp *ℤ-zero)

-- where one of the two lies at x, the values are its ends
module _ (j i : Measurement) (h : Rises j i) (x : ℤ) where
  high_first : j.argument ≡ x → high_value j i h x ≼ whole j.upper
  high_first e =
      omega (
        arith,
        linear,
        high_between j i h x (omega (arith, linear)) (omega (arith, linear)),
        one_right (high_value j i h x).num,
        no_width i.upper x j.argument e,
        ap (λ z. j.upper *ℤ (i.argument -ℤ z)) e,
      )

  high_second : i.argument ≡ x → high_value j i h x ≼ whole i.upper
  high_second e =
      omega (
        arith,
        linear,
        high_between j i h x (omega (arith, linear)) (omega (arith, linear)),
        one_right (high_value j i h x).num,
        no_width j.upper i.argument x (sym e),
        ap (λ z. i.upper *ℤ (z -ℤ j.argument)) e,
      )

  low_first : j.argument ≡ x → whole j.lower ≼ low_value j i h x
  low_first e =
      omega (
        arith,
        linear,
        low_between j i h x (omega (arith, linear)) (omega (arith, linear)),
        one_right (low_value j i h x).num,
        no_width i.lower x j.argument e,
        ap (λ z. j.lower *ℤ (i.argument -ℤ z)) e,
      )

  low_second : i.argument ≡ x → whole i.lower ≼ low_value j i h x
  low_second e =
      omega (
        arith,
        linear,
        low_between j i h x (omega (arith, linear)) (omega (arith, linear)),
        one_right (low_value j i h x).num,
        no_width j.lower i.argument x (sym e),
        ap (λ z. i.lower *ℤ (z -ℤ j.argument)) e,
      )

module _ (s : List Measurement) (x : ℤ) (b : Rational) (j i : Measurement) (atJ : Has s j) (atI : Has s i) (h : Rises j i) where
  pub pairs_least_high : ((a c : Measurement) → Has s a → Has s c → (k : Rises a c) → b ≼ high_value a c k x) → high_value j i h x ≼ b → LeastHighValue s x b
  pairs_least_high pairs le = record {
    here = λ m at e. by_lt_z m.argument i.argument
        (λ k. ≼_trans b (high_value m i k x) (whole m.upper) (pairs m i at atI k) (high_first m i k x e))
        (λ past. let k : Rises j m = omega (arith, linear) in ≼_trans b (high_value j m k x) (whole m.upper) (pairs j m atJ at k) (high_second j m k x e));
    pairs = pairs;
    reached = inr (j, i, atJ, atI, h, le);
  }

  pub pairs_greatest_low : ((a c : Measurement) → Has s a → Has s c → (k : Rises a c) → low_value a c k x ≼ b) → b ≼ low_value j i h x → GreatestLowValue s x b
  pairs_greatest_low pairs le = record {
    here = λ m at e. by_lt_z m.argument i.argument
        (λ k. ≼_trans (whole m.lower) (low_value m i k x) b (low_first m i k x e) (pairs m i at atI k))
        (λ past. let k : Rises j m = omega (arith, linear) in ≼_trans (whole m.lower) (low_value j m k x) b (low_second j m k x e) (pairs j m atJ at k));
    pairs = pairs;
    reached = inr (j, i, atJ, atI, h, le);
  }

-- all measurements lie at x
module _ (s : List Measurement) (x : ℤ) (one : OneArgument s) (m : Measurement) (at : Has s m) (e : m.argument ≡ x) where
  pub here_least_high : ((k : Measurement) → Has s k → m.upper ≤ℤ k.upper) → LeastHighValue s x (whole m.upper)
  here_least_high lowest = record {
    here = λ k atK _. omega (arith, linear, lowest k atK, one_right m.upper, one_right k.upper);
    pairs = λ j i atJ atI h. absurd (omega (arith, linear, one j i atJ atI));
    reached = inl (m, at, e, ≼_refl (whole m.upper));
  }

  pub here_greatest_low : ((k : Measurement) → Has s k → k.lower ≤ℤ m.lower) → GreatestLowValue s x (whole m.lower)
  here_greatest_low highest = record {
    here = λ k atK _. omega (arith, linear, highest k atK, one_right m.lower, one_right k.lower);
    pairs = λ j i atJ atI h. absurd (omega (arith, linear, one j i atJ atI));
    reached = inl (m, at, e, ≼_refl (whole m.lower));
  }
