-- What two measurements allow at an argument, and that no line that meets them passes it.
use Rattle.std.proofs.Common.{◌≡◌, Bool, true, false, cond, ℤ, pos, ◌+ℤ◌, ◌-ℤ◌, ◌*ℤ◌, neg_ℤ, ◌≤ℤ◌, refl, arith}
use lib.IntN.{*ℤ-zero}
use lib.Signed.{lt_z}
use Rattle.std.proofs.lemmas.Int.{by_lt_z, ints}
use Rattle.algebra.proofs.Ring.{linear, ring, times_grows, distrib_right, neg_left}
use Rattle.rational.specs.Rational.{◌≼◌}
use Rattle.rational.specs.Line.{Line, value_at}
use Rattle.lines.specs.Sheet.{Measurement, Meets}
use Rattle.lines.specs.Slopes.{Rises}
use Rattle.lines.specs.Mirror.{mirrored}
use Rattle.lines.specs.Values.{most, least, high_value, low_value}
use Rattle.lines.proofs.Possible.{meets_out}

module _ (m : Measurement) (w : ℤ) where
  pub most_up : pos 0 ≤ℤ w → most m w ≡ m.upper *ℤ w
  unfolding most
  most_up h = by (lt_z w (pos 0)) refl
    where
      by : (t : Bool) → lt_z w (pos 0) ≡ t → cond t m.lower m.upper *ℤ w ≡ m.upper *ℤ w
      by true e = absurd (omega (arith, ints))
      by false e = refl

  pub most_down : w ≤ℤ pos 0 → most m w ≡ m.lower *ℤ w
  unfolding most
  most_down h = by (lt_z w (pos 0)) refl
    where
      by : (t : Bool) → lt_z w (pos 0) ≡ t → cond t m.lower m.upper *ℤ w ≡ m.lower *ℤ w
      by true e = refl
      by false e = let z : w ≡ pos 0 = omega (arith, ints) in rw z (simp *ℤ-zero)

  pub most_mirrored : most (mirrored m) w ≡ neg_ℤ (least m w)
  unfolding most least
  most_mirrored = by (lt_z w (pos 0))
    where
      by : (t : Bool) → cond t (neg_ℤ m.upper) (neg_ℤ m.lower) *ℤ w ≡ neg_ℤ (cond t m.upper m.lower *ℤ w)
      by true = neg_left m.upper w
      by false = neg_left m.lower w

  -- a value within the set, times w
  most_over : (y d : ℤ) → (m.lower *ℤ d) ≤ℤ y → y ≤ℤ (m.upper *ℤ d) → (y *ℤ w) ≤ℤ (most m w *ℤ d)
  most_over y d low high = by_lt_z w (pos 0)
      (λ h. rw (most_down (omega (arith, linear))) (down (times_grows (neg_ℤ w) (omega (arith, linear)) low)))
      (λ h. rw (most_up h) (up (times_grows w h high)))
    where
      down : ((m.lower *ℤ d) *ℤ neg_ℤ w) ≤ℤ (y *ℤ neg_ℤ w) → (y *ℤ w) ≤ℤ ((m.lower *ℤ w) *ℤ d)
      down h = simp ring (omega (arith, linear, simp ring at h))

      up : (y *ℤ w) ≤ℤ ((m.upper *ℤ d) *ℤ w) → (y *ℤ w) ≤ℤ ((m.upper *ℤ w) *ℤ d)
      up h = simp ring (omega (arith, linear, simp ring at h))

pub least_up : (m : Measurement) (w : ℤ) → pos 0 ≤ℤ w → least m w ≡ m.lower *ℤ w
least_up m w h = omega (arith, linear, most_mirrored m w, most_up (mirrored m) w h, neg_left m.lower w)

pub least_down : (m : Measurement) (w : ℤ) → w ≤ℤ pos 0 → least m w ≡ m.upper *ℤ w
least_down m w h = omega (arith, linear, most_mirrored m w, most_down (mirrored m) w h, neg_left m.upper w)

-- the high and the low value, by where x stands
module _ (j i : Measurement) (h : Rises j i) (x : ℤ) where
  abbrev left : ℤ
  left = i.argument -ℤ x

  abbrev right : ℤ
  right = x -ℤ j.argument

  pub high_between : j.argument ≤ℤ x → x ≤ℤ i.argument → (high_value j i h x).num ≡ j.upper *ℤ (i.argument -ℤ x) +ℤ i.upper *ℤ (x -ℤ j.argument)
  high_between jx xi = λ n. most_up j left (omega (arith, linear)) n +ℤ most_up i right (omega (arith, linear)) n

  pub high_beyond : i.argument ≤ℤ x → (high_value j i h x).num ≡ j.lower *ℤ (i.argument -ℤ x) +ℤ i.upper *ℤ (x -ℤ j.argument)
  high_beyond ix = λ n. most_down j left (omega (arith, linear)) n +ℤ most_up i right (omega (arith, linear)) n

  pub high_before : x ≤ℤ j.argument → (high_value j i h x).num ≡ j.upper *ℤ (i.argument -ℤ x) +ℤ i.lower *ℤ (x -ℤ j.argument)
  high_before xj = λ n. most_up j left (omega (arith, linear)) n +ℤ most_down i right (omega (arith, linear)) n

  pub low_between : j.argument ≤ℤ x → x ≤ℤ i.argument → (low_value j i h x).num ≡ j.lower *ℤ (i.argument -ℤ x) +ℤ i.lower *ℤ (x -ℤ j.argument)
  low_between jx xi = λ n. least_up j left (omega (arith, linear)) n +ℤ least_up i right (omega (arith, linear)) n

  pub low_beyond : i.argument ≤ℤ x → (low_value j i h x).num ≡ j.upper *ℤ (i.argument -ℤ x) +ℤ i.lower *ℤ (x -ℤ j.argument)
  low_beyond ix = λ n. least_down j left (omega (arith, linear)) n +ℤ least_up i right (omega (arith, linear)) n

  pub low_before : x ≤ℤ j.argument → (low_value j i h x).num ≡ j.lower *ℤ (i.argument -ℤ x) +ℤ i.upper *ℤ (x -ℤ j.argument)
  low_before xj = λ n. least_up j left (omega (arith, linear)) n +ℤ least_down i right (omega (arith, linear)) n

-- the value at x out of the values at two arguments
weighed : (p q a b x : ℤ) → (p *ℤ x +ℤ q) *ℤ (b -ℤ a) ≡ (p *ℤ a +ℤ q) *ℤ (b -ℤ x) +ℤ (p *ℤ b +ℤ q) *ℤ (x -ℤ a)
weighed p q a b x = simp ring (omega (arith, linear))

pub value_under_pair : (l : Line) (j i : Measurement) (h : Rises j i) (x : ℤ) → Meets l j → Meets l i → value_at l x ≼ high_value j i h x
value_under_pair l j i h x metJ metI =
    let (lowJ, highJ) = meets_out l.p l.d l.above l.q j metJ in
    let (lowI, highI) = meets_out l.p l.d l.above l.q i metI in
    omega (
      arith,
      linear,
      weighed l.p l.q j.argument i.argument x,
      distrib_right (most j (i.argument -ℤ x)) (most i (x -ℤ j.argument)) l.d,
      most_over j (i.argument -ℤ x) (l.p *ℤ j.argument +ℤ l.q) l.d lowJ highJ,
      most_over i (x -ℤ j.argument) (l.p *ℤ i.argument +ℤ l.q) l.d lowI highI,
    )
