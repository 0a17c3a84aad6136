-- A sheet is consistent when its pairs at one argument meet and its low slopes do not pass its high slopes.
use Rattle.std.proofs.Common.{List, pos, arith}
use Rattle.std.specs.List.{ContainsAt as Has}
use Rattle.algebra.proofs.Ring.{linear}
use Rattle.rational.specs.Rational.{◌≼◌, ◌≺◌, ◌≈◌, whole}
use Rattle.rational.specs.Line.{Line, slope}
use Rattle.rational.proofs.Order.{≼_trans}
use Rattle.lines.specs.Sheet.{Measurement, Admissible, Consistent, Conflict, OneArgument, Greatest, Least}
use Rattle.lines.specs.Slopes.{Rises, low_slope, high_slope, SteepestLow, GentlestHigh, PairsMeet}
use Rattle.lines.proofs.Slopes.{slope_is_between, slope_reached, consistent_pairs_meet}

module _ (s : List Measurement) where
  pub consistent_flat : PairsMeet s → OneArgument s → Consistent s
  consistent_flat meet one =
      let (l, ok, _) = slope_reached s meet (whole (pos 0)) (λ j i atJ atI h. absurd (omega (arith, linear, one j i atJ atI))) in (l, ok)

  -- a low slope is at most the slope of an admissible line, and that is at most a high slope
  pub low_under_high : (j i k m : Measurement) → Has s j → Has s i → Has s k → Has s m → (h : Rises j i) (g : Rises k m) → Consistent s → low_slope j i h ≼ high_slope k m g
  low_under_high j i k m atJ atI atK atM h g (l, ok) =
      ≼_trans (low_slope j i h) (slope l) (high_slope k m g) (slope_is_between s l ok j i atJ atI h).0 (slope_is_between s l ok k m atK atM g).1

  pub slopes_conflict : (j i k m : Measurement) → Has s j → Has s i → Has s k → Has s m → (h : Rises j i) (g : Rises k m) → high_slope k m g ≺ low_slope j i h → Conflict s
  slopes_conflict j i k m atJ atI atK atM h g over c = omega (arith, linear, low_under_high j i k m atJ atI atK atM h g c)

  -- the greatest low slope is possible where it passes no high slope
  pub low_reached : PairsMeet s → (j i : Measurement) (low : SteepestLow s j i)
      → ((k m : Measurement) → Has s k → Has s m → (h : Rises k m) → low_slope j i low.rises ≼ high_slope k m h)
      → (l : Line) × Admissible s l × (slope l ≈ low_slope j i low.rises)
  low_reached meet j i low under =
      slope_reached s meet (low_slope j i low.rises) (λ k m atK atM h. (low.steepest k m atK atM h, under k m atK atM h))

  pub consistent_steep : PairsMeet s → (j i k m : Measurement) (low : SteepestLow s j i) (high : GentlestHigh s k m)
      → low_slope j i low.rises ≼ high_slope k m high.rises → Consistent s
  consistent_steep meet j i k m low high le =
      let (l, ok, _) = low_reached meet j i low (λ a b atA at_b h.
      ≼_trans (low_slope j i low.rises) (high_slope k m high.rises) (high_slope a b h) le (high.gentlest a b atA at_b h)) in
      (l, ok)

  pub steep_conflict : (j i k m : Measurement) (low : SteepestLow s j i) (high : GentlestHigh s k m)
      → high_slope k m high.rises ≺ low_slope j i low.rises → Conflict s
  steep_conflict j i k m low high = slopes_conflict j i k m low.first low.second high.first high.second low.rises high.rises

  pub least_slope : Consistent s → (j i : Measurement) (low : SteepestLow s j i) → Least slope s (low_slope j i low.rises)
  least_slope c j i low = (
    low_reached (consistent_pairs_meet s c) j i low (λ k m atK atM h. low_under_high j i k m low.first low.second atK atM low.rises h c),
    λ l ok. (slope_is_between s l ok j i low.first low.second low.rises).0,
  )

  pub greatest_slope : Consistent s → (k m : Measurement) (high : GentlestHigh s k m) → Greatest slope s (high_slope k m high.rises)
  greatest_slope c k m high = (
    slope_reached s (consistent_pairs_meet s c) (high_slope k m high.rises) (λ j i atJ atI h.
        (low_under_high j i k m atJ atI high.first high.second h high.rises c, high.gentlest j i atJ atI h)),
    λ l ok. (slope_is_between s l ok k m high.first high.second high.rises).1,
  )
