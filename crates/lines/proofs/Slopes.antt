-- A slope is possible exactly when it lies between the low and the high slope of each pair and each two at one argument meet.
use Rattle.std.proofs.Common.{◌≡◌, List, ℤ, pos, ◌-ℤ◌, ◌*ℤ◌, ◌≤ℤ◌, refl, arith}
use lib.IntN.{zero-*ℤ, *ℤ-zero}
use Rattle.std.specs.List.{ContainsAt as Has}
use Rattle.std.proofs.lemmas.Int.{by_lt_z}
use Rattle.algebra.proofs.Ring.{linear, ring, times_grows, cancel}
use Rattle.rational.specs.Rational.{Rational, ◌≼◌, ◌≈◌}
use Rattle.rational.specs.Line.{Line, slope}
use Rattle.lines.specs.Sheet.{Measurement, Admissible, Consistent}
use Rattle.lines.specs.Slopes.{Rises, low_slope, high_slope, PairsMeet}
use Rattle.lines.proofs.Possible.{Leaves, drawn, slope_possible}

-- it lies between the low and the high slope of each pair
abbrev pub Between : List Measurement → Rational → Type 0
Between s b = (j i : Measurement) → Has s j → Has s i → (h : Rises j i) → (low_slope j i h ≼ b) × (b ≼ high_slope j i h)

under_high : (p d : ℤ) (j i : Measurement) → Leaves p d j i → (p *ℤ (i.argument -ℤ j.argument)) ≤ℤ ((i.upper -ℤ j.lower) *ℤ d)
under_high p d j i h = simp ring (omega (arith, linear, simp ring at h))

leaves_under_high : (p d : ℤ) (j i : Measurement) → (p *ℤ (i.argument -ℤ j.argument)) ≤ℤ ((i.upper -ℤ j.lower) *ℤ d) → Leaves p d j i
leaves_under_high p d j i h = simp ring (omega (arith, linear, simp ring at h))

-- at one argument no slope rises
pub level : (p : ℤ) (a b : Measurement) → a.argument ≡ b.argument → p *ℤ (a.argument -ℤ b.argument) ≡ pos 0
level p a b e = let z : a.argument -ℤ b.argument ≡ pos 0 = omega (arith, linear) in rw (z, *ℤ-zero)

module _ (s : List Measurement) where
  leaves : (l : Line) → Admissible s l → (i j : Measurement) → Has s i → Has s j → Leaves l.p l.d i j
  leaves l ok = (slope_possible l.p l.d l.above s).1 (l.q, ok)

  pub slope_is_between : (l : Line) → Admissible s l → Between s (slope l)
  slope_is_between l ok j i atJ atI h = (leaves l ok i j atI atJ, under_high l.p l.d j i (leaves l ok j i atJ atI))

  pub consistent_pairs_meet : Consistent s → PairsMeet s
  consistent_pairs_meet (l, ok) a b atA at_b e =
      let le = leaves l ok a b atA at_b in
      let under : (a.lower -ℤ b.upper) ≤ℤ pos 0 = cancel l.d l.above (omega (arith, linear, level l.p a b e, zero-*ℤ l.d)) in
      omega (arith, linear)

  pub slope_reached : PairsMeet s → (b : Rational) → Between s b → (l : Line) × Admissible s l × (slope l ≈ b)
  slope_reached meet b between =
      let (q, ok) = (slope_possible b.num b.den b.above s).0 (λ i j atI atJ.
      by_lt_z j.argument i.argument
      (λ rises. (between j i atJ atI rises).0)
      (λ le. by_lt_z i.argument j.argument
      (λ rises. leaves_under_high b.num b.den i j (between i j atI atJ rises).1)
      (λ ge. let e : i.argument ≡ j.argument = omega (arith, linear) in
      omega (
        arith,
        linear,
        level b.num i j e,
        zero-*ℤ b.den,
        times_grows {a = i.lower -ℤ j.upper} {b = pos 0} b.den (omega (arith, linear, b.above)) (omega (arith, linear, meet i j atI atJ e)),
      )))) in
      (drawn b.num b.den b.above q, ok, refl {a = b.num *ℤ b.den})
