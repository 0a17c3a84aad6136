-- The least of a quantity on a sheet is the opposite of the greatest on the mirrored sheet.
use Rattle.std.proofs.Common.{◌≡◌, List, map, ℤ, ◌+ℤ◌, ◌*ℤ◌, neg_ℤ, sym, refl, ap, subst, arith}
use Rattle.algebra.proofs.Ring.{linear, neg_left}
use Rattle.rational.specs.Rational.{Rational, ◌≼◌, ◌≈◌, opposite}
use Rattle.rational.specs.Line.{Line, slope, value_at}
use Rattle.lines.specs.Sheet.{Measurement, Meets, Admissible, Consistent, Greatest, Least}
use Rattle.lines.specs.Mirror.{mirrored, mirror}
use Rattle.lines.proofs.Members.{has_map, each_of_map}
use Rattle.lines.proofs.Possible.{meets_in, meets_out}

-- the value of the mirrored line
turned : (p q x : ℤ) → neg_ℤ p *ℤ x +ℤ neg_ℤ q ≡ neg_ℤ (p *ℤ x +ℤ q)
turned p q x = omega (arith, linear, neg_left p x)

module _ (l : Line) (m : Measurement) where
  mirror_meets : Meets l m → Meets (mirror l) (mirrored m)
  mirror_meets h =
      let (low, high) = meets_out l.p l.d l.above l.q m h in
      meets_in (neg_ℤ l.p) l.d l.above (neg_ℤ l.q) (mirrored m)
      (omega (arith, linear, turned l.p l.q m.argument, neg_left m.upper l.d)) (omega (arith, linear, turned l.p l.q m.argument, neg_left m.lower l.d))

  meets_mirror : Meets l (mirrored m) → Meets (mirror l) m
  meets_mirror h =
      let (low, high) = meets_out l.p l.d l.above l.q (mirrored m) h in
      meets_in (neg_ℤ l.p) l.d l.above (neg_ℤ l.q) m
      (omega (arith, linear, turned l.p l.q m.argument, neg_left m.lower l.d)) (omega (arith, linear, turned l.p l.q m.argument, neg_left m.upper l.d))

module _ (s : List Measurement) where
  pub mirror_admissible : (l : Line) → Admissible s l → Admissible (map mirrored s) (mirror l)
  mirror_admissible l ok = each_of_map (Meets (mirror l)) mirrored s (λ m at. mirror_meets l m (ok m at))

  pub admissible_mirror : (l : Line) → Admissible (map mirrored s) l → Admissible s (mirror l)
  admissible_mirror l ok m at = meets_mirror l m (ok (mirrored m) (has_map mirrored s m at))

  pub mirror_consistent : Consistent s → Consistent (map mirrored s)
  mirror_consistent (l, ok) = (mirror l, mirror_admissible l ok)

  -- f is a quantity that the mirrored line has the opposite of
  module _ (f : Line → Rational) (odd : (l : Line) → f (mirror l) ≡ opposite (f l)) (b : Rational) where
    pub least_from_mirror : Greatest f (map mirrored s) (opposite b) → Least f s b
    least_from_mirror ((l, ok, e), most) = (
      (mirror l, admissible_mirror l ok, subst (λ r. r ≈ b) (sym (odd l)) (omega (arith, linear, neg_left (f l).num b.den, neg_left b.num (f l).den))),
      λ k okK. let le = subst (λ r. r ≼ opposite b) (odd k) (most (mirror k) (mirror_admissible k okK)) in
          omega (arith, linear, neg_left (f k).num b.den, neg_left b.num (f k).den),
    )

    pub greatest_in_mirror : Least f s b → Greatest f (map mirrored s) (opposite b)
    greatest_in_mirror ((l, ok, e), least) = (
      (mirror l, mirror_admissible l ok, subst (λ r. r ≈ opposite b) (sym (odd l)) (omega (arith, linear, neg_left (f l).num b.den, neg_left b.num (f l).den))),
      λ k okK. let le = subst (λ r. b ≼ r) (odd k) (least (mirror k) (admissible_mirror k okK)) in
          omega (arith, linear, neg_left (f k).num b.den, neg_left b.num (f k).den),
    )

pub slope_odd : (l : Line) → slope (mirror l) ≡ opposite (slope l)
slope_odd l = refl

pub value_odd : (x : ℤ) (l : Line) → value_at (mirror l) x ≡ opposite (value_at l x)
value_odd x l = ap (λ n. let r : Rational = record { num = n; den = l.d; above = l.above } in r) (turned l.p l.q x)
