-- The greatest value at an argument is the least of the high values, and the least value the greatest of the low values.
use Rattle.std.proofs.Common.{◌≡◌, List, map, ℤ, pos, ◌+ℤ◌, ◌-ℤ◌, ◌*ℤ◌, neg_ℤ, ap, inl, inr, ⊎_elim, arith}
use Rattle.std.specs.List.{ContainsAt as Has}
use Rattle.algebra.proofs.Ring.{linear, neg_left}
use Rattle.rational.specs.Rational.{Rational, ◌≼◌, whole, opposite}
use Rattle.rational.specs.Line.{Line, value_at}
use Rattle.rational.proofs.Order.{≼_trans}
use Rattle.lines.specs.Sheet.{Measurement, Admissible, Consistent, Greatest, Least}
use Rattle.lines.specs.Slopes.{Rises}
use Rattle.lines.specs.Mirror.{mirrored}
use Rattle.lines.specs.Values.{high_value, low_value, LeastHighValue, GreatestLowValue}
use Rattle.lines.proofs.Members.{has_map, each_of_map}
use Rattle.lines.proofs.Mirror.{mirror_consistent, least_from_mirror, value_odd}
use Rattle.lines.proofs.Values.{value_under_pair, most_mirrored}
use Rattle.lines.proofs.Virtual.{value_reached}

module _ (s : List Measurement) (x : ℤ) (b : Rational) where
  value_under : LeastHighValue s x b → (l : Line) → Admissible s l → value_at l x ≼ b
  value_under high l ok = ⊎_elim
      (λ r. let (m, at, e, le) = r in
      ≼_trans (value_at l x) (whole m.upper) b (omega (arith, linear, (ok m at).1, ap (λ z. (l.p *ℤ z +ℤ l.q) *ℤ pos 1) e)) le)
      (λ r. let (j, i, atJ, atI, h, le) = r in
      ≼_trans (value_at l x) (high_value j i h x) b (value_under_pair l j i h x (ok j atJ) (ok i atI)) le)
      high.reached

  pub value_greatest : Consistent s → LeastHighValue s x b → Greatest (λ l. value_at l x) s b
  value_greatest (l, ok) high = (value_reached s x b l ok (value_under high l ok) high.here high.pairs, value_under high)

-- the mirrored pair has the opposite value
module _ (j i : Measurement) (h : Rises j i) (x : ℤ) where
  mirrored_num : (high_value (mirrored j) (mirrored i) h x).num ≡ neg_ℤ (low_value j i h x).num
  mirrored_num = omega (arith, linear, most_mirrored j (i.argument -ℤ x), most_mirrored i (x -ℤ j.argument))

  mirrored_over : (b : Rational) → low_value j i h x ≼ b → opposite b ≼ high_value (mirrored j) (mirrored i) h x
  mirrored_over b le = omega (arith, linear, ap (λ n. n *ℤ b.den) mirrored_num, neg_left (low_value j i h x).num b.den, neg_left b.num (i.argument -ℤ j.argument))

  mirrored_under : (b : Rational) → b ≼ low_value j i h x → high_value (mirrored j) (mirrored i) h x ≼ opposite b
  mirrored_under b le = omega (arith, linear, ap (λ n. n *ℤ b.den) mirrored_num, neg_left (low_value j i h x).num b.den, neg_left b.num (i.argument -ℤ j.argument))

module _ (s : List Measurement) (x : ℤ) (b : Rational) where
  mirrored_values : GreatestLowValue s x b → LeastHighValue (map mirrored s) x (opposite b)
  mirrored_values low = record {
    here = each_of_map (λ m. m.argument ≡ x → opposite b ≼ whole m.upper) mirrored s (λ m at e.
        omega (arith, linear, low.here m at e, neg_left b.num (pos 1), neg_left m.lower b.den));
    pairs = λ j i atJ atI.
        each_of_map (λ j. (i : Measurement) → Has (map mirrored s) i → (h : Rises j i) → opposite b ≼ high_value j i h x) mirrored s (λ j atJ.
        each_of_map (λ i. (h : Rises (mirrored j) i) → opposite b ≼ high_value (mirrored j) i h x) mirrored s (λ i atI h.
        mirrored_over j i h x b (low.pairs j i atJ atI h))) j atJ i atI;
    reached = ⊎_elim
        (λ r. let (m, at, e, le) = r in
        inl (mirrored m, has_map mirrored s m at, e, omega (arith, linear, neg_left b.num (pos 1), neg_left m.lower b.den)))
        (λ r. let (j, i, atJ, atI, h, le) = r in
        inr (mirrored j, mirrored i, has_map mirrored s j atJ, has_map mirrored s i atI, h, mirrored_under j i h x b le))
        low.reached;
  }

  pub value_least : Consistent s → GreatestLowValue s x b → Least (λ l. value_at l x) s b
  value_least c low = least_from_mirror s (λ l. value_at l x) (value_odd x) b (value_greatest (map mirrored s) x (opposite b) (mirror_consistent s c) (mirrored_values low))
