-- A sheet upside down: its lows are the opposites of the highs.
use Rattle.std.proofs.Common.{◌≡◌, ℕ, List, map, ℤ, pos, ◌+ℤ◌, ◌-ℤ◌, ◌*ℤ◌, neg_ℤ, Some, None, sym, refl, ap, ◌∙◌, subst, arith}
use lib.IntN.{neg_ℤ-neg_ℤ}
use Rattle.std.specs.List.{ContainsAt as Has}
use Rattle.std.proofs.lemmas.Int.{by_lt_z}
use Rattle.algebra.proofs.Ring.{linear, neg_left}
use Rattle.rational.specs.Rational.{Rational, ◌≼◌}
use Rattle.exact.specs.Quantity.{quantity}
use Rattle.exact.specs.declared.fraction.Fraction.{Fraction}
use Rattle.lines.specs.Sheet.{Measurement, OneArgument}
use Rattle.lines.specs.Slopes.{Rises}
use Rattle.lines.specs.Values.{most, least}
use Rattle.lines.specs.Mirror.{mirrored}
use Rattle.lines.proofs.Members.{has_map, each_of_map}
use Rattle.lines.proofs.Values.{most_mirrored}
use Rattle.places.proofs.Turned.{same_measurement}
use Rattle.pairs.specs.declared.quantity.Quantity.{Quantity}
use Rattle.pairs.specs.declared.quantity.Quantity.TheVariants.{Slope, Value}
use Rattle.pairs.specs.declared.candidate.Candidate.{Candidate}
use Rattle.pairs.specs.Low.{low_of, Writes}
use Rattle.pairs.specs.Best.{GreatestLow}
use Rattle.pairs.specs.Narrowest.{high_of, LowBound, HighBound, Turned}

pub twice : (m : Measurement) → mirrored (mirrored m) ≡ m
twice m = same_measurement (mirrored (mirrored m)) m refl refl (neg_ℤ-neg_ℤ m.lower) (neg_ℤ-neg_ℤ m.upper)

pub least_mirrored : (m : Measurement) (w : ℤ) → least (mirrored m) w ≡ neg_ℤ (most m w)
least_mirrored m w = omega (arith, linear, most_mirrored (mirrored m) w, ap (λ k. most k w) (twice m))

-- the same two numbers, but for the sign
pub record Opposed (a b : Rational) : Type 0 where
  pub num : a.num ≡ neg_ℤ b.num
  pub den : a.den ≡ b.den

pub low_opposed : (q : Quantity) (j i : Measurement) (h : Rises j i) → Opposed (low_of q (mirrored j) (mirrored i) h) (high_of q j i h)
low_opposed Slope j i h = record { num = omega (arith, linear); den = refl }
low_opposed (Value x) j i h = record
    { num = omega (arith, linear, least_mirrored j (i.argument -ℤ x.value), least_mirrored i (x.value -ℤ j.argument)); den = refl }

pub high_opposed : (q : Quantity) (j i : Measurement) (h : Rises j i) → Opposed (high_of q (mirrored j) (mirrored i) h) (low_of q j i h)
high_opposed Slope j i h = record { num = omega (arith, linear); den = refl }
high_opposed (Value x) j i h = record
    { num = omega (arith, linear, most_mirrored j (i.argument -ℤ x.value), most_mirrored i (x.value -ℤ j.argument)); den = refl }

-- an order turns round
opposed_under : (f g : Fraction) (low high : Rational) → g.numerator ≡ neg_ℤ f.numerator → g.denominator ≡ f.denominator
    → Opposed low high → low ≼ quantity f → quantity g ≼ high
opposed_under f g low high en ed o le =
    omega (
      arith,
      linear,
      ap (λ n. n *ℤ high.den) en,
      neg_left f.numerator high.den,
      ap (λ (d : ℕ). high.num *ℤ pos d) ed,
      ap (λ n. n *ℤ pos f.denominator) o.num,
      neg_left high.num (pos f.denominator),
      ap (λ d. f.numerator *ℤ d) o.den,
    )

-- the high of the pair turned
module _ (j i k m : Measurement) (h : Rises j i) (g : Rises k m) (ej : k ≡ mirrored j) (ei : m ≡ mirrored i) where
  turned_num : (q : Quantity) → (high_of q k m g).num ≡ neg_ℤ (low_of q j i h).num
  turned_num Slope = (λ n. (ei n).upper -ℤ (ej n).lower) ∙ (high_opposed Slope j i h).num
  turned_num (Value x) =
      (λ n. most (ej n) ((ei n).argument -ℤ x.value) +ℤ most (ei n) (x.value -ℤ (ej n).argument)) ∙ (high_opposed (Value x) j i h).num

  turned_den : (q : Quantity) → (high_of q k m g).den ≡ (low_of q j i h).den
  turned_den Slope = λ n. (ei n).argument -ℤ (ej n).argument
  turned_den (Value x) = λ n. (ei n).argument -ℤ (ej n).argument

  turned_writes : (q : Quantity) (a b : Fraction) → b.numerator ≡ neg_ℤ a.numerator → b.denominator ≡ a.denominator
      → Writes a (low_of q j i h) → Writes b (high_of q k m g)
  turned_writes q a b en ed w = record {
    numerator = en ∙ ap neg_ℤ w.numerator ∙ sym (turned_num q);
    denominator = ap pos ed ∙ w.denominator ∙ sym (turned_den q);
  }

pub one_argument : (s : List Measurement) → ((a b : Measurement) → Has s a → Has s b → Rises a b → ⊥) → OneArgument s
one_argument s none a b atA at_b =
    by_lt_z a.argument b.argument (λ h. absurd (none a b atA at_b h)) (λ le.
    by_lt_z b.argument a.argument (λ h. absurd (none b a at_b atA h)) (λ ge. omega (arith, linear)))

module _ (q : Quantity) (s : List Measurement) where
  pub no_low : GreatestLow q s None → OneArgument s
  no_low g = one_argument s (λ a b atA at_b h. g.covers a b atA at_b h)

  pub no_mirrored_low : GreatestLow q (map mirrored s) None → OneArgument s
  no_mirrored_low g = one_argument s (λ a b atA at_b h. g.covers (mirrored a) (mirrored b) (has_map mirrored s a atA) (has_map mirrored s b at_b) h)

  pub low_bound : (c : Candidate) → GreatestLow q s (Some c) → LowBound q s c
  low_bound c g = record { first = g.among.0; second = g.among.1; writes = g.among.2; over = λ a b atA at_b h. g.covers a b atA at_b h }

  -- what is held upside down, turned back, is held
  pub back : (m : Measurement) → Has (map mirrored s) m → Has s (mirrored m)
  back = each_of_map (λ m. Has s (mirrored m)) mirrored s (λ m at. subst (Has s) (sym (twice m)) at)

  pub high_bound : (c r : Candidate) → Turned c r → GreatestLow q (map mirrored s) (Some c) → HighBound q s r
  high_bound c r t g = record {
    first = subst (Has s) (sym t.pair.first) (back _ g.among.0);
    second = subst (Has s) (sym t.pair.second) (back _ g.among.1);
    writes = turned_writes _ _ _ _ c.pair.rises r.pair.rises t.pair.first t.pair.second q c.bound r.bound t.numerator t.denominator g.among.2;
    under = λ a b atA at_b h. opposed_under c.bound r.bound _ (high_of q a b h) t.numerator t.denominator (low_opposed q a b h)
        (g.covers (mirrored a) (mirrored b) (has_map mirrored s a atA) (has_map mirrored s b at_b) h);
  }
