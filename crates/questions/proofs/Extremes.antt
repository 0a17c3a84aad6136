-- The bounds that pairs leave are the least and the greatest, as they are written.
use Rattle.std.proofs.Common.{◌≡◌, ◌≤◌, List, ℤ, pos, ◌*ℤ◌, ◌≤ℤ◌, sym, subst, arith}
use Rattle.std.proofs.lemmas.Int.{ints}
use Rattle.rational.specs.Rational.{Rational}
use Rattle.rational.specs.Line.{Line, slope}
use Rattle.exact.specs.Quantity.{quantity}
use Rattle.exact.specs.declared.fraction.Fraction.{Fraction}
use Rattle.lines.specs.Sheet.{Measurement, Admissible, Consistent, Greatest, Least}
use Rattle.lines.proofs.Consistency.{least_slope, greatest_slope}
use Rattle.lines.proofs.Candidates.{pairs_least_high, pairs_greatest_low}
use Rattle.lines.proofs.ValueBounds.{value_greatest, value_least}
use Rattle.pairs.specs.declared.quantity.Quantity.{Quantity}
use Rattle.pairs.specs.declared.quantity.Quantity.TheVariants.{Slope, Value}
use Rattle.pairs.specs.declared.candidate.Candidate.{Candidate}
use Rattle.pairs.specs.declared.rising.Rising.{Rising}
use Rattle.pairs.specs.Low.{quantity_of, low_of_pair, Writes}
use Rattle.pairs.specs.Narrowest.{high_of_pair, LowBound, HighBound}
use Rattle.pairs.proofs.Written.{written_over, written_under}
use Rattle.questions.specs.Told.{Bounds}
use Rattle.questions.proofs.Slopes.{steepest, gentlest}

-- only the two numbers count
module _ (f : Line → Rational) (s : List Measurement) where
  abbrev LeastAs : ℤ → ℤ → Type 0
  LeastAs n d = ((l : Line) × Admissible s l × ((f l).num *ℤ d ≡ n *ℤ (f l).den)) × ((l : Line) → Admissible s l → (n *ℤ (f l).den) ≤ℤ ((f l).num *ℤ d))

  abbrev GreatestAs : ℤ → ℤ → Type 0
  GreatestAs n d = ((l : Line) × Admissible s l × ((f l).num *ℤ d ≡ n *ℤ (f l).den)) × ((l : Line) → Admissible s l → ((f l).num *ℤ d) ≤ℤ (n *ℤ (f l).den))

  module _ (b : Rational) (g : Fraction) (w : Writes g b) where
    pub least_written : Least f s b → Least f s (quantity g)
    least_written h = subst (λ n. LeastAs n (pos g.denominator)) (sym w.numerator) (subst (λ d. LeastAs b.num d) (sym w.denominator) h)

    pub greatest_written : Greatest f s b → Greatest f s (quantity g)
    greatest_written h = subst (λ n. GreatestAs n (pos g.denominator)) (sym w.numerator) (subst (λ d. GreatestAs b.num d) (sym w.denominator) h)

module _ (s : List Measurement) (line : Consistent s) (low high : Candidate) where
  least_told : (q : Quantity) → LowBound q s low → HighBound q s high → Least (quantity_of q) s (quantity low.bound)
  least_told Slope l h = least_written slope s _ low.bound l.writes (least_slope s line _ _ (steepest s low high l h))
  least_told (Value x) l h =
      value_least s x.value (quantity low.bound) line
      (pairs_greatest_low s x.value (quantity low.bound) _ _ l.first l.second low.pair.rises l.over (written_under low.bound _ l.writes))

  greatest_told : (q : Quantity) → LowBound q s low → HighBound q s high → Greatest (quantity_of q) s (quantity high.bound)
  greatest_told Slope l h = greatest_written slope s _ high.bound h.writes (greatest_slope s line _ _ (gentlest s low high l h))
  greatest_told (Value x) l h =
      value_greatest s x.value (quantity high.bound) line
      (pairs_least_high s x.value (quantity high.bound) _ _ h.first h.second high.pair.rises h.under (written_over high.bound _ h.writes))

  -- the denominator is the distance of two arguments
  low_few : (q : Quantity) (p : Rising) (f : Fraction) → Writes f (low_of_pair q p) → f.denominator ≤ 20000
  low_few Slope p f w = omega (arith, ints, w.denominator, p.first.argument.low, p.second.argument.high)
  low_few (Value x) p f w = omega (arith, ints, w.denominator, p.first.argument.low, p.second.argument.high)

  high_few : (q : Quantity) (p : Rising) (f : Fraction) → Writes f (high_of_pair q p) → f.denominator ≤ 20000
  high_few Slope p f w = omega (arith, ints, w.denominator, p.first.argument.low, p.second.argument.high)
  high_few (Value x) p f w = omega (arith, ints, w.denominator, p.first.argument.low, p.second.argument.high)

  pub bounds_told : (q : Quantity) → LowBound q s low → HighBound q s high → Bounds (quantity_of q) s low.bound high.bound
  bounds_told q l h = record {
    least = least_told q l h;
    greatest = greatest_told q l h;
    low_denominator = low_few q low.pair low.bound l.writes;
    high_denominator = high_few q high.pair high.bound h.writes;
  }
