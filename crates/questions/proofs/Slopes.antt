-- What the narrowest slopes tell of a sheet whose measurements at one argument meet.
use Rattle.std.proofs.Common.{◌≡◌, Bool, true, false, List, [], ◌∷◌, sym}
use Rattle.std.specs.List.{ContainsAt as Has, AllByRecursion as All}
use Rattle.std.proofs.ByRecursion.{all-has, All-weaker}
use Rattle.std.specs.Ordering.{is_le}
use Rattle.rational.specs.Rational.{◌≺◌, compare}
use Rattle.rational.proofs.Order.{tested, failed, ≼_trans, ≺-≼-trans, ≼-≺-trans}
use Rattle.exact.specs.Quantity.{quantity}
use Rattle.refusal.specs.declared.conflict.Conflict.{Conflict as Naming}
use Rattle.lines.specs.Sheet.{Measurement, Consistent, Conflict}
use Rattle.lines.specs.Slopes.{low_slope, high_slope, SteepestLow, GentlestHigh, PairsMeet}
use Rattle.lines.proofs.Consistency.{consistent_steep, steep_conflict}
use Rattle.lines.proofs.Pairs.{pairs_consistent}
use Rattle.places.specs.Samples.{measured}
use Rattle.pairs.specs.declared.quantity.Quantity.TheVariants.{Slope}
use Rattle.pairs.specs.declared.candidate.Candidate.{Candidate}
use Rattle.pairs.specs.Low.{low_of_pair}
use Rattle.pairs.specs.Narrowest.{high_of_pair, LowBound, HighBound}
use Rattle.pairs.proofs.Written.{written_over, written_under}
use Rattle.questions.specs.Told.{Named}
use Rattle.questions.specs.Naming.{Broken, four}
use Rattle.questions.proofs.Serials.{named_three}

module _ (s : List Measurement) (low high : Candidate) (l : LowBound Slope s low) (h : HighBound Slope s high) where
  pub steepest : SteepestLow s (measured low.pair.first) (measured low.pair.second)
  steepest = record {
    first = l.first;
    second = l.second;
    rises = low.pair.rises;
    steepest = λ a b atA at_b k. ≼_trans (low_slope a b k) (quantity low.bound) (low_of_pair Slope low.pair) (l.over a b atA at_b k) (written_under low.bound _ l.writes);
  }

  pub gentlest : GentlestHigh s (measured high.pair.first) (measured high.pair.second)
  gentlest = record {
    first = h.first;
    second = h.second;
    rises = high.pair.rises;
    gentlest = λ a b atA at_b k. ≼_trans (high_of_pair Slope high.pair) (quantity high.bound) (high_slope a b k) (written_over high.bound _ h.writes) (h.under a b atA at_b k);
  }

  -- the test of the two bounds
  abbrev test : Bool
  test = is_le (compare (quantity low.bound) (quantity high.bound))

  above : false ≡ test → quantity high.bound ≺ quantity low.bound
  above e = failed (quantity low.bound) (quantity high.bound) (sym e)

  over : false ≡ test → high_of_pair Slope high.pair ≺ low_of_pair Slope low.pair
  over e =
      ≼-≺-trans (high_of_pair Slope high.pair) (quantity high.bound) (low_of_pair Slope low.pair) (written_over high.bound _ h.writes)
      (≺-≼-trans (quantity high.bound) (quantity low.bound) (low_of_pair Slope low.pair) (above e) (written_under low.bound _ l.writes))

  module _ (meet : PairsMeet s) where
    pub slopes_line : true ≡ test → Consistent s
    slopes_line e =
        consistent_steep s meet _ _ _ _ steepest gentlest
        (≼_trans (low_of_pair Slope low.pair) (quantity low.bound) (high_of_pair Slope high.pair) (written_over low.bound _ l.writes)
        (≼_trans (quantity low.bound) (quantity high.bound) (high_of_pair Slope high.pair) (tested (quantity low.bound) (quantity high.bound) (sym e)) (written_under high.bound _ h.writes)))

    pub slopes_named : (r : Naming) → false ≡ test → Broken (four low.pair high.pair) r → Conflict s × Named s r
    slopes_named r e b =
        let t = four low.pair high.pair in
        let in_s : All (Has s) t = (l.first, (l.second, (h.first, (h.second, tt)))) in
        let three = b.a ∷ b.b ∷ b.c ∷ [] in (
          steep_conflict s _ _ _ _ steepest gentlest (over e),
          named_three s (pairs_consistent s meet) b.a b.b b.c r (All-weaker (Has t) (Has s) (λ m at. all-has (Has s) t m in_s at) three b.among) b.conflict b.names,
        )
