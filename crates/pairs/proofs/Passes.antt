-- What a pass over all pairs keeps.
use Rattle.std.proofs.Common.{◌≡◌, ℕ, ◌+◌, ◌<◌, ◌≤◌, List, length, get_or, Some, None, Option, arith}
use Rattle.std.specs.List.{ContainsAt as Has}
use Rattle.rational.specs.Rational.{Rational}
use Rattle.lines.specs.Sheet.{Measurement}
use Rattle.places.specs.declared.place.Place.{Place}
use Rattle.places.specs.declared.sample.Sample.{Sample}
use Rattle.places.specs.Held.{held}
use Rattle.places.specs.Samples.{measured, sampled}
use Rattle.places.proofs.Rows.{Row, row_more, row_all, has_here}
use Rattle.pairs.specs.declared.quantity.Quantity.{Quantity}
use Rattle.pairs.specs.declared.candidate.Candidate.{Candidate}
use Rattle.pairs.specs.Low.{low_of}
use Rattle.pairs.specs.Best.{Below, Among, Covers, GreatestLow, Looked}
use Rattle.pairs.proofs.Looking.{looked_among}

module _ (q : Quantity) (ps : List Place) where
  -- the best covers the pairs of x with all that is held
  abbrev Done : Option Candidate → Measurement → Type 0
  Done best x = (y : Measurement) → Has (held ps) y → Covers q best x y

  -- the best covers the first m rows; that there are 64 places is seen once one is read
  pub record Sofar (m : ℕ) (best : Option Candidate) : Type 0 where
    pub among : Among q (held ps) best
    pub rows : Row (Done best) ps m
    pub long : 0 < m → length ps ≡ 64

  -- the best covers what the one before covered, and the first n of the row of a
  pub record Within (before : Option Candidate) (a : Sample) (n : ℕ) (best : Option Candidate) : Type 0 where
    pub among : Among q (held ps) best
    pub keeps : (x : Rational) → Below x before → Below x best
    pub row : Row (Covers q best (measured a)) ps n

  pub finish : (m : ℕ) (best : Option Candidate) → 64 ≤ m → Sofar m best → GreatestLow q (held ps) best
  finish m best full s = record {
    among = s.among;
    covers = λ a b atA. row_all (Done best) ps m (omega (arith, s.long (omega arith))) s.rows a atA b;
  }

  module _ (m : ℕ) (before : Option Candidate) (long : length ps ≡ 64) (lt : m < 64) (d : Place) (s : Sofar m before) where
    pub skip_row : None ≡ sampled (get_or ps m d) → Sofar (m + 1) before
    skip_row is = record { among = s.among; rows = row_more (Done before) ps m d None (omega arith) is tt s.rows; long = λ more. long }

    module _ (a : Sample) (is : Some a ≡ sampled (get_or ps m d)) where
      pub end_row : (n : ℕ) (best : Option Candidate) → 64 ≤ n → Within before a n best → Sofar (m + 1) best
      end_row n best full w = record {
        among = w.among;
        rows = row_more (Done best) ps m d (Some a) (omega arith) is (row_all (Covers q best (measured a)) ps n (omega arith) w.row)
            (λ x atX y atY h. w.keeps (low_of q x y h) (s.rows x atX y atY h));
        long = λ more. long;
      }

      module _ (n : ℕ) (best : Option Candidate) (w : Within before a n best) (in-row : n < 64) (e : Place) where
        pub skip : None ≡ sampled (get_or ps n e) → Within before a (n + 1) best
        skip none = record { among = w.among; keeps = w.keeps; row = row_more (Covers q best (measured a)) ps n e None (omega arith) none tt w.row }

        pub step : (r : Option Candidate) (b : Sample) → Some b ≡ sampled (get_or ps n e) → Looked q best a b r → Within before a (n + 1) r
        step r b some look = record {
          among = looked_among q best a b (held ps) (has_here ps m d a (omega arith) is) (has_here ps n e b (omega arith) some) r look w.among;
          keeps = λ x under. look.keeps x (w.keeps x under);
          row = row_more (Covers q r (measured a)) ps n e (Some b) (omega arith) some look.covers (λ y atY h. look.keeps (low_of q (measured a) y h) (w.row y atY h));
        }
