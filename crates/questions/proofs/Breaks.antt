-- Which three of the four conflict.
use Rattle.std.proofs.Common.{List, [], ◌∷◌, ◌≤ℤ◌, ◌<ℤ◌, arith}
use Rattle.std.proofs.ByRecursion.{all_has_itself}
use Rattle.algebra.proofs.Ring.{linear}
use Rattle.rational.specs.Rational.{◌≺◌}
use Rattle.refusal.specs.declared.conflict.Conflict.{Conflict as Naming}
use Rattle.lines.specs.Sheet.{Measurement}
use Rattle.lines.specs.Slopes.{Rises, low_slope, high_slope, LowChord}
use Rattle.lines.specs.Mirror.{mirrored}
use Rattle.lines.proofs.Triples.{broken_low, broken_high}
use Rattle.lines.proofs.Named.{conflict_inside, conflict_before, conflict_around, conflict_after}
use Rattle.questions.specs.Naming.{NamesThree, ChordAbove, Broken}
use Rattle.questions.proofs.Chords.{high_kept, high_broken}

module _ (j i k m : Measurement) (r : Naming) (ji : Rises j i) (km : Rises k m) (over : high_slope k m km ≺ low_slope j i ji) where
  abbrev t : List Measurement
  t = j ∷ i ∷ k ∷ m ∷ []

  pub low_named : m.argument ≤ℤ i.argument → ChordAbove k m i → NamesThree k m i r → Broken t r
  low_named mi above names =
      let (atJ, (atI, (atK, (atM, _)))) = all_has_itself t in
      record { a = k; b = m; c = i; among = (atK, (atM, (atI, tt))); conflict = broken_low k m i (omega (arith, linear)) mi above; names = names }

  pub high_named : i.argument <ℤ m.argument → ChordAbove (mirrored j) (mirrored i) (mirrored m) → NamesThree j i m r → Broken t r
  high_named im above names =
      let (atJ, (atI, (atK, (atM, _)))) = all_has_itself t in
      record {
        a = j;
        b = i;
        c = m;
        among = (atJ, (atI, (atM, tt)));
        conflict = broken_high j i m (omega (arith, linear)) (omega (arith, linear)) (high_broken j i m above);
        names = names;
      }

  module _ (jk : j.argument ≤ℤ k.argument) (names : NamesThree j k m r) where
    pub inside_named : LowChord k m i → Broken t r
    inside_named chord =
        let (atJ, (atI, (atK, (atM, _)))) = all_has_itself t in
        record { a = j; b = k; c = m; among = (atJ, (atK, (atM, tt))); conflict = conflict_inside j i k m ji km over jk chord; names = names }

    pub after_named : i.argument <ℤ m.argument → LowChord (mirrored j) (mirrored i) (mirrored m) → Broken t r
    after_named im chord =
        let (atJ, (atI, (atK, (atM, _)))) = all_has_itself t in
        record { a = j; b = k; c = m; among = (atJ, (atK, (atM, tt))); conflict = conflict_after j i k m ji km over jk im (high_kept j i m chord); names = names }

  module _ (kj : k.argument <ℤ j.argument) (names : NamesThree k j i r) where
    pub before_named : LowChord k m i → Broken t r
    before_named chord =
        let (atJ, (atI, (atK, (atM, _)))) = all_has_itself t in
        record { a = k; b = j; c = i; among = (atK, (atJ, (atI, tt))); conflict = conflict_before j i k m ji km over kj chord; names = names }

    pub around_named : LowChord (mirrored j) (mirrored i) (mirrored m) → Broken t r
    around_named chord =
        let (atJ, (atI, (atK, (atM, _)))) = all_has_itself t in
        record { a = k; b = j; c = i; among = (atK, (atJ, (atI, tt))); conflict = conflict_around j i k m ji km over kj (high_kept j i m chord); names = names }
