-- When every two and every three measurements are consistent, all are.
use Rattle.std.proofs.Common.{◌≡◌, List, [], ◌∷◌, pos, ◌-ℤ◌, ◌*ℤ◌, ◌≤ℤ◌, ◌<ℤ◌, sym, ap, ⊎_elim, arith}
use Rattle.std.specs.List.{ContainsAt as Has}
use Rattle.std.proofs.lemmas.Int.{by_lt_z}
use Rattle.std.proofs.ByRecursion.{all_has_itself}
use Rattle.algebra.proofs.Ring.{linear, times_grows}
use Rattle.lines.specs.Sheet.{Measurement, Consistent}
use Rattle.lines.specs.Slopes.{PairsMeet, LowChord, HighChord}
use Rattle.lines.proofs.Slopes.{level, consistent_pairs_meet}
use Rattle.lines.proofs.Consistency.{consistent_flat, low_reached}
use Rattle.lines.proofs.Triples.{consistent_low, consistent_high}
use Rattle.lines.proofs.Named.{inside, around, before, after}
use Rattle.lines.proofs.Steepest.{steepest_low}

-- every three keep both chords
abbrev pub ChordsKept : List Measurement → Type 0
ChordsKept s = (a b c : Measurement) → Has s a → Has s b → Has s c → a.argument <ℤ b.argument → b.argument <ℤ c.argument → LowChord a b c × HighChord a b c

module _ (s : List Measurement) (meet : PairsMeet s) (kept : ChordsKept s) where
  -- the chords where the middle one may share its argument with another
  module _ (a b c : Measurement) (atA : Has s a) (at_b : Has s b) (atC : Has s c) (ab : a.argument ≤ℤ b.argument) (bc : b.argument ≤ℤ c.argument) where
    chords : LowChord a b c × HighChord a b c
    chords =
        let w = c.argument -ℤ a.argument in
        let wide : pos 0 ≤ℤ w = omega (arith, linear) in
        by_lt_z a.argument b.argument
        (λ lt. by_lt_z b.argument c.argument (kept a b c atA at_b atC lt)
        (λ le. let e : b.argument ≡ c.argument = omega (arith, linear) in (
          omega (arith, linear, times_grows w wide (meet c b atC at_b (sym e)), level a.lower c b (sym e), ap (λ x. c.lower *ℤ (x -ℤ a.argument)) e),
          omega (arith, linear, times_grows w wide (meet b c at_b atC e), level a.upper c b (sym e), ap (λ x. c.upper *ℤ (x -ℤ a.argument)) e),
        )))
        (λ le. let e : a.argument ≡ b.argument = omega (arith, linear) in (
          omega (arith, linear, times_grows w wide (meet a b atA at_b e), level c.lower b a (sym e), ap (λ x. a.lower *ℤ (c.argument -ℤ x)) e),
          omega (arith, linear, times_grows w wide (meet b a at_b atA (sym e)), level c.upper b a (sym e), ap (λ x. a.upper *ℤ (c.argument -ℤ x)) e),
        ))

  pub chords_consistent : Consistent s
  chords_consistent = ⊎_elim (consistent_flat s meet) (λ top.
      let (j, i, low) = top in let ji = low.rises in let atJ = low.first in let atI = low.second in
      let (l, ok, _) = low_reached s meet j i low (λ k m atK atM km.
      by_lt_z i.argument m.argument
      (λ im. let first = (chords j i m atJ atI atM (omega (arith, linear)) (omega (arith, linear))).1 in
      by_lt_z k.argument j.argument
      (λ kj. around j i k m ji km first (chords k j i atK atJ atI (omega (arith, linear)) (omega (arith, linear))).0)
      (λ jk. after j i k m ji km im first (chords j k m atJ atK atM (omega (arith, linear)) (omega (arith, linear))).1))
      (λ mi. let first = (chords k m i atK atM atI (omega (arith, linear)) (omega (arith, linear))).0 in
      by_lt_z k.argument j.argument
      (λ kj. before j i k m ji km kj first (chords k j i atK atJ atI (omega (arith, linear)) (omega (arith, linear))).0)
      (λ jk. inside j i k m ji km first (chords j k m atJ atK atM (omega (arith, linear)) (omega (arith, linear))).1))) in
      (l, ok)) (steepest_low s)

pub two_and_three : (s : List Measurement) → ((a b : Measurement) → Has s a → Has s b → Consistent (a ∷ b ∷ []))
    → ((a b c : Measurement) → Has s a → Has s b → Has s c → Consistent (a ∷ b ∷ c ∷ [])) → Consistent s
two_and_three s two three = chords_consistent s
    (λ a b atA at_b. let (in_a, (in_b, _)) = all_has_itself (a ∷ b ∷ []) in consistent_pairs_meet (a ∷ b ∷ []) (two a b atA at_b) a b in_a in_b)
    (λ a b c atA at_b atC ab bc. let together = three a b c atA at_b atC in
    (consistent_low a b c (omega (arith, linear)) (omega (arith, linear)) together, consistent_high a b c (omega (arith, linear)) (omega (arith, linear)) together))
