-- A low slope passes a high slope only where three of the four measurements conflict, and the chords name them.
use Rattle.std.proofs.Common.{List, [], ◌∷◌, ℤ, ◌≤ℤ◌, ◌<ℤ◌, arith}
use Rattle.algebra.proofs.Ring.{linear, ring}
use Rattle.algebra.proofs.Normal.{var, ◌⊕◌, ◌⊖◌, ◌⊗◌, adds_up}
use Rattle.rational.specs.Rational.{◌≼◌, ◌≺◌}
use Rattle.lines.specs.Sheet.{Measurement, Conflict}
use Rattle.lines.specs.Slopes.{Rises, low_slope, high_slope, LowChord, HighChord}
use Rattle.lines.proofs.Triples.{consistent_low, consistent_high}

-- the low slope of j and i, the high slope of k and m; by which of the pairs begins and which ends first
module _ (j i k m : Measurement) (ji : Rises j i) (km : Rises k m) where
  abbrev pub Keeps : Type 0
  Keeps = low_slope j i ji ≼ high_slope k m km

  abbrev variables : List ℤ
  variables = j.argument ∷ i.argument ∷ k.argument ∷ m.argument ∷ j.upper ∷ i.lower ∷ k.lower ∷ m.upper ∷ []

  pub inside : LowChord k m i → HighChord j k m → Keeps
  inside f g = simp ring (omega (arith, linear, simp ring at f, simp ring at g))

  pub around : HighChord j i m → LowChord k j i → Keeps
  around f g = simp ring (omega (arith, linear, simp ring at f, simp ring at g))

  pub before : k.argument <ℤ j.argument → LowChord k m i → LowChord k j i → Keeps
  before kj f g =
      let xj = var 0 in let xi = var 1 in let xk = var 2 in let xm = var 3 in let uj = var 4 in let li = var 5 in let lk = var 6 in let um = var 7 in
      adds_up variables (xi ⊖ xk) ((li ⊖ uj) ⊗ (xm ⊖ xk)) ((um ⊖ lk) ⊗ (xi ⊖ xj))
      ((xi ⊖ xj, lk ⊗ (xi ⊖ xm) ⊕ li ⊗ (xm ⊖ xk), um ⊗ (xi ⊖ xk)) ∷ (xm ⊖ xk, lk ⊗ (xi ⊖ xj) ⊕ li ⊗ (xj ⊖ xk), uj ⊗ (xi ⊖ xk)) ∷ [])
      tt (omega (arith, linear)) (omega (arith, linear), f, (omega (arith, linear), g, tt))

  pub after : i.argument <ℤ m.argument → HighChord j i m → HighChord j k m → Keeps
  after im f g =
      let xj = var 0 in let xi = var 1 in let xk = var 2 in let xm = var 3 in let uj = var 4 in let li = var 5 in let lk = var 6 in let um = var 7 in
      adds_up variables (xm ⊖ xj) ((li ⊖ uj) ⊗ (xm ⊖ xk)) ((um ⊖ lk) ⊗ (xi ⊖ xj))
      ((xm ⊖ xk, li ⊗ (xm ⊖ xj), uj ⊗ (xm ⊖ xi) ⊕ um ⊗ (xi ⊖ xj)) ∷ (xi ⊖ xj, lk ⊗ (xm ⊖ xj), uj ⊗ (xm ⊖ xk) ⊕ um ⊗ (xk ⊖ xj)) ∷ [])
      tt (omega (arith, linear)) (omega (arith, linear), f, (omega (arith, linear), g, tt))

  -- where the low slope is over the high slope and one triple of the four keeps its chord, the other conflicts
  module _ (over : high_slope k m km ≺ low_slope j i ji) where
    pub conflict_inside : j.argument ≤ℤ k.argument → LowChord k m i → Conflict (j ∷ k ∷ m ∷ [])
    conflict_inside jk f together = omega (arith, linear, inside f (consistent_high j k m jk (omega (arith, linear)) together))

    pub conflict_around : k.argument <ℤ j.argument → HighChord j i m → Conflict (k ∷ j ∷ i ∷ [])
    conflict_around kj f together = omega (arith, linear, around f (consistent_low k j i (omega (arith, linear)) (omega (arith, linear)) together))

    pub conflict_before : k.argument <ℤ j.argument → LowChord k m i → Conflict (k ∷ j ∷ i ∷ [])
    conflict_before kj f together = omega (arith, linear, before kj f (consistent_low k j i (omega (arith, linear)) (omega (arith, linear)) together))

    pub conflict_after : j.argument ≤ℤ k.argument → i.argument <ℤ m.argument → HighChord j i m → Conflict (j ∷ k ∷ m ∷ [])
    conflict_after jk im f together = omega (arith, linear, after im f (consistent_high j k m jk (omega (arith, linear)) together))
