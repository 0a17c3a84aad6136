-- Three measurements: a line that meets them keeps both chords, and the chords of three at a time keep a low slope under a high one.
use Rattle.std.proofs.Common.{[], ◌∷◌, pos, ◌+ℤ◌, ◌-ℤ◌, ◌*ℤ◌, ◌≤ℤ◌, ◌<ℤ◌, arith}
use Rattle.std.proofs.ByRecursion.{all_has_itself}
use Rattle.algebra.proofs.Ring.{linear}
use Rattle.algebra.proofs.Normal.{var, con, ◌⊕◌, ◌⊖◌, ◌⊗◌, adds_up}
use Rattle.rational.specs.Rational.{◌≼◌, whole}
use Rattle.rational.specs.Line.{Line, value_at}
use Rattle.lines.specs.Sheet.{Measurement, Consistent, Conflict}
use Rattle.lines.specs.Slopes.{LowChord, HighChord}

-- the line does not pass below the set, or not above it
abbrev pub Over : Line → Measurement → Type 0
Over l m = whole m.lower ≼ value_at l m.argument

abbrev pub Under : Line → Measurement → Type 0
Under l m = value_at l m.argument ≼ whole m.upper

module _ (l : Line) (a b c : Measurement) (ab : a.argument ≤ℤ b.argument) (bc : b.argument ≤ℤ c.argument) where
  pub low_chord : Over l a → Under l b → Over l c → LowChord a b c
  low_chord overA underB overC =
      let p = var 0 in let q = var 1 in let d = var 2 in let xa = var 3 in let xb = var 4 in let xc = var 5 in
      let la = var 6 in let ub = var 7 in let lc = var 8 in let one = con (pos 1) in
      adds_up (l.p ∷ l.q ∷ l.d ∷ a.argument ∷ b.argument ∷ c.argument ∷ a.lower ∷ b.upper ∷ c.lower ∷ []) d
      (la ⊗ (xc ⊖ xb) ⊕ lc ⊗ (xb ⊖ xa)) (ub ⊗ (xc ⊖ xa))
      ((xc ⊖ xb, la ⊗ d, (p ⊗ xa ⊕ q) ⊗ one) ∷ (xb ⊖ xa, lc ⊗ d, (p ⊗ xc ⊕ q) ⊗ one) ∷ (xc ⊖ xa, (p ⊗ xb ⊕ q) ⊗ one, ub ⊗ d) ∷ [])
      tt l.above (omega (arith, linear), overA, (omega (arith, linear), overC, (omega (arith, linear), underB, tt)))

  pub high_chord : Under l a → Over l b → Under l c → HighChord a b c
  high_chord underA overB underC =
      let p = var 0 in let q = var 1 in let d = var 2 in let xa = var 3 in let xb = var 4 in let xc = var 5 in
      let ua = var 6 in let lb = var 7 in let uc = var 8 in let one = con (pos 1) in
      adds_up (l.p ∷ l.q ∷ l.d ∷ a.argument ∷ b.argument ∷ c.argument ∷ a.upper ∷ b.lower ∷ c.upper ∷ []) d
      (lb ⊗ (xc ⊖ xa)) (ua ⊗ (xc ⊖ xb) ⊕ uc ⊗ (xb ⊖ xa))
      ((xc ⊖ xa, lb ⊗ d, (p ⊗ xb ⊕ q) ⊗ one) ∷ (xc ⊖ xb, (p ⊗ xa ⊕ q) ⊗ one, ua ⊗ d) ∷ (xb ⊖ xa, (p ⊗ xc ⊕ q) ⊗ one, uc ⊗ d) ∷ [])
      tt l.above (omega (arith, linear), overB, (omega (arith, linear), underA, (omega (arith, linear), underC, tt)))

module _ (a b c : Measurement) (ab : a.argument ≤ℤ b.argument) (bc : b.argument ≤ℤ c.argument) where
  pub consistent_low : Consistent (a ∷ b ∷ c ∷ []) → LowChord a b c
  consistent_low (l, ok) =
      let (atA, (at_b, (atC, _))) = all_has_itself (a ∷ b ∷ c ∷ []) in low_chord l a b c ab bc (ok a atA).0 (ok b at_b).1 (ok c atC).0

  pub consistent_high : Consistent (a ∷ b ∷ c ∷ []) → HighChord a b c
  consistent_high (l, ok) =
      let (atA, (at_b, (atC, _))) = all_has_itself (a ∷ b ∷ c ∷ []) in high_chord l a b c ab bc (ok a atA).1 (ok b at_b).0 (ok c atC).1

  -- a chord that passes the middle one shows a conflict
  pub broken_low : (b.upper *ℤ (c.argument -ℤ a.argument)) <ℤ (a.lower *ℤ (c.argument -ℤ b.argument) +ℤ c.lower *ℤ (b.argument -ℤ a.argument))
      → Conflict (a ∷ b ∷ c ∷ [])
  broken_low broken together = omega (arith, linear, consistent_low together)

  pub broken_high : (a.upper *ℤ (c.argument -ℤ b.argument) +ℤ c.upper *ℤ (b.argument -ℤ a.argument)) <ℤ (b.lower *ℤ (c.argument -ℤ a.argument))
      → Conflict (a ∷ b ∷ c ∷ [])
  broken_high broken together = omega (arith, linear, consistent_high together)
