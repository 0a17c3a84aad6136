-- Chords as they are computed, and the high chord as the low chord upside down.
use Rattle.std.proofs.Common.{◌≡◌, Bool, true, false, ℤ, pos, ◌+ℤ◌, ◌-ℤ◌, ◌*ℤ◌, neg_ℤ, ◌≤ℤ◌, ◌<ℤ◌, MatchBool, refl, ap, ◌∙◌, subst, arith, w32, w64, to_z, of_z}
use lib.Signed.{le_z, lt_z}
use Rattle.std.proofs.lemmas.Int.{ints}
use Rattle.algebra.proofs.Ring.{linear, neg_left}
use Rattle.exact.specs.declared.argument.Argument.{Argument}
use Rattle.exact.proofs.Products.{within}
use Rattle.lines.specs.Sheet.{Measurement}
use Rattle.lines.specs.Slopes.{LowChord, HighChord}
use Rattle.lines.specs.Mirror.{mirrored}
use Rattle.pairs.proofs.Sizes.{Small, distance, summed, sum_cast}
use Rattle.questions.specs.Naming.{ChordAbove}

pub record End (e : ℤ) : Type 0 where
  pub low : neg_ℤ (pos 100000000) ≤ℤ e
  pub high : e ≤ℤ pos 100000000

-- an end times the distance of two arguments, as it is told
module _ (e : ℤ) (from to : Argument) (y : ℤ) (end : End e) (told : y ≡ to_z w32 (of_z w32 e) *ℤ (to.value -ℤ from.value)) where
  pub times_is : y ≡ e *ℤ (to.value -ℤ from.value)
  times_is = let same : to_z w32 (of_z w32 e) ≡ e = omega (arith, ints, end.low, end.high) in told ∙ ap (λ z. z *ℤ (to.value -ℤ from.value)) same

  pub times_small : Small y
  times_small =
      let w = distance to from in
      let h = within e (to.value -ℤ from.value) (pos 100000000) (pos 20000) end.low end.high w.low w.high in
      record { low = omega (arith, linear, times_is); high = omega (arith, linear, times_is) }

-- arguments as they are compared
module _ (a b : Argument) where
  abbrev test : Bool
  test = le_z (to_z w32 (of_z w32 a.value)) (to_z w32 (of_z w32 b.value))

  pub tested : test ≡ true → a.value ≤ℤ b.value
  tested e = omega (arith, ints, a.low, a.high, b.low, b.high)

  pub failed : test ≡ false → b.value <ℤ a.value
  failed e = omega (arith, ints, a.low, a.high, b.low, b.high)

when_less : (p q : ℤ) (P Q : Type 0) → (p <ℤ q → P) → (q ≤ℤ p → Q) → MatchBool (lt_z p q) P Q
when_less p q P Q yes' no' = by (lt_z p q) refl
  where
    by : (t : Bool) → lt_z p q ≡ t → MatchBool t P Q
    by true e = yes' (omega (arith, ints))
    by false e = no' (omega (arith, ints))

pub chord_told : (a b c : Measurement) (y z w : ℤ) → Small y → Small z → Small w
    → y ≡ a.lower *ℤ (c.argument -ℤ b.argument) → z ≡ c.lower *ℤ (b.argument -ℤ a.argument) → w ≡ b.upper *ℤ (c.argument -ℤ a.argument)
    → MatchBool (lt_z (to_z w64 (of_z w64 w)) (to_z w64 (of_z w64 (to_z w64 (of_z w64 y) +ℤ to_z w64 (of_z w64 z))))) (ChordAbove a b c) (LowChord a b c)
chord_told a b c y z w sy sz sw ey ez ew =
    let sum = sum_cast y z sy sz in
    let same : to_z w64 (of_z w64 w) ≡ w = omega (arith, ints, sw.low, sw.high) in
    when_less (to_z w64 (of_z w64 w)) (to_z w64 (of_z w64 (summed y z sy sz))) (ChordAbove a b c) (LowChord a b c) (λ lt. omega (arith, linear, lt, sum, same, ey, ez, ew)) (λ le. omega (arith, linear, le, sum, same, ey, ez, ew))

module _ (a b c : Measurement) where
  pub high_kept : LowChord (mirrored a) (mirrored b) (mirrored c) → HighChord a b c
  high_kept h = omega (arith, linear, h, neg_left a.upper (c.argument -ℤ b.argument), neg_left c.upper (b.argument -ℤ a.argument), neg_left b.lower (c.argument -ℤ a.argument))

  pub high_broken : ChordAbove (mirrored a) (mirrored b) (mirrored c)
      → (a.upper *ℤ (c.argument -ℤ b.argument) +ℤ c.upper *ℤ (b.argument -ℤ a.argument)) <ℤ (b.lower *ℤ (c.argument -ℤ a.argument))
  high_broken h = omega (arith, linear, h, neg_left a.upper (c.argument -ℤ b.argument), neg_left c.upper (b.argument -ℤ a.argument), neg_left b.lower (c.argument -ℤ a.argument))

-- of three measurements that are known by another name
pub renamed : (R : Measurement → Measurement → Measurement → Type 0) (a b c x y z : Measurement) → x ≡ a → y ≡ b → z ≡ c → R x y z → R a b c
renamed R a b c x y z ea eb ec h = subst (λ u. R u b c) ea (subst (λ v. R x v c) eb (subst (λ w. R x y w) ec h))
