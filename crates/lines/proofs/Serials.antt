-- The measurements named in a conflict are different ones.
use Rattle.std.proofs.Common.{◌≢◌, List, [], ◌∷◌, pos, ◌<ℤ◌, subst, arith}
use lib.IntN.{zero-*ℤ}
use Rattle.std.specs.List.{ContainsAt as Has}
use Rattle.std.proofs.ByRecursion.{all-has, all_has_itself}
use Rattle.algebra.proofs.Ring.{linear, one_right}
use Rattle.lines.specs.Sheet.{Measurement, Meets, Consistent, Conflict}
use Rattle.lines.specs.Serials.{DistinctSerials}
use Rattle.lines.proofs.Possible.{drawn, meets_in}
use Rattle.lines.proofs.Parts.{consistent_part}

-- a level line meets it
pub alone : (a : Measurement) → Consistent (a ∷ [])
alone a =
    let above : pos 0 <ℤ pos 1 = omega (arith, linear) in
    let flat = drawn (pos 0) (pos 1) above a.lower in
    let met = meets_in (pos 0) (pos 1) above a.lower a
    (omega (arith, linear, zero-*ℤ a.argument, one_right a.lower)) (omega (arith, linear, zero-*ℤ a.argument, one_right a.upper)) in
    (flat, λ m at. all-has (Meets flat) (a ∷ []) m (met, tt) at)

module _ (s : List Measurement) (distinct : DistinctSerials s) where
  pub two_differ : (a b : Measurement) → Has s a → Has s b → Conflict (a ∷ b ∷ []) → a.serial ≢ b.serial
  two_differ a b atA at_b never e =
      let t = a ∷ [] in let in_a = (all_has_itself t).0 in
      never (consistent_part t (a ∷ b ∷ []) (in_a, (subst (Has t) (distinct a b atA at_b e) in_a, tt)) (alone a))

  pub three_differ : ((a b : Measurement) → Has s a → Has s b → Consistent (a ∷ b ∷ []))
      → (a b c : Measurement) → Has s a → Has s b → Has s c → Conflict (a ∷ b ∷ c ∷ []) → (a.serial ≢ b.serial) × (a.serial ≢ c.serial) × (b.serial ≢ c.serial)
  three_differ two a b c atA at_b atC never = (
    (λ e. let t = a ∷ c ∷ [] in let (in_a, (in_c, _)) = all_has_itself t in
        never (consistent_part t (a ∷ b ∷ c ∷ []) (in_a, (subst (Has t) (distinct a b atA at_b e) in_a, (in_c, tt))) (two a c atA atC))),
    (λ e. let t = a ∷ b ∷ [] in let (in_a, (in_b, _)) = all_has_itself t in
        never (consistent_part t (a ∷ b ∷ c ∷ []) (in_a, (in_b, (subst (Has t) (distinct a c atA atC e) in_a, tt))) (two a b atA at_b))),
    (λ e. let t = a ∷ b ∷ [] in let (in_a, (in_b, _)) = all_has_itself t in
        never (consistent_part t (a ∷ b ∷ c ∷ []) (in_a, (in_b, (subst (Has t) (distinct b c at_b atC e) in_b, tt))) (two a b atA at_b))),
  )
