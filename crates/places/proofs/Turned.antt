-- Measurements with the same parts are the same; what a mirrored sample and mirrored places hold.
use Rattle.std.proofs.Common.{◌≡◌, ℕ, ◌<◌, suc, List, [], ◌∷◌, ◌++◌, map, length, get_or, ℤ, neg_ℤ, ◌≤ℤ◌, refl, sym, ap, ◌∙◌, arith}
use mathlib.Core.HLevel.{is_prop→PathP}
use lib.Dec.{T_prop}
use lib.Signed.{le_z}
use Rattle.std.proofs.lemmas.List.{map-append}
use Rattle.lines.specs.Sheet.{Measurement}
use Rattle.lines.specs.Mirror.{mirrored}
use Rattle.places.specs.declared.place.Place.{Place}
use Rattle.places.specs.declared.sample.Sample.{Sample}
use Rattle.places.specs.Held.{held}
use Rattle.places.specs.Samples.{measured, sampled, adds}
use Rattle.places.proofs.Members.{held_cons}

≤ℤ_prop : (a b : ℤ) → IsProp (a ≤ℤ b)
≤ℤ_prop a b h k = λ i. record { le = T_prop (le_z a b) h.le k.le i }

pub same_measurement : (a b : Measurement) → a.serial ≡ b.serial → a.argument ≡ b.argument → a.lower ≡ b.lower → a.upper ≡ b.upper → a ≡ b
same_measurement a b s x l u = λ i. record {
  serial = s i;
  argument = x i;
  lower = l i;
  upper = u i;
  ordered = is_prop→PathP (λ i. l i ≤ℤ u i) (λ i. ≤ℤ_prop (l i) (u i)) a.ordered b.ordered i;
}

-- a sample of the same serial and argument with the opposite set is the mirrored measurement
pub turned_sample : (a b : Sample) → b.serial ≡ a.serial → b.argument ≡ a.argument → (b.set.lower ≡ neg_ℤ a.set.upper) × (b.set.upper ≡ neg_ℤ a.set.lower)
    → measured b ≡ mirrored (measured a)
turned_sample a b s x o = same_measurement (measured b) (mirrored (measured a)) s (ap (λ y. y.value) x) o.0 o.1

-- places that each hold what the ones of the same index hold, upside down
pub each_turned : (ps qs : List Place) → length qs ≡ length ps
    → ((i : ℕ) → i < length ps → (d : Place) → adds (sampled (get_or qs i d)) ≡ map mirrored (adds (sampled (get_or ps i d)))) → held qs ≡ map mirrored (held ps)
each_turned [] [] long each = refl
each_turned [] (q ∷ qs) long each = absurd (omega arith)
each_turned (p ∷ ps) [] long each = absurd (omega arith)
each_turned (p ∷ ps) (q ∷ qs) long each =
    let here = each 0 (omega arith) p in
    let rest = each_turned ps qs (omega arith) (λ i lt d. each (suc i) (omega arith) d) in
    held_cons q qs ∙ (λ i. here i ++ rest i) ∙ sym (map-append mirrored (adds (sampled p)) (held ps)) ∙ ap (map mirrored) (sym (held_cons p ps))
