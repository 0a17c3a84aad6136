-- What the places hold, and how one place more adds to it.
use Rattle.std.proofs.Common.{◌≡◌, ℕ, ◌+◌, ◌<◌, ◌⊎◌, List, [], ◌∷◌, ◌++◌, length, get_or, take, Some, None, sym, refl, ap, ◌∙◌, subst}
use Rattle.std.specs.List.{ContainsAt as Has, list_any}
use Rattle.std.specs.Prelude.{MatchBool, not}
use Rattle.std.proofs.lemmas.List.{append-nil, append_assoc, take_more}
use Rattle.std.proofs.ByRecursion.{has_push_cases}
use Rattle.lines.specs.Sheet.{Measurement}
use Rattle.lines.proofs.Members.{has_first}
use Rattle.places.specs.declared.place.Place.{Place}
use Rattle.places.specs.declared.place.Place.TheVariants.{Free, Open, Held}
use Rattle.places.specs.declared.sample.Sample.{Sample}
use Rattle.places.specs.Held.{held}
use Rattle.places.specs.Search.{is_held}
use Rattle.places.specs.Samples.{measured, sampled, adds}

pub held_cons : (p : Place) (ps : List Place) → held (p ∷ ps) ≡ adds (sampled p) ++ held ps
held_cons Free ps = refl
held_cons (Open serial argument) ps = refl
held_cons (Held serial argument reading set) ps = refl

pub held_push : (ps : List Place) (p : Place) → held (ps ++ p ∷ []) ≡ held ps ++ adds (sampled p)
held_push [] p = held_cons p [] ∙ append-nil (adds (sampled p))
held_push (q ∷ qs) p =
    held_cons q (qs ++ p ∷ []) ∙ ap (λ s. adds (sampled q) ++ s) (held_push qs p)
    ∙ sym (append_assoc (adds (sampled q)) (held qs) (adds (sampled p))) ∙ ap (λ s. s ++ adds (sampled p)) (sym (held_cons q qs))

module _ (ps : List Place) (n : ℕ) (lt : n < length ps) (d : Place) where
  pub held_more : held (take (n + 1) ps) ≡ held (take n ps) ++ adds (sampled (get_or ps n d))
  held_more = ap held (take_more ps n d lt) ∙ held_push (take n ps) (get_or ps n d)

  -- a place that holds nothing adds nothing
  pub held_same : sampled (get_or ps n d) ≡ None → held (take (n + 1) ps) ≡ held (take n ps)
  held_same none = held_more ∙ ap (λ o. held (take n ps) ++ adds o) none ∙ append-nil (held (take n ps))

  -- what is held up to there is held before, or here
  pub has_cases : (a : Sample) → sampled (get_or ps n d) ≡ Some a → (m : Measurement) → Has (held (take (n + 1) ps)) m → Has (held (take n ps)) m ⊎ (measured a ≡ m)
  has_cases a some m at = has_push_cases (held (take n ps)) (measured a) m (subst (λ s. Has s m) (held_more ∙ ap (λ o. held (take n ps) ++ adds o) some) at)

-- either nothing is held, or there is a measurement
pub nothing_held : (ps : List Place) → MatchBool (not (list_any is_held ps)) (held ps ≡ []) ((m : Measurement) × Has (held ps) m)
nothing_held [] = refl
nothing_held (Free ∷ ps) = nothing_held ps
nothing_held (Open serial argument ∷ ps) = nothing_held ps
nothing_held (Held serial argument reading set ∷ ps) = (_, has_first _ (held ps))
