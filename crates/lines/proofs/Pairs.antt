-- Two measurements conflict exactly when they have one argument and their sets lie apart.
use Rattle.std.proofs.Common.{◌≡◌, ◌⊎◌, ◌↔◌, List, [], ◌∷◌, pos, ◌+ℤ◌, ◌-ℤ◌, ◌*ℤ◌, ◌≤ℤ◌, ◌<ℤ◌, sym, refl, ◌∙◌, inl, inr, ⊎_elim, arith}
use Rattle.std.specs.List.{ContainsAt as Has}
use Rattle.std.proofs.lemmas.Int.{by_lt_z}
use Rattle.std.proofs.ByRecursion.{all-has, all_has_itself}
use Rattle.algebra.proofs.Ring.{linear, ring, times_grows}
use Rattle.lines.specs.Sheet.{Measurement, Meets, Consistent, Conflict}
use Rattle.lines.specs.Slopes.{Rises, PairsMeet}
use Rattle.lines.proofs.Possible.{drawn, meets_in}
use Rattle.lines.proofs.Slopes.{consistent_pairs_meet}
use Rattle.lines.proofs.Parts.{consistent_part}
use Rattle.lines.proofs.Consistency.{consistent_flat}

-- the line through the lower ends
through : (a b : Measurement) → Rises a b → Consistent (a ∷ b ∷ [])
through a b h =
    let p = b.lower -ℤ a.lower in
    let d = b.argument -ℤ a.argument in
    let q = a.lower *ℤ d -ℤ p *ℤ a.argument in
    let above : pos 0 <ℤ d = omega (arith, linear) in
    let wide : (m : Measurement) → (m.lower *ℤ d) ≤ℤ (m.upper *ℤ d) = λ m. times_grows d (omega (arith, linear)) m.ordered in
    let rise : p *ℤ b.argument +ℤ q ≡ b.lower *ℤ d = simp ring (omega (arith, linear)) in (
      drawn p d above q,
      λ m at. all-has (Meets (drawn p d above q)) (a ∷ b ∷ []) m (
        meets_in p d above q a (omega (arith, linear)) (omega (arith, linear, wide a)),
        (meets_in p d above q b (omega (arith, linear)) (omega (arith, linear, wide b)), tt),
      ) at,
    )

pub two_consistent : (a b : Measurement) → (a.argument ≡ b.argument → a.lower ≤ℤ b.upper) → (a.argument ≡ b.argument → b.lower ≤ℤ a.upper)
    → Consistent (a ∷ b ∷ [])
two_consistent a b below above =
    by_lt_z a.argument b.argument (through a b) (λ le.
    by_lt_z b.argument a.argument
    (λ h. let (in_b, (in_a, _)) = all_has_itself (b ∷ a ∷ []) in consistent_part (b ∷ a ∷ []) (a ∷ b ∷ []) (in_a, (in_b, tt)) (through b a h))
    (λ ge. let t = a ∷ b ∷ [] in
    let e : a.argument ≡ b.argument = omega (arith, linear) in
    let Here : Measurement → Type 0 = λ m. m.argument ≡ a.argument in
    let here : (m : Measurement) → Has t m → m.argument ≡ a.argument = λ m at. all-has Here t m (refl, (sym e, tt)) at in
    let Meet : Measurement → Type 0 = λ m. (k : Measurement) → Has t k → m.lower ≤ℤ k.upper in
    consistent_flat t
    (λ m k atM atK _. all-has Meet t m (
      (λ k at. all-has (λ k. a.lower ≤ℤ k.upper) t k (a.ordered, (below e, tt)) at),
      ((λ k at. all-has (λ k. b.lower ≤ℤ k.upper) t k (above e, (b.ordered, tt)) at), tt),
    ) atM k atK)
    (λ m k atM atK. here m atM ∙ sym (here k atK))))

-- their sets lie apart
abbrev pub Apart : Measurement → Measurement → Type 0
Apart a b = (a.argument ≡ b.argument) × ((a.upper <ℤ b.lower) ⊎ (b.upper <ℤ a.lower))

pub two_conflict : (a b : Measurement) → Conflict (a ∷ b ∷ []) ↔ Apart a b
two_conflict a b = (
  (λ never.
      let level : a.argument ≡ b.argument =
      by_lt_z a.argument b.argument (λ h. absurd (never (two_consistent a b (λ e. absurd (omega (arith, linear))) (λ e. absurd (omega (arith, linear)))))) (λ le.
      by_lt_z b.argument a.argument (λ h. absurd (never (two_consistent a b (λ e. absurd (omega (arith, linear))) (λ e. absurd (omega (arith, linear)))))) (λ ge.
      omega (arith, linear))) in
      (level, by_lt_z a.upper b.lower inl (λ above. by_lt_z b.upper a.lower inr (λ below. absurd (never (two_consistent a b (λ _. below) (λ _. above))))))),
  (λ apart together.
      let (atA, (at_b, _)) = all_has_itself (a ∷ b ∷ []) in
      let meet = consistent_pairs_meet (a ∷ b ∷ []) together in
      ⊎_elim (λ lt. omega (arith, linear, meet b a at_b atA (sym apart.0))) (λ lt. omega (arith, linear, meet a b atA at_b apart.0)) apart.1),
)

pub pairs_consistent : (s : List Measurement) → PairsMeet s → (a b : Measurement) → Has s a → Has s b → Consistent (a ∷ b ∷ [])
pairs_consistent s meet a b atA at_b = two_consistent a b (meet a b atA at_b) (λ e. meet b a at_b atA (sym e))
