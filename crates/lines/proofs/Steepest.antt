-- A sheet has one argument alone, or a pair with the greatest low slope.
use Rattle.std.proofs.Common.{◌⊎◌, List, inl, inr, ⊎_elim, arith}
use Rattle.std.specs.List.{ContainsAt as Has}
use Rattle.std.proofs.lemmas.Int.{by_lt_z}
use Rattle.algebra.proofs.Ring.{linear}
use Rattle.rational.specs.Rational.{◌≼◌}
use Rattle.rational.proofs.Order.{≼_refl, ≼_trans}
use Rattle.lines.specs.Sheet.{Measurement, OneArgument}
use Rattle.lines.specs.Slopes.{Rises, low_slope, SteepestLow}
use Rattle.lines.proofs.Members.{best}

module _ (s : List Measurement) where
  -- of the pairs that j begins, one has the greatest low slope
  abbrev Onward : Measurement → Type 0
  Onward j = (i : Measurement) × Has s i × (h : Rises j i) × ((b : Measurement) → Has s b → (k : Rises j b) → low_slope j b k ≼ low_slope j i h)

  onward_or_last : (j : Measurement) → ((b : Measurement) → Has s b → Rises j b → ⊥) ⊎ Onward j
  onward_or_last j = best (Rises j) (low_slope j) (λ i h k. ≼_refl (low_slope j i h)) (λ i. by_lt_z j.argument i.argument inl (λ le. inr (λ lt. omega (arith, linear)))) s

  onward : (a b : Measurement) → Has s b → Rises a b → Onward a
  onward a b at h = ⊎_elim (λ last. absurd (last b at h)) (λ r. r) (onward_or_last a)

  pub steepest_low : OneArgument s ⊎ ((j : Measurement) × (i : Measurement) × SteepestLow s j i)
  steepest_low = ⊎_elim
      (λ none. inl (λ a b atA at_b.
      by_lt_z a.argument b.argument (λ h. absurd (none a atA (onward a b at_b h)))
      (λ le. by_lt_z b.argument a.argument (λ h. absurd (none b at_b (onward b a atA h))) (λ ge. omega (arith, linear)))))
      (λ top. let (j, at, (i, atI, h, _), most) = top in
      inr (
        j,
        i,
        record {
          first = at;
          second = atI;
          rises = h;
          steepest = λ a b atA at_b k.
              let r = onward a b at_b k in
              ≼_trans (low_slope a b k) (low_slope a r.0 r.2) (low_slope j i h) (r.3 b at_b k) (most a atA r);
        },
      ))
      (best Onward (λ j r. low_slope j r.0 r.2) (λ j r t. t.3 r.0 r.1 r.2)
      (λ j. ⊎_elim (λ last. inr (λ r. last r.0 r.1 r.2)) inl (onward_or_last j)) s)
