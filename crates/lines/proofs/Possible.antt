-- Which slopes are possible for a sheet: those between the low and the high slope of each pair.
use Rattle.std.proofs.Common.{◌↔◌, List, ℤ, pos, ◌+ℤ◌, ◌-ℤ◌, ◌*ℤ◌, ◌≤ℤ◌, ◌<ℤ◌, inl, ⊎_elim, arith}
use lib.Signed.{≤ℤ_refl}
use Rattle.std.specs.List.{ContainsAt as Has}
use Rattle.algebra.proofs.Ring.{linear, ring, cancel, one_right}
use Rattle.rational.specs.Rational.{whole}
use Rattle.rational.specs.Line.{Line}
use Rattle.lines.specs.Sheet.{Measurement, Meets, Admissible}
use Rattle.lines.proofs.Members.{best}

-- the slope p / d leaves room for i's lower and j's upper end
abbrev pub Leaves : ℤ → ℤ → Measurement → Measurement → Type 0
Leaves p d i j = ((i.lower -ℤ j.upper) *ℤ d) ≤ℤ (p *ℤ (i.argument -ℤ j.argument))

module _ (p d : ℤ) (above : pos 0 <ℤ d) where
  abbrev pub drawn : ℤ → Line
  drawn q = record { p = p; q = q; d = d; above = above }

  -- that a line meets a measurement, without fractions
  pub meets_in : (q : ℤ) (m : Measurement) → (m.lower *ℤ d) ≤ℤ (p *ℤ m.argument +ℤ q) → (p *ℤ m.argument +ℤ q) ≤ℤ (m.upper *ℤ d) → Meets (drawn q) m
  meets_in q m h k = (omega (arith, linear, one_right (p *ℤ m.argument +ℤ q)), omega (arith, linear, one_right (p *ℤ m.argument +ℤ q)))

  pub meets_out : (q : ℤ) (m : Measurement) → Meets (drawn q) m → ((m.lower *ℤ d) ≤ℤ (p *ℤ m.argument +ℤ q)) × ((p *ℤ m.argument +ℤ q) ≤ℤ (m.upper *ℤ d))
  meets_out q m h = (omega (arith, linear, h.0, one_right (p *ℤ m.argument +ℤ q)), omega (arith, linear, h.1, one_right (p *ℤ m.argument +ℤ q)))

  -- the least shift that takes the line of this slope up to the lower end
  abbrev needed : Measurement → ℤ
  needed m = m.lower *ℤ d -ℤ p *ℤ m.argument

  meets_at : (j m : Measurement) → needed m ≤ℤ needed j → Leaves p d j m → Meets (drawn (needed j)) m
  meets_at j m h k = meets_in (needed j) m (omega (arith, linear)) (simp ring (omega (arith, linear, simp ring at k)))

  meets_apart : (q : ℤ) (i j : Measurement) → Meets (drawn q) i → Meets (drawn q) j → Leaves p d i j
  meets_apart q i j h k = simp ring (omega (arith, linear, simp ring at (meets_out q i h).0, simp ring at (meets_out q j k).1))

  pub slope_possible : (s : List Measurement) → ((i j : Measurement) → Has s i → Has s j → Leaves p d i j) ↔ ((q : ℤ) × Admissible s (drawn q))
  slope_possible s = (
    (λ h. ⊎_elim
        (λ none. (pos 0, λ m at. absurd (none m at tt)))
        (λ top. let (j, at, _, most) = top in
        (needed j, λ m atM. meets_at j m (cancel (pos 1) (omega (arith, linear)) (most m atM tt)) (h j m at atM)))
        (best (λ (m : Measurement). Unit {0}) (λ m t. whole (needed m)) (λ m h k. ≤ℤ_refl _) (λ m. inl tt) s)),
    (λ h i j atI atJ. meets_apart h.0 i j (h.1 i atI) (h.1 j atJ)),
  )
