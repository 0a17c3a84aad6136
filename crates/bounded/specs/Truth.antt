-- The ends enclose every value that the error model allows, and no end can be moved in.
use Rattle.std.specs.Prelude.{◌≡◌, ℕ, ◌+◌, ◌-◌, ◌≤◌, [], ◌∷◌, ℤ, pos, negsuc, ◌+ℤ◌, ◌-ℤ◌, ◌*ℤ◌, neg_ℤ, ◌≤ℤ◌, ◌<ℤ◌}
use Rattle.std.proofs.Math.Path.{refl, subst}
use Rattle.std.proofs.Common.{ap, arith}
use Rattle.std.proofs.Math.IntN.{zero-*ℤ}
use Rattle.std.specs.Int.Signed.{≤ℤ_refl}
use Rattle.std.proofs.lemmas.Int.{by_lt_z, ints}
use Rattle.algebra.proofs.Ring.{linear, ring, times_grows, times_grows_strictly, cancel, neg_left, one_right, product_not_negative, product_positive}
use Rattle.algebra.proofs.Normal.{var, con, ◌⊕◌, ◌⊖◌, ◌⊗◌, adds_up, identity}
use Rattle.rational.specs.Rational.{Rational, ◌≼◌, ◌≺◌, whole, opposite}
use Rattle.bounded.specs.Limits.{million, greatest_relative}
use Rattle.bounded.specs.Ends.{lower_end, upper_end}
use Rattle.bounded.specs.Model.{Possible, Within, Encloses, millionths}
use Rattle.bounded.specs.Rounded.{divisor, lowered, divisor_positive, lowered_down, not_above, negative, lowered_rises, mirrored_end}

-- the error model without ε: of t = n / s, with ε = a / b at most e, and δ = f / g
without_absolute : (r e n s a b f g : ℤ) → pos 0 <ℤ s → pos 0 <ℤ b → pos 0 <ℤ g
    → r *ℤ ((s *ℤ b) *ℤ (g *ℤ s)) ≡ (((n *ℤ b +ℤ a *ℤ s) *ℤ (g *ℤ s)) +ℤ ((f *ℤ n) *ℤ (s *ℤ b))) *ℤ pos 1 → (a *ℤ pos 1) ≤ℤ (e *ℤ b)
    → (((r -ℤ e) *ℤ s) *ℤ g) ≤ℤ (n *ℤ (g +ℤ f))
without_absolute r e n s a b f g hs hb hg eq le =
    let R = var 0 in let E = var 1 in let N = var 2 in let S = var 3 in let A = var 4 in let B = var 5 in let F = var 6 in let G = var 7 in
    adds_up (r ∷ e ∷ n ∷ s ∷ a ∷ b ∷ f ∷ g ∷ []) (B ⊗ S) (((R ⊖ E) ⊗ S) ⊗ G) (N ⊗ (G ⊕ F))
    ((S ⊗ S ⊗ G, A ⊗ con (pos 1), E ⊗ B) ∷ (con (pos 1), R ⊗ ((S ⊗ B) ⊗ (G ⊗ S)), (((N ⊗ B ⊕ A ⊗ S) ⊗ (G ⊗ S)) ⊕ ((F ⊗ N) ⊗ (S ⊗ B))) ⊗ con (pos 1)) ∷ [])
    tt (product_positive hb hs)
    (product_not_negative {a = s *ℤ s} {b = g} (product_not_negative {a = s} {b = s} (omega (arith, linear)) (omega (arith, linear))) (omega (arith, linear)), le, (omega (arith, linear), omega (arith, linear), tt))

-- and without δ, for a value from 0 up and for one from 0 down
above_zero : (w n s f g m d : ℤ) → pos 0 <ℤ g → pos 0 <ℤ m → pos 0 ≤ℤ n → ((w *ℤ s) *ℤ g) ≤ℤ (n *ℤ (g +ℤ f)) → (f *ℤ m) ≤ℤ (d *ℤ g) → ((w *ℤ m) *ℤ s) ≤ℤ (n *ℤ (m +ℤ d))
above_zero w n s f g m d hg hm hn star le =
    let W = var 0 in let N = var 1 in let S = var 2 in let F = var 3 in let G = var 4 in let M = var 5 in let D = var 6 in
    adds_up (w ∷ n ∷ s ∷ f ∷ g ∷ m ∷ d ∷ []) G ((W ⊗ M) ⊗ S) (N ⊗ (M ⊕ D))
    ((M, (W ⊗ S) ⊗ G, N ⊗ (G ⊕ F)) ∷ (N, F ⊗ M, D ⊗ G) ∷ []) tt hg
    (omega (arith, linear), star, (hn, le, tt))

below_zero : (w n s f g m d : ℤ) → pos 0 <ℤ g → pos 0 <ℤ m → n ≤ℤ pos 0 → ((w *ℤ s) *ℤ g) ≤ℤ (n *ℤ (g +ℤ f)) → (neg_ℤ d *ℤ g) ≤ℤ (f *ℤ m) → ((w *ℤ m) *ℤ s) ≤ℤ (n *ℤ (m -ℤ d))
below_zero w n s f g m d hg hm hn star le =
    let W = var 0 in let N = var 1 in let S = var 2 in let F = var 3 in let G = var 4 in let M = var 5 in let D = var 6 in
    adds_up (w ∷ n ∷ s ∷ f ∷ g ∷ m ∷ d ∷ []) G ((W ⊗ M) ⊗ S) (N ⊗ (M ⊖ D))
    ((M, (W ⊗ S) ⊗ G, N ⊗ (G ⊕ F)) ∷ (con (pos 0) ⊖ N, con (pos 0) ⊖ D ⊗ G, F ⊗ M) ∷ []) tt hg
    (omega (arith, linear), star, (omega (arith, linear), omega (arith, linear, neg_left d g), tt))

exchanged : (a b c : ℤ) → (a *ℤ b) *ℤ c ≡ (a *ℤ c) *ℤ b
exchanged a b c = simp ring

-- what a value, an absolute and a relative error add up to, all turned round at 0
turned : (n s a b f g : ℤ) → ((neg_ℤ n *ℤ b +ℤ neg_ℤ a *ℤ s) *ℤ (g *ℤ s)) +ℤ ((f *ℤ neg_ℤ n) *ℤ (s *ℤ b)) ≡ neg_ℤ (((n *ℤ b +ℤ a *ℤ s) *ℤ (g *ℤ s)) +ℤ ((f *ℤ n) *ℤ (s *ℤ b)))
turned n s a b f g = simp ring (omega (arith, linear))

-- a value that can have given a reading, turned round at 0, can have given the reading turned round
pub turned_possible : (e d : ℕ) (r : ℤ) (t : Rational) → Possible e d r t → Possible e d (neg_ℤ r) (opposite t)
turned_possible e d r t possible =
    let (ε, δ, absolute, relative, sum) = possible in
    let n = t.num in let s = t.den in let a = ε.num in let b = ε.den in let f = δ.num in let g = δ.den in (
      opposite ε,
      δ,
      (omega (arith, linear, absolute.1, neg_left a (pos 1), neg_left (pos e) b), omega (arith, linear, absolute.0, neg_left a (pos 1), neg_left (pos e) b)),
      relative,
      omega (arith, linear, sum, neg_left r ((s *ℤ b) *ℤ (g *ℤ s)), ap (λ z. z *ℤ pos 1) (turned n s a b f g), neg_left (((n *ℤ b +ℤ a *ℤ s) *ℤ (g *ℤ s)) +ℤ ((f *ℤ n) *ℤ (s *ℤ b))) (pos 1)),
    )

-- the value w m / (m + f) has the absolute error e and the relative error f / m at the reading w + e
exact_sum : (w e m f v : ℤ) → m +ℤ f ≡ v
    → (w +ℤ e) *ℤ ((v *ℤ pos 1) *ℤ (m *ℤ v)) ≡ ((((w *ℤ m) *ℤ pos 1 +ℤ e *ℤ v) *ℤ (m *ℤ v)) +ℤ ((f *ℤ (w *ℤ m)) *ℤ (v *ℤ pos 1))) *ℤ pos 1
exact_sum w e m f v same =
    let W = var 0 in let E = var 1 in let m' = var 2 in let F = var 3 in let V = var 2 ⊕ var 3 in let one = con (pos 1) in
    subst (λ v. (w +ℤ e) *ℤ ((v *ℤ pos 1) *ℤ (m *ℤ v)) ≡ ((((w *ℤ m) *ℤ pos 1 +ℤ e *ℤ v) *ℤ (m *ℤ v)) +ℤ ((f *ℤ (w *ℤ m)) *ℤ (v *ℤ pos 1))) *ℤ pos 1) same
    (identity (w ∷ e ∷ m ∷ f ∷ []) ((W ⊕ E) ⊗ ((V ⊗ one) ⊗ (m' ⊗ V))) (((((W ⊗ m') ⊗ one ⊕ E ⊗ V) ⊗ (m' ⊗ V)) ⊕ ((F ⊗ (W ⊗ m')) ⊗ (V ⊗ one))) ⊗ one) tt)

module _ (d : ℕ) (few : d ≤ greatest_relative) where
  -- a value n / s that lies above w on both sides of 0 lies above the lower end
  from_quotient : (w n s : ℤ) → pos 0 <ℤ s → ((w *ℤ pos million) *ℤ s) ≤ℤ (n *ℤ divisor d w) → (lowered d w *ℤ s) ≤ℤ n
  from_quotient w n s hs h =
      cancel (divisor d w) (divisor_positive d few w)
      (omega (arith, linear, exchanged (lowered d w) s (divisor d w), times_grows {a = lowered d w *ℤ divisor d w} {b = w *ℤ pos million} s (omega (arith, linear)) (not_above d few w)))

  narrow : pos million -ℤ pos d ≡ pos (million - d)
  narrow = omega (arith, ints)

  under : (w n s : ℤ) → pos 0 <ℤ s → (pos 0 ≤ℤ n → ((w *ℤ pos million) *ℤ s) ≤ℤ (n *ℤ (pos million +ℤ pos d)))
      → (n ≤ℤ pos 0 → ((w *ℤ pos million) *ℤ s) ≤ℤ (n *ℤ (pos million -ℤ pos d))) → (lowered d w *ℤ s) ≤ℤ n
  under (pos k) n s hs up down = by_lt_z n (pos 0)
      (λ less. absurd (omega (
        arith,
        linear,
        down (omega (arith, linear)),
        ap (λ z. n *ℤ z) narrow,
        product_not_negative {a = pos k *ℤ pos million} {b = s} (product_not_negative {a = pos k} {b = pos million} (omega (arith, linear)) (omega (arith, linear))) (omega (arith, linear)),
        times_grows_strictly {a = n} {b = pos 0} (pos (million - d)) (omega (arith, ints)) less,
        zero-*ℤ (pos (million - d)),
      )))
      (λ from. from_quotient (pos k) n s hs (up from))
  under (negsuc k) n s hs up down = by_lt_z (pos 0) n
      (λ more. omega (arith, linear, times_grows_strictly {a = lowered d (negsuc k)} {b = pos 0} s hs (negative d few k), zero-*ℤ s))
      (λ le. from_quotient (negsuc k) n s hs (subst (λ z. ((negsuc k *ℤ pos million) *ℤ s) ≤ℤ (n *ℤ z)) narrow (down le)))

  pub from_lower : (e : ℕ) (r : ℤ) (t : Rational) → Possible e d r t → whole (lower_end e d r) ≼ t
  from_lower e r t possible =
      let (ε, δ, absolute, relative, sum) = possible in
      let n = t.num in let s = t.den in let f = δ.num in let g = δ.den in
      let star = without_absolute r (pos e) n s ε.num ε.den f g t.above ε.above δ.above sum absolute.1 in
      let w = r -ℤ pos e in
      omega (
        arith,
        linear,
        one_right n,
        under w n s t.above
            (λ from. above_zero w n s f g (pos million) (pos d) δ.above (omega (arith, ints)) from star relative.1)
            (λ le. below_zero w n s f g (pos million) (pos d) δ.above (omega (arith, ints)) le star relative.0),
      )

  -- the end before it is rounded
  quotient : ℤ → Rational
  quotient w = record { num = w *ℤ pos million; den = divisor d w; above = divisor_positive d few w }

  within_itself : (limit : Rational) → pos 0 ≤ℤ limit.num → Within limit limit
  within_itself l h = (omega (arith, linear, neg_left l.num l.den, product_not_negative {a = l.num} {b = l.den} h (omega (arith, linear, l.above))), ≤ℤ_refl _)

  within_opposite : (limit : Rational) → pos 0 ≤ℤ limit.num → Within limit (opposite limit)
  within_opposite l h = (≤ℤ_refl _, omega (arith, linear, neg_left l.num l.den, product_not_negative {a = l.num} {b = l.den} h (omega (arith, linear, l.above))))

  reached : (e : ℕ) (w : ℤ) → Possible e d (w +ℤ pos e) (quotient w)
  unfolding quotient
  reached e (pos k) = (
    whole (pos e),
    millionths d,
    within_itself (whole (pos e)) (omega (arith, linear)),
    within_itself (millionths d) (omega (arith, linear)),
    exact_sum (pos k) (pos e) (pos million) (pos d) (pos (million + d)) refl,
  )
  reached e (negsuc k) = (
    whole (pos e),
    opposite (millionths d),
    within_itself (whole (pos e)) (omega (arith, linear)),
    within_opposite (millionths d) (omega (arith, linear)),
    exact_sum (negsuc k) (pos e) (pos million) (neg_ℤ (pos d)) (pos (million - d)) narrow,
  )

  pub lower_reached : (e : ℕ) (r : ℤ) → (t : Rational) × Possible e d r t × (t ≺ whole (lower_end e d r +ℤ pos 1))
  unfolding quotient
  lower_reached e r =
      let w = r -ℤ pos e in
      let back : w +ℤ pos e ≡ r = omega (arith, linear) in
      let past : (w *ℤ pos million) <ℤ ((lowered d w +ℤ pos 1) *ℤ divisor d w) =
      by_lt_z (w *ℤ pos million) ((lowered d w +ℤ pos 1) *ℤ divisor d w) (λ lt. lt) (λ le. absurd (omega (arith, linear, (lowered_down d few w (lowered d w +ℤ pos 1)).0 le))) in
      (quotient w, subst (λ r. Possible e d r (quotient w)) back (reached e w), omega (arith, linear, one_right (w *ℤ pos million)))

  -- everything said of the lower end holds of the upper one, turned round at 0
  pub to_upper : (e : ℕ) (r : ℤ) (t : Rational) → Possible e d r t → t ≼ whole (upper_end e d r)
  to_upper e r t possible =
      let low = from_lower e (neg_ℤ r) (opposite t) (turned_possible e d r t possible) in
      let u = lower_end e d (neg_ℤ r) in
      omega (arith, linear, neg_left t.num (pos 1), neg_left u t.den, ap (λ z. z *ℤ t.den) (mirrored_end d few e r))

  pub upper_reached : (e : ℕ) (r : ℤ) → (t : Rational) × Possible e d r t × (whole (upper_end e d r -ℤ pos 1) ≺ t)
  upper_reached e r =
      let (t, possible, past) = lower_reached e (neg_ℤ r) in
      let u = lower_end e d (neg_ℤ r) in
      let same : upper_end e d r -ℤ pos 1 ≡ neg_ℤ (u +ℤ pos 1) = omega (arith, linear, mirrored_end d few e r) in (
        opposite t,
        subst (λ r. Possible e d r (opposite t)) (omega (arith, linear)) (turned_possible e d (neg_ℤ r) t possible),
        omega (arith, linear, past, neg_left t.num (pos 1), neg_left (u +ℤ pos 1) t.den, ap (λ z. z *ℤ t.den) same),
      )

  pub encloses : (e : ℕ) (r : ℤ) → Encloses e d r (lower_end e d r) (upper_end e d r)
  encloses e r = record { every = λ t p. (from_lower e r t p, to_upper e r t p); lower_tight = lower_reached e r; upper_tight = upper_reached e r }

  pub enclosed : (e : ℕ) (r l u : ℤ) → l ≡ lower_end e d r → u ≡ upper_end e d r → Encloses e d r l u
  enclosed e r l u el eu = rw (el, eu) (encloses e r)

  -- some value is possible, so that the ends are in order
  pub ends_ordered : (e : ℕ) (r : ℤ) → lower_end e d r ≤ℤ upper_end e d r
  ends_ordered e r =
      let (t, possible, past) = lower_reached e r in
      let l = lower_end e d r in let u = upper_end e d r in
      cancel t.den t.above (omega (arith, linear, from_lower e r t possible, to_upper e r t possible))

  pub lower_rises : (e : ℕ) (a b : ℤ) → a ≤ℤ b → lower_end e d a ≤ℤ lower_end e d b
  lower_rises e a b h = lowered_rises d few (a -ℤ pos e) (b -ℤ pos e) (omega (arith, linear))

  pub upper_rises : (e : ℕ) (a b : ℤ) → a ≤ℤ b → upper_end e d a ≤ℤ upper_end e d b
  upper_rises e a b h = omega (arith, linear, mirrored_end d few e a, mirrored_end d few e b, lower_rises e (neg_ℤ b) (neg_ℤ a) (omega (arith, linear)))
