-- Polynomials over ℤ by reflection: an expression is brought to a normal form, so that an identity is decided by computing, and
-- an inequality follows from facts that add up to it.
use Rattle.std.proofs.Common.{◌≡◌, ℕ, zero, suc, Bool, true, false, cond, ◌&&◌, T, eqb, ltb, leb, List, [], ◌∷◌, ℤ, pos, negsuc, ◌+ℤ◌, ◌-ℤ◌, ◌*ℤ◌, neg_ℤ, ◌≤ℤ◌, ◌<ℤ◌, sym, refl, ap, ◌∙◌, arith, eqb→eq}
use lib.IntN.{zero-*ℤ, *ℤ-zero}
use lib.Ieee.Fits.{and_l, and_r}
use Rattle.algebra.proofs.Ring.{linear, ring, times_grows, cancel, distrib_right, assoc, swap_left, one_left, one_right, neg_left}

infixl 6 ◌⊕◌ ◌⊖◌
infixl 7 ◌⊗◌
-- an expression over numbered variables
pub data Expr : Type 0 where
  var : ℕ → Expr
  con : ℤ → Expr
  ◌⊕◌ ◌⊖◌ ◌⊗◌ : Expr → Expr → Expr

abbrev pub at : List ℤ → ℕ → ℤ
at [] n = pos 0
at (z ∷ zs) zero = z
at (z ∷ zs) (suc n) = at zs n

-- what an expression comes to where the variables have these values
abbrev pub value : List ℤ → Expr → ℤ
value zs (var n) = at zs n
value zs (con z) = z
value zs (e ⊕ f) = value zs e +ℤ value zs f
value zs (e ⊖ f) = value zs e -ℤ value zs f
value zs (e ⊗ f) = value zs e *ℤ value zs f

-- the normal form: a sum of terms, each a coefficient times variables in rising order, the terms in order too
pub data Sum : Type 0 where
  none : Sum
  term : ℤ → List ℕ → Sum → Sum

abbrev factors : List ℤ → List ℕ → ℤ
factors zs [] = pos 1
factors zs (v ∷ vs) = at zs v *ℤ factors zs vs

abbrev total : List ℤ → Sum → ℤ
total zs none = pos 0
total zs (term c vs s) = c *ℤ factors zs vs +ℤ total zs s

abbrev pub insert : ℕ → List ℕ → List ℕ
insert v [] = v ∷ []
insert v (w ∷ ws) = cond (leb v w) (v ∷ w ∷ ws) (w ∷ insert v ws)

abbrev pub merge : List ℕ → List ℕ → List ℕ
merge [] ws = ws
merge (v ∷ vs) ws = insert v (merge vs ws)

abbrev pub alike : List ℕ → List ℕ → Bool
alike [] [] = true
alike [] (w ∷ ws) = false
alike (v ∷ vs) [] = false
alike (v ∷ vs) (w ∷ ws) = eqb v w && alike vs ws

abbrev pub precedes : List ℕ → List ℕ → Bool
precedes [] ws = true
precedes (v ∷ vs) [] = false
precedes (v ∷ vs) (w ∷ ws) = cond (eqb v w) (precedes vs ws) (ltb v w)

abbrev pub add_term : ℤ → List ℕ → Sum → Sum
add_term c vs none = term c vs none
add_term c vs (term d ws s) =
    cond (alike vs ws) (term (c +ℤ d) ws s) (cond (precedes vs ws) (term c vs (term d ws s)) (term d ws (add_term c vs s)))

abbrev pub add : Sum → Sum → Sum
add none t = t
add (term c vs s) t = add_term c vs (add s t)

abbrev pub scale : ℤ → List ℕ → Sum → Sum
scale c vs none = none
scale c vs (term d ws s) = add_term (c *ℤ d) (merge vs ws) (scale c vs s)

abbrev pub multiply : Sum → Sum → Sum
multiply none t = none
multiply (term c vs s) t = add (scale c vs t) (multiply s t)

abbrev pub normal : Expr → Sum
normal (var n) = term (pos 1) (n ∷ []) none
normal (con z) = term z [] none
normal (e ⊕ f) = add (normal e) (normal f)
normal (e ⊖ f) = add (normal e) (scale (negsuc 0) [] (normal f))
normal (e ⊗ f) = multiply (normal e) (normal f)

abbrev pub is_zero : ℤ → Bool
is_zero (pos n) = eqb n 0
is_zero (negsuc n) = false

abbrev pub vanishes : Sum → Bool
vanishes none = true
vanishes (term c vs s) = is_zero c && vanishes s

alike_is : (vs ws : List ℕ) → T (alike vs ws) → vs ≡ ws
alike_is [] [] t = refl
alike_is [] (w ∷ ws) t = absurd t
alike_is (v ∷ vs) [] t = absurd t
alike_is (v ∷ vs) (w ∷ ws) t = λ i. eqb→eq v w (and_l (eqb v w) _ t) i ∷ alike_is vs ws (and_r (eqb v w) _ t) i

zero_is : (c : ℤ) → T (is_zero c) → c ≡ pos 0
zero_is (pos n) t = ap pos (eqb→eq n 0 t)
zero_is (negsuc n) t = absurd t

module _ (zs : List ℤ) where
  insert_is : (v : ℕ) (ws : List ℕ) → factors zs (insert v ws) ≡ at zs v *ℤ factors zs ws
  insert_is v [] = refl
  insert_is v (w ∷ ws) = here (leb v w) (insert_is v ws)
    where
      here : (b : Bool) → factors zs (insert v ws) ≡ at zs v *ℤ factors zs ws → factors zs (cond b (v ∷ w ∷ ws) (w ∷ insert v ws)) ≡ at zs v *ℤ (at zs w *ℤ factors zs ws)
      here true h = refl
      here false h = ap (λ z. at zs w *ℤ z) h ∙ swap_left (at zs w) (at zs v) (factors zs ws)

  merge_is : (vs ws : List ℕ) → factors zs (merge vs ws) ≡ factors zs vs *ℤ factors zs ws
  merge_is [] ws = sym (one_left (factors zs ws))
  merge_is (v ∷ vs) ws = insert_is v (merge vs ws) ∙ ap (λ z. at zs v *ℤ z) (merge_is vs ws) ∙ sym (assoc (at zs v) (factors zs vs) (factors zs ws))

  add_term_is : (c : ℤ) (vs : List ℕ) (s : Sum) → total zs (add_term c vs s) ≡ c *ℤ factors zs vs +ℤ total zs s
  add_term_is c vs none = refl
  add_term_is c vs (term d ws s) = here (alike vs ws) (precedes vs ws) (alike_is vs ws) (add_term_is c vs s)
    where
      here : (a b : Bool) → (T a → vs ≡ ws) → total zs (add_term c vs s) ≡ c *ℤ factors zs vs +ℤ total zs s
          → total zs (cond a (term (c +ℤ d) ws s) (cond b (term c vs (term d ws s)) (term d ws (add_term c vs s)))) ≡ c *ℤ factors zs vs +ℤ (d *ℤ factors zs ws +ℤ total zs s)
      here true b e h = omega (arith, linear, distrib_right c d (factors zs ws), ap (λ us. c *ℤ factors zs us) (e tt))
      here false true e h = refl
      here false false e h = omega (arith, linear)

  add_is : (s t : Sum) → total zs (add s t) ≡ total zs s +ℤ total zs t
  add_is none t = omega (arith, linear)
  add_is (term c vs s) t = omega (arith, linear, add_term_is c vs (add s t), add_is s t)

  scale_is : (c : ℤ) (vs : List ℕ) (s : Sum) → total zs (scale c vs s) ≡ (c *ℤ factors zs vs) *ℤ total zs s
  scale_is c vs none = sym (*ℤ-zero (c *ℤ factors zs vs))
  scale_is c vs (term d ws s) =
      add_term_is (c *ℤ d) (merge vs ws) (scale c vs s) ∙ ap (λ z. c *ℤ d *ℤ z +ℤ total zs (scale c vs s)) (merge_is vs ws)
      ∙ ap (λ z. c *ℤ d *ℤ (factors zs vs *ℤ factors zs ws) +ℤ z) (scale_is c vs s) ∙ gathered c d (factors zs vs) (factors zs ws) (total zs s)
    where
      gathered : (c d a b z : ℤ) → c *ℤ d *ℤ (a *ℤ b) +ℤ c *ℤ a *ℤ z ≡ c *ℤ a *ℤ (d *ℤ b +ℤ z)
      gathered c d a b z = simp ring

  multiply_is : (s t : Sum) → total zs (multiply s t) ≡ total zs s *ℤ total zs t
  multiply_is none t = sym (zero-*ℤ (total zs t))
  multiply_is (term c vs s) t =
      omega (arith, linear, add_is (scale c vs t) (multiply s t), scale_is c vs t, multiply_is s t, distrib_right (c *ℤ factors zs vs) (total zs s) (total zs t))

  normal_is : (e : Expr) → total zs (normal e) ≡ value zs e
  normal_is (var n) = omega (arith, linear, one_left (at zs n *ℤ pos 1), one_right (at zs n))
  normal_is (con z) = omega (arith, linear, one_right z)
  normal_is (e ⊕ f) = omega (arith, linear, add_is (normal e) (normal f), normal_is e, normal_is f)
  normal_is (e ⊖ f) =
      omega (
        arith,
        linear,
        add_is (normal e) (scale (negsuc 0) [] (normal f)),
        scale_is (negsuc 0) [] (normal f),
        neg_left (pos 1) (total zs (normal f)),
        one_left (total zs (normal f)),
        normal_is e,
        normal_is f,
      )
  normal_is (e ⊗ f) = multiply_is (normal e) (normal f) ∙ (λ i. normal_is e i *ℤ normal_is f i)

  vanishes_is : (s : Sum) → T (vanishes s) → total zs s ≡ pos 0
  vanishes_is none t = refl
  vanishes_is (term c vs s) t =
      omega (arith, linear, ap (λ c. c *ℤ factors zs vs) (zero_is c (and_l (is_zero c) _ t)), zero-*ℤ (factors zs vs), vanishes_is s (and_r (is_zero c) _ t))

  -- an identity, as `identity (a ∷ b ∷ []) (var 0 ⊗ var 1) (var 1 ⊗ var 0) tt`
  pub identity : (e f : Expr) → T (vanishes (normal (e ⊖ f))) → value zs e ≡ value zs f
  identity e f t = omega (arith, linear, normal_is (e ⊖ f), vanishes_is (normal (e ⊖ f)) t)

  -- facts `low ≤ high`, each with a factor that is not negative, in the order factor, low, high
  abbrev pub Facts : List (Expr × Expr × Expr) → Type 0
  Facts [] = Unit {0}
  Facts (f ∷ fs) = (pos 0 ≤ℤ value zs f.0) × (value zs f.1 ≤ℤ value zs f.2) × Facts fs

  abbrev pub gain : List (Expr × Expr × Expr) → Expr
  gain [] = con (pos 0)
  gain (f ∷ fs) = (f.2 ⊖ f.1) ⊗ f.0 ⊕ gain fs

  gain_is : (fs : List (Expr × Expr × Expr)) → Facts fs → pos 0 ≤ℤ value zs (gain fs)
  gain_is [] h = omega (arith, linear)
  gain_is (f ∷ fs) h =
      omega (
        arith,
        linear,
        times_grows {a = pos 0} {b = value zs f.2 -ℤ value zs f.1} (value zs f.0) h.0 (omega (arith, linear)),
        zero-*ℤ (value zs f.0),
        gain_is fs h.2,
      )

  -- an inequality: the facts add up to it times a positive weight
  pub adds_up : (weight e f : Expr) (fs : List (Expr × Expr × Expr)) → T (vanishes (normal ((f ⊖ e) ⊗ weight ⊖ gain fs)))
      → pos 0 <ℤ value zs weight → Facts fs → value zs e ≤ℤ value zs f
  adds_up weight e f fs t hw h =
      cancel (value zs weight) hw (omega (
        arith,
        linear,
        identity ((f ⊖ e) ⊗ weight) (gain fs) t,
        gain_is fs h,
        distrib_right (value zs f) (neg_ℤ (value zs e)) (value zs weight),
        neg_left (value zs e) (value zs weight),
      ))
