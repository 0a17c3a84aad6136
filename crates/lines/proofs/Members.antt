-- Members of a list: what holds of each, and which one has the greatest of a quantity.
use Rattle.std.proofs.Common.{suc, ◌<◌, ◌⊎◌, List, [], ◌∷◌, map, length, refl, ap, ◌∙◌, inl, inr, ⊎_elim, arith}
use lib.ListN.{length-map, get_or-map}
use Rattle.std.specs.List.{ContainsAt as Has, AllByRecursion as All}
use Rattle.std.proofs.ByRecursion.{all-has, All-weaker, all_has_itself, All-map}
use Rattle.std.proofs.lemmas.List.{get_or_default}
use Rattle.rational.specs.Rational.{Rational, ◌≼◌}
use Rattle.rational.proofs.Order.{≼_trans, ≼-total}

module _ {X : Type 0} where
  pub has_none : {A : Type 0} (x : X) → Has [] x → A
  has_none x h = absurd (omega arith)

  pub has_first : (x : X) (s : List X) → Has (x ∷ s) x
  has_first x s = (0, omega arith, λ d. refl)

  pub has_next : (x y : X) (s : List X) → Has s y → Has (x ∷ s) y
  has_next x y s h = (suc h.0, omega arith, h.2)

  pub has_map : {Y : Type 0} (f : X → Y) (s : List X) (x : X) → Has s x → Has (map f s) (f x)
  has_map f s x h =
      let lt : h.0 < length (map f s) = simp length-map (omega arith) in
      (h.0, lt, λ d. get_or_default (map f s) h.0 d (f x) lt ∙ get_or-map f s h.0 x ∙ ap f (h.2 x))

  module _ (P : X → Type 0) where
    pub all_of : (s : List X) → ((x : X) → Has s x → P x) → All P s
    all_of s f = All-weaker (Has s) P f s (all_has_itself s)

    pub each_of_more : (x : X) (s : List X) → P x → ((y : X) → Has s y → P y) → (y : X) → Has (x ∷ s) y → P y
    each_of_more x s p f y h = all-has P (x ∷ s) y (p, all_of s f) h

pub each_of_map : {X Y : Type 0} (P : X → Type 0) (f : Y → X) (s : List Y) → ((y : Y) → Has s y → P (f y)) → (x : X) → Has (map f s) x → P x
each_of_map P f s g x h = all-has P (map f s) x (All-map P f s (all_of (λ y. P (f y)) s g)) h

-- P is what a member must have for the quantity f, which does not depend on how it has it
module _ {X : Type 0} (P : X → Type 0) (f : (x : X) → P x → Rational) (same : (x : X) (h k : P x) → f x h ≼ f x k) (told : (x : X) → P x ⊎ (P x → ⊥)) where
  abbrev pub None : List X → Type 0
  None s = (x : X) → Has s x → P x → ⊥

  abbrev pub Best : List X → Type 0
  Best s = (c : X) × Has s c × (h : P c) × ((x : X) → Has s x → (k : P x) → f x k ≼ f c h)

  newcomer : (x : X) (s : List X) (h : P x) → ((y : X) → Has s y → (k : P y) → f y k ≼ f x h) → Best (x ∷ s)
  newcomer x s h under = (x, has_first x s, h, each_of_more (λ y. (k : P y) → f y k ≼ f x h) x s (λ k. same x k h) under)

  pub best : (s : List X) → None s ⊎ Best s
  best [] = inl (λ x h. has_none x h)
  best (x ∷ s) = ⊎_elim
      (λ none. ⊎_elim
      (λ h. inr (newcomer x s h (λ y at k. absurd (none y at k))))
      (λ no-x. inl (each_of_more (λ y. P y → ⊥) x s no-x none))
      (told x))
      (λ old. let (c, at, k, under) = old in
      let stays : ((h : P x) → f x h ≼ f c k) → None (x ∷ s) ⊎ Best (x ∷ s) =
      λ le. inr (c, has_next x c s at, k, each_of_more (λ y. (h : P y) → f y h ≼ f c k) x s le under) in
      ⊎_elim
      (λ h. ⊎_elim
      (λ le. stays (λ h'. ≼_trans (f x h') (f x h) (f c k) (same x h' h) le))
      (λ le. inr (newcomer x s h (λ y atY kY. ≼_trans (f y kY) (f c k) (f x h) (under y atY kY) le)))
      (≼-total (f x h) (f c k)))
      (λ no-x. stays (λ h. absurd (no-x h)))
      (told x))
      (best s)
