-- How large a product is.
use Rattle.std.proofs.Common.{[], ◌∷◌, ℤ, pos, ◌*ℤ◌, neg_ℤ, ◌≤ℤ◌, arith}
use Rattle.algebra.proofs.Ring.{linear, neg_left}
use Rattle.algebra.proofs.Normal.{var, con, ◌⊕◌, ◌⊖◌, ◌⊗◌, adds_up}

-- twice the gap between the products is (A - a) (B + b) + (A + a) (B - b)
high : (a b A B : ℤ) → neg_ℤ A ≤ℤ a → a ≤ℤ A → neg_ℤ B ≤ℤ b → b ≤ℤ B → (a *ℤ b) ≤ℤ (A *ℤ B)
high a b A B p q s t =
    adds_up (a ∷ b ∷ A ∷ B ∷ []) (con (pos 2)) (var 0 ⊗ var 1) (var 2 ⊗ var 3)
    ((var 3 ⊕ var 1, var 0, var 2) ∷ (var 3 ⊖ var 1, con (pos 0) ⊖ var 2, var 0) ∷ []) tt (omega (arith, linear))
    (omega (arith, linear), q, (omega (arith, linear), omega (arith, linear), tt))

-- the product of numbers within A and within B lies within A B
pub within : (a b A B : ℤ) → neg_ℤ A ≤ℤ a → a ≤ℤ A → neg_ℤ B ≤ℤ b → b ≤ℤ B → (neg_ℤ (A *ℤ B) ≤ℤ (a *ℤ b)) × ((a *ℤ b) ≤ℤ (A *ℤ B))
within a b A B p q s t =
    (omega (arith, linear, high (neg_ℤ a) b A B (omega (arith, linear)) (omega (arith, linear)) s t, neg_left a b), high a b A B p q s t)
