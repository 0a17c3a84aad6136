-- The table of lengths tells the fixed length of each kind and of each code: one test at each of its entries.
use Rattle.std.proofs.Common.{◌≡◌, ℕ, zero, suc, ◌+◌, ◌<◌, Bool, true, ◌&&◌, ◌||◌, eqb, ◌⊎◌, List, [], ◌∷◌, get_or, Decides, refl, ⊎_elim}
use Rattle.std.proofs.lemmas.Bool.Decides.{Decides-below_and, Decides-eqb, Decides-or}
use Rattle.frames.specs.Tape.{fixed_length}

abbrev pub lengths : List ℕ
lengths =
    0 ∷ 3 ∷ 4 ∷ 1 ∷ 4 ∷ 0 ∷ 1 ∷ 0 ∷ 0 ∷ 0 ∷ 0 ∷ 0 ∷ 0 ∷ 0 ∷ 0 ∷ 0 ∷
    0 ∷ 1 ∷ 1 ∷ 3 ∷ 1 ∷ 0 ∷ 0 ∷ 0 ∷ 0 ∷ 0 ∷ 0 ∷ 0 ∷ 0 ∷ 0 ∷ 0 ∷ 0 ∷ []

-- the test passes at each number below n
abbrev below : (ℕ → Bool) → ℕ → Bool
below p zero = true
below p (suc n) = p n && below p n

abbrev same_code : ℕ → Bool
same_code k = eqb (get_or lengths (16 + k) 0) (fixed_length 5 k)

pub of_code : (k : ℕ) → k < 16 → get_or lengths (16 + k) 0 ≡ fixed_length 5 k
of_code = (Decides-below_and same_code (λ k. get_or lengths (16 + k) 0 ≡ fixed_length 5 k) (below same_code) (λ k. Decides-eqb (get_or lengths (16 + k) 0) (fixed_length 5 k)) refl (λ _. refl) 16).0 refl

-- the place of the questions has no length of its own
abbrev same_kind : ℕ → ℕ → Bool
same_kind low k = eqb k 5 || eqb (get_or lengths k 0) (fixed_length k low)

abbrev SameKind : ℕ → ℕ → Type 0
SameKind low k = (k ≡ 5) ⊎ (get_or lengths k 0 ≡ fixed_length k low)

same_decides : (low k : ℕ) → Decides (same_kind low k) (SameKind low k)
same_decides low k = Decides-or (eqb k 5) (eqb (get_or lengths k 0) (fixed_length k low)) (Decides-eqb k 5) (Decides-eqb (get_or lengths k 0) (fixed_length k low))

pub length_of_kind : (low k : ℕ) → k < 16 → (k ≡ 5 → ⊥) → get_or lengths k 0 ≡ fixed_length k low
length_of_kind low k h other =
    ⊎_elim (λ five. absurd (other five)) (λ e. e)
    ((Decides-below_and (same_kind low) (SameKind low) (below (same_kind low)) (same_decides low) refl (λ _. refl) 16).0 refl k h)
