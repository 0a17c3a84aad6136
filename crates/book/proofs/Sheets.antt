-- What a book holds is what its history has held.
use Rattle.std.proofs.Common.{◌≡◌, ℕ, zero, suc, ◌<◌, ◌≤◌, true, false, eqb, List, [], ◌∷◌, ℤ, count_by, sym, refl, ap, subst, ⊎_elim, arith}
use Rattle.std.specs.List.{ContainsAt as Has, flat_map, AllByRecursion as All}
use Rattle.std.proofs.ByRecursion.{all-has, All-append, has_get_or, has_append_left, has_append_right}
use Rattle.std.proofs.lemmas.List.Sums.{sum_by-cons}
use Rattle.std.proofs.lemmas.Bool.{cases_Bool, cases_eq, cases_lt, eqb-true}
use Rattle.book.specs.Rows.{Row, SameRows, DistinctSerials}
use Rattle.book.specs.Book.{Book, Spot, Free, Open, Held, held_rows, rows}
use Rattle.book.specs.Law.{Event, Fate, never, open_at, held_at, spoiled, aborted, withdrawn, swept, fate, given, up_to, serials, row, held}
use Rattle.book.specs.Agreement.{Fares, bears, stands, Agrees}
use Rattle.book.proofs.Spots.{one}
use Rattle.book.proofs.Fates.{was_given}

-- a row's serial is held, and as the row says
record Stands (es : List Event) (x : Row) : Type 0 where
  pub reading : ℤ
  pub fares : fate x.serial es ≡ held_at x.argument reading x.lower x.upper

abbrev a_row : ℕ → ℤ → ℤ → ℤ → Row
a_row s x l u = record { serial = s; argument = x; lower = l; upper = u }

same_row : (es : List Event) (x y : Row) → Stands es x → Stands es y → x.serial ≡ y.serial → x ≡ y
same_row es x y p q e =
    let a : fate x.serial es ≡ fate y.serial es = ap (λ s. fate s es) e in
    let f = p.fares in let h = q.fares in
    let k : a_row x.serial x.argument x.lower x.upper ≡ a_row y.serial y.argument y.lower y.upper = cc in
    k

-- ---- the book's rows

rows_stand : (es : List Event) (ps : List Spot) → All (Fares es) ps → All (Stands es) (held_rows ps)
unfolding held_rows
rows_stand es [] f = tt
rows_stand es (Free ∷ ps) f = rows_stand es ps f.1
rows_stand es (Open s x ∷ ps) f = rows_stand es ps f.1
rows_stand es (Held s x r l u ∷ ps) f = (record { reading = r; fares = f.0 }, rows_stand es ps f.1)

-- a held serial that some spot bears has its row
has_row : (es : List Event) (x : Row) → Stands es x → (ps : List Spot) → All (Fares es) ps → 0 < count_by (bears x.serial) ps → Has (held_rows ps) x
unfolding held_rows
has_row es x st [] f some = absurd (omega arith)
has_row es x st (Free ∷ ps) f some = has_row es x st ps f.1 (omega (arith, sum_by-cons (λ p. one (bears x.serial p)) Free ps))
has_row es x st (Open s y ∷ ps) f some = ⊎_elim
    (λ (e : eqb s x.serial ≡ true).
    let q = eqb-true s x.serial e in
    let h : fate x.serial es ≡ open_at y = subst (λ n. fate n es ≡ open_at y) q f.0 in
    let k = st.fares in
    absurd (let z : ◌≡◌ {A = ℕ} 0 1 = cc in omega arith))
    (λ (e : eqb s x.serial ≡ false).
    let o : one (eqb s x.serial) ≡ 0 = ap one e in
    has_row es x st ps f.1 (omega (arith, sum_by-cons (λ p. one (bears x.serial p)) (Open s y) ps, o)))
    (cases_Bool (eqb s x.serial))
has_row es x st (Held s y r l u ∷ ps) f some = ⊎_elim
    (λ (e : eqb s x.serial ≡ true).
    let h = same_row es (a_row s y l u) x (record { reading = r; fares = f.0 }) st (eqb-true s x.serial e) in
    subst (Has (a_row s y l u ∷ held_rows ps)) h (has_get_or (a_row s y l u ∷ held_rows ps) 0 x (omega arith)))
    (λ (e : eqb s x.serial ≡ false).
    let o : one (eqb s x.serial) ≡ 0 = ap one e in
    has_append_right (a_row s y l u ∷ []) (held_rows ps) x (has_row es x st ps f.1 (omega (arith, sum_by-cons (λ p. one (bears x.serial p)) (Held s y r l u) ps, o))))
    (cases_Bool (eqb s x.serial))

-- ---- the history's

row_stands : (es : List Event) (s : ℕ) (f : Fate) → fate s es ≡ f → All (Stands es) (row s f)
row_stands es s never e = tt
row_stands es s (open_at x) e = tt
row_stands es s (held_at x r l u) e = (record { reading = r; fares = e }, tt)
row_stands es s spoiled e = tt
row_stands es s aborted e = tt
row_stands es s withdrawn e = tt
row_stands es s swept e = tt

held_stand : (es : List Event) (ss : List ℕ) → All (Stands es) (flat_map (λ s. row s (fate s es)) ss)
held_stand es [] = tt
held_stand es (s ∷ ss) = All-append (Stands es) (row s (fate s es)) (flat_map (λ s. row s (fate s es)) ss) (row_stands es s (fate s es) refl) (held_stand es ss)

has_held : (es : List Event) (x : Row) → Stands es x → (n : ℕ) → 1 ≤ x.serial → x.serial ≤ n → Has (flat_map (λ s. row s (fate s es)) (up_to n)) x
unfolding up_to
has_held es x st zero low high = absurd (omega arith)
has_held es x st (suc n) low high =
    let rest = flat_map (λ s. row s (fate s es)) (up_to n) in
    ⊎_elim
    (λ (e : x.serial ≡ suc n).
    let k : row (suc n) (fate (suc n) es) ≡ x ∷ [] = subst (λ s. row s (fate s es) ≡ x ∷ []) e (ap (row x.serial) st.fares) in
    has_append_left (row (suc n) (fate (suc n) es)) rest x (subst (λ xs. Has xs x) (sym k) (has_get_or (x ∷ []) 0 x (omega arith))))
    (λ (d : x.serial ≡ suc n → ⊥).
    let less : x.serial ≤ n = ⊎_elim (λ (l : n < x.serial). absurd (d (omega arith))) (λ (l : x.serial ≤ n). l) (cases_lt n x.serial) in
    has_append_right (row (suc n) (fate (suc n) es)) rest x (has_held es x st n low less))
    (cases_eq x.serial (suc n))

module _ (es : List Event) (b : Book) (g : Agrees es b) where
  -- the rows of the book are the rows of the history
  pub same_rows : SameRows (rows b) (held es)
  same_rows x = (
    (λ has. let st = all-has (Stands es) (rows b) x (rows_stand es b.spots g.each) has in
        let f = st.fares in
        let k = was_given es b g x.serial (λ e. let z : ◌≡◌ {A = ℕ} 0 1 = cc in omega arith) in
        has_held es x st (given es) k.0 k.1),
    (λ has. let st = all-has (Stands es) (held es) x (held_stand es (serials es)) has in
        let o : one (stands (fate x.serial es)) ≡ 1 = ap (λ f. one (stands f)) st.fares in
        let c = g.once x.serial in
        has_row es x st b.spots g.each (omega arith)),
  )

  pub distinct_rows : DistinctSerials (rows b)
  distinct_rows x y p q =
      let all = rows_stand es b.spots g.each in
      same_row es x y (all-has (Stands es) (rows b) x all p) (all-has (Stands es) (rows b) y all q)
