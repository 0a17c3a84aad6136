-- What reads have taken from a source whose bytes are known.
use Rattle.std.proofs.Common.{◌≡◌, ℕ, ◌+◌, ◌≤◌, List, ◌++◌, length, take, drop, Some, None, Option, sym, ap, ◌∙◌, subst, arith, append_assoc, length-take, take-append-drop, take-take}
use Rattle.std.proofs.lemmas.List.{drop-take, take-append-le, take_all, append-nil}
use Rattle.std.specs.Prelude.{IfSome, OnOk, Result, Ok, Err}
use Rattle.std.specs.Io.KnownBytes.{Consumes, IsAtEnd}

one_after_another : (a b c : Option (List ℕ)) (xs ys : List ℕ) → Consumes a b xs → Consumes b c ys → Consumes a c (xs ++ ys)
one_after_another None b c xs ys p q = tt
one_after_another (Some s) None c xs ys p q = absurd p
one_after_another (Some s) (Some t) None xs ys p q = absurd q
one_after_another (Some s) (Some t) (Some u) xs ys p q = p ∙ ap (λ l. xs ++ l) q ∙ sym (append_assoc xs ys u)

-- the first n + m are the first n and the next m
first_and_next : (n m : ℕ) (tape : List ℕ) → take n tape ++ take m (drop n tape) ≡ take (n + m) tape
first_and_next n m tape =
    ap (λ l. l ++ take m (drop n tape)) (sym (take-take n (n + m) tape (omega arith)))
    ∙ ap (λ l. take n (take (n + m) tape) ++ l) (sym (drop-take n m tape)) ∙ take-append-drop n (take (n + m) tape)

-- one read more, past what was read
pub read_more : (a b c : Option (List ℕ)) (n m : ℕ) (old new : List ℕ) → take n new ≡ take n old → Consumes a b (take n old) → Consumes b c (take m (drop n new))
    → Consumes a c (take (n + m) new)
read_more a b c n m old new front p q =
    subst (Consumes a c) (first_and_next n m new) (one_after_another a b c (take n new) (take m (drop n new)) (subst (Consumes a b) (sym front) p) q)

-- the source has ended: the first n bytes are all that it had
pub read_all : (a b : Option (List ℕ)) (n room : ℕ) (tape : List ℕ) → n ≤ room → Consumes a b (take n tape) → IsAtEnd b → IfSome a (λ all. take n tape ≡ take room all)
read_all None b n room tape few p e = tt
read_all (Some s) None n room tape few p e = absurd p
read_all (Some s) (Some t) n room tape few p e =
    let whole : s ≡ take n tape = p ∙ ap (λ l. take n tape ++ l) e ∙ append-nil (take n tape) in
    sym (ap (take room) whole ∙ take_all room (take n tape) (omega (arith, length-take n tape, few)))

-- the room is full: its bytes are the first that the source had
pub read_full : (a b : Option (List ℕ)) (room : ℕ) (tape : List ℕ) → length tape ≡ room → Consumes a b (take room tape) → IfSome a (λ all. take room tape ≡ take room all)
read_full None b room tape full p = tt
read_full (Some s) None room tape full p = absurd p
read_full (Some s) (Some t) room tape full p =
    sym (ap (take room) p ∙ take-append-le room (take room tape) t (omega (arith, length-take room tape, full))
    ∙ take_all room (take room tape) (omega (arith, length-take room tape)))

-- what holds of the bytes that were read holds of the first that the source had
pub of_source : (o : Option (List ℕ)) (room : ℕ) (P : List ℕ → Type 0) (tape : List ℕ) → IfSome o (λ all. tape ≡ take room all) → P tape → IfSome o (λ all. P (take room all))
of_source None room P tape e p = tt
of_source (Some s) room P tape e p = subst P e p

pub on_ok_more : {A E : Type 0} (r : Result A E) (P Q : Type 0) → (P → Q) → OnOk r P → OnOk r Q
on_ok_more (Ok a) P Q f p = f p
on_ok_more (Err e) P Q f p = tt
