-- A tape says what was written, and nothing else is read so.
use Rattle.std.proofs.Common.{◌≡◌, ℕ, ◌+◌, ◌*◌, ◌/◌, ◌%◌, ◌^◌, ◌<◌, ◌≤◌, true, false, eqb, ltb, List, [], ◌∷◌, ◌++◌, length, take, sym, refl, ap, ◌∙◌, subst, one-add, arith, length-append, length-take-le, ltb-false, eqb-true}
use lib.Seq.{take-append_seam}
use Rattle.std.specs.List.{AllByRecursion}
use Rattle.std.proofs.lemmas.Bool.{cond_both}
use Rattle.std.proofs.lemmas.Bool.Decides.{nat_tests}
use Rattle.frames.specs.Tape.{load, reading, abort, withdraw, verdict, slope, value, tallies, clear, Said, ended, frame, cut_short, unknown, said, signed, number, whole, of_kind, argument}
use Rattle.frames.proofs.Complement.{signed_bits, bits_below, bits_signed}
use Rattle.frames.specs.Writing.{bits, Within, with_argument, with_number, bytes_of, Writable, ReadAsWritten, WrittenAsRead}

enough : (n : ℕ) (rest : List ℕ) (s : Said) → n ≤ length rest → whole n rest s ≡ s
enough n rest s h = grind (arith, nat_tests)

joined16 : (n : ℕ) → number 0 (n / 256 ∷ n % 256 ∷ []) ≡ n
joined16 n = omega arith

-- the three bytes after the first of a number of 28 bits
abbrev low24 : ℕ → List ℕ
low24 n = (n / 2 ^ 16 % 256) ∷ (n / 2 ^ 8 % 256) ∷ (n % 256) ∷ []

joined28 : (n : ℕ) → number (n / 2 ^ 24) (low24 n) ≡ n
joined28 n = omega arith

-- the first byte holds the kind and four bits
by_head : (kind low head : ℕ) (rest : List ℕ) → low < 16 → head ≡ 16 * kind + low → said (head ∷ rest) ≡ of_kind kind low rest
by_head kind low head rest h e =
    let k : head / 16 ≡ kind = omega arith in
    let l : head % 16 ≡ low = omega arith in
    λ i. of_kind (k i) (l i) rest

pub read_as_written : ReadAsWritten
read_as_written (load x) rest h =
    let n = bits 16 x in
    enough 2 (n / 256 ∷ n % 256 ∷ rest) (frame (load (argument (n / 256 ∷ n % 256 ∷ rest))) 3) (omega arith)
    ∙ ap (λ m. frame (load (signed 16 m)) 3) (joined16 n) ∙ ap (λ z. frame (load z) 3) (signed_bits 16 x refl h)
read_as_written (reading r) rest h =
    let n = bits 28 r in
    let small = bits_below 28 r refl h in
    by_head 2 (n / 2 ^ 24) (32 + n / 2 ^ 24) (low24 n ++ rest) (omega arith) (omega arith)
    ∙ enough 3 (low24 n ++ rest) (frame (reading (signed 28 (number (n / 2 ^ 24) (low24 n)))) 4) (omega arith)
    ∙ ap (λ m. frame (reading (signed 28 m)) 4) (joined28 n) ∙ ap (λ z. frame (reading z) 4) (signed_bits 28 r refl h)
read_as_written (abort reason) rest h =
    by_head 3 (length reason) (48 + length reason) (reason ++ rest) h (omega arith)
    ∙ enough (length reason) (reason ++ rest) (frame (abort (take (length reason) (reason ++ rest))) (1 + length reason)) (omega (arith, length-append reason rest))
    ∙ (λ i. frame (abort (take-append_seam reason rest i)) (one-add (length reason) i))
read_as_written (withdraw serial) rest h =
    by_head 4 (serial / 2 ^ 24) (64 + serial / 2 ^ 24) (low24 serial ++ rest) (omega arith) (omega arith)
    ∙ enough 3 (low24 serial ++ rest) (frame (withdraw (number (serial / 2 ^ 24) (low24 serial))) 4) (omega arith)
    ∙ ap (λ m. frame (withdraw m) 4) (joined28 serial)
read_as_written verdict rest h = refl
read_as_written slope rest h = refl
read_as_written (value x) rest h =
    let n = bits 16 x in
    enough 2 (n / 256 ∷ n % 256 ∷ rest) (frame (value (argument (n / 256 ∷ n % 256 ∷ rest))) 3) (omega arith)
    ∙ ap (λ m. frame (value (signed 16 m)) 3) (joined16 n) ∙ ap (λ z. frame (value z) 3) (signed_bits 16 x refl h)
read_as_written tallies rest h = refl
read_as_written clear rest h = refl

-- what a tape says was written so
abbrev Holds : List ℕ → Said → Type 0
Holds tape ended = Unit {0}
Holds tape (frame m n) = Writable m × (take n tape ≡ bytes_of m) × (n ≡ length (bytes_of m))
Holds tape cut_short = Unit {0}
Holds tape unknown = Unit {0}

abbrev Bytes : List ℕ → Type 0
Bytes = AllByRecursion (λ b. b < 256)

-- 16 bits from two bytes, and back
argument_held : (head : ℕ) (rest : List ℕ) → Bytes rest → 2 ≤ length rest → Within 16 (argument rest) × (take 3 (head ∷ rest) ≡ with_argument head (bits 16 (argument rest)))
argument_held head [] a h = absurd (omega arith)
argument_held head (x ∷ []) a h = absurd (omega arith)
argument_held head (x ∷ y ∷ rest) a h =
    let n : ℕ = number 0 (x ∷ y ∷ []) in
    let back = bits_signed 16 n refl (omega (arith, a.0, a.1.0)) in
    let p : x ≡ bits 16 (signed 16 n) / 256 = omega (arith, a.0, a.1.0, back.0) in
    let q : y ≡ bits 16 (signed 16 n) % 256 = omega (arith, a.0, a.1.0, back.0) in
    (back.1, (λ i. head ∷ p i ∷ q i ∷ []))

-- 28 bits from four bits and three bytes, and back
number_held : (kind low head : ℕ) (rest : List ℕ) → head ≡ 16 * kind + low → low < 16 → Bytes rest → 3 ≤ length rest
    → (number low (take 3 rest) < 2 ^ 28) × (take 4 (head ∷ rest) ≡ with_number kind (number low (take 3 rest)))
number_held kind low head [] e l a h = absurd (omega arith)
number_held kind low head (x ∷ []) e l a h = absurd (omega arith)
number_held kind low head (x ∷ y ∷ []) e l a h = absurd (omega arith)
number_held kind low head (x ∷ y ∷ z ∷ rest) e l a h =
    let n : ℕ = number low (x ∷ y ∷ z ∷ []) in
    let o : head ≡ 16 * kind + n / 2 ^ 24 = omega (arith, a.0, a.1.0, a.1.1.0) in
    let p : x ≡ n / 2 ^ 16 % 256 = omega (arith, a.0, a.1.0, a.1.1.0) in
    let q : y ≡ n / 2 ^ 8 % 256 = omega (arith, a.0, a.1.0, a.1.1.0) in
    let r : z ≡ n % 256 = omega (arith, a.0, a.1.0, a.1.1.0) in
    (omega (arith, a.0, a.1.0, a.1.1.0), (λ i. o i ∷ p i ∷ q i ∷ r i ∷ []))

reading_held : (low head : ℕ) (rest : List ℕ) → head ≡ 32 + low → low < 16 → Bytes rest → 3 ≤ length rest → Holds (head ∷ rest) (frame (reading (signed 28 (number low (take 3 rest)))) 4)
reading_held low head rest e l a h =
    let n = number_held 2 low head rest (omega arith) l a h in
    let back = bits_signed 28 (number low (take 3 rest)) refl n.0 in
    (back.1, n.1 ∙ ap (with_number 2) (sym back.0), refl)

abort_held : (low head : ℕ) (rest : List ℕ) → head ≡ 48 + low → low < 16 → low ≤ length rest → Holds (head ∷ rest) (frame (abort (take low rest)) (1 + low))
abort_held low head rest e l h =
    let n : length (take low rest) ≡ low = length-take-le low rest h in (
      omega arith,
      ap (λ m. take m (head ∷ rest)) (one-add low) ∙ ap (λ (b : ℕ). b ∷ take low rest) (e ∙ ap (λ m. 48 + m) (sym n)),
      omega arith,
    )

-- a frame of one byte
one_held : (head k : ℕ) (rest : List ℕ) → head ≡ k → take 1 (head ∷ rest) ≡ k ∷ []
one_held head k rest e = ap (λ h. h ∷ []) e

held : (tape : List ℕ) → Bytes tape → Holds tape (said tape)
held [] a = tt
held (head ∷ rest) a =
    cond_both (eqb kind 1) _ _ P
    (λ e. cond_both (ltb (length rest) 2) _ _ P (λ _. tt) (λ long. cond_both (eqb low 0) _ _ P
    (λ none. let x = with_argument_is 16 long (is 1 0 e none) in (x.0, x.1, refl))
    (λ _. tt)))
    (λ _. cond_both (eqb kind 2) _ _ P
    (λ e. cond_both (ltb (length rest) 3) _ _ P (λ _. tt) (λ long. reading_held low head rest (of 2 e) l a.1 (ltb-false (length rest) 3 long)))
    (λ _. cond_both (eqb kind 3) _ _ P
    (λ e. cond_both (ltb (length rest) low) _ _ P (λ _. tt) (λ long. abort_held low head rest (of 3 e) l (ltb-false (length rest) low long)))
    (λ _. cond_both (eqb kind 4) _ _ P
    (λ e. cond_both (ltb (length rest) 3) _ _ P (λ _. tt) (λ long. let n = number_held 4 low head rest (of 4 e) l a.1 (ltb-false (length rest) 3 long) in (n.0, n.1, refl)))
    (λ _. cond_both (eqb kind 5) _ _ P
    (λ e. cond_both (eqb low 1) _ _ P (λ code. (tt, one_held head 81 rest (is 5 1 e code), refl))
    (λ _. cond_both (eqb low 2) _ _ P (λ code. (tt, one_held head 82 rest (is 5 2 e code), refl))
    (λ _. cond_both (eqb low 3) _ _ P (λ code. cond_both (ltb (length rest) 2) _ _ P (λ _. tt) (λ long. let x = with_argument_is 83 long (is 5 3 e code) in (x.0, x.1, refl)))
    (λ _. cond_both (eqb low 4) _ _ P (λ code. (tt, one_held head 84 rest (is 5 4 e code), refl))
    (λ _. tt)))))
    (λ _. cond_both (eqb kind 6) _ _ P
    (λ e. cond_both (eqb low 0) _ _ P (λ none. (tt, one_held head 96 rest (is 6 0 e none), refl)) (λ _. tt))
    (λ _. tt))))))
  where
    kind : ℕ
    kind = head / 16

    low : ℕ
    low = head % 16

    P : Said → Type 0
    P = Holds (head ∷ rest)

    l : low < 16
    l = omega arith

    of : (k : ℕ) → eqb kind k ≡ true → head ≡ 16 * k + low
    of k e = let f = eqb-true kind k e in omega arith

    is : (k c : ℕ) → eqb kind k ≡ true → eqb low c ≡ true → head ≡ 16 * k + c
    is k c e f = let g = eqb-true kind k e in let h = eqb-true low c f in omega arith

    with_argument_is : (k : ℕ) → ltb (length rest) 2 ≡ false → head ≡ k → Within 16 (argument rest) × (take 3 (head ∷ rest) ≡ with_argument k (bits 16 (argument rest)))
    with_argument_is k long e = let x = argument_held head rest a.1 (ltb-false (length rest) 2 long) in (x.0, x.1 ∙ ap (λ h. with_argument h (bits 16 (argument rest))) e)

pub written_as_read : WrittenAsRead
written_as_read tape m n a e = subst (Holds tape) e (held tape a)
