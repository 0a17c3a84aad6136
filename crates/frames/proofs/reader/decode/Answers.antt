use Rattle.std.proofs.Common.{◌≡◌, ℕ, ◌+◌, ◌-◌, ◌%◌, ◌<◌, ◌≤◌, List, [], ◌∷◌, length, take, drop, slice_index, ap, sym, ◌∙◌, subst, one-add, arith, rules}
use Rattle.std.proofs.lemmas.List.{take_all, take_rest}
use Rattle.frames.specs.Tape.{frame, abort, said, moved}
use Rattle.frames.proofs.reader.decode.Goals as goal

-- the first byte, and what the slice pattern leaves after it
by_head : (tape : List ℕ) (head : ℕ) → 0 < length tape → slice_index tape 0 ≡ head → head ∷ take (length tape - 1) (drop 1 tape) ≡ tape
by_head [] head h e = absurd (omega arith)
by_head (b ∷ rest) head h e = λ i. sym e i ∷ take_rest (b ∷ rest) 1 i

-- an abort for that reason stands at the front of the tape, and that is left after it
abbrev Aborted : List ℕ → List ℕ → List ℕ → Type 0
Aborted reason left tape = (said tape ≡ frame (abort reason) (moved (said tape))) × (left ≡ drop (moved (said tape)) tape) × (moved (said tape) ≤ length tape)

-- the first byte and the reason, whichever slice hands it out
pub returns-in-Some : goal.returns-in-Some
returns-in-Some c =
    let head = c.args.head in
    let tape = c.args.tape.now in
    let rest = take (length tape - 1) (drop 1 tape) in
    let e : said (head ∷ rest) ≡ frame (abort c.in-Some.reason.now) (1 + head % 16) = search rules in
    let k : moved (said (head ∷ rest)) ≡ 1 + head % 16 = ap moved e in
    let left : c.in-Some.rest.now ≡ drop (head % 16) rest = search rules in
    let within : moved (said (head ∷ rest)) ≤ length (head ∷ rest) = search rules in
    let told : c.in-Some.reason.now ≡ _ = grind (arith, take_all) in
    subst (Aborted _ _) (by_head tape head c.requires.0 c.requires.1)
    (e ∙ (λ i. frame (abort (told i)) (sym k i)), left ∙ ap (λ n. drop n (head ∷ rest)) (sym (k ∙ one-add (head % 16))), within)
