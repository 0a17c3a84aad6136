-- A line that is printed from a place on.
use Rattle.std.proofs.Common.{◌≡◌, ℕ, ◌+◌, ◌-◌, ◌≤◌, false, cond, List, [], ◌++◌, length, take, drop, Ok, Err, Result, sym, ap, ◌∙◌, append_assoc, arith, length-append, length-drop, length-take-le, drop-drop, take_at, drop_at}
use borrow.Rule.Slice.PartMut.{put_mid}
use Rattle.std.proofs.lemmas.List.{take_rest, drop_all, append-nil}
use Rattle.std.proofs.lemmas.Bool.Decides.{nat_tests}
use Rattle.refusal.specs.declared.refusal.Refusal.{Refusal}
use Rattle.refusal.specs.declared.refusal.Refusal.TheVariants.{LineNotWritten}
use Rattle.printout.specs.declared.line.Line.{Line}
use Rattle.printout.specs.Text.{text, reason_of, refused}
use Rattle.player.specs.Steps.{Prints}

abbrev part : ℕ → List ℕ → List ℕ
part at out = take (length out - at) (drop at out)

roomy : (line : Line) (buffer : List ℕ) → 80 ≤ length buffer → length (reason_of line) ≤ 15 → refused line buffer ≡ false
roomy line buffer h k = grind (arith, nat_tests)

pub room_there : (line : Line) (out : List ℕ) (at : ℕ) → at + 80 ≤ length out → length (reason_of line) ≤ 15 → refused line (part at out) ≡ false
room_there line out at h k = roomy line (part at out) (omega (arith, ap length (take_rest out at), length-drop at out)) k

written : (out t buffer : List ℕ) (at : ℕ) → at ≤ length out → buffer ≡ t ++ drop (length t) (drop at out)
    → put_mid at (length out - at) out buffer ≡ (take at out ++ t) ++ drop (at + length t) out
written out t buffer at h e =
    let none : drop (length out - at) (drop at out) ≡ [] = drop_all (length out - at) (drop at out) (omega (arith, length-drop at out)) in
    (λ i. take at out ++ (e i ++ none i))
    ∙ ap (λ x. take at out ++ x) (append-nil (t ++ drop (length t) (drop at out)))
    ∙ sym (append_assoc (take at out) t (drop (length t) (drop at out)))
    ∙ ap (λ x. (take at out ++ t) ++ x) (drop-drop (length t) at out)

pub put : (line : Line) (out buffer : List ℕ) (at n : ℕ) → at + 80 ≤ length out → length (reason_of line) ≤ 15
    → ◌≡◌ {A = Result ℕ Refusal} (Ok n) (cond (refused line (part at out)) (Err LineNotWritten) (Ok (length (text line))))
    → buffer ≡ cond (refused line (part at out)) (part at out) (text line ++ drop (length (text line)) (part at out))
    → Prints (text line) out at (put_mid at (length out - at) out buffer) (at + n)
put line out buffer at n h k told bytes =
    let t = text line in
    let e = room_there line out at h k in
    let same : ◌≡◌ {A = Result ℕ Refusal} (Ok n) (Ok (length t)) = told ∙ ap (λ b. cond b (Err LineNotWritten) (Ok (length t))) e in
    let long : n ≡ length t = cc in
    let filled : buffer ≡ t ++ drop (length t) (drop at out) =
    bytes ∙ ap (λ b. cond b (part at out) (t ++ drop (length t) (part at out))) e ∙ ap (λ x. t ++ drop (length t) x) (take_rest out at) in
    let w = written out t buffer at (omega arith) filled in
    let front : length (take at out ++ t) ≡ at + n = length-append (take at out) t ∙ omega (arith, length-take-le at out) in
    record {
      text = ap (take (at + n)) w ∙ take_at (take at out ++ t) (drop (at + length t) out) (at + n) front;
      rest = ap (drop (at + n)) w ∙ drop_at (take at out ++ t) (drop (at + length t) out) (at + n) front ∙ ap (λ m. drop (at + m) out) (sym long);
      after = omega arith;
    }
