-- A call that is made, and its line.
use Rattle.std.proofs.Common.{◌≡◌, ℕ, ◌≤◌, List, [], ◌∷◌, ◌++◌, length, ℤ, Some, None, Ok, Err, Option, Result, sym, refl, ap, ◌∙◌, subst, arith}
use Rattle.std.proofs.lemmas.Int.{to_z-of_z}
use Rattle.refusal.specs.declared.refusal.Refusal.{Refusal}
use Rattle.exact.specs.declared.fraction.Fraction.{Fraction}
use Rattle.questions.specs.declared.verdict.Verdict.{Verdict}
use Rattle.questions.specs.Told.{TellsVerdict, TellsSlope, TellsValue}
use Rattle.stage.specs.Meaning.{Meaning}
use Rattle.places.specs.Held.{held}
use Rattle.book.specs.declared.call.Call.{Call}
use Rattle.book.specs.declared.call.Call.TheVariants as call
use Rattle.book.specs.declared.answer.Answer.{Answer}
use Rattle.book.specs.declared.answer.Answer.TheVariants as answer
use Rattle.book.specs.Rows.{Outcome, answered, Answers, DistinctSerials}
use Rattle.book.specs.Book.{blank, next, told, rows}
use Rattle.book.proofs.Laws.{after_push, replies_push, distinct_run}
use Rattle.register.specs.Page.{page}
use Rattle.channel.specs.declared.channel.Channel.{Channel}
use Rattle.channel.specs.declared.point.Point.{Point}
use Rattle.channel.specs.Lines.{Says, OfLines}
use Rattle.channel.specs.Steps.{Standing, standing, goes, Performs}
use Rattle.channel.specs.Steps as channel
use Rattle.channel.specs.Told.{judged, sloped, valued}
use Rattle.channel.proofs.Going.{right, of_lines}
use Rattle.printout.specs.declared.line.Line.{Line}
use Rattle.printout.specs.Text.{text, reason_of}
use Rattle.player.specs.Lines.{telling}
use Rattle.player.specs.Script.{handed}
use Rattle.player.specs.Steps.{LedBy, Made}
use Rattle.player.proofs.Lines.{no_reason, hands_none}

-- whatever calls led to the channel before, this one goes on from there
pub led_on : {S : Type 0} (meaning : S → Meaning) → (old new : Channel S) (c : Call) (r : Outcome) → Performs meaning old c r new
    → (cs : List Call) (rs : List Outcome) → LedBy (meaning old.stage) old.number cs rs (page old.register) → LedBy (meaning old.stage) old.number (cs ++ c ∷ []) (rs ++ r ∷ []) (page new.register)
led_on meaning old new c r did cs rs led =
    let m = meaning old.stage in let n = old.number in
    let distinct = subst (λ b. DistinctSerials (rows b)) (sym led.0) (distinct_run m n cs) in
    let answer = of_lines (channel.told meaning (standing old) c) old.register c r distinct did.told in (
      ap (λ (s : Standing _). s.page) did.stands ∙ ap (λ b. next m n b c) led.0 ∙ sym (after_push m n blank cs c),
      replies_push m n OfLines blank cs rs c r led.1 (subst (λ b. Answers (told m n b c) (OfLines (rows b) c r) r) led.0 answer),
    )

-- a call with one right answer
pub performed : {S : Type 0} (meaning : S → Meaning) (old new : Channel S) (c : Call) (r : Outcome) → standing new ≡ goes meaning (standing old) c → Some r ≡ channel.told meaning (standing old) c
    → Performs meaning old c r new
performed meaning old new c r e t = record { stands = e; told = right (channel.told meaning (standing old) c) r (Says (held old.register.places.all) c r) t }

-- only the line of an abort has a reason
refused_short : (c : Call) (why : List ℕ) (e : Refusal) → length (reason_of (telling c why (Err e))) ≤ length why
refused_short (call.File n s x) why e = omega (arith, ap length (no_reason s e))
refused_short c why e = omega arith

answered_short : (c : Call) (why : List ℕ) (a : Answer) → length (reason_of (telling c why (Ok a))) ≤ length why
answered_short c why (answer.Aborted s) = omega arith
answered_short c why a = omega arith

short : (c : Call) (why : List ℕ) (r : Outcome) → length (reason_of (telling c why r)) ≤ length why
short c why (Err e) = refused_short c why e
short c why (Ok a) = answered_short c why a

pub made : {S : Type 0} (meaning : S → Meaning) (old new : Channel S) (c : Call) (why : List ℕ) (point : Option Point) (line : Line) (r : Outcome)
    → Performs meaning old c r new → point ≡ handed r → line ≡ telling c why r → Made meaning old c why new point line
made meaning old new c why point line r did hands tells =
    record { answer = r; performs = did; point_is = hands; line_is = ap text tells; reason = omega (arith, ap (λ l. length (reason_of l)) tells, short c why r) }

-- the line of a call with one right answer
pub called : {S : Type 0} (meaning : S → Meaning) (old new : Channel S) (c : Call) (why : List ℕ) (point : Option Point) (line : Line) (r : Outcome)
    → standing new ≡ goes meaning (standing old) c → Some r ≡ channel.told meaning (standing old) c → point ≡ handed r → line ≡ telling c why r → Made meaning old c why new point line
called meaning old new c why point line r e t hands tells = made meaning old new c why point line r (performed meaning old new c r e t) hands tells

-- the lines of the questions about lines, which change nothing
module _ {S : Type 0} (meaning : S → Meaning) (k : Channel S) (line : Line) where
  asked : (c : Call) (r : Outcome) → Performs meaning k c r k → None ≡ handed r → line ≡ telling c [] r → Made meaning k c [] k None line
  asked c r = made meaning k k c [] None line r

  pub told_verdict : (v : Result Verdict Refusal) → TellsVerdict (held k.register.places.all) v → line ≡ telling call.Verdict [] (answered judged v) → Made meaning k call.Verdict [] k None line
  told_verdict (Ok v) tells e = asked call.Verdict (Ok (judged v)) (record { stands = refl; told = (Ok v, refl, tells) }) (hands_none v) e
  told_verdict (Err why) tells e = asked call.Verdict (Err why) (record { stands = refl; told = (Err why, refl, tells) }) refl e

  pub told_slope : (p : Result (Fraction × Fraction) Refusal) → TellsSlope (held k.register.places.all) p → line ≡ telling call.Slope [] (answered sloped p) → Made meaning k call.Slope [] k None line
  told_slope (Ok p) tells e = asked call.Slope (Ok (sloped p)) (record { stands = refl; told = (Ok p, refl, tells) }) refl e
  told_slope (Err why) tells e = asked call.Slope (Err why) (record { stands = refl; told = (Err why, refl, tells) }) refl e

  pub told_value : (x : ℤ) (p : Result (Fraction × Fraction) Refusal) → TellsValue (held k.register.places.all) x p → line ≡ telling (call.Value x) [] (answered valued p) → Made meaning k (call.Value x) [] k None line
  told_value x (Ok p) tells e = asked (call.Value x) (Ok (valued p)) (record { stands = refl; told = (Ok p, refl, tells) }) refl e
  told_value x (Err why) tells e = asked (call.Value x) (Err why) (record { stands = refl; told = (Err why, refl, tells) }) refl e

-- that of a value is cited by name: its argument comes back through a word of the machine
pub ruleset lines = (called, told_verdict, told_slope, to_z-of_z)
