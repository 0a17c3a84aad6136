-- Which calls a tape makes and which text is printed, from what the tape says and what the calls are told.
use Rattle.std.specs.Prelude.{ℕ, Bool, true, false, List, [], ◌∷◌, ◌++◌, Some, None, Ok, Option}
use Rattle.refusal.specs.Numbers.{number}
use Rattle.refusal.specs.declared.refusal.Refusal.TheVariants as refusal
use Rattle.book.specs.declared.call.Call.{Call}
use Rattle.book.specs.declared.call.Call.TheVariants as call
use Rattle.book.specs.declared.answer.Answer.TheVariants as answer
use Rattle.book.specs.Rows.{Outcome}
use Rattle.channel.specs.declared.point.Point.{Point}
use Rattle.frames.specs.Tape.{Meaning, load, reading, abort, withdraw, verdict, slope, value, tallies, clear, Said, ended, frame, cut_short, unknown}
use Rattle.printout.specs.declared.line.Line.TheVariants.{Refused}
use Rattle.printout.specs.Text.{text}
use Rattle.player.specs.Lines.{telling}

-- ---- the open point

-- the point that an answer hands out
abbrev pub handed : Outcome → Option Point
handed (Ok (answer.Opened n s)) = Some (record { number = n; serial = s })
handed r = None

-- a reading and an abort are for the open point; whatever else comes, the point is aborted first
abbrev pub interrupts : Said → Bool
interrupts (frame (reading r) n) = false
interrupts (frame (abort why) n) = false
interrupts s = true

-- the call that ends a point without a reading
abbrev pub giving_up : Point → Call
giving_up p = call.Abort p.number p.serial

-- the call of a frame: none of a reading or an abort while no point is open
abbrev pub asked : Option Point → Meaning → Option Call
asked (Some p) (reading r) = Some (call.File p.number p.serial r)
asked None (reading r) = None
asked (Some p) (abort why) = Some (giving_up p)
asked None (abort why) = None
asked o (load x) = Some (call.Open x)
asked o (withdraw s) = Some (call.Withdraw s)
asked o verdict = Some call.Verdict
asked o slope = Some call.Slope
asked o (value x) = Some (call.Value x)
asked o tallies = Some call.Tallies
asked o clear = Some call.Clear

-- the reason that a frame gives
abbrev pub reason : Meaning → List ℕ
reason (abort why) = why
reason m = []

-- ---- the script

-- the calls, and the text of their lines and of the refusals
pub record Script : Type 0 where
  pub calls : List Call
  pub text : List ℕ

abbrev pub done : Script
done = record { calls = []; text = [] }

-- calls and text that come before a script
abbrev pub before : List Call → List ℕ → Script → Script
before cs t s = record { calls = cs ++ s.calls; text = t ++ s.text }

-- how a script goes on: with the point that is then open, and the answers that are left
abbrev pub Onward : Type 0
Onward = Option Point → List Outcome → Script

-- a call is made: the next answer is its own, and its line is printed
abbrev pub made : Call → List ℕ → List Outcome → Onward → Script
made c why [] onward = before (c ∷ []) [] done
made c why (r ∷ rs) onward = before (c ∷ []) (text (telling c why r)) (onward (handed r) rs)

-- a frame is refused by its number, and no call is made
abbrev pub refused : ℕ → Script → Script
refused n s = before [] (text (Refused n)) s

-- what has to be done before: the open point is aborted, for an empty reason
abbrev pub cleared_away : Bool → Option Point → List Outcome → Onward → Script
cleared_away true (Some p) rs onward = made (giving_up p) [] rs onward
cleared_away true None rs onward = onward None rs
cleared_away false o rs onward = onward o rs

-- a frame with its call, or without one
abbrev pub answered : Option Call → List ℕ → List Outcome → Onward → Script
answered (Some c) why rs onward = made c why rs onward
answered None why rs onward = refused (number refusal.NoOpenPoint) (onward None rs)

-- what a tape says is dealt with; a frame cut short or unknown ends the run, and only the number of its refusal is printed
abbrev pub dealt : Said → Option Point → List Outcome → Onward → Script
dealt ended o rs onward = done
dealt cut_short o rs onward = refused (number (refusal.FrameCutShort 0)) done
dealt unknown o rs onward = refused (number (refusal.FrameUnknown 0)) done
dealt (frame m n) o rs onward = answered (asked o m) (reason m) rs onward

unfoldable pub script : Option Point → List Said → List Outcome → Script
script o [] rs = done
script o (s ∷ ss) rs = cleared_away (interrupts s) o rs (λ o' rs'. dealt s o' rs' (λ o'' rs''. script o'' ss rs''))
