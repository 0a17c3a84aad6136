-- The line that tells the answer of a call.
use Rattle.std.specs.Prelude.{ℕ, List, Ok, Err}
use Rattle.std.specs.Borrow.{Bor}
use Rattle.refusal.specs.Numbers.{number}
use Rattle.refusal.specs.declared.refusal.Refusal.{Refusal}
use Rattle.refusal.specs.declared.refusal.Refusal.TheVariants as refusal
use Rattle.book.specs.declared.call.Call.{Call}
use Rattle.book.specs.declared.call.Call.TheVariants as call
use Rattle.book.specs.declared.answer.Answer.TheVariants as answer
use Rattle.book.specs.Rows.{Outcome}
use Rattle.book.specs.Law.{argument_of}
use Rattle.printout.specs.declared.line.Line.{Line}
use Rattle.printout.specs.declared.line.Line.TheVariants.{Load, Set, Spoiled, Aborted, Withdrawn, Possible, Conflicting, Slope, Value, Tallies, Cleared, Refused}
use Rattle.printout.specs.Thousandths.{rounded_down, rounded_up}

-- these bytes, wherever they lie
abbrev pub quoted : List ℕ → Bor (List ℕ)
quoted bytes = record { ref_ptr = (0, 0); now = bytes }

-- a point that was not filed: a reading that is not taken spoils it
abbrev pub unfiled : ℕ → Refusal → Line
unfiled s (refusal.ReadingNotTaken place value) = Spoiled s (number (refusal.ReadingNotTaken place value)) place value
unfiled s e = Refused (number e)

-- a call that was refused
abbrev pub refusing : Call → Refusal → Line
refusing (call.File n s r) e = unfiled s e
refusing c e = Refused (number e)

-- the line of a call that was told this; that of an abort has a reason
abbrev pub telling : Call → List ℕ → Outcome → Line
telling c why (Ok (answer.Opened n s)) = Load s (argument_of c)
telling c why (Ok (answer.Filed s l u)) = Set s l u
telling c why (Ok (answer.Aborted s)) = Aborted s (quoted why)
telling c why (Ok (answer.Withdrawn s)) = Withdrawn s
telling c why (Ok answer.Cleared) = Cleared
telling c why (Ok (answer.Counted t)) = Tallies t.counts.opened t.counts.filed t.counts.spoiled t.counts.aborted t.«open» t.held
telling c why (Ok answer.Line) = Possible
telling c why (Ok (answer.Conflicting conflict)) = Conflicting conflict
telling c why (Ok (answer.Slope least greatest)) = Slope (rounded_down least) (rounded_up greatest)
telling c why (Ok (answer.Value least greatest)) = Value (rounded_down least) (rounded_up greatest)
telling c why (Err e) = refusing c e
