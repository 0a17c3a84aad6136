-- What the reader answers.
use Rattle.std.specs.Prelude.{◌≡◌, ℕ, ◌≤◌, List, length, drop, Some, None, Ok, Err, Option, Result}
use Rattle.std.specs.Borrow.{Bor}
use Rattle.refusal.specs.declared.refusal.Refusal.{Refusal}
use Rattle.refusal.specs.declared.refusal.Refusal.TheVariants.{FrameCutShort, FrameUnknown}
use Rattle.frames.specs.declared.frame.Frame.{Frame}
use Rattle.frames.specs.declared.frame.Frame.TheVariants.{Load, Reading, Abort, Withdraw, Verdict, Slope, Value, Tallies, Clear}
use Rattle.frames.specs.Tape.{Meaning, load, reading, abort, withdraw, verdict, slope, value, tallies, clear, Said, ended, frame, cut_short, unknown, said, moved}

-- what a frame that was read says
abbrev pub meaning : Frame → Meaning
meaning (Load argument) = load argument
meaning (Reading r) = reading r
meaning (Abort reason) = abort reason.now
meaning (Withdraw serial) = withdraw serial
meaning Verdict = verdict
meaning Slope = slope
meaning (Value argument) = value argument
meaning Tallies = tallies
meaning Clear = clear

abbrev pub meant : Result (Option Frame) Refusal → Result (Option Meaning) Refusal
meant (Ok None) = Ok None
meant (Ok (Some f)) = Ok (Some (meaning f))
meant (Err why) = Err why

-- what is answered at a position of a tape, by what stands there
abbrev pub answer : ℕ → Said → Result (Option Meaning) Refusal
answer position ended = Ok None
answer position (frame m n) = Ok (Some m)
answer position cut_short = Err (FrameCutShort position)
answer position unknown = Err (FrameUnknown position)

-- what stands at the front of the bytes was taken off them: the frame, and what is left
abbrev pub Decoded : ℕ → List ℕ → Result (Frame × Bor (List ℕ)) Refusal → Type 0
Decoded position bytes (Ok found) = (said bytes ≡ frame (meaning found.0) (moved (said bytes))) × (found.1.now ≡ drop (moved (said bytes)) bytes) × (moved (said bytes) ≤ length bytes)
Decoded position bytes (Err why) = answer position (said bytes) ≡ Err why
