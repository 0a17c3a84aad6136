-- A whole tape into a whole printout.
use Rattle.std.specs.Prelude.{◌≡◌, ℕ, ◌*◌, ◌<◌, ◌≤◌, List, length, take, drop, None, Ok, Err, Result}
use Rattle.refusal.specs.declared.refusal.Refusal.{Refusal}
use Rattle.refusal.specs.declared.refusal.Refusal.TheVariants.{LineNotWritten}
use Rattle.stage.specs.Meaning.{Meaning, single}
use Rattle.stage.specs.Chains.{chained}
use Rattle.step.specs.Ends as step
use Rattle.bounded.specs.Ends as bounded
use Rattle.book.specs.declared.call.Call.{Call}
use Rattle.book.specs.Rows.{Outcome}
use Rattle.book.specs.Book.{Book}
use Rattle.channel.specs.Runs.{Whole}
use Rattle.player.specs.Sayings.{sayings}
use Rattle.player.specs.Script.{script}

-- past 4,096 bytes nothing is read
abbrev pub read : List ℕ → List ℕ
read tape = take 4096 tape

-- room for the printout: a tape has at most a line of at most 80 bytes for each byte
abbrev pub room : List ℕ → ℕ
room tape = 80 * length (read tape)

-- the printout of a tape: the calls that it makes on a new channel and their answers are a lawful run, and the text is what the
-- script has for these answers
pub record Printout (m : Meaning) (n : ℕ) (tape : List ℕ) (text : List ℕ) : Type 0 where
  pub calls : List Call
  pub answers : List Outcome
  pub end : Book
  pub whole : Whole m n calls answers end
  pub script_is : script None (sayings 0 (read tape)) answers ≡ record { calls = calls; text = text }

-- what becomes of a buffer: the printout stands at its front, and the rest stays; without room for a printout all stays
abbrev pub Played : Meaning → ℕ → List ℕ → List ℕ → List ℕ → Result ℕ Refusal → Type 0
Played m n tape buffer buffer' (Ok k) =
    (room tape ≤ length buffer) × (k ≤ length buffer) × Printout m n tape (take k buffer') × (drop k buffer' ≡ drop k buffer)
Played m n tape buffer buffer' (Err e) = (length buffer < room tape) × (e ≡ LineNotWritten) × (buffer' ≡ buffer)

-- the chain of the bench: a display of step 10 on a bounded stage with the absolute limit 20 and the relative limit 1,000
abbrev pub bench : Meaning
bench = chained (single (step.lower_end 10) (step.upper_end 10)) (single (bounded.lower_end 20 1000) (bounded.upper_end 20 1000))
