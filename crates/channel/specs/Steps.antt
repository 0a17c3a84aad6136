-- What a call does to a channel.
use Rattle.std.specs.Prelude.{◌≡◌, ℕ, Option}
use Rattle.stage.specs.Meaning.{Meaning}
use Rattle.places.specs.Held.{held}
use Rattle.book.specs.declared.call.Call.{Call}
use Rattle.book.specs.Rows.{Answers, Outcome}
use Rattle.book.specs.Book.{Book, next}
use Rattle.book.specs.Book as book
use Rattle.register.specs.Page.{page}
use Rattle.channel.specs.Lines.{Says}
use Rattle.channel.specs.declared.channel.Channel.{Channel}

-- how a channel stands: its number, its stage, and its register as a page of the bench book
pub record Standing (S : Type 0) : Type 0 where
  pub number : ℕ
  pub stage : S
  pub page : Book

abbrev pub standing : {S : Type 0} → Channel S → Standing S
standing channel = record { number = channel.number; stage = channel.stage; page = page channel.register }

module _ {S : Type 0} (meaning : S → Meaning) (before : Standing S) (call : Call) where
  -- how it stands after a call: its number and its stage stay, and its page goes as the bench book goes
  abbrev pub goes : Standing S
  goes = record before { page = next (meaning before.stage) before.number before.page call }

  -- what the bench book tells the call
  abbrev pub told : Option Outcome
  told = book.told (meaning before.stage) before.number before.page call

-- a call and the answer to it, as a run notes them
pub record Performs {S : Type 0} (meaning : S → Meaning) (before : Channel S) (call : Call) (answer : Outcome) (after : Channel S) : Type 0 where
  pub stands : standing after ≡ goes meaning (standing before) call
  -- of lines, what is held allows
  pub told : Answers (told meaning (standing before) call) (Says (held before.register.places.all) call answer) answer
