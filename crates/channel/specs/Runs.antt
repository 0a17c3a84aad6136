-- The law of a channel's runs.
use Rattle.std.specs.Prelude.{◌≡◌, ℕ, List, [], ◌∷◌}
use Rattle.stage.specs.Meaning.{Meaning}
use Rattle.book.specs.declared.call.Call.{Call}
use Rattle.book.specs.Rows.{Outcome}
use Rattle.book.specs.Book.{Book, blank, tallies as kept_tallies}
use Rattle.book.specs.Run.{after, Replies}
use Rattle.book.specs.Law.{History, events, Lawful, Balanced, upon, tallies as counted_tallies}
use Rattle.book.specs.Agreement.{Agrees}
use Rattle.channel.specs.Lines.{OfLines}
use Rattle.channel.specs.Steps.{Standing}

-- a history led to a book: every call was told what it was due, and the book is that of what happened
abbrev pub Led : Meaning → ℕ → History → Book → Type 0
Led m n h b = Lawful OfLines m n h × Agrees (events h) b

-- whatever history led to the book before, it goes on lawfully with this call and this answer
abbrev pub GoesOn : Meaning → ℕ → Book → Call → Outcome → Book → Type 0
GoesOn m n before c r after = (h : History) → Led m n h before → Led m n ((c, r) ∷ h) after

-- the same of a channel, by how it stood before the call and how it stands after
unfoldable pub KeepsLaw : {S : Type 0} → (S → Meaning) → Standing S → Call → Outcome → Standing S → Type 0
KeepsLaw meaning before c r after = GoesOn (meaning before.stage) before.number before.page c r after.page

-- the theorem of whole runs: a list of calls on a new channel, with the answers that it gave and the book that it left
pub record Whole (m : Meaning) (n : ℕ) (calls : List Call) (answers : List Outcome) (end : Book) : Type 0 where
  -- the channel's book is the one that the bench kept, fed with the calls alone
  pub book : end ≡ after m n blank calls
  -- every call was told what the bench book says of its step; of lines, what the rows that it then held allow
  pub replies : Replies OfLines m n blank calls answers
  -- the same by the history alone: what became of each serial, the tallies since the last clearing, what each call was due
  pub led : Led m n (upon [] calls answers) end
  -- the tallies at the end are the history's counts, and the first is the sum of the next four
  pub tallies : kept_tallies end ≡ counted_tallies (events (upon [] calls answers))
  pub balanced : Balanced (events (upon [] calls answers))
