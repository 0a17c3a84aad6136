-- One step of a run.
use Rattle.std.specs.Prelude.{◌≡◌, ℕ, ◌≤◌, List, [], ◌∷◌, ◌++◌, length, take, drop, Some, None, Option}
use Rattle.refusal.specs.Numbers.{number}
use Rattle.refusal.specs.declared.refusal.Refusal.TheVariants.{NoOpenPoint}
use Rattle.stage.specs.Meaning.{Meaning}
use Rattle.book.specs.declared.call.Call.{Call}
use Rattle.book.specs.Rows.{Outcome}
use Rattle.book.specs.Book.{Book, blank}
use Rattle.book.specs.Run.{after, Replies}
use Rattle.register.specs.Page.{page}
use Rattle.channel.specs.declared.channel.Channel.{Channel}
use Rattle.channel.specs.declared.point.Point.{Point}
use Rattle.channel.specs.Lines.{OfLines}
use Rattle.channel.specs.Steps.{Performs}
use Rattle.frames.specs.Tape.{Said, frame}
use Rattle.frames.specs.Tape as tape
use Rattle.printout.specs.declared.line.Line.{Line}
use Rattle.printout.specs.declared.line.Line.TheVariants.{Refused}
use Rattle.printout.specs.Text.{text, reason_of}
use Rattle.player.specs.Lines.{telling}
use Rattle.player.specs.Script.{handed, before, script}

-- calls with these answers led a new channel to a book
abbrev pub LedBy : Meaning → ℕ → List Call → List Outcome → Book → Type 0
LedBy m n cs rs b = (b ≡ after m n blank cs) × Replies OfLines m n blank cs rs

-- a call was made on a channel, for a reason; perhaps it handed a point out, and it is told by this line
pub record Made {S : Type 0} (meaning : S → Meaning) (old : Channel S) (c : Call) (why : List ℕ) (new : Channel S) (point : Option Point) (line : Line) : Type 0 where
  pub answer : Outcome
  pub performs : Performs meaning old c answer new
  pub point_is : point ≡ handed answer
  pub line_is : text line ≡ text (telling c why answer)
  pub reason : length (reason_of line) ≤ length why

-- what became of a frame where no point is open: its call was made, or it was refused, since it has none
abbrev pub Asked : {S : Type 0} → (S → Meaning) → Channel S → Option Call → Channel S → Option Point → Line → Type 0
Asked meaning old (Some c) new point line = Made meaning old c [] new point line
Asked meaning old None new point line = (new ≡ old) × (point ≡ None) × (line ≡ Refused (number NoOpenPoint))

-- how far a run has come: this point is open, this is left of what the tape says, this is the book, and this was printed
pub record Reached (m : Meaning) (n : ℕ) (all : List Said) (o : Option Point) (left : List Said) (b : Book) (printed : List ℕ) : Type 0 where
  pub calls : List Call
  pub answers : List Outcome
  pub led : LedBy m n calls answers b
  pub onward : (rs : List Outcome) → script None all (answers ++ rs) ≡ before calls printed (script o left rs)

-- a channel, and the point that is open on it
pub record Player (S : Type 0) : Type 0 where
  pub channel : Channel S
  pub pending : Option Point

abbrev pub player : {S : Type 0} → Channel S → Option Point → Player S
player channel pending = record { channel = channel; pending = pending }

-- a channel with no point open
abbrev pub idle : {S : Type 0} → Channel S → Player S
idle channel = player channel None

-- a run of a player has come so far
pub record Run {S : Type 0} (meaning : S → Meaning) (m : Meaning) (n : ℕ) (all : List Said) (player : Player S) (left : List Said) (printed : List ℕ) : Type 0 where
  pub number : player.channel.number ≡ n
  pub stage : meaning player.channel.stage ≡ m
  pub reached : Reached m n all player.pending left (page player.channel.register) printed

-- whatever run came to a player, with this left of what the tape says, goes on to the next one when these bytes are printed
abbrev pub Continues : {S : Type 0} → (S → Meaning) → Player S → List Said → Player S → List Said → List ℕ → Type 0
Continues meaning old left new left' bytes =
    (m : Meaning) (n : ℕ) (all : List Said) (printed : List ℕ) → Run meaning m n all old left printed → Run meaning m n all new left' (printed ++ bytes)

-- a frame was dealt with, whatever the tape says after it, and these bytes are its lines
abbrev pub Deals : {S : Type 0} → (S → Meaning) → Player S → tape.Meaning → Player S → List ℕ → Type 0
Deals meaning old m new bytes = (left : List Said) (k : ℕ) → Continues meaning old (frame m k ∷ left) new left bytes

-- the text of a line that is perhaps told, and its room
abbrev pub told : Option Line → List ℕ
told None = []
told (Some line) = text line

abbrev pub takes : Option Line → ℕ
takes None = 0
takes (Some line) = 80

-- bytes were printed into a buffer from a place on, up to the next place
pub record Prints (bytes : List ℕ) (old : List ℕ) (at : ℕ) (new : List ℕ) (at' : ℕ) : Type 0 where
  pub text : take at' new ≡ take at old ++ bytes
  pub rest : drop at' new ≡ drop at' old
  pub after : at ≤ at'

-- the room for the line that is owed while a point is open
abbrev pub owed : Option Point → ℕ
owed None = 0
owed (Some p) = 80

-- the room for what a frame may bring: its line, and that of the point which a load opens
abbrev pub brings : tape.Meaning → ℕ
brings (tape.load x) = 160
brings m = 80
