-- The bench book: what each call leaves in it, and what the call is told. It is fed the meaning of the stages, the channel's number
-- and what each call is passed, and nothing from the program.
use Rattle.std.specs.Prelude.{ℕ, ◌+◌, Bool, true, false, cond, not, List, [], ◌∷◌, replicate, ℤ, Some, None, Ok, Err, count_by, Option, Result, ◌==◌, nat_lt, slice_index_or, slice_set}
use Rattle.std.specs.List.{prefix_len}
use Rattle.refusal.specs.declared.refusal.Refusal.{Refusal}
use Rattle.refusal.specs.declared.refusal.Refusal.TheVariants as refusal
use Rattle.stage.specs.Meaning.{Meaning, told as stage_told}
use Rattle.book.specs.declared.tallies.Counts.{Counts}
use Rattle.book.specs.declared.tallies.Tallies.{Tallies}
use Rattle.book.specs.declared.call.Call.{Call}
use Rattle.book.specs.declared.call.Call.TheVariants as call
use Rattle.book.specs.declared.answer.Answer.TheVariants as answer
use Rattle.book.specs.Limits.{place_count, last_serial, within}
use Rattle.book.specs.Rows.{Row, Outcome, answered}

-- a spot is free, open under a serial at an argument, or holds a reading too, with the lower and the upper end of its set
pub data Spot : Type 0 where
  Free : Spot
  Open : (serial : ℕ) (argument : ℤ) → Spot
  Held : (serial : ℕ) (argument reading lower upper : ℤ) → Spot

-- the spots, the last serial that was given, and the counts
pub record Book : Type 0 where
  pub spots : List Spot
  pub last : ℕ
  pub counts : Counts

-- a cleared book: serials go on, all else starts again
abbrev pub cleared : ℕ → Book
cleared last = record { spots = replicate place_count Free; last = last; counts = record { opened = 0; filed = 0; spoiled = 0; aborted = 0 } }

-- a new book
abbrev pub blank : Book
blank = cleared 0

-- ---- looking for a spot

abbrev pub is_free : Spot → Bool
is_free Free = true
is_free (Open s x) = false
is_free (Held s x r l u) = false

abbrev pub is_open : Spot → Bool
is_open Free = false
is_open (Open s x) = true
is_open (Held s x r l u) = false

abbrev pub is_held : Spot → Bool
is_held Free = false
is_held (Open s x) = false
is_held (Held s x r l u) = true

abbrev pub open_as : ℕ → Spot → Bool
open_as t Free = false
open_as t (Open s x) = s == t
open_as t (Held s x r l u) = false

abbrev pub held_as : ℕ → Spot → Bool
held_as t Free = false
held_as t (Open s x) = false
held_as t (Held s x r l u) = s == t

-- how many spots stand before the first that passes a test: its index, where there is one
abbrev pub first : (Spot → Bool) → Book → ℕ
first test b = prefix_len (λ s. not (test s)) b.spots

-- whether there is one
abbrev pub found : (Spot → Bool) → Book → Bool
found test b = nat_lt (first test b) place_count

-- ---- changing it

abbrev pub put : Book → ℕ → Spot → Book
put b i s = record b { spots = slice_set b.spots i s }

abbrev pub one_opened : Book → Book
one_opened b = record b { last = b.last + 1; counts = record b.counts { opened = b.counts.opened + 1 } }

abbrev pub one_filed : Book → Book
one_filed b = record b { counts = record b.counts { filed = b.counts.filed + 1 } }

abbrev pub one_spoiled : Book → Book
one_spoiled b = record b { counts = record b.counts { spoiled = b.counts.spoiled + 1 } }

abbrev pub one_aborted : Book → Book
one_aborted b = record b { counts = record b.counts { aborted = b.counts.aborted + 1 } }

-- an open spot with a reading and the ends of its set
abbrev pub hold : ℤ → ℤ → ℤ → Spot → Spot
hold r l u Free = Free
hold r l u (Open s x) = Held s x r l u
hold r l u (Held s x r' l' u') = Held s x r' l' u'

-- ---- each step, by the serial

-- open: the first free spot
abbrev pub opens_next : Book → ℤ → Book
opens_next b x = cond (found is_free b)
    (cond (nat_lt b.last last_serial) (one_opened (put b (first is_free b) (Open (b.last + 1) x))) b)
    b

abbrev pub opens_told : Book → Result ℕ Refusal
opens_told b = cond (found is_free b)
    (cond (nat_lt b.last last_serial) (Ok (b.last + 1)) (Err refusal.NoSerialLeft))
    (Err refusal.NoFreePlace)

-- file: a reading that is taken is held, any other spoils the point
abbrev pub files_at : Meaning → Book → ℕ → ℤ → Book
files_at m b i r = cond (m.taken r)
    (one_filed (put b i (hold r (m.lower r) (m.upper r) (slice_index_or b.spots i Free))))
    (one_spoiled (put b i Free))

abbrev pub files_next : Meaning → Book → ℕ → ℤ → Book
files_next m b s r = cond (found (open_as s) b) (files_at m b (first (open_as s) b) r) b

-- what the stage answers to a reading, or the refusal
abbrev pub reading_told : Meaning → ℤ → Result (ℤ × ℤ) Refusal
reading_told m r = cond (m.taken r) (Ok (m.lower r, m.upper r)) (Err (refusal.ReadingNotTaken (stage_told (m.place r)) (m.value r)))

abbrev pub files_told : Meaning → Book → ℕ → ℤ → Result (ℤ × ℤ) Refusal
files_told m b s r = cond (found (open_as s) b) (reading_told m r) (Err refusal.PointNotOpen)

-- abort
abbrev pub aborts_next : Book → ℕ → Book
aborts_next b s = cond (found (open_as s) b) (one_aborted (put b (first (open_as s) b) Free)) b

abbrev pub aborts_told : Book → ℕ → Result (Unit {0}) Refusal
aborts_told b s = cond (found (open_as s) b) (Ok tt) (Err refusal.PointNotOpen)

-- withdraw: no tally changes
abbrev pub withdraws_next : Book → ℕ → Book
withdraws_next b s = cond (found (held_as s) b) (put b (first (held_as s) b) Free) b

abbrev pub withdraws_told : Book → ℕ → Result (Unit {0}) Refusal
withdraws_told b s = cond (found (held_as s) b) (Ok tt) (Err refusal.SerialNotHeld)

-- tallies
abbrev pub tallies : Book → Tallies
tallies b = record { counts = b.counts; «open» = count_by is_open b.spots; held = count_by is_held b.spots }

-- ---- each call

-- the book after a call; a point of another number, and a question, change nothing
abbrev pub next : Meaning → ℕ → Book → Call → Book
next m n b (call.Open x) = cond (within x) (opens_next b x) b
next m n b (call.File k s r) = cond (k == n) (files_next m b s r) b
next m n b (call.Abort k s) = cond (k == n) (aborts_next b s) b
next m n b (call.Withdraw s) = withdraws_next b s
next m n b call.Clear = cleared b.last
next m n b call.Verdict = b
next m n b call.Slope = b
next m n b (call.Value x) = b
next m n b call.Tallies = b

-- what a call is told; a question about lines has its answer from what is held, and the book does not give it
abbrev pub told : Meaning → ℕ → Book → Call → Option Outcome
told m n b (call.Open x) = Some (cond (within x) (answered (answer.Opened n) (opens_told b)) (Err refusal.ArgumentOutOfLimits))
told m n b (call.File k s r) = Some (cond (k == n) (answered (λ ends. answer.Filed s ends.0 ends.1) (files_told m b s r)) (Err refusal.PointNotOpen))
told m n b (call.Abort k s) = Some (cond (k == n) (answered (λ done. answer.Aborted s) (aborts_told b s)) (Err refusal.PointNotOpen))
told m n b (call.Withdraw s) = Some (answered (λ done. answer.Withdrawn s) (withdraws_told b s))
told m n b call.Clear = Some (Ok answer.Cleared)
told m n b call.Verdict = None
told m n b call.Slope = None
told m n b (call.Value x) = None
told m n b call.Tallies = Some (Ok (answer.Counted (tallies b)))

-- ---- what is held

unfoldable pub held_rows : List Spot → List Row
held_rows [] = []
held_rows (Free ∷ ps) = held_rows ps
held_rows (Open s x ∷ ps) = held_rows ps
held_rows (Held s x r l u ∷ ps) = record { serial = s; argument = x; lower = l; upper = u } ∷ held_rows ps

-- the held measurements, in the order of the spots
abbrev pub rows : Book → List Row
rows b = held_rows b.spots
