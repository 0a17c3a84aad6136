-- The law of runs: what became of each serial, what the tallies count, and what each call is due, from the calls and the answers
-- before it alone.
use Rattle.std.specs.Prelude.{◌≡◌, ℕ, zero, suc, ◌+◌, Bool, true, false, cond, ◌&&◌, List, [], ◌∷◌, ℤ, pos, Some, None, Ok, Err, count_by, Option, ◌==◌, nat_lt}
use Rattle.std.specs.List.{flat_map}
use Rattle.refusal.specs.Numbers.{number}
use Rattle.refusal.specs.declared.refusal.Refusal.TheVariants.{ArgumentOutOfLimits, NoFreePlace, NoSerialLeft, PointNotOpen, ReadingNotTaken, SerialNotHeld}
use Rattle.stage.specs.Meaning.{Meaning, told}
use Rattle.book.specs.declared.tallies.Counts.{Counts}
use Rattle.book.specs.declared.tallies.Tallies.{Tallies}
use Rattle.book.specs.declared.call.Call.{Call}
use Rattle.book.specs.declared.call.Call.TheVariants as call
use Rattle.book.specs.declared.answer.Answer.TheVariants as answer
use Rattle.book.specs.Limits.{place_count, last_serial, within}
use Rattle.book.specs.Rows.{Row, Questions, Answers, Outcome}

-- calls with their answers, the newest first
abbrev pub History : Type 0
History = List (Call × Outcome)

-- ---- what happened

pub data Event : Type 0 where
  opens : (serial : ℕ) (argument : ℤ) → Event
  files : (serial : ℕ) (reading lower upper : ℤ) → Event
  spoils : (serial : ℕ) → Event
  aborts : (serial : ℕ) → Event
  withdraws : (serial : ℕ) → Event
  clears : Event
  nothing : Event

-- the argument, the serial and the reading that a call is passed
abbrev pub argument_of : Call → ℤ
argument_of (call.Open x) = x
argument_of (call.Value x) = x
argument_of c = pos 0

abbrev pub serial_of : Call → ℕ
serial_of (call.File k s r) = s
serial_of (call.Abort k s) = s
serial_of (call.Withdraw s) = s
serial_of c = 0

abbrev pub reading_of : Call → ℤ
reading_of (call.File k s r) = r
reading_of c = pos 0

-- whether a call is a question
abbrev pub asks : Call → Bool
asks call.Verdict = true
asks call.Slope = true
asks (call.Value x) = true
asks call.Tallies = true
asks c = false

-- what an answer tells of the call; of the refusals only that of a reading spoils a point
abbrev pub happened : Call → Outcome → Event
happened c (Ok (answer.Opened n s)) = opens s (argument_of c)
happened c (Ok (answer.Filed s l u)) = files s (reading_of c) l u
happened c (Ok (answer.Aborted s)) = aborts s
happened c (Ok (answer.Withdrawn s)) = withdraws s
happened c (Ok answer.Cleared) = clears
happened c (Ok r) = nothing
happened c (Err e) = cond (number e == 5) (spoils (serial_of c)) nothing

-- a question changes nothing, whatever its answer
abbrev pub event : Call → Outcome → Event
event c r = cond (asks c) nothing (happened c r)

-- the newest first
unfoldable pub events : History → List Event
events [] = []
events (e ∷ h) = event e.0 e.1 ∷ events h

-- ---- what became of a serial

pub data Fate : Type 0 where
  never : Fate
  open_at : (argument : ℤ) → Fate
  held_at : (argument reading lower upper : ℤ) → Fate
  spoiled : Fate
  aborted : Fate
  withdrawn : Fate
  swept : Fate

abbrev pub is_open : Fate → Bool
is_open (open_at x) = true
is_open f = false

abbrev pub is_held : Fate → Bool
is_held (held_at x r l u) = true
is_held f = false

abbrev pub file : ℤ → ℤ → ℤ → Fate → Fate
file r l u (open_at x) = held_at x r l u
file r l u f = f

-- a clearing sweeps what is open or held
abbrev pub sweep : Fate → Fate
sweep (open_at x) = swept
sweep (held_at x r l u) = swept
sweep f = f

-- what an event makes of the fate of a serial
abbrev pub turn : ℕ → Event → Fate → Fate
turn s (opens t x) f = cond (s == t) (open_at x) f
turn s (files t r l u) f = cond (s == t) (file r l u f) f
turn s (spoils t) f = cond (s == t) spoiled f
turn s (aborts t) f = cond (s == t) aborted f
turn s (withdraws t) f = cond (s == t) withdrawn f
turn s clears f = sweep f
turn s nothing f = f

unfoldable pub fate : ℕ → List Event → Fate
fate s [] = never
fate s (e ∷ es) = turn s e (fate s es)

-- ---- counting

abbrev pub opening : Event → Bool
opening (opens s x) = true
opening e = false

abbrev pub filing : Event → Bool
filing (files s r l u) = true
filing e = false

abbrev pub spoiling : Event → Bool
spoiling (spoils s) = true
spoiling e = false

abbrev pub aborting : Event → Bool
aborting (aborts s) = true
aborting e = false

-- what happened since the last clearing
unfoldable pub since : List Event → List Event
since [] = []
since (clears ∷ es) = []
since (e ∷ es) = e ∷ since es

-- how many points were ever given, and their serials
abbrev pub given : List Event → ℕ
given es = count_by opening es

unfoldable pub up_to : ℕ → List ℕ
up_to zero = []
up_to (suc n) = suc n ∷ up_to n

abbrev pub serials : List Event → List ℕ
serials es = up_to (given es)

-- how many of them are open, and how many are held
abbrev pub open_count : List Event → ℕ
open_count es = count_by (λ s. is_open (fate s es)) (serials es)

abbrev pub held_count : List Event → ℕ
held_count es = count_by (λ s. is_held (fate s es)) (serials es)

abbrev pub counts : List Event → Counts
counts es = record { opened = count_by opening es; filed = count_by filing es; spoiled = count_by spoiling es; aborted = count_by aborting es }

abbrev pub tallies : List Event → Tallies
tallies es = record { counts = counts (since es); «open» = open_count es; held = held_count es }

-- every point since the last clearing was filed, spoiled or aborted, or is open
abbrev pub Balanced : List Event → Type 0
Balanced es = let c = counts (since es) in c.opened ≡ c.filed + c.spoiled + c.aborted + open_count es

-- the row of a serial, if it is held
abbrev pub row : ℕ → Fate → List Row
row s (held_at x r l u) = record { serial = s; argument = x; lower = l; upper = u } ∷ []
row s f = []

abbrev pub held : List Event → List Row
held es = flat_map (λ s. row s (fate s es)) (serials es)

-- ---- what a call is due, after what happened; a question about lines goes by what is held

abbrev pub due : Meaning → ℕ → List Event → Call → Option Outcome
due m n es (call.Open x) = Some (cond (within x)
    (cond (nat_lt (open_count es + held_count es) place_count)
    (cond (nat_lt (given es) last_serial) (Ok (answer.Opened n (given es + 1))) (Err NoSerialLeft))
    (Err NoFreePlace))
    (Err ArgumentOutOfLimits))
due m n es (call.File k s r) = Some (cond (k == n && is_open (fate s es))
    (cond (m.taken r) (Ok (answer.Filed s (m.lower r) (m.upper r))) (Err (ReadingNotTaken (told (m.place r)) (m.value r))))
    (Err PointNotOpen))
due m n es (call.Abort k s) = Some (cond (k == n && is_open (fate s es)) (Ok (answer.Aborted s)) (Err PointNotOpen))
due m n es (call.Withdraw s) = Some (cond (is_held (fate s es)) (Ok (answer.Withdrawn s)) (Err SerialNotHeld))
due m n es call.Clear = Some (Ok answer.Cleared)
due m n es call.Verdict = None
due m n es call.Slope = None
due m n es (call.Value x) = None
due m n es call.Tallies = Some (Ok (answer.Counted (tallies es)))

-- every call of a history has the answer that it was due
unfoldable pub Lawful : Questions → Meaning → ℕ → History → Type 0
Lawful Q m n [] = Unit {0}
Lawful Q m n (e ∷ h) = Answers (due m n (events h) e.0) (Q (held (events h)) e.0 e.1) e.1 × Lawful Q m n h

-- calls and their answers, the oldest first, put upon a history
unfoldable pub upon : History → List Call → List Outcome → History
upon h [] rs = h
upon h (c ∷ cs) [] = h
upon h (c ∷ cs) (r ∷ rs) = upon ((c, r) ∷ h) cs rs
