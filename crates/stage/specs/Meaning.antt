-- The meaning of a stage, and the facts that make it a sound one.
use Rattle.std.specs.Prelude.{◌≡◌, ℕ, min, Bool, true, cond, ◌&&◌, ℤ, ◌≤ℤ◌, Ok, Err, Result, int_le}
use Rattle.stage.specs.declared.not_taken.NotTaken.{NotTaken}
use Rattle.exact.specs.declared.set.UncertaintySet.{UncertaintySet}
use Rattle.exact.specs.Limits.{least_end, greatest_end}

-- how many stages there are; which readings are taken, with a lower and an upper end for each of these; and for each other
-- reading the place of the stage that refuses it, counted from the reading, and the value that this stage is handed
pub record Meaning : Type 0 where
  pub count : ℕ
  pub taken : ℤ → Bool
  pub lower : ℤ → ℤ
  pub upper : ℤ → ℤ
  pub place : ℤ → ℕ
  pub value : ℤ → ℤ

-- the four facts that each make of stage shows
pub record Sound (m : Meaning) : Type 0 where
  pub ordered : (r : ℤ) → m.taken r ≡ true → m.lower r ≤ℤ m.upper r
  pub within : (r : ℤ) → m.taken r ≡ true → (least_end ≤ℤ m.lower r) × (m.upper r ≤ℤ greatest_end)
  pub between : (a b c : ℤ) → a ≤ℤ b → b ≤ℤ c → m.taken a ≡ true → m.taken c ≡ true → m.taken b ≡ true
  pub rising : (a b : ℤ) → a ≤ℤ b → m.taken a ≡ true → m.taken b ≡ true → (m.lower a ≤ℤ m.lower b) × (m.upper a ≤ℤ m.upper b)

-- a place or a number of stages as it is told
abbrev pub told : ℕ → ℕ
told n = min n 255

-- what a stage of this meaning answers to a reading
abbrev pub answer : Meaning → ℤ → Result (ℤ × ℤ) NotTaken
answer m r = cond (m.taken r) (Ok (m.lower r, m.upper r)) (Err (record { place = told (m.place r); value = m.value r }))

-- the ends of a set that was made, or the refusal
abbrev pub ends : {E : Type 0} → Result UncertaintySet E → Result (ℤ × ℤ) E
ends (Ok s) = Ok (s.lower, s.upper)
ends (Err e) = Err e

-- whether an end lies within the limits
abbrev pub in_limits : ℤ → Bool
in_limits z = int_le least_end z && int_le z greatest_end

-- a single stage that takes exactly the readings whose ends both lie within the limits
abbrev pub single : (ℤ → ℤ) → (ℤ → ℤ) → Meaning
single l u = record {
  count = 1;
  taken = λ r. in_limits (l r) && in_limits (u r);
  lower = l;
  upper = u;
  place = λ r. 1;
  value = λ r. r;
}
