-- When a bench book is that of a history.
use Rattle.std.specs.Prelude.{◌≡◌, ℕ, ◌+◌, ◌<◌, ◌≤◌, Bool, true, false, cond, ◌||◌, List, length, ℤ, count_by, ◌==◌}
use Rattle.std.specs.List.{AllByRecursion}
use Rattle.stage.specs.Meaning.{Meaning}
use Rattle.book.specs.Limits.{place_count, last_serial, within}
use Rattle.book.specs.Book.{Book, Spot, Free, Open, Held}
use Rattle.book.specs.Book as book
use Rattle.book.specs.Rows.{Row}
use Rattle.book.specs.Law.{Event, Fate, never, open_at, held_at, is_open, is_held, fate, given, since, counts}

-- a spot is as its serial fares
abbrev pub Fares : List Event → Spot → Type 0
Fares es Free = Unit {0}
Fares es (Open s x) = fate s es ≡ open_at x
Fares es (Held s x r l u) = fate s es ≡ held_at x r l u

-- whether a spot bears a serial
abbrev pub bears : ℕ → Spot → Bool
bears t Free = false
bears t (Open s x) = s == t
bears t (Held s x r l u) = s == t

-- a serial that is open or held
abbrev pub stands : Fate → Bool
stands f = is_open f || is_held f

pub record Agrees (es : List Event) (b : Book) : Type 0 where
  pub long : length b.spots ≡ place_count
  pub last : b.last ≡ given es
  pub counts : b.counts ≡ counts (since es)
  -- serials are given from 1 on
  pub first : fate 0 es ≡ never
  pub fresh : (s : ℕ) → given es < s → fate s es ≡ never
  -- each spot is as its serial fares, and a serial that is open or held has just one spot
  pub each : AllByRecursion (Fares es) b.spots
  pub once : (s : ℕ) → count_by (bears s) b.spots ≡ cond (stands (fate s es)) 1 0

-- what a spot holds came from a reading that is taken, at an argument
abbrev pub Taken : Meaning → Spot → Type 0
Taken m Free = Unit {0}
Taken m (Open s x) = within x ≡ true
Taken m (Held s x r l u) = (within x ≡ true) × (m.taken r ≡ true) × (l ≡ m.lower r) × (u ≡ m.upper r)

-- what is so of every book that calls lead to
pub record Kept (m : Meaning) (b : Book) : Type 0 where
  pub long : length b.spots ≡ place_count
  pub few : b.last ≤ last_serial
  pub given : b.counts.opened ≤ b.last
  pub ended : b.counts.filed + b.counts.spoiled + b.counts.aborted + count_by book.is_open b.spots ≡ b.counts.opened
  pub taken : AllByRecursion (Taken m) b.spots

-- what is so of a row in such a book
pub record Measured (m : Meaning) (x : Row) : Type 0 where
  pub at_argument : within x.argument ≡ true
  pub reading : ℤ
  pub taken : m.taken reading ≡ true
  pub lower : x.lower ≡ m.lower reading
  pub upper : x.upper ≡ m.upper reading
