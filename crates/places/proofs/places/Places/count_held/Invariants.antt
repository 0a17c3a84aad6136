use Rattle.std.proofs.Common.{◌≡◌, ◌<◌, ◌≤◌, length, take, count_by}
use Rattle.places.specs.Search.{is_held}
use Rattle.places.proofs.places.Places.count_held.Given as goal

-- the count so far; that there are 64 places is seen once one is read
abbrev pub invariant-loop-place : goal.invariant-loop-place
invariant-loop-place l = (l.count ≡ count_by is_held (take l.place-index l.self.all)) × (l.count ≤ l.place-index) × (0 < l.place-index → length l.self.all ≡ 64)
