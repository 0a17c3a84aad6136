use Rattle.std.proofs.Common.{◌≡◌, ℕ, ◌<◌, ◌≤◌, map, length, get_or}
use Rattle.lines.specs.Mirror.{mirrored}
use Rattle.places.specs.declared.place.Place.{Place}
use Rattle.places.specs.Samples.{sampled, adds}
use Rattle.places.proofs.places.Places.mirrored.Given as goal

-- the places before this one are turned, the others are as they were
abbrev pub invariant-loop-place : goal.invariant-loop-place
invariant-loop-place l =
    (length l.place-items ≡ length l.self.all)
    × ((i : ℕ) → i < l.place-index → (d : Place) → adds (sampled (get_or l.place-items i d)) ≡ map mirrored (adds (sampled (get_or l.self.all i d))))
    × ((i : ℕ) → l.place-index ≤ i → (d : Place) → get_or l.place-items i d ≡ get_or l.self.all i d)
