-- What a tape says, one thing after the other.
use Rattle.std.specs.Prelude.{ℕ, zero, suc, ◌-◌, Bool, true, false, cond, List, [], ◌∷◌}
use Rattle.frames.specs.Tape.{Said, ended, frame, cut_short, unknown, said, moved}

-- whether nothing comes after it
abbrev pub last : Said → Bool
last ended = true
last (frame m n) = false
last cut_short = true
last unknown = true

-- frames, and last the tape's end or a frame that is refused; so many bytes are passed over first
unfoldable pub sayings : ℕ → List ℕ → List Said
sayings n [] = ended ∷ []
sayings zero (b ∷ bytes) = said (b ∷ bytes) ∷ cond (last (said (b ∷ bytes))) [] (sayings (moved (said (b ∷ bytes)) - 1) bytes)
sayings (suc n) (b ∷ bytes) = sayings n bytes
