-- What the program writes.
use Rattle.std.specs.Prelude.{ℕ, List, Option}
use Rattle.std.specs.Io.KnownBytes.{Appends}
use Rattle.player.specs.Played.{Printout, bench}

-- a writer that held the old bytes was given the printout of a tape on the chain of the bench
abbrev pub WritesPrintout : List ℕ → Option (List ℕ) → Option (List ℕ) → Type 0
WritesPrintout tape old new = (text : List ℕ) × Printout bench 0 tape text × Appends old new text
