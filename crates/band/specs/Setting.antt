-- What comes of setting a band.
use Rattle.std.specs.Prelude.{◌≡◌, List, take, ℤ, Some, Ok, Err, Result}
use Rattle.stage.specs.declared.out_of_limits.OutOfLimits.{OutOfLimits}
use Rattle.band.specs.declared.row.Row.{Row}
use Rattle.band.specs.declared.band.Band.{Band}
use Rattle.band.specs.Faults.{FirstFault}

-- the rows in use
abbrev pub rows_of : Band → List Row
rows_of b = take b.count b.rows

-- the band has just these rows and this last reading, or it is refused with the smallest position at fault and stays
abbrev pub Set : List Row → ℤ → Band → Result Unit OutOfLimits → Band → Type 0
Set rows last before (Ok u) after = (rows_of after ≡ rows) × (after.last ≡ last)
Set rows last before (Err e) after = FirstFault rows last (Some e.position) × (after ≡ before)
