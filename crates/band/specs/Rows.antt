-- The meaning of a band.
use Rattle.std.specs.Prelude.{cond, ◌&&◌, List, ℤ, fold, int_le}
use Rattle.stage.specs.Meaning.{Meaning}
use Rattle.band.specs.declared.row.Row.{Row}
use Rattle.band.specs.Faults.{zeros, row}

-- the last row whose first reading is not above r
abbrev pub row_at : List Row → ℤ → Row
row_at rows r = fold (λ found next. cond (int_le next.first r) next found) zeros rows

-- the readings from the first row's first to the last one are taken, each with the ends of its row
abbrev pub banded : List Row → ℤ → Meaning
banded rows last = record {
  count = 1;
  taken = λ r. int_le (row rows 0).first r && int_le r last;
  lower = λ r. (row_at rows r).lower;
  upper = λ r. (row_at rows r).upper;
  place = λ r. 1;
  value = λ r. r;
}
