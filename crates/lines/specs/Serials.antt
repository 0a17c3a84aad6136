-- Sheets whose serials tell the measurements apart.
use Rattle.std.specs.Prelude.{◌≡◌, List}
use Rattle.std.specs.List.{ContainsAt as Has}
use Rattle.lines.specs.Sheet.{Measurement}

abbrev pub DistinctSerials : List Measurement → Type 0
DistinctSerials s = (a b : Measurement) → Has s a → Has s b → a.serial ≡ b.serial → a ≡ b
