-- What is some of a sheet is met by every line that meets the sheet.
use Rattle.std.proofs.Common.{List}
use Rattle.std.specs.List.{ContainsAt as Has, AllByRecursion as All}
use Rattle.std.proofs.ByRecursion.{all-has}
use Rattle.lines.specs.Sheet.{Measurement, Consistent, Conflict}

module _ (s t : List Measurement) (some : All (Has s) t) where
  within : (m : Measurement) → Has t m → Has s m
  within m at = all-has (Has s) t m some at

  pub consistent_part : Consistent s → Consistent t
  consistent_part (l, ok) = (l, λ m at. ok m (within m at))

  pub conflict_whole : Conflict t → Conflict s
  conflict_whole never c = never (consistent_part c)
