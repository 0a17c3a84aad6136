-- Worked figures of lines and of a run, on a stage with the absolute limit 5 and no relative one.
use Rattle.std.specs.Prelude.{◌≡◌, ℕ, List, [], ◌∷◌, ℤ, pos, ◌≤ℤ◌}
use Rattle.std.proofs.Common.{arith}
use Rattle.std.proofs.lemmas.Int.{ints}
use Rattle.rational.specs.Rational.{Rational, whole}
use Rattle.rational.specs.Line.{slope, value_at}
use Rattle.stage.specs.Meaning.{single}
use Rattle.bounded.specs.Ends.{lower_end, upper_end}
use Rattle.lines.specs.Sheet.{Measurement, Conflict, Least, Greatest}
use Rattle.questions.specs.Told.{Unbounded}
use Rattle.book.specs.declared.call.Call.{Call}
use Rattle.book.specs.declared.call.Call.TheVariants.{Open, File, Abort}
use Rattle.book.specs.Book.{blank, tallies}
use Rattle.book.specs.Run.{after}

-- so many halves
abbrev pub halves : ℤ → Rational
halves n = record { num = n; den = pos 2; above = omega (arith, ints) }

-- a reading r at the argument x, within 5
abbrev pub read : ℕ → (x r : ℤ) → lower_end 5 0 r ≤ℤ upper_end 5 0 r → Measurement
read s x r h = record { serial = s; argument = x; lower = lower_end 5 0 r; upper = upper_end 5 0 r; ordered = h }

abbrev pub first : Measurement
first = read 1 (pos 0) (pos 0) (omega (arith, ints))

abbrev pub second : Measurement
second = read 2 (pos 10) (pos 100) (omega (arith, ints))

-- 0: 0, 10: 100 and 20: 300, 200, 220 or 221
abbrev pub bent : List Measurement
bent = first ∷ second ∷ read 3 (pos 20) (pos 300) (omega (arith, ints)) ∷ []

abbrev pub straight : List Measurement
straight = first ∷ second ∷ read 3 (pos 20) (pos 200) (omega (arith, ints)) ∷ []

abbrev pub touching : List Measurement
touching = first ∷ second ∷ read 3 (pos 20) (pos 220) (omega (arith, ints)) ∷ []

abbrev pub parted : List Measurement
parted = first ∷ second ∷ read 3 (pos 20) (pos 221) (omega (arith, ints)) ∷ []

-- 10: 100 and 10: 111, or 110
abbrev pub apart : List Measurement
apart = second ∷ read 4 (pos 10) (pos 111) (omega (arith, ints)) ∷ []

abbrev pub level : List Measurement
level = second ∷ read 4 (pos 10) (pos 110) (omega (arith, ints)) ∷ []

pub record LineFigures : Type 0 where
  pub three : Conflict bent
  pub least_slope : Least slope straight (halves (pos 19))
  pub greatest_slope : Greatest slope straight (halves (pos 21))
  pub least_value : Least (λ l. value_at l (pos 30)) straight (whole (pos 290))
  pub greatest_value : Greatest (λ l. value_at l (pos 30)) straight (whole (pos 310))
  pub one_slope : Least slope touching (whole (pos 11)) × Greatest slope touching (whole (pos 11))
  pub past_it : Conflict parted
  pub two : Conflict apart
  pub one_value : Least (λ l. value_at l (pos 10)) level (whole (pos 105)) × Greatest (λ l. value_at l (pos 10)) level (whole (pos 105))
  pub no_slope : Unbounded slope level
  pub no_value : Unbounded (λ l. value_at l (pos 11)) level

-- four points, one aborted, one read as 100,000,000, one as 0, one open
abbrev pub four : List Call
four = Open (pos 0) ∷ Open (pos 0) ∷ Open (pos 0) ∷ Open (pos 0) ∷ Abort 0 1 ∷ File 0 2 (pos 100000000) ∷ File 0 3 (pos 0) ∷ []

abbrev pub TallyFigures : Type 0
TallyFigures = tallies (after (single (lower_end 5 0) (upper_end 5 0)) 0 blank four) ≡ record { counts = record { opened = 4; filed = 1; spoiled = 1; aborted = 1 }; «open» = 1; held = 1 }
