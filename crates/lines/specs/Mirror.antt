-- The sheet turned upside down: every value goes to its opposite.
use Rattle.std.proofs.Common.{arith}
use Rattle.std.specs.Prelude.{neg_ℤ}
use Rattle.std.proofs.lemmas.Int.{ints}
use Rattle.rational.specs.Line.{Line}
use Rattle.lines.specs.Sheet.{Measurement}

abbrev pub mirrored : Measurement → Measurement
mirrored m = record { serial = m.serial; argument = m.argument; lower = neg_ℤ m.upper; upper = neg_ℤ m.lower; ordered = omega (arith, ints, m.ordered) }

abbrev pub mirror : Line → Line
mirror l = record { p = neg_ℤ l.p; q = neg_ℤ l.q; d = l.d; above = l.above }
