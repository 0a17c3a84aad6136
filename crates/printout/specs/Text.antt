-- The text of each line.
use Rattle.std.specs.Prelude.{ℕ, Bool, ◌||◌, List, [], ◌∷◌, ◌++◌, length, ℤ, pos, Some, None, codes, Option, nat_lt}
use Prim.Native.String.{String}
use Rattle.printout.specs.declared.line.Line.{Line}
use Rattle.printout.specs.declared.line.Line.TheVariants.{Load, Set, Spoiled, Aborted, Withdrawn, Possible, Conflicting, Slope, Value, Tallies, Cleared, Refused}
use Rattle.printout.specs.Words.{fields, remark}

-- a word, and each number after a blank
abbrev pub words : String → List ℤ → List ℕ
words word numbers = codes word ++ fields numbers

abbrev pub serials : ℕ → ℕ → Option ℕ → List ℤ
serials first second None = pos first ∷ pos second ∷ []
serials first second (Some third) = pos first ∷ pos second ∷ pos third ∷ []

-- what a line has before its last byte
abbrev pub body : Line → List ℕ
body (Load serial argument) = words "load" (pos serial ∷ argument ∷ [])
body (Set serial lower upper) = words "set" (pos serial ∷ lower ∷ upper ∷ [])
body (Spoiled serial number place value) = words "spoiled" (pos serial ∷ pos number ∷ pos place ∷ value ∷ [])
body (Aborted serial reason) = words "aborted" (pos serial ∷ []) ++ remark reason.now
body (Withdrawn serial) = words "withdrawn" (pos serial ∷ [])
body Possible = words "line" []
body (Conflicting conflict) = words "conflict" (serials conflict.first conflict.second conflict.third)
body (Slope least greatest) = words "slope" (least ∷ greatest ∷ [])
body (Value least greatest) = words "value" (least ∷ greatest ∷ [])
body (Tallies opened filed spoiled aborted open' held) = words "tallies" (pos opened ∷ pos filed ∷ pos spoiled ∷ pos aborted ∷ pos open' ∷ pos held ∷ [])
body Cleared = words "cleared" []
body (Refused number) = words "refused" (pos number ∷ [])

-- each line ends with byte 10
abbrev pub text : Line → List ℕ
text line = body line ++ (10 ∷ [])

-- the reason of an abort
abbrev pub reason_of : Line → List ℕ
reason_of (Aborted serial reason) = reason.now
reason_of line = []

-- a line is not written into a buffer under 80 bytes, nor with a reason over 15
abbrev pub refused : Line → List ℕ → Bool
refused line buffer = nat_lt (length buffer) 80 || nat_lt 15 (length (reason_of line))
