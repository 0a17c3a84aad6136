-- The number of each refusal. What is told beside it stands in the case itself.
use Rattle.std.specs.Prelude.{ℕ}
use Rattle.refusal.specs.declared.refusal.Refusal.{Refusal}
use Rattle.refusal.specs.declared.refusal.Refusal.TheVariants.{ArgumentOutOfLimits, NoFreePlace, NoSerialLeft, PointNotOpen, ReadingNotTaken, SerialNotHeld, NothingHeld, NoAdmissibleLine, OneArgument, SettingOutOfLimits, FrameCutShort, FrameUnknown, NoOpenPoint, LineNotWritten}

abbrev pub number : Refusal → ℕ
number ArgumentOutOfLimits = 1
number NoFreePlace = 2
number NoSerialLeft = 3
number PointNotOpen = 4
number (ReadingNotTaken place value) = 5
number SerialNotHeld = 6
number NothingHeld = 7
number (NoAdmissibleLine conflict) = 8
number OneArgument = 9
number (SettingOutOfLimits position) = 10
number (FrameCutShort position) = 11
number (FrameUnknown position) = 12
number NoOpenPoint = 13
number LineNotWritten = 14
