-- The number of each reason in the rules.
use Rattle.std.specs.Prelude.{ℕ}
use Rattle.refusal.specs.declared.Reason.{Reason}
use Rattle.refusal.specs.declared.Reason.TheVariants.{NotARoom, BlockMissing, OutOfSize, BufferShort, TableWrong, CodeUnknown, BytesRunOut, PastTheStrip, OtherSession, HistoryFull, NoSuchObject, PlaceNotAllowed, NothingToTakeBack, PointOutside, AnimationWrong, SizesDiffer, CastTooLarge}

abbrev pub number_of : Reason → ℕ
number_of NotARoom = 1
number_of BlockMissing = 2
number_of OutOfSize = 3
number_of BufferShort = 4
number_of TableWrong = 5
number_of CodeUnknown = 6
number_of BytesRunOut = 7
number_of PastTheStrip = 8
number_of OtherSession = 9
number_of HistoryFull = 10
number_of NoSuchObject = 11
number_of PlaceNotAllowed = 12
number_of NothingToTakeBack = 13
number_of PointOutside = 14
number_of AnimationWrong = 15
number_of SizesDiffer = 16
number_of CastTooLarge = 18
