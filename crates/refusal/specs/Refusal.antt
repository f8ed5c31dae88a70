-- A refusal as its number, and back.
use Rattle.std.specs.Prelude.{◌≡◌, refl, ℕ, zero, suc}
use Rattle.std.proofs.Common.{ap}
use Rattle.refusal.specs.Reason.{number_of}
use Rattle.refusal.specs.declared.Reason.{Reason}
use Rattle.refusal.specs.declared.Reason.TheVariants.{NotARoom, BlockMissing, OutOfSize, BufferShort, TableWrong, CodeUnknown, BytesRunOut, PastTheStrip, OtherSession, HistoryFull, NoSuchObject, PlaceNotAllowed, NothingToTakeBack, PointOutside, AnimationWrong, SizesDiffer, CastTooLarge}
use Rattle.refusal.specs.declared.Refusal.TheInside.{Inside}

abbrev pub number_in : Inside → ℕ
number_in r = number_of r.reason

-- the reason n places further in the order of the numbers; the first and the last stand for numbers that no reason has
abbrev pub reason_of : ℕ → Reason
reason_of zero = NotARoom
reason_of (suc zero) = NotARoom
reason_of (suc (suc zero)) = BlockMissing
reason_of (suc (suc (suc zero))) = OutOfSize
reason_of (suc (suc (suc (suc zero)))) = BufferShort
reason_of (suc (suc (suc (suc (suc zero))))) = TableWrong
reason_of (suc (suc (suc (suc (suc (suc zero)))))) = CodeUnknown
reason_of (suc (suc (suc (suc (suc (suc (suc zero))))))) = BytesRunOut
reason_of (suc (suc (suc (suc (suc (suc (suc (suc zero)))))))) = PastTheStrip
reason_of (suc (suc (suc (suc (suc (suc (suc (suc (suc zero))))))))) = OtherSession
reason_of (suc (suc (suc (suc (suc (suc (suc (suc (suc (suc zero)))))))))) = HistoryFull
reason_of (suc (suc (suc (suc (suc (suc (suc (suc (suc (suc (suc zero))))))))))) = NoSuchObject
reason_of (suc (suc (suc (suc (suc (suc (suc (suc (suc (suc (suc (suc zero)))))))))))) = PlaceNotAllowed
reason_of (suc (suc (suc (suc (suc (suc (suc (suc (suc (suc (suc (suc (suc zero))))))))))))) = NothingToTakeBack
reason_of (suc (suc (suc (suc (suc (suc (suc (suc (suc (suc (suc (suc (suc (suc zero)))))))))))))) = PointOutside
reason_of (suc (suc (suc (suc (suc (suc (suc (suc (suc (suc (suc (suc (suc (suc (suc zero))))))))))))))) = AnimationWrong
reason_of (suc (suc (suc (suc (suc (suc (suc (suc (suc (suc (suc (suc (suc (suc (suc (suc zero)))))))))))))))) = SizesDiffer
reason_of (suc (suc (suc (suc (suc (suc (suc (suc (suc (suc (suc (suc (suc (suc (suc (suc (suc zero))))))))))))))))) = CastTooLarge
reason_of (suc (suc (suc (suc (suc (suc (suc (suc (suc (suc (suc (suc (suc (suc (suc (suc (suc (suc n)))))))))))))))))) = CastTooLarge

abbrev pub refusal_of : ℕ → Inside
refusal_of n = record { reason = reason_of n }

pub reason_of-number_of : (r : Reason) → reason_of (number_of r) ≡ r
reason_of-number_of NotARoom = refl
reason_of-number_of BlockMissing = refl
reason_of-number_of OutOfSize = refl
reason_of-number_of BufferShort = refl
reason_of-number_of TableWrong = refl
reason_of-number_of CodeUnknown = refl
reason_of-number_of BytesRunOut = refl
reason_of-number_of PastTheStrip = refl
reason_of-number_of OtherSession = refl
reason_of-number_of HistoryFull = refl
reason_of-number_of NoSuchObject = refl
reason_of-number_of PlaceNotAllowed = refl
reason_of-number_of NothingToTakeBack = refl
reason_of-number_of PointOutside = refl
reason_of-number_of AnimationWrong = refl
reason_of-number_of SizesDiffer = refl
reason_of-number_of CastTooLarge = refl

pub refusal_of-number_in : (a : Inside) → refusal_of (number_in a) ≡ a
refusal_of-number_in a = ap (λ (r : Reason). let inside : Inside = record { reason = r } in inside) (reason_of-number_of a.reason)
