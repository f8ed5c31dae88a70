use Rattle.std.proofs.Common.{arith}
use Rattle.actor.proofs.MaskLaws.{window_first, window_last}
use Rattle.actor.proofs.mask.window.Goals as goal

-- `actor::mask::window` meets its contract. Assumes nothing.

pub returns-clause-from_first_byte : goal.returns-clause-from_first_byte
returns-clause-from_first_byte c =
    λ k in_first. rw (c.from-a.ensures, c.from-b.ensures) (window_first _ _ _ k in_first (c.type_inv.masks c.args.j).fits)

pub returns-clause-from_second_byte : goal.returns-clause-from_second_byte
returns-clause-from_second_byte c = λ k small in_last. rw (c.from-a.ensures, c.from-b.ensures) (window_last _ _ _ k small (omega arith) in_last)
