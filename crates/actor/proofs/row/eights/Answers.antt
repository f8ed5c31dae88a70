use Rattle.std.proofs.Common.{◌≡◌, arith}
use Rattle.grid.proofs.Box.{row-none}
use Rattle.actor.proofs.MaskLaws.{eight-more}
use Rattle.actor.proofs.row.eights.Goals as goal

-- `actor::row::eights` meets its contract. Assumes nothing.

pub loop-k-init : goal.loop-k-init
loop-k-init c = row-none _ _ _ _ _

pub loop-k-preserved : goal.loop-k-preserved
loop-k-preserved c =
    let window = c.window-bits in
    let a = c.args in
    eight-more a.masks.now a.picture.now _ _ _ _ a.x _ a.line a.from a.clear window.result c.loop-k.k c.loop-k.invariant c.eight.ensures
    window.ensures.from_first_byte window.ensures.from_second_byte

pub returns : goal.returns
returns c =
    let all : c.loop-k.k ≡ c.args.count = omega arith in
    rw all at c.loop-k.invariant
