use Rattle.std.proofs.Common.{le-leb, length}
use borrow.Author.Tests.{lt-leb}
use Rattle.actor.specs.Sizes.{Planes}
use Rattle.actor.specs.Hidden.{hidden_at, mask_bit}
use Rattle.actor.specs.Stamp.{blended}
use Rattle.actor.proofs.MaskLaws.{mask_line}
use Rattle.actor.proofs.row.stamp_row.Goals.{then-clip-lt1-via-then-clip-lt1, then-clip-lt1-via-else-clip-lt1+then-masks-clip}
use Rattle.actor.proofs.row.stamp_row.Goals as goal

-- `actor::row::stamp_row` meets its contract. Assumes nothing.

pub returns-then-clip-lt1 : goal.returns-then-clip-lt1
unfolding blended hidden_at
returns-then-clip-lt1 c =
    elim c.then-clip-lt1.branch [
      | then-clip-lt1-via-then-clip-lt1 w ↦ simp (lt-leb 1 _ w.if-clip-lt1.true) c.plain.ensures
      | then-clip-lt1-via-else-clip-lt1+then-masks-clip w ↦
          simp (le-leb 1 _ w.if-clip-lt1.false, lt-leb _ _ w.if-masks-clip.true) c.plain.ensures
    ]

pub masked_row-requires-clause-mask_row : goal.masked_row-requires-clause-mask_row
masked_row-requires-clause-mask_row c =
    let m = c.args.masks.now in
    let planes : Planes (length m.bytes.now) m.w m.h m.n =
    record { wide = m.wide; whole = m.whole; high = m.high; few = m.few; room = m.room } in
    (m.whole, (mask_line (length m.bytes.now) m.w m.h m.n _ _ planes c.if-clip-lt1.false c.if-masks-clip.false c.requires.in_room).0)

pub returns : goal.returns
unfolding blended hidden_at mask_bit
returns c =
    simp (le-leb 1 _ c.if-clip-lt1.false, le-leb _ _ c.if-masks-clip.false)
    c.masked_row.ensures
