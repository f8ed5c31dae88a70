use Rattle.std.proofs.Common.{sym, ap, ◌∙◌, true, arith, ne_eqb}
use lib.Bits.{bit_or, or_zero_r}
use Rattle.grid.proofs.Box.{box_kept}
use Rattle.table.proofs.BodyLaws.{cell_room}
use Rattle.load.proofs.BoxLaws.{box_same}
use Rattle.load.proofs.JoinLaws.{no_body, body_passes, body_row}
use Rattle.load.proofs.paint.join_strip.Goals as goal

-- `load::paint::join_strip` meets its contract. Assumes nothing.

pub offset_at-requires : goal.offset_at-requires
offset_at-requires c = (cell_room true _ _ _ _ _ c.requires.table_right c.requires.strip_in_block.0 (omega arith) (omega arith), omega arith)

pub strip_body-requires : goal.strip_body-requires
strip_body-requires c =
    let pre = c.requires in record {
      strip_in_block = (omega arith, omega arith, omega arith, omega arith);
      table_right = pre.table_right;
      has_body = ne_eqb _ _ (λ e. c.if-offset_at-ne0.true (c.offset_at.ensures.0 ∙ e));
    }

pub join_body-requires : goal.join_body-requires
join_body-requires c =
    let if1 = c.if-offset_at-ne0 in let offset_at = c.offset_at in
    let a = c.args in record {
      body_passes = body_passes a.n a.h a.room.now a.b a.z a.k _ (λ e. if1.true (offset_at.ensures.0 ∙ e))
          c.strip_body.ensures c.requires.strip_passes;
      in_plane = record {
        wide = omega arith;
        high = omega arith;
        few = omega arith;
        room = omega arith;
        first = omega arith;
        last = omega arith;
        right = omega arith;
        low = omega arith;
      };
    }

pub returns-then-offset_at-ne0 : goal.returns-then-offset_at-ne0
returns-then-offset_at-ne0 c =
    let a = c.args in
    let taken = c.if-offset_at-ne0.true in
    let offset = c.offset_at.ensures.0 in
    let body = c.strip_body.ensures in
    box_same _ _ _ _ _ _ _ _ _
    (λ x r o lx lr. ap (bit_or o) (body_row a.n a.h a.room.now a.b a.z a.k _ (λ e. taken (offset ∙ e)) body r))
    c.join_body.ensures

pub returns-else-offset_at-ne0 : goal.returns-else-offset_at-ne0
returns-else-offset_at-ne0 c =
    let a = c.args in
    let none = sym c.offset_at.ensures.0 ∙ c.if-offset_at-ne0.false in
    box_kept _ _ _ _ _ _ _ (λ x r o lx lr. ap (bit_or o) (no_body a.n a.h a.room.now a.b a.z a.k none r lr) ∙ or_zero_r o)
