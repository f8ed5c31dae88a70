use Rattle.std.proofs.Common.{ne_eqb, arith, true, sym, ◌∙◌, ◌≡◌, ◌++◌, take, drop, replicate}
use Rattle.std.proofs.lemmas.Slice.{overwrites}
use Rattle.table.proofs.BodyLaws.{cell_room, zero_rows}
use Rattle.table.specs.Body.{rows_at}
use Rattle.table.proofs.read_rows.Goals as goal

pub offset_at-requires : goal.offset_at-requires
offset_at-requires c = (cell_room true _ _ _ _ _ c.requires.table_right c.requires.strip_in_block.0 (omega arith) (omega arith), omega arith)

pub returns-then-offset_at-eq0 : goal.returns-then-offset_at-eq0
returns-then-offset_at-eq0 c =
    let a = c.args in
    let out = c.fill.new.self ++ drop a.h a.out.now in
    let front : take a.h out ≡ replicate a.h 0 = grind (arith, overwrites) in
    let back : drop a.h out ≡ drop a.h a.out.now = grind (arith, overwrites) in
    zero_rows _ _ _ _ _ _ _ _ (sym c.offset_at.ensures.0 ∙ c.if-offset_at-eq0.true) front back

pub strip_body-requires : goal.strip_body-requires
strip_body-requires c =
    let pre = c.requires in record {
      strip_in_block = pre.strip_in_block;
      table_right = pre.table_right;
      has_body = ne_eqb _ _ (λ e. c.if-offset_at-eq0.false (c.offset_at.ensures.0 ∙ e));
    }

pub returns : goal.returns
unfolding rows_at
returns c =
    let mask-rows = c.mask_rows in let strip-body = c.strip_body in let if1 = c.if-offset_at-eq0 in
    let offset_at = c.offset_at in
    rw (ne_eqb _ _ (λ e. if1.false (offset_at.ensures.0 ∙ e)), ← strip-body.ensures) mask-rows.ensures
