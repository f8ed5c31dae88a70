use Rattle.std.proofs.Common.{ne_eqb, arith, ℕ, sym, ap, ◌∙◌, List, true}
use Rattle.table.proofs.TestLaws.{rows-tested, bodiless-passes, body_tested}
use Rattle.table.proofs.BodyLaws.{cell_room}
use Rattle.table.specs.Body.{body_of}
use Rattle.plane.specs.Mask.{rows_of, literals}
use Rattle.strip.specs.Strip.{made_of}
use Rattle.table.proofs.test_rows.Goals as goal

pub offset_at-requires : goal.offset_at-requires
offset_at-requires c = (cell_room true _ _ _ _ _ c.requires.table_right c.requires.strip_in_block.1 (omega arith) (omega arith), omega arith)

pub returns-then-offset_at-eq0 : goal.returns-then-offset_at-eq0
returns-then-offset_at-eq0 c =
    let a = c.args in
    bodiless-passes a.n a.h a.room.now a.b a.z a.k (sym c.offset_at.ensures.0 ∙ c.if-offset_at-eq0.true)

pub strip_body-requires : goal.strip_body-requires
strip_body-requires c = record {
  strip_in_block = omega arith;
  table_right = c.requires.table_right;
  has_body = ne_eqb _ _ (λ e. c.if-offset_at-eq0.false (c.offset_at.ensures.0 ∙ e));
}

pub returns : goal.returns
returns c =
    let a = c.args in
    c.test_rows.ensures
    ∙ ap (λ (l : List ℕ). made_of (rows_of l a.h (literals 0))) c.strip_body.ensures
    ∙ rows-tested (rows_of (body_of true a.n a.room.now a.b a.z a.k) a.h (literals 0))
    ∙ sym (body_tested a.n a.h a.room.now a.b a.z a.k (λ e. c.if-offset_at-eq0.false (c.offset_at.ensures.0 ∙ e)))
