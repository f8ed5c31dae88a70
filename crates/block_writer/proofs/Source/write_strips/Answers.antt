use Rattle.std.proofs.Common.{◌≡◌, length-drop, length-take, ℕ, ◌+◌, ◌*◌, List, ap, ◌∙◌, arith}
use Rattle.block_writer.proofs.PutLaws.{put-mid}
use Rattle.block_writer.proofs.FillLaws.{offsets_next, filling_start, body_room, filling_more, filled, filled_size}
use Rattle.table.specs.Table.{offset_size}
use Rattle.block_writer.specs.Source.{body_of}
use Rattle.block_writer.specs.Block.{offset_bytes, size_of}
use lib.Seq.{sets}
use Rattle.block_writer.proofs.Source.write_strips.Goals as goal

pub loop-k-init : goal.loop-k-init
unfolding size_of
loop-k-init c =
    let a = c.args.self.now in
    let none : 8 + offset_size a.mask * 0 ≡ 8 = omega arith in
    rw (c.offset_size-size.ensures.0, none) (filling_start a.mask a.n (body_of a) c.args.out.now c.requires.room)

pub write_body-len-requires-clause-room : goal.write_body-len-requires-clause-room
write_body-len-requires-clause-room c =
    let l = c.loop-k in
    let r = body_room _ _ _ _ _ _ _ _ l.invariant c.loop-k-test.true in
    simp (length-take) (omega (arith, r, length-drop l.at l.out))

pub overflow_add-at-in-loop-k : goal.overflow_add-at-in-loop-k
overflow_add-at-in-loop-k c =
    let a = c.args.self.now in
    let l = c.loop-k in
    let test = c.loop-k-test in
    let f = body_of a in
    let r = body_room _ _ _ _ _ _ _ _ l.invariant test.true in
    omega (arith, r, c.write_body-len.ensures.len)

pub loop-k-preserved : goal.loop-k-preserved
loop-k-preserved c =
    let write-body = c.write_body-len in let l = c.loop-k in let a = c.args.self.now in
    let f = body_of a in
    let i = rw c.offset_size-size.ensures.0 at l.invariant in
    let r = body_room _ _ _ _ _ _ _ _ l.invariant c.loop-k-test.true in
    let e = put-mid l.out l.at (f l.k) (omega (arith, r)) _ write-body.ensures.written in
    let v = c.offset_of.result in
    let o = c.put_offset.ensures ∙ ap (λ (q : List ℕ). sets q (8 + c.offset_size-size.result * l.k) (offset_bytes a.mask v)) e in
    let next : 8 + offset_size a.mask * (l.k + 1) ≡ 8 + offset_size a.mask * l.k + offset_size a.mask = omega (arith, offsets_next a.mask l.k) in
    rw (o, write-body.ensures.len, c.offset_size-size.ensures.0, next)
    (filling_more a.mask a.n f c.args.out.now l.out l.k l.at (8 + offset_size a.mask * l.k) i c.loop-k-test.true v
    (c.offset_of.ensures (f l.k) write-body.ensures.len))

pub returns-clause-size : goal.returns-clause-size
unfolding size_of
returns-clause-size c = filled_size _ _ _ _ _ _ _ _ c.loop-k.invariant c.loop-k-test.false

pub returns-clause-written : goal.returns-clause-written
unfolding size_of
returns-clause-written c = filled _ _ _ _ _ _ _ _ c.loop-k.invariant c.loop-k-test.false (omega arith)
