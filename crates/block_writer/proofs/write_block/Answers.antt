use Rattle.std.proofs.Common.{arith, sym, ap, ◌∙◌, List, ℕ, ◌≤◌, length, leb-true, leb-false}
use lib.Seq.{sets}
use Rattle.number.specs.Number.{be32_bytes}
use Rattle.block_writer.specs.Block.{body_for, size_of}
use Rattle.block_writer.specs.Call.{source_size}
use Rattle.block_writer.proofs.CallLaws.{size-some, block-done, short_source, short_target, whole-block}
use Rattle.block_writer.proofs.write_block.Goals as goal

pub returns-then-src-source_size : goal.returns-then-src-source_size
returns-then-src-source_size c =
    let a = c.args in
    rw c.into.ensures
    (short_source a.tag a.mask a.n a.h a.src.now a.out.now (omega (arith, c.source_size.ensures, c.if-src-source_size.true)))

pub returns-then-not-has_room : goal.returns-then-not-has_room
returns-then-not-has_room c =
    let a = c.args in
    let f : ℕ → List ℕ = body_for a.mask a.n a.h a.src.now in
    rw c.into-then-not-has_room.ensures
    (short_target a.tag a.mask a.n a.h a.src.now a.out.now (omega (arith, c.source_size.ensures, c.if-src-source_size.false))
    (leb-false (size_of a.mask a.n f) (length a.out.now) (sym c.has_room.ensures ∙ c.if-not-has_room.true)))

pub put_be32-requires : goal.put_be32-requires
put_be32-requires c =
    let out = c.out-1 in let if2 = c.if-not-has_room in
    let has_room = c.has_room in let a = c.args in
    let f : ℕ → List ℕ = body_for a.mask a.n a.h a.src.now in
    let room = leb-true (size_of a.mask a.n f) (length a.out.now) (sym has_room.ensures ∙ if2.false) in
    omega (arith, size-some a.mask a.n f, out.given)

pub put_be32-requires-2 : goal.put_be32-requires-2
put_be32-requires-2 c =
    let out2 = c.out-2-1 in let out = c.out-1 in
    let if2 = c.if-not-has_room in let has_room = c.has_room in let a = c.args in
    let f : ℕ → List ℕ = body_for a.mask a.n a.h a.src.now in
    let room = leb-true (size_of a.mask a.n f) (length a.out.now) (sym has_room.ensures ∙ if2.false) in
    omega (arith, size-some a.mask a.n f, out.given, out2.given)

pub returns : goal.returns
returns c =
    let put-be322 = c.put_be32-2 in let put-be32 = c.put_be32 in let w = c.write_strips-size in let if2 = c.if-not-has_room in
    let has_room = c.has_room in let if1 = c.if-src-source_size in let source-size = c.source_size in let a = c.args in
    let f : ℕ → List ℕ = body_for a.mask a.n a.h a.src.now in
    let enough : source_size a.mask a.n a.h ≤ length a.src.now = omega (arith, source-size.ensures, if1.false) in
    let room = leb-true (size_of a.mask a.n f) (length a.out.now) (sym has_room.ensures ∙ if2.false) in
    let header = put-be322.ensures ∙ ap (λ (l : List ℕ). sets l 4 (be32_bytes w.result)) put-be32.ensures in
    whole-block a.tag a.mask a.n a.h a.src.now a.out.now enough w.result w.ensures.size room _
    (block-done a.tag a.mask a.n f a.out.now w.result w.ensures.size (omega (arith, size-some a.mask a.n f)) _ _ w.ensures.written header)
