use Rattle.std.proofs.Common.{◌≡◌, ◌+◌, length, take, drop, ◌∙◌, arith, length-drop, length-set, length-take-le}
use Rattle.strip_writer.proofs.RowOpLaws.{next-run, next_literal, run-written, literal_written}
use Rattle.strip_writer.proofs.write_op.Goals as goal

pub overflow_add-out : goal.overflow_add-out
overflow_add-out c =
    let run_length = c.run_length-n in let a = c.args in
    let pre = c.requires in
    let k = next-run a.rows.now a.out.now a.y a.at pre.0 pre.1 run_length.result run_length.ensures c.if-n-ge2.true in
    omega (arith, k.few)

pub overflow_cast-out : goal.overflow_cast-out
overflow_cast-out c =
    let run_length = c.run_length-n in let a = c.args in
    let pre = c.requires in
    let k = next-run a.rows.now a.out.now a.y a.at pre.0 pre.1 run_length.result run_length.ensures c.if-n-ge2.true in
    omega (arith, k.few)

pub bounds-out-at : goal.bounds-out-at
bounds-out-at c =
    let run_length = c.run_length-n in let a = c.args in
    let pre = c.requires in
    let k = next-run a.rows.now a.out.now a.y a.at pre.0 pre.1 run_length.result run_length.ensures c.if-n-ge2.true in
    omega (arith, k.room)

pub bounds-out-at-then-n-ge2 : goal.bounds-out-at-then-n-ge2
bounds-out-at-then-n-ge2 c =
    let run_length = c.run_length-n in let a = c.args in
    let pre = c.requires in
    let k = next-run a.rows.now a.out.now a.y a.at pre.0 pre.1 run_length.result run_length.ensures c.if-n-ge2.true in
    omega (arith, k.room, length-set a.out.now a.at (0x80 + run_length.result))

pub overflow_add-result : goal.overflow_add-result
overflow_add-result c =
    let run_length = c.run_length-n in let a = c.args in
    let pre = c.requires in
    let k = next-run a.rows.now a.out.now a.y a.at pre.0 pre.1 run_length.result run_length.ensures c.if-n-ge2.true in
    omega (arith, k.inside)

pub returns-then-n-ge2 : goal.returns-then-n-ge2
returns-then-n-ge2 c =
    let run_length = c.run_length-n in let a = c.args in
    let pre = c.requires in
    let k = next-run a.rows.now a.out.now a.y a.at pre.0 pre.1 run_length.result run_length.ensures c.if-n-ge2.true in
    run-written a.rows.now a.out.now a.y a.at pre.0 pre.1 run_length.result k

pub overflow_cast-out-2 : goal.overflow_cast-out-2
overflow_cast-out-2 c =
    let run_length = c.run_length-n in let a = c.args in
    let pre = c.requires in
    let m = c.literal_length-m.result in
    let k = next_literal a.rows.now a.out.now a.y a.at pre.0 pre.1 run_length.result m run_length.ensures c.if-n-ge2.false
    c.literal_length-m.ensures in
    let t : length (take m (drop a.y a.rows.now)) ≡ m = length-take-le m (drop a.y a.rows.now)
    (omega (arith, k.inside, length-drop a.y a.rows.now)) in
    omega (arith, k.few)

pub bounds-out-at-2 : goal.bounds-out-at-2
bounds-out-at-2 c =
    let run_length = c.run_length-n in let a = c.args in
    let pre = c.requires in
    let m = c.literal_length-m.result in
    let k = next_literal a.rows.now a.out.now a.y a.at pre.0 pre.1 run_length.result m run_length.ensures c.if-n-ge2.false
    c.literal_length-m.ensures in
    let t : length (take m (drop a.y a.rows.now)) ≡ m = length-take-le m (drop a.y a.rows.now)
    (omega (arith, k.inside, length-drop a.y a.rows.now)) in
    omega (arith, k.room)

pub copy-requires : goal.copy-requires
copy-requires c =
    let literal-length = c.literal_length-m in let if1 = c.if-n-ge2 in
    let run_length = c.run_length-n in let a = c.args in let pre = c.requires in
    let m = literal-length.result in
    let k = next_literal a.rows.now a.out.now a.y a.at pre.0 pre.1 run_length.result m run_length.ensures if1.false
    literal-length.ensures in
    let t : length (take m (drop a.y a.rows.now)) ≡ m = length-take-le m (drop a.y a.rows.now)
    (omega (arith, k.inside, length-drop a.y a.rows.now)) in
    (omega (arith, k.inside), omega (arith, k.room, length-set a.out.now a.at m))

pub overflow_add-result-2 : goal.overflow_add-result-2
overflow_add-result-2 c =
    let literal-length = c.literal_length-m in
    let if1 = c.if-n-ge2 in let run_length = c.run_length-n in
    let a = c.args in let pre = c.requires in
    let m = literal-length.result in
    let k = next_literal a.rows.now a.out.now a.y a.at pre.0 pre.1 run_length.result m run_length.ensures if1.false
    literal-length.ensures in
    let t : length (take m (drop a.y a.rows.now)) ≡ m = length-take-le m (drop a.y a.rows.now)
    (omega (arith, k.inside, length-drop a.y a.rows.now)) in
    omega (arith, k.inside)

pub overflow_add-result-4 : goal.overflow_add-result-4
overflow_add-result-4 c =
    let literal-length = c.literal_length-m in
    let if1 = c.if-n-ge2 in let run_length = c.run_length-n in
    let a = c.args in let pre = c.requires in
    let m = literal-length.result in
    let k = next_literal a.rows.now a.out.now a.y a.at pre.0 pre.1 run_length.result m run_length.ensures if1.false
    literal-length.ensures in
    let t : length (take m (drop a.y a.rows.now)) ≡ m = length-take-le m (drop a.y a.rows.now)
    (omega (arith, k.inside, length-drop a.y a.rows.now)) in
    omega (arith, k.room)

pub shape_of-out : goal.shape_of-out
shape_of-out c =
    let a = c.args in
    let m = c.literal_length-m.result in
    c.copy.auto.out ∙ length-set a.out.now a.at m

pub returns : goal.returns
returns c =
    let copy = c.copy in let literal-length = c.literal_length-m in let if1 = c.if-n-ge2 in
    let run_length = c.run_length-n in
    let a = c.args in let pre = c.requires in
    let m = literal-length.result in
    let k = next_literal a.rows.now a.out.now a.y a.at pre.0 pre.1 run_length.result m run_length.ensures if1.false
    literal-length.ensures in
    let t : length (take m (drop a.y a.rows.now)) ≡ m = length-take-le m (drop a.y a.rows.now)
    (omega (arith, k.inside, length-drop a.y a.rows.now)) in
    literal_written a.rows.now a.out.now a.y a.at pre.0 pre.1 m _ k copy.ensures.copied copy.ensures.rest_stays copy.auto.out
