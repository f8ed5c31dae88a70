use Rattle.std.proofs.Common.{◌≡◌, suc, ◌+◌, ◌-◌, arith}
use Rattle.strip_writer.proofs.CountLaws.{literal_over, literal_last, literal_pair, literal_goes}
use Rattle.strip_writer.proofs.literal_length.Goals as goal

pub returns-then-rows-y : goal.returns-then-rows-y
returns-then-rows-y c =
    let m = c.loop-m.m in
    let s : 127 - m ≡ suc (127 - (m + 1)) = omega arith in
    literal_last _ _ _ _ _ c.loop-m.invariant.2 (127 - (m + 1)) s c.loop-m.invariant.1 (omega arith)

pub returns-then-rows-y-2 : goal.returns-then-rows-y-2
returns-then-rows-y-2 c =
    let loop = c.loop-m in let a = c.args in
    let m = loop.m in
    let s : 127 - m ≡ suc (127 - (m + 1)) = omega arith in
    let on : a.y + (m + 1) ≡ a.y + m + 1 = omega arith in
    literal_pair _ (127 - m) m (a.y + m) a.rows.now loop.invariant.2 (127 - (m + 1)) s (omega arith) (rw on at c.if-rows-y-2.true)

pub loop-m-preserved : goal.loop-m-preserved
loop-m-preserved c =
    let loop = c.loop-m in let a = c.args in
    let m = loop.m in
    let s : 127 - m ≡ suc (127 - (m + 1)) = omega arith in
    let on : a.y + (m + 1) ≡ a.y + m + 1 = omega arith in (
      omega arith,
      omega arith,
      rw on (literal_goes _ (127 - m) m (a.y + m) a.rows.now loop.invariant.2 (127 - (m + 1)) s (omega arith)
          (rw on at c.if-rows-y-2.false)),
    )

pub returns : goal.returns
returns c =
    let m : c.loop-m.m ≡ 127 = omega arith in
    rw m at (literal_over _ (127 - c.loop-m.m) _ (c.args.y + c.loop-m.m) c.args.rows.now c.loop-m.invariant.2 (omega arith))
