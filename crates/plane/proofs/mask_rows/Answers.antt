use Rattle.std.proofs.Common.{List, ℕ, ap, get_or, take, drop, replicate, arith, le_antisymm, ◌+◌, ◌-◌, ◌++◌, length, ◌≡◌, refl, ◌∙◌}
use Rattle.std.proofs.lemmas.Slice.{overwrites}
use borrow.Rule.Slice.PartMut.{put_mid}
use Rattle.plane.proofs.MaskLaws.{painted-on, rows_all}
use Rattle.number.proofs.BufferLaws.{drop_more}
use Rattle.plane.proofs.mask_rows.Goals as goal

pub loop-i-preserved-in-Literals : goal.loop-i-preserved-in-Literals
loop-i-preserved-in-Literals c =
    let l = c.loop-i in
    let a = c.args in
    let s = a.body.now in
    let n = c.in-Literals.n in
    let e = rw c.in-Literals.is at c.in_ok-n.ensures in
    let xs = take n (drop (l.at + 1) s) in
    let out = put_mid l.i (l.i + n - l.i) l.out c.copy_from_slice.new.self in
    let stored : take (l.i + n) out ≡ take l.i l.out ++ xs = grind (arith, overwrites) in
    let same : drop (l.i + n) out ≡ drop (l.i + n) l.out = grind (arith, overwrites) in
    let size : length out ≡ length l.out = grind (arith, overwrites) in (
      omega (arith, e.0),
      e.1,
      size ∙ l.invariant.2,
      same ∙ drop_more l.out _ l.i n l.invariant.3,
      painted-on (drop l.at s) (drop (l.at + 1 + n) s) xs (a.h - l.i) n e.2 _ l.out out a.h l.i refl l.invariant.4 stored,
    )

pub loop-i-preserved : goal.loop-i-preserved
loop-i-preserved c =
    let l = c.loop-i in
    let a = c.args in
    let s = a.body.now in
    let n = c.in-Copies.n in
    let e = rw c.in-Copies.is at c.in_ok-n.ensures in
    let byte = get_or s (l.at + 1) 0 in
    let xs = replicate n byte in
    let out = put_mid l.i (l.i + n - l.i) l.out c.fill.new.self in
    let filled = c.fill.ensures.after (λ y e. e) in
    let many : length (take (l.i + n - l.i) (drop l.i l.out)) ≡ n = grind (arith, overwrites) in
    let front : take (l.i + n) out ≡ take l.i l.out ++ c.fill.new.self = grind (arith, overwrites) in
    let stored = front ∙ ap (λ (ys : List ℕ). take l.i l.out ++ ys) (filled ∙ ap (λ (k : ℕ). replicate k byte) many) in
    let same : drop (l.i + n) out ≡ drop (l.i + n) l.out = grind (arith, overwrites) in
    let size : length out ≡ length l.out = grind (arith, overwrites) in (
      omega (arith, e.0),
      e.1,
      size ∙ l.invariant.2,
      same ∙ drop_more l.out _ l.i n l.invariant.3,
      painted-on (drop l.at s) (drop (l.at + 2) s) xs (a.h - l.i) n e.2 _ l.out out a.h l.i refl l.invariant.4 stored,
    )

pub returns : goal.returns
returns c =
    let l = c.loop-i in
    let done : l.i ≡ c.args.h = le_antisymm l.invariant.0 c.loop-i-test.false in
    rows_all _ _ _ _ _ _ _ done l.invariant.4 l.invariant.3
