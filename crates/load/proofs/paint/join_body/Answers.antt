use Rattle.std.proofs.Common.{◌≡◌, refl, sym, ap, ◌∙◌, ℕ, ◌+◌, ◌-◌, ◌*◌, zero-le, le_antisymm, arith, length, get_or, take, drop, replicate, length-take, length-drop, get_or-take}
use native.Mathlib.Nat.{sub-zero}
use lib.ListN.{length-replicate, get_or-replicate}
use Rattle.grid.proofs.Box.{box_none}
use Rattle.plane.specs.Mask.{rows_of, literals}
use Rattle.table.specs.Body.{row_values}
use Rattle.load.proofs.JoinLaws.{passed-values, not-refused, still_owed, joined_on, column_part}
use Rattle.load.proofs.paint.join_body.Goals as goal

-- `load::paint::join_body` meets its contract. Assumes nothing.

pub loop-i-init : goal.loop-i-init
loop-i-init c =
    let a = c.args in let pre = c.requires in
    let x = rows_of a.body.now a.h (literals 0) in
    (zero-le, zero-le, refl, box_none _ _ _ _ _ _, ap (λ (n : ℕ). rows_of a.body.now n (literals 0)) (sub-zero a.h) ∙ passed-values x pre.body_passes)

pub put_rows-requires : goal.put_rows-requires
put_rows-requires c =
    let l = c.loop-i in
    let a = c.args in
    let e = rw c.in-Ok-Literals.field-0-is at c.in-Ok-Literals.ensures in record {
      in_plane = column_part _ _ _ _ _ _ _ _ _ c.requires.in_plane l.invariant.2 (omega (arith, e.0));
      rows_given = omega (arith, e.1, length-take (length a.body.now - (l.at + 1)) (drop (l.at + 1) a.body.now), length-drop (l.at + 1) a.body.now);
    }

pub loop-i-preserved-in-Ok-Literals : goal.loop-i-preserved-in-Ok-Literals
loop-i-preserved-in-Ok-Literals c =
    let put-rows = c.put_rows in let l = c.loop-i in
    let a = c.args in
    let e = rw c.in-Ok-Literals.field-0-is at c.in-Ok-Literals.ensures in
    let s = a.body.now in
    let m = c.in-Ok-Literals.m in
    let rows = row_values (rows_of s a.h (literals 0)) in
    let xs = take m (drop (l.at + 1) s) in
    let size : length xs ≡ m = omega (arith, length-take m (drop (l.at + 1) s), length-drop (l.at + 1) s, e.1) in (
      omega (arith, e.0),
      e.1,
      put-rows.auto.masks ∙ l.invariant.2,
      joined_on s a.h l.i m l.at (l.at + 1 + m) rows xs l.invariant.4 e.2 size a.n a.k ((a.plane - 1) * a.h) _ _ _ _
          (λ r lt. get_or-take (length s - (l.at + 1)) (drop (l.at + 1) s) r 0 (omega (arith, e.1)) ∙ sym (get_or-take m (drop (l.at + 1) s) r 0 lt))
          l.invariant.3
          put-rows.ensures,
      still_owed s a.h l.i m l.at (l.at + 1 + m) rows xs l.invariant.4 e.2 size,
    )

pub join_run-requires : goal.join_run-requires
join_run-requires c =
    let e = rw c.in-Ok-Copies.field-0-is at c.in-Ok-Copies.ensures in
    column_part _ _ _ _ _ _ _ _ _ c.requires.in_plane c.loop-i.invariant.2 (omega (arith, e.0))

pub loop-i-preserved : goal.loop-i-preserved
loop-i-preserved c =
    let join-run = c.join_run in let l = c.loop-i in
    let a = c.args in
    let e = rw c.in-Ok-Copies.field-0-is at c.in-Ok-Copies.ensures in
    let s = a.body.now in
    let m = c.in-Ok-Copies.m in
    let rows = row_values (rows_of s a.h (literals 0)) in
    let xs = replicate m (get_or s (l.at + 1) 0) in
    let size : length xs ≡ m = length-replicate m (get_or s (l.at + 1) 0) in (
      omega (arith, e.0),
      e.1,
      join-run.auto.masks ∙ l.invariant.2,
      joined_on s a.h l.i m l.at (l.at + 2) rows xs l.invariant.4 e.2 size a.n a.k ((a.plane - 1) * a.h) _ _ _ _
          (λ r lt. sym (get_or-replicate m r (get_or s (l.at + 1) 0) 0 lt)) l.invariant.3
          join-run.ensures,
      still_owed s a.h l.i m l.at (l.at + 2) rows xs l.invariant.4 e.2 size,
    )

pub returns-in-Err : goal.returns-in-Err
returns-in-Err c = absurd (not-refused _ _ (sym c.loop-i.invariant.4 ∙ c.in-Err.ensures))

pub returns : goal.returns
returns c =
    let done : c.loop-i.i ≡ c.args.h = le_antisymm c.loop-i.invariant.0 c.loop-i-test.false in
    rw done at c.loop-i.invariant.3
