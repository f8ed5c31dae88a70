use Rattle.std.proofs.Common.{◌+◌, sym, ap, ◌∙◌, arith, ltb-true}
use Rattle.room.specs.Head.{holds_index}
use Rattle.room.proofs.HeadLaws.{trns_lies}
use Rattle.room.proofs.head.index_in.Goals as goal

pub bounds-s-b : goal.bounds-s-b
bounds-s-b c =
    let pre = c.requires in
    let at = c.in-Some.is in
    let byte = ltb-true (c.in-Some.b + 8) c.in-Some.field-0-1 (sym (ap holds_index at) ∙ pre.1) in
    omega (arith, byte, trns_lies _ _ _ (sym at ∙ pre.0))
