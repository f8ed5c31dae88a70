use Rattle.std.proofs.Common.{arith, sym, ap, ◌∙◌}
use Rattle.point.specs.Call.{found}
use Rattle.point.proofs.TableLaws.{object_told}
use Rattle.stored.specs.Bytes.{entries}
use Rattle.point.proofs.call.seek.Goals as goal

pub list_objects-requires : goal.list_objects-requires
list_objects-requires c = let pre = c.requires in (omega (arith, pre.size_right.0, pre.size_right.1.2), omega arith)

pub returns : goal.returns
returns c =
    let fill-states = c.fill_states in
    let list-objects = c.list_objects in
    let a = c.args in
    let pre = c.requires in
    let t = list-objects.new.table in
    let states = fill-states.new.states in
    c.lowest_hit.ensures
    ∙ ap found (sym (object_told a.room.now _ t list-objects.ensures.filled a.size pre.size_right.0 pre.size_right.1.2 (entries a.shown) states
    fill-states.ensures a.places.now a.flags.now a.x a.y))
