use Rattle.std.proofs.Common.{get_or, length, arith, ◌+◌, ◌-◌}
use Rattle.limbs.proofs.TickLaws.{tick_idle, tick_active, obeyed_window}
use Rattle.limbs.proofs.LimbLaws.{right_in}
use Rattle.limbs.proofs.ticking.tick_limb.Goals as goal

-- `limbs::ticking::tick_limb` meets its contract. Assumes nothing.

pub returns-then-limb-eq0 : goal.returns-then-limb-eq0
returns-then-limb-eq0 c = tick_idle _ _ c.if-limb-eq0.true

pub overflow_add-from : goal.overflow_add-from
overflow_add-from c = let h = right_in (length c.args.payload.now - c.args.from) c.args.limb c.if-limb-eq0.false c.requires.1 in omega arith

pub bounds-payload-from : goal.bounds-payload-from
bounds-payload-from c = let h = right_in (length c.args.payload.now - c.args.from) c.args.limb c.if-limb-eq0.false c.requires.1 in omega arith

pub move_on-requires : goal.move_on-requires
move_on-requires c =
    let a = c.args in
    let h = right_in (length a.payload.now - a.from) a.limb c.if-limb-eq0.false c.requires.1 in
    let w = obeyed_window (get_or a.payload.now (a.from + a.limb.place) 0) a.limb in
    rw (c.obey.ensures, w.place, w.start, w.len) (omega arith)

pub returns : goal.returns
returns c = tick_active c.args.payload.now c.args.from c.args.limb c.obey.result _ c.if-limb-eq0.false c.obey.ensures c.move_on.ensures
