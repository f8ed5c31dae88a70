use Rattle.std.proofs.Common.{refl, arith}
use Rattle.bits.proofs.CursorLaws.{fetches-on}
use Rattle.bits.proofs.Cursor.refill_bytes.Goals as goal

pub loop-cur-init : goal.loop-cur-init
loop-cur-init c = record { on = omega arith; eight = omega arith; same = refl; held = c.requires }

pub refill_byte-cur-requires : goal.refill_byte-cur-requires
refill_byte-cur-requires c = (c.loop-cur.invariant.held, omega arith, omega arith)

pub loop-cur-smaller : goal.loop-cur-smaller
loop-cur-smaller c = omega (arith, c.refill_byte-cur.ensures.1)

pub loop-cur-preserved : goal.loop-cur-preserved
loop-cur-preserved c = fetches-on _ _ _ _ c.loop-cur.invariant c.refill_byte-cur.ensures.0
