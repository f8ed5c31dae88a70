use Rattle.std.proofs.Common.{not, eqb, length, get_or, drop, ◌-◌, ◌≤◌, ◌≡◌}
use Rattle.decode.specs.Paint.{Painted}
use Rattle.strip.specs.Strip.{decode}
use Rattle.bits.specs.Bits.{bits_of, Held}
use Rattle.decode.proofs.painting.paint.Given as goal

abbrev pub invariant-loop-st : goal.invariant-loop-st
invariant-loop-st g l =
    (l.st.i ≤ l.total) × (length l.out ≡ length l.initial.out) × Held l.body l.st.cur
    × Painted (not (eqb g.row.SECOND 0)) l.w l.total l.body
    (decode (not (eqb g.row.SECOND 0)) l.w l.total 1 (get_or l.body 1 0) 1 (bits_of (drop 2 l.body))) l.out l.st

abbrev pub decreases-loop-st : goal.decreases-loop-st
decreases-loop-st g l = l.total - l.st.i
