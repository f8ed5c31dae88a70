use Rattle.std.proofs.Common.{◌≡◌, ◌+◌, ◌≤◌, length}
use Rattle.grid.specs.Grid.{upd, rowed, boxed}
use Rattle.grid.specs.Strip.{strip_over}
use Rattle.grid.proofs.blit_strip.Given as goal

abbrev pub invariant-loop-c : goal.invariant-loop-c
invariant-loop-c l =
    (l.pixels ≡ upd (rowed l.w l.x0 (l.y0 + l.r) l.c (λ k o. strip_over l.strip l.index l.transparent k l.r o)) l.initial.pixels) × (l.c ≤ 8)
    × (length l.pixels ≡ length l.initial.pixels)
    × (l.at + 8 ≤ length l.initial.pixels) × (l.from + 8 ≤ length l.strip)

abbrev pub invariant-loop-r : goal.invariant-loop-r
invariant-loop-r l =
    (l.pixels ≡ upd (boxed l.w l.x0 l.y0 8 l.r (strip_over l.strip l.index l.transparent)) l.initial.pixels) × (l.r ≤ l.rows)
    × (length l.pixels ≡ length l.initial.pixels)
