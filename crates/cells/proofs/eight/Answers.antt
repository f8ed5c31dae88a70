use Rattle.std.proofs.Common.{◌≡◌, refl, ◌∙◌, ℕ, ◌+◌, ◌*◌, ◌≤◌, ◌<◌, add_assoc, arith}
use Rattle.cells.proofs.RowLaws.{eight_put}
use Rattle.cells.proofs.eight.Goals as goal

-- `cells::eight` meets its contract. Assumes nothing.

-- omega would look through all that is known at each cell
room : (w x y from k j frame picture : ℕ) → k + j ≡ 7 → y * w + (x + 8) ≤ frame → from + 8 ≤ picture
    → (y * w + x + k < frame) × (from + k < picture) × (k < 8)
room w x y from k j frame picture e f p = (omega arith, omega arith, omega arith)

pub cell-a-requires : goal.cell-a-requires
cell-a-requires c = room _ _ _ _ 0 7 _ _ refl c.requires.1 c.requires.2

pub cell-b-requires : goal.cell-b-requires
cell-b-requires c = room _ _ _ _ 1 6 _ _ refl c.requires.1 c.requires.2

pub cell-c-requires : goal.cell-c-requires
cell-c-requires c = room _ _ _ _ 2 5 _ _ refl c.requires.1 c.requires.2

pub cell-d-requires : goal.cell-d-requires
cell-d-requires c = room _ _ _ _ 3 4 _ _ refl c.requires.1
    c.requires.2

pub cell-e-requires : goal.cell-e-requires
cell-e-requires c = room _ _ _ _ 4 3 _ _ refl
    c.requires.1 c.requires.2

pub cell-f-requires : goal.cell-f-requires
cell-f-requires c = room _ _ _ _ 5 2
    _ _ refl c.requires.1 c.requires.2

pub cell-g-requires : goal.cell-g-requires
cell-g-requires c = room _ _ _ _ 6 1 _ _ refl c.requires.1 c.requires.2

pub cell-h-requires : goal.cell-h-requires
cell-h-requires c = room _ _ _ _ 7
    0 _ _ refl c.requires.1 c.requires.2

pub put_eight-requires : goal.put_eight-requires
put_eight-requires c =
    rw add_assoc c.requires.1

pub returns : goal.returns
returns c =
    c.put_eight.ensures
    ∙ eight_put _ _ _ _ _ _ c.requires.0 c.requires.1 refl _ _ _ _ _ _ _ _ c.cell-a.ensures c.cell-b.ensures
    c.cell-c.ensures c.cell-d.ensures c.cell-e.ensures c.cell-f.ensures
    c.cell-g.ensures c.cell-h.ensures
