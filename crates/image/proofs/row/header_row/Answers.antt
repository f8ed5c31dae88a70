use Rattle.std.proofs.Common.{[], ◌∷◌}
use Rattle.image.specs.Rows.{header_row}
use Rattle.image.proofs.row.header_row.Goals as goal

pub returns-then-not-boxes : goal.returns-then-not-boxes
unfolding header_row
returns-then-not-boxes c = rw (c.if-not-boxes.true, c.read_le16-id.ensures.0)

pub returns : goal.returns
unfolding header_row
returns c =
    let pixels-at4 = c.pixels_at-height in let pixels-at3 = c.pixels_at-width in
    let pixels-at2 = c.pixels_at-y in
    let pixels-at = c.pixels_at-x in let if1 = c.if-not-boxes in
    let args = c.args in
    let x = pixels-at.ensures in
    let y = pixels-at2.ensures in
    let width = pixels-at3.ensures in
    let height = pixels-at4.ensures in
    let flags = c.byte_at-flags.ensures.0 in
    let parent = c.byte_at-parent.ensures.0 in
    let boxes = args.boxes in
    rw if1.false
    (λ i. 0 ∷ x i ∷ y i ∷ width i ∷ height i ∷ flags i ∷ parent i ∷ 0 ∷ [])
