use Rattle.std.proofs.Common.{◌≡◌, ap, ◌∙◌, arith, length, Some}
use Rattle.objects.specs.Object.{cdhd_in}
use Rattle.object_list.proofs.RowLaws.{header-long, copied, row_put}
use Rattle.object_list.proofs.row.put_row.Goals as goal

-- `object_list::row::put_row` meets its contract. Assumes nothing.

pub returns : goal.returns
returns c =
    let part_in = c.part_in-name in
    let header-part = c.header_part-header in
    let a = c.args in
    let long : length header-part.result ≡ 16 = ap length header-part.ensures ∙ header-long a.room.now (cdhd_in a.room.now a.b a.z) in
    let head = copied header-part.result _ _ a.at 16 long (omega (arith, c.requires.2)) c.copy.ensures.copied c.copy.ensures.rest_stays in
    row_put a.room.now (Some (a.b, a.z)) a.states _ _ header-part.ensures part_in.ensures.0 a.at _ _ _ _ _ _ _
    head c.put_le32.ensures c.put_le32-2.ensures c.put_le16.ensures c.put_two.ensures c.put_four.ensures
