use Rattle.std.proofs.Common.{sym, ◌∙◌}
use Rattle.objects.proofs.ObjectLaws.{cdhd-at}
use Rattle.object_list.proofs.row.header_part.Goals as goal

pub header_bytes-requires : goal.header_bytes-requires
header_bytes-requires c =
    let pre = c.requires in
    cdhd-at _ _ _ _ pre.1 (sym c.in-Ok.is ∙ c.cdhd_in.ensures)
