use Rattle.std.proofs.Common.{sym, ap, ◌∙◌, length, arith}
use Rattle.objects.proofs.ObjectLaws.{cdhd-at}
use Rattle.listing.proofs.LineLaws.{line_missing, block_in, line_refused, line_header, box_bytes}
use Rattle.listing.proofs.PutLaws.{put_none, put_as}
use Rattle.listing.proofs.line.object.Goals as goal

pub returns-in_default : goal.returns-in_default
returns-in_default c = put_none _ _ (line_missing _ _ (sym c.in_default.is ∙ c.object_block.ensures))

pub cdhd_in-requires : goal.cdhd_in-requires
cdhd_in-requires c = block_in _ _ _ _ (sym c.in-Some.is ∙ c.object_block.ensures)

pub returns-in_default-cdhd_in : goal.returns-in_default-cdhd_in
returns-in_default-cdhd_in c =
    let block = sym c.in-Some.is ∙ c.object_block.ensures in
    put_none _ _ (line_refused _ _ _ _ block _ (sym c.in_default-cdhd_in.is ∙ c.cdhd_in.ensures))

pub read_cdhd-requires : goal.read_cdhd-requires
read_cdhd-requires c =
    let cdhd-in = c.cdhd_in in let object-block = c.object_block in
    let block = sym c.in-Some.is ∙ object-block.ensures in
    cdhd-at _ _ _ _ (block_in _ _ _ _ block).1 (sym c.in-Ok.is ∙ cdhd-in.ensures)

pub object_line-requires : goal.object_line-requires
object_line-requires c =
    let read-cdhd = c.read_cdhd in let cdhd-in = c.cdhd_in in
    let object-block = c.object_block in let shared-slice-known = c.shared_slice_known-1 in
    let pre = c.requires in
    let block = sym c.in-Some.is ∙ object-block.ensures in
    let line = line_header _ _ _ _ block _ _ (sym c.in-Ok.is ∙ cdhd-in.ensures) read-cdhd.ensures in record {
      text_fits = omega (arith, ap length line, pre);
      box_of_bytes = box_bytes _ (λ i. omega (arith, shared-slice-known.given i)) _ _ read-cdhd.ensures;
    }

pub returns : goal.returns
returns c =
    let object-line = c.object_line in let read-cdhd = c.read_cdhd in let cdhd-in = c.cdhd_in in
    let object-block = c.object_block in
    let block = sym c.in-Some.is ∙ object-block.ensures in
    put_as (line_header _ _ _ _ block _ _ (sym c.in-Ok.is ∙ cdhd-in.ensures) read-cdhd.ensures) object-line.ensures
