use Rattle.std.proofs.Common.{w32, ◌∙◌}
use Rattle.objects.specs.Object.{cdhd_at}
use mir.ValLaws.{to_z-of_z}
use Rattle.objects.proofs.object.read_cdhd.Goals as goal

pub returns : goal.returns
unfolding cdhd_at
returns c =
    let read-sle162 = c.read_sle16-walky in let read-sle16 = c.read_sle16-walkx in
    let wide6 = c.wide-parent in let wide5 = c.wide-flags in
    let wide4 = c.wide-height in let wide3 = c.wide-width in
    let wide2 = c.wide-y in let wide = c.wide-x in
    let read-le16 = c.read_le16-id in
    λ i. record {
      id = read-le16.ensures.0 i;
      x = wide.ensures.0 i;
      y = wide2.ensures.0 i;
      width = wide3.ensures.0 i;
      height = wide4.ensures.0 i;
      flags = wide5.ensures.0 i;
      parent = wide6.ensures.0 i;
      walkx = (to_z-of_z w32 read-sle16.result (record { sfits = read-sle16.type_inv }) ∙ read-sle16.ensures) i;
      walky = (to_z-of_z w32 read-sle162.result (record { sfits = read-sle162.type_inv }) ∙ read-sle162.ensures) i;
      direction = c.wide-direction.ensures.0 i;
    }
