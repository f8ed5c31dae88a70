use Rattle.std.proofs.Common.{ap, ◌∙◌}
use Rattle.room.specs.Head.{index_in, room_of}
use Rattle.room.proofs.head.room_of.Goals as goal

-- `room::head::room_of` meets its contract. Assumes nothing.

pub returns : goal.returns
unfolding room_of
returns c =
    let parts = c.args.p in
    let clear = c.index_in-clear.ensures ∙ ap (index_in c.args.s.now) c.requires.trns_found.0 in
    λ i. record {
      width = c.read_le16-width.ensures.0 i;
      height = c.read_le16-height.ensures.0 i;
      planes = c.read_le16-planes.ensures.0 i;
      objects = c.count_tag-objects.ensures i;
      clear = clear i;
      image = parts.image;
      image_end = parts.image_end;
      smap = parts.smap;
      smap_end = parts.smap_end;
    }
