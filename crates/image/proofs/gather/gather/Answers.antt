use Rattle.image.proofs.GatherLaws.{gathered_of}
use Rattle.image.proofs.gather.gather.Goals as goal

-- `image::gather::gather` meets its contract. Assumes nothing.

pub returns : goal.returns
returns c =
    let pair-images = c.pair_images in let list-objects = c.list_objects-objects in let pre = c.requires in
    gathered_of _ _ _ _ pre.0 pre.1 pre.2 _ list-objects.ensures.count list-objects.ensures.filled pair-images.ensures
