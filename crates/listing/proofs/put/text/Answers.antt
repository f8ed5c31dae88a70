use Rattle.listing.proofs.PutLaws.{put_copied}
use Rattle.listing.proofs.put.text.Goals as goal

pub returns : goal.returns
returns c =
    let copy = c.copy in let pre = c.requires in
    put_copied _ _ _ _ pre copy.ensures.copied copy.ensures.rest_stays
