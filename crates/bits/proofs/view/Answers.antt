use Rattle.bits.proofs.CursorLaws.{view_front}
use Rattle.bits.proofs.view.Goals as goal

pub returns : goal.returns
returns c =
    let args = c.args in
    rw c.eight.ensures (view_front args.body.now args.p c.requires c.shared_slice_known-1.given)
