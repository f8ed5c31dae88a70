use Rattle.limbs.proofs.LimbLaws.{limb_read}
use Rattle.limbs.proofs.bytes.limb_at.Goals as goal

-- `limbs::bytes::limb_at` meets its contract. Assumes nothing.

pub returns : goal.returns
returns c =
    let read-le322 = c.read_le32-place in
    let read-le32 = c.read_le32-start in let args = c.args in
    limb_read args.limbs.now args.i read-le32.result read-le322.result read-le32.ensures.0 read-le322.ensures.0
