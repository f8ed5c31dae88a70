use Rattle.std.proofs.Common.{ap, arith, List, ℕ, ◌+◌, ◌*◌}
use lib.Seq.{sets}
use Rattle.number.specs.Number.{le32_bytes}
use Rattle.number.proofs.StoreLaws.{copied_is}
use Rattle.limbs.specs.Limb.{put_limb}
use Rattle.limbs.proofs.bytes.put_limb.Goals as goal

-- `limbs::bytes::put_limb` meets its contract. Assumes nothing.

pub returns : goal.returns
unfolding put_limb
returns c =
    let at = 16 * c.args.i in
    let x = c.args.limb in
    rw (c.put_le32-2.ensures, c.put_le32.ensures)
    (ap (λ (l : List ℕ). sets (sets l (at + 8) (le32_bytes x.start)) (at + 12) (le32_bytes x.place))
    (copied_is _ _ _ _ _ c.copy_from_slice.ensures.after (omega arith) (omega arith)))
