use Rattle.std.proofs.Common.{leb, Bool, ◌&&◌, refl, sym, ap, ◌∙◌, arith}
use Rattle.number.proofs.BoolLaws.{both}
use Rattle.block_writer.proofs.CallLaws.{sizes}
use Rattle.block_writer.specs.Call.{sizes_allowed, plane_outcome}
use Rattle.block_writer.proofs.write_plane.Goals as goal

pub returns-then-not-sizes_allowed-k : goal.returns-then-not-sizes_allowed-k
unfolding plane_outcome
returns-then-not-sizes_allowed-k c =
    let a = c.args in
    let t = ap (λ (b : Bool). b && (leb 1 a.k && leb a.k 4)) (sym c.sizes_allowed.ensures) ∙ c.if-not-sizes_allowed-k.true in
    rw (c.into.ensures, t) (refl, refl)

pub write_block-requires : goal.write_block-requires
write_block-requires c =
    let a = c.args in
    let t = ap (λ (b : Bool). b && (leb 1 a.k && leb a.k 4)) (sym c.sizes_allowed.ensures) ∙ c.if-not-sizes_allowed-k.false in
    let s = sizes a.w a.h (both (sizes_allowed a.w a.h) (leb 1 a.k && leb a.k 4) t).0 in
    (s.one, s.high, omega (arith, s.wide), omega (arith, s.narrow))

pub returns : goal.returns
unfolding plane_outcome
returns c =
    let a = c.args in
    let t = ap (λ (b : Bool). b && (leb 1 a.k && leb a.k 4)) (sym c.sizes_allowed.ensures) ∙ c.if-not-sizes_allowed-k.false in
    rw t c.write_block.ensures
