use Rattle.std.proofs.Common.{refl, sym, ◌∙◌, arith}
use Rattle.block_writer.proofs.CallLaws.{sizes}
use Rattle.block_writer.specs.Call.{smap_outcome}
use Rattle.block_writer.proofs.write_smap.Goals as goal

pub write_block-requires : goal.write_block-requires
write_block-requires c =
    let sizes-allowed = c.sizes_allowed in let args = c.args in
    let s = sizes args.w args.h (sym sizes-allowed.ensures ∙ c.if-not-sizes_allowed.false) in
    (s.one, s.high, omega (arith, s.wide), omega (arith, s.narrow))

pub returns-then-not-sizes_allowed : goal.returns-then-not-sizes_allowed
unfolding smap_outcome
returns-then-not-sizes_allowed c = rw (c.into.ensures, sym c.sizes_allowed.ensures ∙ c.if-not-sizes_allowed.true) (refl, refl)

pub returns : goal.returns
unfolding smap_outcome
returns c = rw (sym c.sizes_allowed.ensures ∙ c.if-not-sizes_allowed.false) c.write_block.ensures
