use Rattle.std.proofs.Common.{◌<◌, subst, arith, Result, ℕ}
use Rattle.block_writer.specs.Call.{value}
use Rattle.kildegrom.proofs.WriterLaws.{plane-fits}
use Rattle.kildegrom.proofs.writers.kg_write_plane.Goals as goal

-- No block is as long as 2^32 bytes. Assumes nothing.

pub map-requires : goal.map-requires
map-requires c x e i s =
    let a = c.args in
    let fits = plane-fits a.w a.h a.rows.now a.out.now a.k _ c.write_plane.ensures.0 in
    let short : x < 4294967296 = subst (λ (r : Result ℕ ℕ). value r < 4294967296) e fits in
    omega arith
