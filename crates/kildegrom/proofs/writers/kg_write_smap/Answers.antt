use Rattle.std.proofs.Common.{◌<◌, subst, arith, Result, ℕ}
use Rattle.block_writer.specs.Call.{value}
use Rattle.kildegrom.proofs.WriterLaws.{smap-fits}
use Rattle.kildegrom.proofs.writers.kg_write_smap.Goals as goal

-- No block is as long as 2^32 bytes. Assumes nothing.

pub map-requires : goal.map-requires
map-requires c x e i s =
    let a = c.args in
    let fits = smap-fits a.w a.h a.rows.now a.out.now _ c.write_smap.ensures.0 in
    let short : x < 4294967296 = subst (λ (r : Result ℕ ℕ). value r < 4294967296) e fits in
    omega arith
