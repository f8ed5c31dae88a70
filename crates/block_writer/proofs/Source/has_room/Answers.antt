use Rattle.std.proofs.Common.{arith, ◌≡◌, sym, ap, ℕ, ◌+◌, ◌*◌, length, leb, le-leb}
use Rattle.table.specs.Table.{offset_size, table_end}
use Rattle.block_writer.specs.Source.{body_of}
use Rattle.block_writer.specs.Block.{bodies_from, size_of}
use Rattle.block_writer.proofs.BoundLaws.{size-most}
use Rattle.block_writer.proofs.Source.has_room.Goals as goal

pub returns-then-table-body_most : goal.returns-then-table-body_most
returns-then-table-body_most c =
    let body-most = c.body_most in let offset-size = c.offset_size in
    let a = c.args.self.now in
    let f = body_of a in
    let e : offset-size.result * a.n ≡ offset_size a.mask * a.n = ap (λ (x : ℕ). x * a.n) offset-size.ensures.0 in
    let m = size-most a.mask a.n body-most.result f (λ k. body-most.ensures.0 a.n k a.rows.now) in
    sym (le-leb (size_of a.mask a.n f) c.args.room (omega (arith, m, e, c.if-table-body_most.true)))

pub returns : goal.returns
unfolding size_of
returns c =
    let offset-size = c.offset_size in let a = c.args.self.now in
    let f = body_of a in
    let e : offset-size.result * a.n ≡ offset_size a.mask * a.n = ap (λ (x : ℕ). x * a.n) offset-size.ensures.0 in
    let q : 8 + offset-size.result * a.n + c.bodies_size.result ≡ table_end a.mask a.n + length (bodies_from f 0 a.n) = omega
    (arith, e, c.bodies_size.ensures.len) in
    ap (λ (s : ℕ). leb s c.args.room) q
