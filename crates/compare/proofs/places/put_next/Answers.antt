use Rattle.std.proofs.Common.{sym, ◌∙◌, arith}
use Rattle.compare.specs.Tables.{table_at}
use Rattle.compare.proofs.PlaceLaws.{next_off, next-alike}
use Rattle.compare.proofs.places.put_next.Goals as goal

-- `compare::places::put_next` meets its contract. Assumes nothing.

pub put_place-requires : goal.put_place-requires
put_place-requires c =
    let is-off = c.is_off in
    let off = next_off (table_at c.args.counts.now c.args.marks.now c.args.k) (sym is-off.ensures ∙ c.if-is_off.true) in
    (omega (arith, off.1, c.requires.place_fits), c.requires.strip_counted.0, c.requires.strip_counted.1)

pub returns-then-is_off : goal.returns-then-is_off
returns-then-is_off c =
    let put-place = c.put_place in let if1 = c.if-is_off in
    let off = next_off (table_at c.args.counts.now c.args.marks.now c.args.k) (sym c.is_off.ensures ∙ if1.true) in record {
      place_put = put-place.ensures ∙ rw off.0;
      next_place = omega (arith, off.1);
    }

pub returns : goal.returns
returns c =
    let alike = next-alike (table_at c.args.counts.now c.args.marks.now c.args.k)
    (sym c.is_off.ensures ∙ c.if-is_off.false) in record {
      place_put = rw alike.0;
      next_place = omega (arith, alike.1);
    }
