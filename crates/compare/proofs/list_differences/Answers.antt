use Rattle.std.proofs.Common.{rules, ◌/◌, ◌≤◌, ◌<◌, refl, ap, ◌∙◌, arith, length, replicate}
use lib.ListN.{get_or-replicate}
use Rattle.room.specs.Test.{strips}
use Rattle.compare.specs.Compare.{differences}
use Rattle.compare.specs.Pair.{rooms_of}
use Rattle.compare.proofs.TableLaws.{marks-start, tables_list}
use Rattle.compare.proofs.OutcomeLaws.{short-refused, listed}
use Rattle.compare.proofs.list_differences.Goals as goal

-- `compare::list_differences` meets its contract. Assumes nothing.

pub mark_planes-requires : goal.mark_planes-requires
mark_planes-requires c =
    let ok = c.args.pair.comparable in record {
      marks_fit = omega arith;
      none_marked = marks-start _ _ (replicate 128 0) (λ k lt. get_or-replicate 128 k 0 0 (omega (arith, ok.first.sound.widest)));
    }

pub count_places-count-requires : goal.count_places-count-requires
count_places-count-requires c =
    let wide = c.args.pair.comparable.first.sound.widest in
    let counts = c.count_pixels.auto.counts in
    let marks = c.mark_planes.auto.marks in
    (omega (arith, wide, counts), omega (arith, wide, marks), omega (arith, wide))

pub put_places-requires : goal.put_places-requires
put_places-requires c =
    let if1 = c.if-list-count in let count-places = c.count_places-count in let mark-planes = c.mark_planes in let count-pixels = c.count_pixels in
    let wide = c.args.pair.comparable.first.sound.widest in
    let counts = count-pixels.auto.counts in
    let marks = mark-planes.auto.marks in
    let count = count-places.ensures.0 in record {
      strips_counted = (omega (arith, wide, counts), omega (arith, wide, marks), omega (arith, wide));
      places_fit = omega (arith, count, if1.false);
    }

pub returns-then-list-count : goal.returns-then-list-count
returns-then-list-count c =
    let args = c.args in
    let m = rooms_of args.pair in
    let counts = c.count_pixels.new.counts in
    let marks = c.mark_planes.new.marks in
    let same = tables_list m (strips args.pair.ra) counts marks c.count_pixels.ensures c.mark_planes.ensures in
    let few : length args.list.now / 8 < length (differences m) = rw (c.count_places-count.ensures.0 ∙ ap length same) at c.if-list-count.true in
    rw (short-refused m (length args.list.now) args.pair.comparable.width args.pair.comparable.height few) (record {
      answer = search rules;
      list_after = refl;
    })

pub returns : goal.returns
returns c =
    let args = c.args in
    let m = rooms_of args.pair in
    let counts = c.count_pixels.new.counts in
    let marks = c.mark_planes.new.marks in
    let same = tables_list m (strips args.pair.ra) counts marks c.count_pixels.ensures c.mark_planes.ensures in
    let count = c.count_places-count.ensures.0 ∙ ap length same in
    let enough : length (differences m) ≤ length args.list.now / 8 = rw count at c.if-list-count.false in
    rw (listed m (length args.list.now) args.pair.comparable.width args.pair.comparable.height enough) (record {
      answer = rw count;
      list_after = rw same at c.put_places.ensures;
    })
