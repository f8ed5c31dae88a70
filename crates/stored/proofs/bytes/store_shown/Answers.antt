use Rattle.std.proofs.Common.{◌≡◌, ◌∙◌, length, arith, rules}
use Rattle.stored.specs.Layout.{shown_from, most_shown}
use Rattle.stored.proofs.BytesLaws.{put_more, put_all}
use Rattle.stored.proofs.Lists.{length_of_map}
use Rattle.stored.proofs.bytes.store_shown.Goals as goal

-- `stored::bytes::store_shown` meets its contract. Assumes nothing.

pub loop-i-preserved : goal.loop-i-preserved
loop-i-preserved c =
    let S = c.args.s in
    let e : length S.list ≡ most_shown = search (rules, length_of_map) in
    c.loop-i.invariant ∙ put_more S.list S.n (omega arith) c.loop-i.session shown_from c.loop-i.i _ (omega arith)

pub returns : goal.returns
returns c =
    let S = c.args.s in
    let e : length S.list ≡ most_shown = search (rules, length_of_map) in
    put_all S.list S.n (omega arith) c.args.session.now c.loop-i.session c.loop-i.i (omega arith) c.loop-i.invariant
