use Rattle.std.proofs.Common.{◌≡◌, sym, ◌∙◌, length, get_or, arith, rules}
use Rattle.stored.specs.Layout.{shown_from, most_shown}
use Rattle.stored.proofs.BytesLaws.{marks_next, marks_end, marks-none}
use Rattle.stored.proofs.Lists.{length_of_map}
use Rattle.stored.proofs.bytes.agrees.Goals as goal

-- `stored::bytes::agrees` meets its contract. Assumes nothing.

pub returns-then-from-n : goal.returns-then-from-n
returns-then-from-n c =
    let S = c.args.s in
    let e : length S.list ≡ most_shown = search (rules, length_of_map) in
    marks-none S.list S.n (omega arith) c.args.session.now shown_from _ (λ q. c.if-from-n.true (c.from.ensures ∙ q))

pub returns-then-not-is_mark : goal.returns-then-not-is_mark
returns-then-not-is_mark c =
    let S = c.args.s in
    let l = c.args.session.now in
    let e : length S.list ≡ most_shown = search (rules, length_of_map) in
    let n : get_or l 1 0 ≡ S.n = sym c.from.ensures ∙ c.if-from-n.false in
    let s = marks_next S.list S.n (omega arith) l shown_from c.loop-k.k _ c.is_mark.result (omega arith) c.is_mark.ensures in
    sym (rw (n, c.loop-k.invariant, s, c.if-not-is_mark.true))

pub loop-k-preserved : goal.loop-k-preserved
loop-k-preserved c =
    let S = c.args.s in
    let e : length S.list ≡ most_shown = search (rules, length_of_map) in
    let s = marks_next S.list S.n (omega arith) c.args.session.now shown_from c.loop-k.k _ c.is_mark.result (omega arith) c.is_mark.ensures in
    c.loop-k.invariant ∙ rw c.if-not-is_mark.false at s

pub returns : goal.returns
returns c =
    let S = c.args.s in
    let l = c.args.session.now in
    let e : length S.list ≡ most_shown = search (rules, length_of_map) in
    let n : get_or l 1 0 ≡ S.n = sym c.from.ensures ∙ c.if-from-n.false in
    let s = marks_end S.list S.n (omega arith) l shown_from c.loop-k.k (omega arith) in
    sym (rw n (c.loop-k.invariant ∙ s))
