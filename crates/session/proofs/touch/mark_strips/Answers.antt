use Rattle.std.proofs.Common.{ℕ, ◌<◌, ◌≡◌, ap, ◌∙◌, ◌&&◌, ◌||◌, List, eqb, length, get_or, set, arith}
use Rattle.session.specs.Plans.{flag, flagged, marks}
use Rattle.replay.specs.Tables.{room_of_tables}
use Rattle.scene.specs.Painting.{covers}
use Rattle.session.proofs.TouchLaws.{flag_is, flag-none, flag-more, flag_later}
use Rattle.session.proofs.touch.mark_strips.Goals as goal

-- `session::touch::mark_strips` meets its contract. Assumes nothing.

pub loop-k-init : goal.loop-k-init
loop-k-init c =
    let A = c.args in
    λ v. flag-none (marks A.strips.now A.keep (λ j. A.wanted && covers (room_of_tables A.objects.rows.now v A.objects.size) A.e j)) A.strips.now

pub loop-k-preserved : goal.loop-k-preserved
loop-k-preserved c =
    let loop = c.loop-k in let A = c.args in
    let S = A.strips.now in
    let k = loop.k in
    let inside : k < length S = omega arith in
    λ w.
    let F = marks S A.keep (λ j. A.wanted && covers (room_of_tables A.objects.rows.now w A.objects.size) A.e j) in
    let old : get_or loop.strips k 0 ≡ get_or S k 0 = ap (λ (l : List ℕ). get_or l k 0) (loop.invariant w) ∙ flag_later F S k inside in
    let new = c.is_covered.ensures w in
    ap (λ (l : List ℕ). set l k c.from.result) (loop.invariant w)
    ∙ flag-more F S k c.from.result inside
    (c.from.ensures ∙ flag_is _ ∙ (λ i. flag ((A.keep && eqb (old i) 1) || (A.wanted && new i))))

pub returns : goal.returns
returns c =
    let loop = c.loop-k in let A = c.args in
    λ v.
    let F = marks A.strips.now A.keep (λ j. A.wanted && covers (room_of_tables A.objects.rows.now v A.objects.size) A.e j) in
    let e : loop.k ≡ 128 = omega arith in
    loop.invariant v ∙ ap (λ (n : ℕ). flagged F n A.strips.now) e
