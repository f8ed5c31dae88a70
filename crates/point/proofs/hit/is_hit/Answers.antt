use Rattle.std.proofs.Common.{◌≡◌, refl, sym, ◌∙◌, ◌-◌, ◌&&◌, true, false, eqb, get_or}
use Rattle.point.specs.Tables.{holds_in}
use Rattle.point.proofs.TableLaws.{hit_told}
use Rattle.point.proofs.hit.is_hit.Goals.{Joined-holds, then-holds, else-holds}
use Rattle.point.proofs.hit.is_hit.Goals as goal

first : (c : Joined-holds) → c.if-holds.value
    ≡ (holds_in c.args.boxes.now c.args.places.now c.args.size c.args.x c.args.y c.args.o && eqb (get_or c.args.flags.now (c.args.o - 1) 0) 0)
first c =
    elim c.if-holds.branch [
      | then-holds w ↦ w.value-is ∙ (λ i. w.if-holds.ensures i && eqb (get_or c.args.flags.now (c.args.o - 1) 0) 0)
      | else-holds w ↦ w.value-is ∙ w.if-holds.false ∙ (λ i. w.if-holds.ensures i && eqb (get_or c.args.flags.now (c.args.o - 1) 0) 0)
    ]

pub returns-then-flags-o-eq0 : goal.returns-then-flags-o-eq0
returns-then-flags-o-eq0 c =
    hit_told _ _ _ _ _ _ _ _ true _ (sym c.if-flags-o-eq0.true ∙ first (goal.at.returns-then-flags-o-eq0 c).Joined-holds) c.is_open.ensures

pub returns-else-flags-o-eq0 : goal.returns-else-flags-o-eq0
returns-else-flags-o-eq0 c =
    let no = c.if-flags-o-eq0.false in
    no ∙ hit_told _ _ _ _ _ _ _ _ false _ (sym no ∙ first (goal.at.returns-else-flags-o-eq0 c).Joined-holds) refl
