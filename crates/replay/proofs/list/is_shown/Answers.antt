use Rattle.std.proofs.Common.{◌∙◌, eqb, rules, tests}
use Rattle.std.proofs.lemmas.Iterator.{YieldsList-from_slice}
use Rattle.std.proofs.lemmas.Iterator.Search.{any_from_yields_List}
use Rattle.scene.specs.declared.Entry.{Entry}
use Rattle.stored.specs.Bytes.{entries}
use Rattle.replay.proofs.Lists.{any_is_some}
use Rattle.replay.proofs.list.is_shown.Goals as goal

-- `replay::list::is_shown` meets its contract. Assumes nothing.

pub returns : goal.returns
returns c =
    any_from_yields_List (λ (e : Entry). eqb e.object c.args.object) _ _ c.any.result c.any.ensures.ran
    (YieldsList-from_slice (entries c.args.s) cc) (λ x b q k. search (rules, tests))
    ∙ any_is_some (λ (e : Entry). eqb e.object c.args.object) (entries c.args.s)
