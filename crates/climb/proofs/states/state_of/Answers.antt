use Rattle.std.proofs.Common.{◌≡◌, eqb, rules, tests}
use Rattle.std.specs.Option.{MatchOption}
use Rattle.std.proofs.lemmas.Iterator.{YieldsList-from_slice}
use Rattle.std.proofs.lemmas.Iterator.Search.{find_from_yields_List}
use Rattle.scene.specs.declared.Entry.{Entry}
use Rattle.stored.specs.Bytes.{entries}
use Rattle.climb.proofs.ClimbLaws.{state_is}
use Rattle.climb.proofs.states.state_of.Goals as goal

-- `climb::states::state_of` meets its contract. Assumes nothing.

pub returns : goal.returns
returns c =
    let f = find_from_yields_List (λ (e : Entry). eqb e.object c.args.o) _ _ c.find.result c.find.ensures.ran
    (YieldsList-from_slice (entries c.args.s.now) cc) (λ x b q k. search (rules, tests)) in
    let h : MatchOption c.find.result (c.map_or.result ≡ 0) (λ e. c.map_or.result ≡ e.now.state) = search rules in
    state_is (entries c.args.s.now) c.args.o c.map_or.result c.find.result f h
