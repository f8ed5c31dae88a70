use Rattle.std.proofs.Common.{refl, rules, inl, inr, length, ◌⊎◌, ◌≡◌}
use Rattle.compare.specs.Compare.{rooms}
use Rattle.compare.proofs.OutcomeLaws.{sizes_refused}
use Rattle.compare.proofs.compare_tested.Goals.{then-ra-rb-via-then-ra-rb, then-ra-rb-via-else-ra-rb+then-ra-rb-2}
use Rattle.compare.proofs.compare_tested.Goals as goal

-- `compare::compare_tested` meets its contract. Assumes nothing.

pub returns-then-ra-rb : goal.returns-then-ra-rb
returns-then-ra-rb c =
    let args = c.args in
    let differ : (args.ra.width ≡ args.rb.width → ⊥) ⊎ (args.ra.height ≡ args.rb.height → ⊥) =
    elim c.then-ra-rb.branch [
      | then-ra-rb-via-then-ra-rb w ↦ inl w.if-ra-rb.true
      | then-ra-rb-via-else-ra-rb+then-ra-rb-2 w ↦ inr w.if-ra-rb-2.true
    ] in
    rw (sizes_refused (rooms args.a.now args.ra args.b.now args.rb) (length args.list.now) differ) (record {
      answer = search rules;
      list_after = refl;
    })

pub invariant_of-list_differences : goal.invariant_of-list_differences
invariant_of-list_differences c = record {
  comparable = record { first = c.requires.0; second = c.requires.1; width = c.if-ra-rb.false; height = c.if-ra-rb-2.false };
}
