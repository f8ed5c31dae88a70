use Rattle.std.proofs.Common.{arith, sym, ◌∙◌}
use Rattle.objects.specs.Name.{name_place}
use Rattle.objects.proofs.ObjectLaws.{chosen_at}
use Rattle.objects.proofs.name.name_part.Goals as goal

pub part_in-requires : goal.part_in-requires
part_in-requires c =
    let i = chosen_at _ _ _ _ _ (sym c.in-Ok.is ∙ c.chosen_block.ensures) in
    (i.1, i.2)

pub returns-in-Ok : goal.returns-in-Ok
unfolding name_place
returns-in-Ok c =
    let block = sym c.in-Ok.is ∙ c.chosen_block.ensures in
    let small = (chosen_at _ _ _ _ _ block).3.1.sound.small in
    let part = c.part_in.ensures in record {
      part = rw (← c.nothing_lent.ensures, ← block) part.0;
      in_room = (part.1, omega (arith, part.1, small));
    }

pub returns-in-Err : goal.returns-in-Err
unfolding name_place
returns-in-Err c =
    let no = sym c.in-Err.is ∙ c.chosen_block.ensures in record {
      part = rw (← c.nothing_lent.ensures, ← no);
      in_room = (omega arith, omega arith);
    }
