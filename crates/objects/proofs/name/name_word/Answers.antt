use Rattle.std.proofs.Common.{◌+◌, ◌*◌, ◌∙◌}
use Rattle.objects.specs.Name.{name_place}
use Rattle.objects.proofs.NameLaws.{part-word}
use Rattle.objects.proofs.name.name_word.Goals as goal

pub returns : goal.returns
returns c =
    let a = c.args in
    let is = c.name_part-part.ensures.part in
    (λ i. (is i).start + (is i).count * 4294967296) ∙ part-word (name_place a.s.now a.object)
