use Rattle.std.proofs.Common.{take, drop, arith, ◌+◌, ◌-◌, ◌≡◌, ◌∙◌}
use Rattle.objects.specs.Name.{name_place}
use Rattle.objects.proofs.NameLaws.{part_bytes}
use Rattle.objects.proofs.name.name.Goals as goal

pub returns : goal.returns
returns c =
    let a = c.args in
    let part = c.name_part-part.result in
    let is = c.name_part-part.ensures.part in
    let size : part.start + part.count - part.start ≡ part.count = omega arith in
    rw size ((λ i. take (is i).count (drop (is i).start a.s.now)) ∙ part_bytes a.s.now (name_place a.s.now a.object))
