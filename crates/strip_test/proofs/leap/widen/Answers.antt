use Rattle.std.proofs.Common.{arith, ◌/◌}
use Rattle.strip_test.proofs.SkipLaws.{index-few}
use Rattle.strip_test.proofs.leap.widen.Goals as goal

pub overflow_mul-result : goal.overflow_mul-result
overflow_mul-result c =
    let a = c.args in let pre = c.requires in
    omega (arith, index-few (a.row / 256) a.w pre.0.2 pre.1)

pub overflow_add-result-2 : goal.overflow_add-result-2
overflow_add-result-2 c =
    let a = c.args in let pre = c.requires in
    omega (arith, index-few (a.row / 256) a.w pre.0.2 pre.1)

pub overflow_add-result-3 : goal.overflow_add-result-3
overflow_add-result-3 c =
    let a = c.args in let pre = c.requires in
    omega (arith, index-few (a.row / 256) a.w pre.0.2 pre.1, pre.0.0, pre.0.1)
