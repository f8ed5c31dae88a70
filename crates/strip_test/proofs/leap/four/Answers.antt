use Rattle.std.proofs.Common.{arith}
use Rattle.strip_test.proofs.LeapLaws.{sight_none, sight_more, leapt_four}
use Rattle.strip_test.proofs.leap.four.Goals as goal

pub look-two-requires : goal.look-two-requires
look-two-requires c = (c.requires.0, omega (arith, c.look-one.ensures.2))

pub look-three-requires : goal.look-three-requires
look-three-requires c = (c.requires.0, omega (arith, c.look-one.ensures.2, c.look-two.ensures.2))

pub look-sum-requires : goal.look-sum-requires
look-sum-requires c =
    (c.requires.0, omega (arith, c.look-one.ensures.2, c.look-two.ensures.2, c.look-three.ensures.2))

pub returns : goal.returns
returns c =
    let k4 = c.look-sum in let k3 = c.look-three in
    let k2 = c.look-two in let k1 = c.look-one in
    let a = c.args in
    let f1 = k1.ensures in
    let f2 = k2.ensures in
    let f3 = k3.ensures in
    let f4 = k4.ensures in (
      omega arith,
      omega (arith, f1.2, f2.2, f3.2, f4.2),
      λ second w total b le table sees room.
          let t = a.table.now in
          let p = a.s.p in
          let inside = room.bits in
          let g0 = sight_none second w b t le table p a.v sees in
          let g1 = sight_more second w b t le table p 0 a.v 0 k1.result.v k1.result.sum inside (omega arith) g0 f1.0 f1.1 in
          let g2 = sight_more second w b t le table p 1 k1.result.v k1.result.sum k2.result.v k2.result.sum inside (omega arith) g1 f2.0
          f2.1 in
          let g3 = sight_more second w b t le table p 2 k2.result.v k2.result.sum k3.result.v k3.result.sum inside (omega arith) g2 f3.0
          f3.1 in
          let g4 = sight_more second w b t le table p 3 k3.result.v k3.result.sum k4.result.v k4.result.sum inside (omega arith) g3 f4.0
          f4.1 in
          leapt_four second w total b a.s k4.result.v k4.result.sum room g4,
    )
