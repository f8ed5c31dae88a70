use Rattle.std.proofs.Common.{get_or, arith, ◌≡◌, ap, subst, ◌∙◌, ℕ, ◌+◌, ◌*◌, ◌/◌, ◌%◌, ◌<◌}
use Rattle.strip_test.proofs.SkipLaws.{skip_skipped}
use Rattle.bits.proofs.CursorLaws.{hands-small}
use Rattle.bits.specs.Reader.{Hands}
use Rattle.strip.specs.declared.State.{State}
use Rattle.strip_test.proofs.skip.Goals as goal

pub offset_bounds-rows-take : goal.offset_bounds-rows-take
offset_bounds-rows-take c =
    let few : c.take.result.value < 256 = hands-small c.take.ensures in
    omega (arith, few)

pub bounds-rows-take : goal.bounds-rows-take
bounds-rows-take c =
    let seen = c.take in
    let few : seen.result.value < 256 = hands-small seen.ensures in
    omega (arith, few, c.requires.0)

pub reach_of-requires : goal.reach_of-requires
reach_of-requires c =
    let seen = c.take in
    let few : seen.result.value < 256 = hands-small seen.ensures in
    let small = c.requires.1 seen.result.value few in
    rw c.wide_u16-row.ensures.0 (small.0, small.2, c.requires.2)

pub returns : goal.returns
returns c =
    let taken = c.take-2 in let reach_of = c.reach_of in
    let wide-u16 = c.wide_u16-row in
    let seen = c.take in let a = c.args in let pre = c.requires in
    let st = a.st in
    let few : seen.result.value < 256 = hands-small seen.ensures in
    let row = get_or a.rows.now seen.result.value 0 in
    let small = pre.1 seen.result.value few in
    let on : wide-u16.result / 16 % 16 ≡ row / 16 % 16 = ap (λ (r : ℕ). r / 16 % 16) wide-u16.ensures.0 in
    let far = reach_of.ensures.0 ∙ ap (λ (r : ℕ). r % 16 + r / 256 * (2 + a.w)) wide-u16.ensures.0 in
    let to : State = record { i = st.i + wide-u16.result / 16 % 16; colour = st.colour; step = st.step; cur = taken.result.next } in (
      omega (arith, taken.ensures.fewer, reach_of.ensures.1),
      omega (arith, taken.ensures.fewer, pre.4),
      omega arith,
      omega (arith, on, small.1),
      taken.ensures.held,
      λ second s rows.
          skip_skipped second a.w s st to seen.result.value taken.result.value seen.result.next a.rows.now seen.ensures rows
          (subst (λ (n : ℕ). Hands n taken.result.value st.cur taken.result.next) far taken.ensures) (ap (λ (k : ℕ). st.i + k) on),
    )
