use Rattle.std.proofs.Common.{length, arith, ◌≤◌, ◌≡◌, sym, ap, ◌∙◌}
use Rattle.objects.proofs.ObjectLaws.{place_at, place-long}
use Rattle.objects.specs.Object.{header_place, header_bytes}
use Rattle.objects.proofs.object.header_record.Goals as goal

pub header_bytes-requires : goal.header_bytes-requires
header_bytes-requires c = (place_at _ _ _ _ (sym c.in_ok-p.was ∙ c.header_place.ensures)).0

pub put_front-requires : goal.put_front-requires
unfolding header_bytes
put_front-requires c =
    let found = sym c.in_ok-p.was ∙ c.header_place.ensures ∙ ap (λ l. header_place l c.args.s.now c.args.object) c.fixed_lent.ensures in
    let long : 16 ≤ length c.args.out.now = place-long _ _ _ _ _ found in
    let size : length c.header_bytes.result ≡ 16 = ap length c.header_bytes.ensures in
    omega arith
