use Rattle.std.proofs.Common.{refl, false, arith}
use Rattle.scene.specs.Steps.{bare}
use Rattle.replay.specs.Tables.{room_of_tables}
use Rattle.replay.specs.Places.{places_in}
use Rattle.replay.proofs.PlacesLaws.{home_is, home_more, home_all}
use Rattle.replay.proofs.places.fill_homes.Goals as goal

-- `replay::places::fill_homes` meets its contract. Assumes nothing.

pub loop-o-preserved : goal.loop-o-preserved
loop-o-preserved c =
    let x = c.cell-x in let y = c.cell-y in let o = c.loop-o.o in let t = c.args.objects in
    λ v.
    home_more t.rows.now v t.size (places_in c.loop-o.places) _ o
    (c.store_place.ensures ((bare (room_of_tables t.rows.now v t.size)).last o)
    (home_is t.rows.now v t.size o (record { x = x.result; y = y.result; set = false }) x.ensures.0 y.ensures.0 refl x.ensures.1 y.ensures.1))
    (c.loop-o.invariant v)

pub returns : goal.returns
returns c =
    let t = c.args.objects in
    λ v. home_all t.rows.now v t.size t.sizes.2 c.loop-o.places (λ q h. c.loop-o.invariant v q (omega arith))
