-- The numbers that each call can give at all, as include/kildegrom.h lists them (document 01, "Numbered refusals"): 0 is accepted. What each number
-- means is said in Refusals.
use Rattle.std.specs.Prelude.{ℕ, ◌≤◌, ◌≡◌, List, ◌⊎◌}
use Rattle.room.specs.Test.{number_of}
use Rattle.objects.specs.Record.{record_test}
use Rattle.objects.specs.Object.{place_number, header_call}
use Rattle.objects.specs.Name.{name_number}
use Rattle.object_list.specs.List.{list_test}
use Rattle.scene.specs.declared.Call.TheVariants.{Make, TakeBack}
use Rattle.scene.specs.declared.Place.{Place}
use Rattle.scene.specs.declared.Step.TheVariants.{Draw, Hide}
use Rattle.play.specs.Bytes as play
use Rattle.point.specs.Call.{pointed_at}
use Rattle.point.specs.Call as point
use Rattle.actor.specs.Hidden.{hidden_of}
use Rattle.actor.specs.Hidden as actor
use Rattle.actor.specs.Stamp.{stamp_number}
use Rattle.cast.specs.declared.Actor.{Actor}
use Rattle.cast.specs.Call.{number_in}
use Rattle.limbs.specs.Limb.{drawn_of}
use Rattle.limbs.specs.Limb as limb
use Rattle.limbs.specs.Tick.{tick_number}
use Rattle.costume.specs.Start as start
use Rattle.costume.specs.Start.{started_of}
use Rattle.block_writer.specs.Call.{smap_outcome, plane_outcome, answer_of}
use Rattle.block_writer.specs.Call as writer
use Rattle.compare.specs.Compare as compare

-- 0, or one of three numbers or of two
abbrev pub Among3 : (a b c n : ℕ) → Type 0
Among3 a b c n = (n ≡ 0) ⊎ ((n ≡ a) ⊎ ((n ≡ b) ⊎ (n ≡ c)))

abbrev pub Among2 : (a b n : ℕ) → Type 0
Among2 a b n = (n ≡ 0) ⊎ ((n ≡ a) ⊎ (n ≡ b))

-- up to a number, or another
abbrev pub UpToOr : (last other n : ℕ) → Type 0
UpToOr last other n = (n ≤ last) ⊎ (n ≡ other)

pub record Numbers : Type 0 where
  -- kg_record, kg_list, kg_load: 1 to 8
  pub of_record : (s lent : List ℕ) → number_of (record_test s lent) ≤ 8
  pub of_list : (s lent rows : List ℕ) → number_of (list_test s lent rows) ≤ 8
  pub of_load : (s : List ℕ) (b : play.Lent) → number_of (play.test_of s b) ≤ 8
  -- kg_draw_last, kg_draw_at: 1 to 12; kg_hide: 1 to 11; kg_take_back: 1 to 9 and 13
  pub of_draw : (s : List ℕ) (b : play.Lent) (o st : ℕ) (p : Place) → play.number_of s b (Make (Draw o st p)) ≤ 12
  pub of_hide : (s : List ℕ) (b : play.Lent) (o : ℕ) → play.number_of s b (Make (Hide o)) ≤ 11
  pub of_take_back : (s : List ℕ) (b : play.Lent) → UpToOr 9 13 (play.number_of s b TakeBack)
  -- kg_object_at: 1 to 9 and 14; kg_header, kg_name_number: 1 to 8 and 11
  pub of_object_at : (s session flags : List ℕ) (x y : ℕ) → UpToOr 9 14 (point.number (pointed_at s session flags x y))
  pub of_header : (s lent : List ℕ) (k : ℕ) → UpToOr 8 11 (place_number (header_call s lent k))
  pub of_name : (s : List ℕ) (k : ℕ) → UpToOr 8 11 (name_number s k)
  -- kg_hidden: 3, 4, 14; kg_stamp: 3, 4; kg_cast: 3, 4, 18
  pub of_hidden : (masks : List ℕ) (w h n clip x y : ℕ) → Among3 3 4 14 (actor.number (hidden_of masks w h n clip x y))
  pub of_stamp : (frame masks picture w h n width height : ℕ) → Among2 3 4 (stamp_number frame masks picture w h n width height)
  pub of_cast : (list : List Actor) (frame masks pictures : List ℕ) (w h n : ℕ) → Among3 3 4 18 (number_in list frame masks pictures w h n)
  -- kg_start, kg_tick, kg_limb_draws: 4, 15
  pub of_start : (s l : List ℕ) (t count v chore direction : ℕ) → Among2 4 15 (start.number (started_of s l t count v chore direction))
  pub of_tick : (s l : List ℕ) (v : ℕ) → Among2 4 15 (tick_number s l v)
  pub of_limb_draws : (l : List ℕ) (i : ℕ) → Among2 4 15 (limb.number (drawn_of l i))
  -- kg_write_smap, kg_write_plane: 3, 4
  pub of_smap : (w h : ℕ) (rows : List ℕ) (size : ℕ) → Among2 3 4 (writer.number (answer_of (smap_outcome w h rows size)))
  pub of_plane : (k w h : ℕ) (rows : List ℕ) (size : ℕ) → Among2 3 4 (writer.number (answer_of (plane_outcome k w h rows size)))
  -- kg_compare: 1 to 8 and 16
  pub of_compare : (a b : List ℕ) (size : ℕ) → UpToOr 8 16 (compare.number (compare.answer_of (compare.compared_of a b size)))
