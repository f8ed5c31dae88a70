-- Demand 1 holds: a refused call leaves every lent byte and answers its number only.
use Rattle.std.proofs.Common.{ℕ, ◌≡◌, refl, ◌∙◌, List, [], ne_eqb, length, Option, Some, None, Result, Ok, Err, Bool}
use Rattle.room.specs.Test.{number_of, nothing}
use Rattle.objects.specs.Record.{record_test, record_after}
use Rattle.objects.specs.Object.{place_number, header_call, header_after, chosen_block}
use Rattle.objects.specs.Name.{name_number, name_place, name_after, chosen_number, place_word, part_of}
use Rattle.object_list.specs.List.{list_test, rows_after}
use Rattle.room.specs.declared.Room as room
use Rattle.room.specs.declared.Room.{Room}
use Rattle.actor.proofs.ActorLaws.{refused_keeps}
use Rattle.actor.specs.Hidden as hidden
use Rattle.cast.specs.declared.Actor.{Actor}
use Rattle.cast.specs.Call.{number_in, cast_list, cast_frame}
use Rattle.block_writer.specs.Call as write
use Rattle.costume.specs.Start as start
use Rattle.costume.specs.declared.Started.{Started}
use Rattle.costume.specs.declared.Started.TheVariants.{Set, Undefined}
use Rattle.costume.proofs.Theorems.{start-number, start_unchanged}
use Rattle.limbs.specs.Limb as limb
use Rattle.point.specs.Call as point
use Rattle.compare.specs.Compare as compare
use Rattle.answers.specs.Word.{hidden_word, started_word, drawn_word, wrote_word, pointed_word, compared_word}
use Rattle.answers.proofs.WordLaws.{number_back, value_back}
use Rattle.limbs.proofs.Theorems.{tick_unchanged}
use Rattle.load.specs.Load.{session_after, pixels_after, masks_after}
use Rattle.scene.specs.declared.Call.{Call}
use Rattle.scene.specs.Session.{State, called}
use Rattle.session.proofs.CalledLaws.{called-refused}
use Rattle.play.proofs.CallLaws.{kept-refused}
use Rattle.layers.specs.Decoded.{decoded}
use Rattle.play.specs.Calls.{state_of}
use Rattle.play.specs.Bytes as play
use Rattle.demands.specs.Demand1.{Refusing, Parts, Demand1}

-- ---- records, headers, names, loads, blocks

record_stays : (t : Result Room ℕ) (lent : List ℕ) → Refusing (number_of t) → record_after t lent ≡ lent
record_stays (Ok r) lent f = absurd (f refl)
record_stays (Err n) lent f = refl

rows_stay : (s rows : List ℕ) (t : Result Room ℕ) → Refusing (number_of t) → rows_after s t rows ≡ rows
rows_stay s rows (Ok r) f = absurd (f refl)
rows_stay s rows (Err n) f = refl

header_stays : (s lent : List ℕ) (p : Result ℕ ℕ) → Refusing (place_number p) → header_after s p lent ≡ lent
header_stays s lent (Ok p) f = absurd (f refl)
header_stays s lent (Err n) f = refl

name-empty : (s : List ℕ) (c : Result (ℕ × ℕ) ℕ) → Refusing (chosen_number c) → (place_word (name_after s c) ≡ 0) × (part_of s (name_after s c) ≡ [])
name-empty s (Ok (b, z)) f = absurd (f refl)
name-empty s (Err n) f = (refl, refl)

load_stays : (s : List ℕ) (b : play.Lent) (t : Result Room ℕ) → Refusing (number_of t)
    → record { session = session_after t b.session; pixels = pixels_after s t b.pixels; masks = masks_after s t b.masks } ≡ b
load_stays s b (Ok r) f = absurd (f refl)
load_stays s b (Err n) f = refl

block_stays : (o : write.Outcome) (d : List ℕ) → Refusing (write.number (write.answer_of o)) → write.target_after o d ≡ d
block_stays (write.refused k) d f = refl
block_stays (write.written b) d f = absurd (f refl)

list_stays : (o : compare.Outcome) (l : List ℕ) → Refusing (compare.number (compare.answer_of o)) → compare.list_after o l ≡ l
list_stays (compare.no n) l f = refl
list_stays (compare.ok ds) l f = absurd (f refl)

cast_stays : (k : ℕ) (masks pictures : List ℕ) (w h n clear : ℕ) (list : List Actor) (frame : List ℕ) → Refusing k
    → (cast_list k list ≡ list) × (cast_frame k masks pictures w h n clear list frame ≡ frame)
unfolding cast_list cast_frame
cast_stays k masks pictures w h n clear list frame f = rw (ne_eqb k 0 f) (refl, refl)

-- ---- answers of two parts

object_parts : (a : Result (Option ℕ) ℕ) → Parts (point.number a) (point.value a) (pointed_word a)
object_parts (Ok (Some o)) = record { whole = refl; alone = λ f. absurd (f refl) }
object_parts (Ok None) = record { whole = refl; alone = λ f. refl }
object_parts (Err n) = record { whole = refl; alone = λ f. refl }

hidden_parts : (a : Result Bool ℕ) → Parts (hidden.number a) (hidden.value a) (hidden_word a)
hidden_parts (Ok is) = record { whole = refl; alone = λ f. absurd (f refl) }
hidden_parts (Err n) = record { whole = refl; alone = λ f. refl }

start_parts : (a : Result Started ℕ) → Parts (start.number a) (start.value a) (started_word a)
start_parts (Ok Set) = record { whole = refl; alone = λ f. absurd (f refl) }
start_parts (Ok Undefined) = record { whole = refl; alone = λ f. refl }
start_parts (Err n) = record { whole = refl; alone = λ f. refl }

draws_parts : (a : Result (Option ℕ) ℕ) → Parts (limb.number a) (limb.value a) (drawn_word a)
draws_parts (Ok (Some p)) = record { whole = refl; alone = λ f. absurd (f refl) }
draws_parts (Ok None) = record { whole = refl; alone = λ f. refl }
draws_parts (Err n) = record { whole = refl; alone = λ f. refl }

write_parts : (a : Result ℕ ℕ) → Parts (write.number a) (write.value a) (wrote_word a)
write_parts (Ok size) = record { whole = refl; alone = λ f. absurd (f refl) }
write_parts (Err n) = record { whole = refl; alone = λ f. refl }

compare_parts : (a : Result ℕ ℕ) → Parts (compare.number a) (compare.value a) (compared_word a)
compare_parts (Ok count) = record { whole = refl; alone = λ f. absurd (f refl) }
compare_parts (Err n) = record { whole = refl; alone = λ f. refl }

-- ---- draws, hides and take-backs

module _ (s : List ℕ) (b : play.Lent) where
  abbrev held : room.Room → State
  held r = state_of (decoded s r) b.session b.pixels b.masks

  right_stays : (r : room.Room) (c : Call) → Refusing (called (decoded s r) (held r) c).number → play.after_by s b c (Ok r) ≡ b
  right_stays r c f =
      let e = called-refused (decoded s r) (held r) c f in
      let stored = kept-refused b.session c (called (decoded s r) (held r) c) f in
      λ i. record { session = stored i; pixels = (e i).surfaces.pixels; masks = (e i).surfaces.masks }

  call_stays : (c : Call) (t : Result Room ℕ) → Refusing (play.number_by s b c t) → play.after_by s b c t ≡ b
  call_stays c (Ok r) f = right_stays r c f
  call_stays c (Err n) f = refl

pub demand1 : Demand1
demand1 =
    record {
      number_back = number_back;
      value_back = value_back;
      record_stays = λ s lent f. record_stays (record_test s lent) lent f;
      header_stays = λ s lent k f. header_stays s lent (header_call s lent k) f;
      name-empty = λ s k f. unfold name_number name_place in name-empty s (chosen_block nothing s k) f;
      list_stays = λ s lent rows f. (record_stays (list_test s lent rows) lent f, rows_stay s rows (list_test s lent rows) f);
      load_stays = λ s b f. load_stays s b (play.test_of s b) f;
      call_stays = λ s b c f. call_stays s b c (play.call_test s b) f;
      object_parts = λ s session flags x y. object_parts (point.pointed_at s session flags x y);
      hidden_parts = λ masks w h n clip x y. hidden_parts (hidden.hidden_of masks w h n clip x y);
      stamp_stays = λ frame masks picture w h n width height clear x y clip f. refused_keeps frame masks picture w h n width height clear x y clip f;
      cast_stays = λ list frame masks pictures w h n clear f. cast_stays (number_in list frame masks pictures w h n) masks pictures w h n clear list frame f;
      start_parts = λ s l t count v chore direction. start_parts (start.started_of s l t count v chore direction);
      start_stays = λ s l t count v chore direction f.
          start_unchanged s l t count v chore direction (λ z. f (start-number s l t count v chore direction ∙ z));
      tick_stays = tick_unchanged;
      draws_parts = λ l i. draws_parts (limb.drawn_of l i);
      smap_parts = λ w h rows d. write_parts (write.answer_of (write.smap_outcome w h rows (length d)));
      smap_stays = λ w h rows d f. block_stays (write.smap_outcome w h rows (length d)) d f;
      plane_parts = λ k w h rows d. write_parts (write.answer_of (write.plane_outcome k w h rows (length d)));
      plane_stays = λ k w h rows d f. block_stays (write.plane_outcome k w h rows (length d)) d f;
      compare_parts = λ a b list. compare_parts (compare.answer_of (compare.compared_of a b (length list)));
      compare_stays = λ a b list f. list_stays (compare.compared_of a b (length list)) list f;
    }
