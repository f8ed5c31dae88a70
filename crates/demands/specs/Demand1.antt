-- Demand 1, in the customer's words: "Any bytes may come in as a room, a costume, a session or a picture. Every call ends and stays inside
-- the memory lent to it. It does its work, or gives the one numbered refusal that document 01 names for that input; then pixels, masks,
-- session and limbs hold the same bytes as before."
--
-- That a call ends, stays inside its memory and answers the definition's number is its contract, which has no `requires`: the contracts of
-- crate kildegrom are equations over the definitions named here, for all bytes and numbers. What is left, of each of its calls: where the
-- number isn't 0, every byte stays, and the answer has the number only (document 01, "Numbered refusals"), so its value is 0.
use Rattle.std.specs.Prelude.{ℕ, ◌/◌, ◌%◌, ◌<◌, ◌≡◌, List, [], ℤ, length}
use Rattle.room.specs.Test.{number_of}
use Rattle.objects.specs.Record.{record_test, record_after}
use Rattle.objects.specs.Object.{place_number, header_call, header_after}
use Rattle.objects.specs.Name.{name_number, name_place, place_word, name_of}
use Rattle.object_list.specs.List.{list_test, rows_after}
use Rattle.scene.specs.declared.Call.{Call}
use Rattle.play.specs.Bytes as play
use Rattle.point.specs.Call as point
use Rattle.actor.specs.Hidden as hidden
use Rattle.actor.specs.Stamp.{stamp_number, stamp_frame}
use Rattle.cast.specs.declared.Actor.{Actor}
use Rattle.cast.specs.Call.{number_in, cast_list, cast_frame}
use Rattle.costume.specs.Start as start
use Rattle.limbs.specs.Tick.{tick_number, tick_bytes}
use Rattle.limbs.specs.Limb as limb
use Rattle.block_writer.specs.Call as write
use Rattle.compare.specs.Compare as compare
use Rattle.answers.specs.Word.{word, hidden_word, started_word, drawn_word, wrote_word, pointed_word, compared_word}

-- a call that isn't accepted
abbrev pub Refusing : ℕ → Type 0
Refusing n = n ≡ 0 → ⊥

-- an answer of two parts, as the contract has it, is its number and its value; refused, its value is 0
pub record Parts (number value answer : ℕ) : Type 0 where
  pub whole : answer ≡ word number value
  pub alone : Refusing number → value ≡ 0

pub record Demand1 : Type 0 where
  -- kg_number and kg_value of the header take both parts out again, of any number below 2^32
  pub number_back : (number value : ℕ) → number < 4294967296 → word number value % 4294967296 ≡ number
  pub value_back : (number value : ℕ) → number < 4294967296 → word number value / 4294967296 ≡ value
  -- kg_record, kg_header: the lent record
  pub record_stays : (s lent : List ℕ) → Refusing (number_of (record_test s lent)) → record_after (record_test s lent) lent ≡ lent
  pub header_stays : (s lent : List ℕ) (k : ℕ) → Refusing (place_number (header_call s lent k)) → header_after s (header_call s lent k) lent ≡ lent
  -- kg_name, kg_name_number: no place, and an empty part of the room
  pub name-empty : (s : List ℕ) (k : ℕ) → Refusing (name_number s k) → (place_word (name_place s k) ≡ 0) × (name_of s k ≡ [])
  -- kg_list: the lent record and the rows
  pub list_stays : (s lent rows : List ℕ) → Refusing (number_of (list_test s lent rows))
      → (record_after (list_test s lent rows) lent ≡ lent) × (rows_after s (list_test s lent rows) rows ≡ rows)
  -- kg_load; kg_draw_last, kg_draw_at, kg_hide, kg_take_back: session, pixels and masks
  pub load_stays : (s : List ℕ) (b : play.Lent) → Refusing (number_of (play.test_of s b)) → play.after_load s b ≡ b
  pub call_stays : (s : List ℕ) (b : play.Lent) (c : Call) → Refusing (play.number_of s b c) → play.after_call s b c ≡ b
  -- kg_object_at, kg_hidden: nothing lent is written
  pub object_parts : (s session flags : List ℕ) (x y : ℕ)
      → let a = point.pointed_at s session flags x y in Parts (point.number a) (point.value a) (pointed_word a)
  pub hidden_parts : (masks : List ℕ) (w h n clip x y : ℕ)
      → let a = hidden.hidden_of masks w h n clip x y in Parts (hidden.number a) (hidden.value a) (hidden_word a)
  -- kg_stamp: the frame
  pub stamp_stays : (frame masks picture : List ℕ) (w h n width height clear : ℕ) (x y : ℤ) (clip : ℕ)
      → Refusing (stamp_number (length frame) (length masks) (length picture) w h n width height)
      → stamp_frame frame masks picture w h n width height clear x y clip ≡ frame
  -- kg_cast: the list and the frame
  pub cast_stays : (list : List Actor) (frame masks pictures : List ℕ) (w h n clear : ℕ)
      → let r = number_in list frame masks pictures w h n in Refusing r
      → (cast_list r list ≡ list) × (cast_frame r masks pictures w h n clear list frame ≡ frame)
  -- kg_start, kg_tick: the limbs
  pub start_parts : (s l : List ℕ) (t count v chore direction : ℕ)
      → let a = start.started_of s l t count v chore direction in Parts (start.number a) (start.value a) (started_word a)
  pub start_stays : (s l : List ℕ) (t count v chore direction : ℕ) → Refusing (start.number (start.started_of s l t count v chore direction))
      → start.start_bytes s l t count v chore direction ≡ l
  pub tick_stays : (s l : List ℕ) (v : ℕ) → Refusing (tick_number s l v) → tick_bytes s l v ≡ l
  -- kg_limb_draws: nothing lent is written
  pub draws_parts : (l : List ℕ) (i : ℕ) → let a = limb.drawn_of l i in Parts (limb.number a) (limb.value a) (drawn_word a)
  -- kg_write_smap, kg_write_plane: the target
  pub smap_parts : (w h : ℕ) (rows d : List ℕ)
      → let a = write.answer_of (write.smap_outcome w h rows (length d)) in Parts (write.number a) (write.value a) (wrote_word a)
  pub smap_stays : (w h : ℕ) (rows d : List ℕ) → let o = write.smap_outcome w h rows (length d) in Refusing (write.number (write.answer_of o))
      → write.target_after o d ≡ d
  pub plane_parts : (k w h : ℕ) (rows d : List ℕ)
      → let a = write.answer_of (write.plane_outcome k w h rows (length d)) in Parts (write.number a) (write.value a) (wrote_word a)
  pub plane_stays : (k w h : ℕ) (rows d : List ℕ) → let o = write.plane_outcome k w h rows (length d) in Refusing (write.number (write.answer_of o))
      → write.target_after o d ≡ d
  -- kg_compare: the list
  pub compare_parts : (a b list : List ℕ)
      → let r = compare.answer_of (compare.compared_of a b (length list)) in Parts (compare.number r) (compare.value r) (compared_word r)
  pub compare_stays : (a b list : List ℕ) → let o = compare.compared_of a b (length list) in Refusing (compare.number (compare.answer_of o))
      → compare.list_after o list ≡ list
