-- Demand 3 computed: calls on the room of PlayedRoom from its load on, each with its number and every lent byte after it, over what the contracts of
-- kg_load, kg_draw_at, kg_draw_last, kg_hide and kg_take_back promise. The images all stand in strip 1, pixels 8 to 15 of both rows.
--
-- 1. Take back: 13, for there is no step yet; nothing changes.
-- 2. Draw object 1 at strip position (1, 0), which is pixel (8, 0). Its strip is opaque and has no plane: its pixels are written, and the plane's
--    rows become zero.
-- 3. Draw object 2 where it last was: IMHD says pixel (8, 0). That is object 1's box, so object 1's entry goes. A raw strip is opaque: its 255 is
--    written as it is, and its mask rows replace those below.
-- 4. Draw object 3 where it last was: pixel (8, 1), one row high, so its box is another one and object 2 stays. Its strip is transparent: where it
--    has 255 object 2 shows, and the bits of its mask row are joined to object 2's: 42 and 18 make 5A.
-- 5. Hide object 2: the background stands below object 3 again: 0F and 18 make 1F.
-- 6. Hide object 2 once more: 11, for it isn't shown; nothing changes.
-- 7. Take back the hide: object 2 is below object 3 again, as after 4.
-- 8. Take back the draw of object 3: as after 3.
-- 9. Take back the draw of object 2: the entry that it removed is there again, object 1's, as after 2.
--
-- A take-back lowers the count of steps and leaves the bytes of the step; a shown list that gets shorter leaves the bytes past its end.
use Rattle.std.proofs.Common.{◌≡◌, refl, ap, ◌∙◌, List, [], ◌∷◌, ◌++◌, ℕ, Ok}
use Rattle.bits.specs.Bits.{low_bits, bits_of}
use Rattle.grid.specs.Grid.{upd}
use Rattle.strip.specs.Strip.{decode}
use Rattle.strip.specs.Picture.{five_from, kind_of, placed, raw_of, coded_of, strip_of}
use Rattle.plane.specs.Mask.{rows_of}
use Rattle.block.specs.Tree.{block_end, walk, run, tagged, payload}
use Rattle.table.specs.Table.{offset_at, offset_right, offsets_right, table_right}
use Rattle.table.specs.Body.{body_end, body_of, strip_at, rows_at, pixel_at, mask_at}
use Rattle.table.specs.Test.{strip_test, leftmost, block_test}
use Rattle.room.specs.Picture.{plane_test, smap_and_planes_test}
use Rattle.objects.specs.Object.{object_block}
use Rattle.load.specs.Load.{background, mask}
use Rattle.image.specs.Image.{object_id, has_id, first_of, image_block, image_count, home_x, home_y, image_width, image_height, state_block, drawable}
use Rattle.image.specs.Fault.{image_test, image_fault}
use Rattle.image.specs.Pixel.{image_strip, image_colour, image_clear, image_bits}
use Rattle.scene.specs.declared.Call.{Call}
use Rattle.scene.specs.declared.Call.TheVariants.{Make, TakeBack}
use Rattle.scene.specs.declared.Place.TheVariants.{Last, Strip}
use Rattle.scene.specs.declared.Step.TheVariants.{Draw, Hide}
use Rattle.scene.specs.Painting.{every, opaque, covers, reaches, over_pixel, over_mask, layered, pixel_layout, mask_layout, fresh_byte, new_byte, rebuilt_bytes}
use Rattle.scene.specs.Steps.{some, only, without, spot_of, entry_of, same_box, clash, removes, adds, moves, applied, touches, aligned, sized, inside}
use Rattle.scene.specs.Steps.{allowed, refusal, bare, replay, replays}
use Rattle.scene.specs.Session.{same_entry, same_list, right_for, scene_of, made, unmade, tried, called}
use Rattle.stored.specs.Bytes.{marks_from, all_placed, put_marks, session_of}
use Rattle.layers.specs.Decoded.{decoded}
use Rattle.scene.specs.Calls.{after_all}
use Rattle.play.specs.Bytes as bytes
use Rattle.play.specs.Bytes.{Lent, lent, test_of, number_by, after_by, number_of, after_call, bytes_after}
use Rattle.demands.specs.Demand3.{CallHolds}
use Rattle.demands.proofs.Demand3.{demand3}
use Rattle.demands.proofs.PlayedRoom.{room, sizes, given, session_with, pixels_with, masks_with, loaded, load_is}

-- ---- the calls that make a step; each object has the state 1 only

-- at strip position (1, 0)
abbrev draw1 : Call
draw1 = Make (Draw 1 1 (Strip 1 0))

-- where it last was: IMHD's place
abbrev draw2 : Call
draw2 = Make (Draw 2 1 Last)

-- likewise
abbrev draw3 : Call
draw3 = Make (Draw 3 1 Last)

-- the entry of object 2 goes, if there is one
abbrev hide2 : Call
hide2 = Make (Hide 2)

-- ---- the pixels, by the two rows of strip 1

-- object 1: a vertical strip goes down its columns, four of 11 and four of 12
abbrev pixels1 : List ℕ
pixels1 =
    pixels_with
    (0x11 ∷ 0x11 ∷ 0x11 ∷ 0x11 ∷ 0x12 ∷ 0x12 ∷ 0x12 ∷ 0x12 ∷ [])
    (0x11 ∷ 0x11 ∷ 0x11 ∷ 0x11 ∷ 0x12 ∷ 0x12 ∷ 0x12 ∷ 0x12 ∷ [])

-- object 2: the raw bytes by rows, the 255 among them
abbrev pixels2 : List ℕ
pixels2 =
    pixels_with
    (0x21 ∷ 0x22 ∷ 0x23 ∷ 0xFF ∷ 0x25 ∷ 0x26 ∷ 0x27 ∷ 0x28 ∷ [])
    (0x29 ∷ 0x2A ∷ 0x2B ∷ 0x2C ∷ 0x2D ∷ 0x2E ∷ 0x2F ∷ 0x30 ∷ [])

-- object 3 over object 2: in the lower row object 3's five pixels that aren't 255, and object 2's in columns 0, 1 and 7
abbrev pixels32 : List ℕ
pixels32 =
    pixels_with
    (0x21 ∷ 0x22 ∷ 0x23 ∷ 0xFF ∷ 0x25 ∷ 0x26 ∷ 0x27 ∷ 0x28 ∷ [])
    (0x29 ∷ 0x2A ∷ 0x31 ∷ 0x32 ∷ 0x32 ∷ 0x32 ∷ 0x32 ∷ 0x30 ∷ [])

-- object 3 over the background: the same five, and the background's 7E in columns 0, 1 and 7
abbrev pixels3 : List ℕ
pixels3 =
    pixels_with
    (0x05 ∷ 0x05 ∷ 0x05 ∷ 0x05 ∷ 0x05 ∷ 0x05 ∷ 0x05 ∷ 0x05 ∷ [])
    (0x7E ∷ 0x7E ∷ 0x31 ∷ 0x32 ∷ 0x32 ∷ 0x32 ∷ 0x32 ∷ 0x7E ∷ [])

-- ---- the steps in a session, five bytes each: kind (2 a draw at a strip position, 1 a draw at the last place, 0 a hide), object, state, a, b

-- of draw1
abbrev step1 : List ℕ
step1 = 0x02 ∷ 0x01 ∷ 0x01 ∷ 0x01 ∷ 0x00 ∷ []

-- of draw2
abbrev step2 : List ℕ
step2 = 0x01 ∷ 0x02 ∷ 0x01 ∷ 0x00 ∷ 0x00 ∷ []

-- of draw3
abbrev step3 : List ℕ
step3 = 0x01 ∷ 0x03 ∷ 0x01 ∷ 0x00 ∷ 0x00 ∷ []

-- of hide2
abbrev step4 : List ℕ
step4 = 0x00 ∷ 0x02 ∷ 0x00 ∷ 0x00 ∷ 0x00 ∷ []

-- ---- the lent bytes after each accepted call, by its number above; an entry is object and state

-- one step, one entry; opaque with no plane, so zero mask rows
abbrev after2 : Lent
after2 = lent (session_with 1 1 step1 (0x01 ∷ 0x01 ∷ [])) pixels1 (masks_with 0x00 0x00)

-- two steps, but one entry: object 2's in the place of object 1's; its mask rows C3 and 42 replace
abbrev after3 : Lent
after3 = lent (session_with 2 1 (step1 ++ step2) (0x02 ∷ 0x01 ∷ [])) pixels2 (masks_with 0xC3 0x42)

-- three steps, two entries; the upper mask row is object 2's, the lower is both
abbrev after4 : Lent
after4 = lent (session_with 3 2 (step1 ++ step2 ++ step3) (0x02 ∷ 0x01 ∷ 0x03 ∷ 0x01 ∷ [])) pixels32 (masks_with 0xC3 0x5A)

-- four steps, one entry, object 3's; the second's bytes stay. The mask rows are the background's, the lower with object 3's
abbrev after5 : Lent
after5 = lent (session_with 4 1 (step1 ++ step2 ++ step3 ++ step4) (0x03 ∷ 0x01 ∷ 0x03 ∷ 0x01 ∷ [])) pixels3 (masks_with 0x81 0x1F)

-- three steps, two entries, and the surfaces after 4; the hide's bytes stay
abbrev after7 : Lent
after7 = lent (session_with 3 2 (step1 ++ step2 ++ step3 ++ step4) (0x02 ∷ 0x01 ∷ 0x03 ∷ 0x01 ∷ [])) pixels32 (masks_with 0xC3 0x5A)

-- two steps, one entry, and the surfaces after 3; object 3's bytes stay
abbrev after8 : Lent
after8 = lent (session_with 2 1 (step1 ++ step2 ++ step3 ++ step4) (0x02 ∷ 0x01 ∷ 0x03 ∷ 0x01 ∷ [])) pixels2 (masks_with 0xC3 0x42)

-- one step, one entry, object 1's again, and the surfaces after 2
abbrev after9 : Lent
after9 = lent (session_with 1 1 (step1 ++ step2 ++ step3 ++ step4) (0x01 ∷ 0x01 ∷ 0x03 ∷ 0x01 ∷ [])) pixels1 (masks_with 0x00 0x00)

-- ---- the calls one after the other

-- after a load and the calls cs, newest first, the call c is answered with n and leaves the bytes `after`
abbrev Answered : List Call → Call → ℕ → (after : Lent) → Type 0
Answered cs c n after = (number_of room (bytes_after room given cs) c ≡ n) × (bytes_after room given (c ∷ cs) ≡ after)

-- the load, then the calls in the header's order
pub record Played : Type 0 where
  pub load : bytes_after room given [] ≡ loaded
  pub nothing_to_take_back : Answered [] TakeBack 13 loaded
  pub drawn_at : Answered (TakeBack ∷ []) draw1 0 after2
  pub evicting : Answered (draw1 ∷ TakeBack ∷ []) draw2 0 after3
  pub transparent : Answered (draw2 ∷ draw1 ∷ TakeBack ∷ []) draw3 0 after4
  pub hidden : Answered (draw3 ∷ draw2 ∷ draw1 ∷ TakeBack ∷ []) hide2 0 after5
  pub not-shown : Answered (hide2 ∷ draw3 ∷ draw2 ∷ draw1 ∷ TakeBack ∷ []) hide2 11 after5
  pub hide_back : Answered (hide2 ∷ hide2 ∷ draw3 ∷ draw2 ∷ draw1 ∷ TakeBack ∷ []) TakeBack 0 after7
  pub transparent_back : Answered (TakeBack ∷ hide2 ∷ hide2 ∷ draw3 ∷ draw2 ∷ draw1 ∷ TakeBack ∷ []) TakeBack 0 after8
  pub evicting_back : Answered (TakeBack ∷ TakeBack ∷ hide2 ∷ hide2 ∷ draw3 ∷ draw2 ∷ draw1 ∷ TakeBack ∷ []) TakeBack 0 after9

-- ---- computed call by call, each on the literal bytes before it

start : bytes_after room given [] ≡ loaded
unfolding after_all bytes.played
start = load_is.1

-- the call c on the bytes `before`, in a room that passes its test: its number, and the bytes that it leaves
abbrev Gives : (before : Lent) → Call → ℕ → (after : Lent) → Type 0
Gives before c n after = (number_by room before c (Ok sizes) ≡ n) × (after_by room before c (Ok sizes) ≡ after)

-- the same of the bytes that the calls cs have left
next : (cs : List Call) (before : Lent) (c : Call) (n : ℕ) (after : Lent) → test_of room before ≡ Ok sizes
    → bytes_after room given cs ≡ before → Gives before c n after → Answered cs c n after
unfolding after_all bytes.played
next cs before c n after passes reached gives = (
  ap (λ (b : Lent). number_of room b c) reached ∙ ap (number_by room before c) passes ∙ gives.0,
  ap (λ (b : Lent). after_call room b c) reached ∙ ap (after_by room before c) passes ∙ gives.1,
)

pub played : Played
unfolding low_bits bits_of upd decode five_from kind_of placed raw_of coded_of strip_of rows_of block_end walk run tagged payload offset_at offset_right
    offsets_right table_right body_end body_of strip_at rows_at pixel_at mask_at strip_test leftmost block_test plane_test smap_and_planes_test object_block
    background mask object_id has_id first_of image_block image_count home_x home_y image_width image_height state_block drawable image_test image_fault
    image_strip image_colour image_clear image_bits every opaque covers reaches over_pixel over_mask layered pixel_layout mask_layout fresh_byte new_byte
    rebuilt_bytes some only without spot_of entry_of same_box clash removes adds moves applied touches aligned sized inside allowed refusal bare replay
    replays same_entry same_list right_for scene_of made unmade tried called marks_from all_placed put_marks session_of decoded
played =
    let passes = load_is.0 in
    let c1 = next [] loaded TakeBack 13 loaded passes start (refl, refl) in
    let c2 = next _ loaded draw1 0 after2 passes c1.1 (refl, refl) in
    let c3 = next _ after2 draw2 0 after3 passes c2.1 (refl, refl) in
    let c4 = next _ after3 draw3 0 after4 passes c3.1 (refl, refl) in
    let c5 = next _ after4 hide2 0 after5 passes c4.1 (refl, refl) in
    let c6 = next _ after5 hide2 11 after5 passes c5.1 (refl, refl) in
    let c7 = next _ after5 TakeBack 0 after7 passes c6.1 (refl, refl) in
    let c8 = next _ after7 TakeBack 0 after8 passes c7.1 (refl, refl) in
    let c9 = next _ after8 TakeBack 0 after9 passes c8.1 (refl, refl) in
    record {
      load = start;
      nothing_to_take_back = c1;
      drawn_at = c2;
      evicting = c3;
      transparent = c4;
      hidden = c5;
      not-shown = c6;
      hide_back = c7;
      transparent_back = c8;
      evicting_back = c9;
    }

-- demand 3 of this room and these lent bytes: the load that it asks for is accepted
pub holds : (cs : List Call) (c : Call) → CallHolds room sizes given cs c
holds = demand3.call room given sizes load_is.0
