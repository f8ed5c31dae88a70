-- Laws of verdicts: an image's own refusal is 8 or less, so it is never mistaken for 11 or for a cell that isn't judged; which verdicts are
-- right; a table of verdicts after one more step; and what session's tables tell of the decoded room. Assumes nothing.
use Rattle.std.proofs.Common.{ℕ, zero, suc, ◌+◌, ◌-◌, ◌*◌, ◌/◌, ◌≤◌, ◌<◌, Bool, true, false, cond, not, ◌&&◌, ◌||◌, List, [], ◌∷◌, eqb, leb, ltb, length, replicate, get_or, set, take, length-set, arith, ◌≡◌, refl, sym, ap, ◌∙◌, get_or-take, get_or-set_same, get_or-set_other, eq-eqb, ne_eqb, le-leb, leb-true, leb-false, eqb-true, Option, Some, None, Result, Ok, Err, IsSome}
use mathlib.Core.Bool.{and-false, false≢true}
use lib.ListN.{get_or-replicate, get_or-eq_default}
use Rattle.number.proofs.BoolLaws.{and_left, and_right}
use Rattle.bits.specs.Bits.{Pull, short, got, pull, bits_of}
use Rattle.strip.specs.Strip.{Move, refuse, go, index_op, walk_op, run_op, change_op, op_of, measured, move_of, Strip, refused, values, onto, prepend, decode}
use Rattle.strip.specs.Strip.{minus, plus}
use Rattle.strip.specs.Picture.{Picture, refusal, picture, raw_of, shown, coded_of, by_kind, strip_of, kind_of, placed}
use Rattle.strip.specs.declared.Kind.{Kind}
use Rattle.strip.specs.declared.Kind.TheVariants.{Raw, Coded, Unknown}
use Rattle.plane.specs.Mask.{Pending, literals, copies, rows_in, pending_of, rows_of}
use Rattle.table.specs.Table.{table_right, offset_at}
use Rattle.table.specs.Body.{body_of, strip_at, rows_at}
use Rattle.table.specs.Test.{number, and_then, picture_test, rows_test, strip_test, leftmost, block_test}
use Rattle.block.specs.Tag.{tag-SMAP, tag-OBCD}
use Rattle.block.specs.Tree.{find_tag, tagged}
use Rattle.room.specs.Picture.{plane_in, plane_found, plane_test, smap_and_planes_test}
use Rattle.image.specs.Image.{image_width, image_height, state_block, object_count, image_block, image_count, home_x, home_y, is_object, drawable}
use Rattle.image.specs.Fault.{smap_test, image_test, state_test, image_fault}
use mathlib.Core.Logic.{by_cases}
use native.Mathlib.Decide.{ℕ_discrete}
use borrow.Author.Tests.{lt-leb, eqb-false}
use Rattle.objects.specs.Object.{object_block}
use Rattle.room.specs.declared.Room.{Room}
use Rattle.image.proofs.GatherLaws.{gathered-x, gathered-y, gathered-width, gathered-height}
use Rattle.image.proofs.ImageLaws.{drawable_object, drawable_state, drawable_missing}
use Rattle.image.proofs.FaultLaws.{fault_at}
use Rattle.scene.specs.declared.Place.{Place}
use Rattle.scene.specs.declared.Step.{Step}
use Rattle.scene.specs.declared.Step.TheVariants as step
use Rattle.scene.specs.Steps.{most_steps}
use Rattle.scene.proofs.Allowed.{allowed-means}
use Rattle.stored.specs.Bytes.{down, step_at, readable}
use Rattle.replay.specs.Tables.{cell_of, verdict_of, draws, names, at_corner, size_allowed, TablesAgree, verdicts_length}
use Rattle.replay.proofs.TablesLaws.{cell_none, cell_row, cell_past, verdict_none, verdict_past, verdict_zero, verdict_over, verdict_cell}
use Rattle.layers.specs.Decoded.{decoded}
use Rattle.layers.specs.Ready.{Ready}
use Rattle.verdict.specs.Size.{size_of}
use Rattle.verdict.specs.Verdict.{Right, Within, cell_at, Judged}

-- ---- pixels of a strip

abbrev LowMove : Move → Type 0
LowMove (refuse n) = (1 ≤ n) × (n ≤ 8)
LowMove (go left c s l) = Unit {0}

abbrev LowStrip : Strip → Type 0
LowStrip (refused n) = (1 ≤ n) × (n ≤ 8)
LowStrip (values xs) = Unit {0}

abbrev LowPicture : Picture → Type 0
LowPicture (refusal n) = (1 ≤ n) × (n ≤ 8)
LowPicture (picture clear px) = Unit {0}

low-cond : {A : Type 0} (Low : A → Type 0) (t : Bool) (a b : A) → Low a → Low b → Low (cond t a b)
low-cond Low true a b p q = p
low-cond Low false a b p q = q

low-index : (p : Pull) → LowMove (index_op p)
low-index short = omega arith
low-index (got v l) = tt

low-walk : (c s : ℕ) (l : List Bool) → LowMove (walk_op c s l)
low-walk c s [] = omega arith
low-walk c s (false ∷ l) = tt
low-walk c s (true ∷ l) = tt

low_run : (c s : ℕ) (p : Pull) → LowMove (run_op c s p)
low_run c s short = omega arith
low_run c s (got n l) = tt

low_change : (c s : ℕ) (p : Pull) → LowMove (change_op c s p)
low_change c s short = omega arith
low_change c s (got d l) = low-cond LowMove (eqb d 4) (run_op c s (pull 8 l)) (go 0 (minus (plus c d) 4) s l) (low_run c s (pull 8 l)) tt

low_op : (second : Bool) (w c s : ℕ) (l : List Bool) → LowMove (op_of second w c s l)
low_op second w c s [] = omega arith
low_op second w c s (false ∷ l) = tt
low_op second w c s (true ∷ []) = omega arith
low_op second w c s (true ∷ false ∷ l) = low-index (pull w l)
low_op false w c s (true ∷ true ∷ l) = low-walk c s l
low_op true w c s (true ∷ true ∷ l) = low_change c s (pull 3 l)

low-measured : (k : ℕ) (m : Move) → LowMove m → LowMove (measured k m)
low-measured k (refuse n) h = h
low-measured k (go left c s l) h = low-cond LowMove (leb left k) (go left c s l) (refuse 8) tt (omega arith)

low_move : (second : Bool) (w k left c s : ℕ) (l : List Bool) → LowMove (move_of second w k left c s l)
low_move second w k zero c s l = low-measured k (op_of second w c s l) (low_op second w c s l)
low_move second w k (suc left) c s l = tt

low-onto : (x : ℕ) (t : Strip) → LowStrip t → LowStrip (onto x t)
low-onto x (refused n) h = h
low-onto x (values xs) h = tt

low-prepend : (xs : List ℕ) (t : Strip) → LowStrip t → LowStrip (prepend xs t)
low-prepend xs (refused n) h = h
low-prepend xs (values ys) h = tt

low-decode : (second : Bool) (w k left c s : ℕ) (l : List Bool) → LowStrip (decode second w k left c s l)
unfolding decode
low-decode second w zero left c s l = tt
low-decode second w (suc k) left c s l =
    on (move_of second w k left c s l) (low_move second w k left c s l) (λ left' c' s' l'. low-decode second w k left' c' s' l')
  where
    on : (m : Move) → LowMove m → ((left' c' s' : ℕ) (l' : List Bool) → LowStrip (decode second w k left' c' s' l'))
        → LowStrip (elim m [ refuse n ↦ refused n | go left' c' s' l' ↦ onto c' (decode second w k left' c' s' l') ])
    on (refuse n) h rest = h
    on (go left' c' s' l') h rest = low-onto c' (decode second w k left' c' s' l') (rest left' c' s' l')

low_raw : (h : ℕ) (l : List ℕ) → LowPicture (raw_of h l)
unfolding raw_of
low_raw h t = low-cond LowPicture (ltb (length t) (8 * h)) (refusal 7) (picture false (placed false h t)) (omega arith) tt

low-shown : (vertical clear : Bool) (h : ℕ) (t : Strip) → LowStrip t → LowPicture (shown vertical clear h t)
low-shown vertical clear h (refused n) p = p
low-shown vertical clear h (values xs) p = tt

low_coded : (second vertical clear : Bool) (w h : ℕ) (l : List ℕ) → LowPicture (coded_of second vertical clear w h l)
unfolding coded_of
low_coded second vertical clear w h [] = omega arith
low_coded second vertical clear w h (c ∷ t) =
    low-shown vertical clear h (decode second w (8 * h) 1 c 1 (bits_of t)) (low-decode second w (8 * h) 1 c 1 (bits_of t))

low_kind : (h : ℕ) (t : List ℕ) (k : Kind) → LowPicture (by_kind h t k)
low_kind h t Raw = low_raw h t
low_kind h t (Coded second vertical clear w) = low_coded second vertical clear w h t
low_kind h t Unknown = omega arith

low-picture : (h : ℕ) (l : List ℕ) → LowPicture (strip_of h l)
unfolding strip_of
low-picture h [] = omega arith
low-picture h (code ∷ t) = low_kind h t (kind_of code)

-- ---- rows of a mask

low_rows : (l : List ℕ) (k : ℕ) (p : Pending) → LowStrip (rows_of l k p)
unfolding rows_of
low_rows [] zero p = tt
low_rows [] (suc k) p = omega arith
low_rows (b ∷ t) zero p = tt
low_rows (b ∷ t) (suc k) (copies n) = low-prepend (replicate n b) (rows_of t (suc k - n) (literals zero)) (low_rows t (suc k - n) (literals zero))
low_rows (b ∷ t) (suc k) (literals (suc n)) = low-onto b (rows_of t k (literals n)) (low_rows t k (literals n))
low_rows (b ∷ t) (suc k) (literals zero) =
    low-cond LowStrip (ltb (suc k) (rows_in b)) (refused 8) (rows_of t (suc k) (pending_of b)) (omega arith) (low_rows t (suc k) (pending_of b))

-- ---- tests

abbrev pub LowTest : Result (Unit {0}) ℕ → Type 0
LowTest (Ok tt) = Unit {0}
LowTest (Err n) = (1 ≤ n) × (n ≤ 8)

low-number : (t : Result (Unit {0}) ℕ) → LowTest t → number t ≤ 8
low-number (Ok tt) h = omega arith
low-number (Err n) h = h.1

passed_of : (t : Result (Unit {0}) ℕ) → LowTest t → number t ≡ 0 → t ≡ Ok tt
passed_of (Ok tt) h e = refl
passed_of (Err n) h e = absurd (omega arith)

pub low_then : (a b : Result (Unit {0}) ℕ) → LowTest a → LowTest b → LowTest (and_then a b)
low_then (Ok tt) b p q = q
low_then (Err n) b p q = p

low-picture_test : (p : Picture) → LowPicture p → LowTest (picture_test p)
low-picture_test (refusal n) h = h
low-picture_test (picture clear px) h = tt

low-rows_test : (t : Strip) → LowStrip t → LowTest (rows_test t)
low-rows_test (refused n) h = h
low-rows_test (values xs) h = tt

low-rows_at : (n h : ℕ) (s : List ℕ) (b z k : ℕ) → LowStrip (rows_at n h s b z k)
unfolding rows_at
low-rows_at n h s b z k = on (eqb (offset_at true s b k) 0)
  where
    on : (t : Bool) → LowStrip (cond t (values (replicate h 0)) (rows_of (body_of true n s b z k) h (literals 0)))
    on true = tt
    on false = low_rows (body_of true n s b z k) h (literals 0)

low-strip_test : (mask : Bool) (n h : ℕ) (s : List ℕ) (b z k : ℕ) → LowTest (strip_test mask n h s b z k)
unfolding strip_test strip_at
low-strip_test false n h s b z k = low-picture_test (strip_of h (body_of false n s b z k)) (low-picture h (body_of false n s b z k))
low-strip_test true n h s b z k = low-rows_test (rows_at n h s b z k) (low-rows_at n h s b z k)

pub low-leftmost : (f : ℕ → Result (Unit {0}) ℕ) → ((k : ℕ) → LowTest (f k)) → (m k : ℕ) → LowTest (leftmost f k m)
unfolding leftmost
low-leftmost f each zero k = tt
low-leftmost f each (suc m) k = low_then (f k) (leftmost f (k + 1) m) (each k) (low-leftmost f each m (k + 1))

pub low-block : (mask : Bool) (n h : ℕ) (s : List ℕ) (b z : ℕ) → LowTest (block_test mask n h s b z)
unfolding block_test
low-block mask n h s b z = on (table_right mask n s b z)
  where
    on : (t : Bool) → LowTest (cond t (leftmost (strip_test mask n h s b z) 0 n) (Err 5))
    on true = low-leftmost (strip_test mask n h s b z) (low-strip_test mask n h s b z) n 0
    on false = omega arith

pub low-plane : (n h : ℕ) (s : List ℕ) (f : Option (ℕ × ℕ)) → LowTest (plane_found n h s f)
low-plane n h s (Some (b, z)) = low-block true n h s b z
low-plane n h s None = tt

low-plane_test : (n h : ℕ) (s : List ℕ) (b z k : ℕ) → LowTest (plane_test n h s b z k)
unfolding plane_test
low-plane_test n h s b z k = low-plane n h s (plane_in s b z k)

pub low_im : (planes n h : ℕ) (s : List ℕ) (b z smap end : ℕ) → LowTest (smap_and_planes_test planes n h s b z smap end)
unfolding smap_and_planes_test
low_im planes n h s b z smap end =
    low_then (block_test false n h s smap end) (leftmost (plane_test n h s b z) 1 planes) (low-block false n h s smap end)
    (low-leftmost (plane_test n h s b z) (low-plane_test n h s b z) planes 1)

low-smap : (planes n h : ℕ) (s : List ℕ) (b z : ℕ) (f : Option (ℕ × ℕ)) → LowTest (smap_test planes n h s b z f)
low-smap planes n h s b z (Some (smap, end)) = low_im planes n h s b z smap end
low-smap planes n h s b z None = omega arith

low_state : (planes n h : ℕ) (s : List ℕ) (f : Option (ℕ × ℕ)) → LowTest (state_test planes n h s f)
unfolding image_test
low_state planes n h s (Some (b, z)) = low-smap planes n h s (b + 8) z (find_tag tag-SMAP s (b + 8) z)
low_state planes n h s None = omega arith

-- the image's own refusal
pub low-fault : (planes : ℕ) (s : List ℕ) (o st : ℕ) → number (image_fault planes s o st) ≤ 8
unfolding image_fault
low-fault planes s o st =
    low-number (state_test planes (image_width s o / 8) (image_height s o) s (state_block s o st))
    (low_state planes (image_width s o / 8) (image_height s o) s (state_block s o st))

-- no refusal is numbered 0
pub fault-passed : (planes : ℕ) (s : List ℕ) (o st : ℕ) → number (image_fault planes s o st) ≡ 0 → image_fault planes s o st ≡ Ok tt
unfolding image_fault
fault-passed planes s o st e =
    passed_of (state_test planes (image_width s o / 8) (image_height s o) s (state_block s o st))
    (low_state planes (image_width s o / 8) (image_height s o) s (state_block s o st)) e

-- ---- a verdict is right

module _ (s : List ℕ) (r : Room) (o st : ℕ) where
  -- an image whose size is allowed is no larger than the room
  pub size-within : size_allowed (decoded s r) o ≡ true → (image_width s o ≤ r.width) × (image_height s o ≤ r.height)
  unfolding size_allowed decoded
  size-within h =
      let edges = ((allowed-means (decoded s r) (at_corner o)).0 h).inside in
      let a : 0 + image_width s o ≤ 8 * (r.width / 8) = edges.0 in
      let b : 0 + image_height s o ≤ r.height = edges.1 in
      (omega (arith, a), omega (arith, b))

  pub right-none : false ≡ drawable s o st → Right s r o st 11
  right-none d = record { low = omega arith; can_draw = sym d; own = λ q z. absurd (false≢true (d ∙ q)) }

  -- a state that can be drawn has its block
  pub drawable_there : true ≡ drawable s o st → (f : Option (ℕ × ℕ)) → f ≡ state_block s o st → IsSome f
  drawable_there d (Some (b, z)) at = refl
  drawable_there d None none = absurd (false≢true (drawable_missing s o st none ∙ sym d))

  pub right_large : true ≡ drawable s o st → (size_allowed (decoded s r) o ≡ true → ⊥) → Right s r o st 0
  right_large d k = record { low = omega arith; can_draw = sym d; own = λ q z. absurd (k z) }

  pub right-own : true ≡ drawable s o st → (n : ℕ) → number (image_fault r.planes s o st) ≡ n → Right s r o st n
  right-own d n e =
      let l = low-fault r.planes s o st in
      record {
        low = omega (arith, l, e);
        can_draw = sym d ∙ sym (ap not (ne_eqb n 11 (λ q. omega (arith, l, e, q))));
        own = λ q z. e;
      }

-- what the code's tests give, for an object whose row is gathered
module _ (s : List ℕ) (r : Room) (t : List ℕ) (o st : ℕ) (ready : Ready s r t) (all : r.objects ≡ object_count s) (one : 1 ≤ o) (le : o ≤ r.objects)
    (d : true ≡ drawable s o st) where
  row-width : get_or t (8 * o + 3) 0 ≡ image_width s o
  row-width = gathered-width s t ready.gathered o one (omega (arith, le, all))

  row-height : get_or t (8 * o + 4) 0 ≡ image_height s o
  row-height = gathered-height s t ready.gathered o one (omega (arith, le, all))

  pub right-wide : (w : ℕ) → w ≡ get_or t (8 * o + 3) 0 → r.width < w → Right s r o st 0
  right-wide w e lt = right_large s r o st d (λ z. omega (arith, e, lt, row-width, (size-within s r o st z).0))

  pub right-high : (h : ℕ) → h ≡ get_or t (8 * o + 4) 0 → r.height < h → Right s r o st 0
  right-high h e lt = right_large s r o st d (λ z. omega (arith, e, lt, row-height, (size-within s r o st z).1))

  pub right_tested : (w h b z : ℕ) → w ≡ get_or t (8 * o + 3) 0 → h ≡ get_or t (8 * o + 4) 0 → Some (b, z) ≡ state_block s o st
      → (a : Result (Unit {0}) ℕ) → a ≡ image_test r.planes (w / 8) h s (b + 8) z → Right s r o st (number a)
  right_tested w h b z ew eh at a e =
      let ww : w ≡ image_width s o = ew ∙ row-width in
      let hh : h ≡ image_height s o = eh ∙ row-height in
      right-own s r o st d (number a)
      (ap number (sym (fault_at r.planes s o st b z at) ∙ (λ i. image_test r.planes (sym ww i / 8) (sym hh i) s (b + 8) z) ∙ sym e))

-- ---- a table of verdicts after one more step

module _ (s : List ℕ) (r : Room) (v : List ℕ) (h : List Step) where
  -- a draw whose image has no cell, or is judged already
  pub judged_drawn : (o st : ℕ) (p : Place) → (Within r o st → cell_at v o st ≡ 255 → ⊥) → Judged s r v h → Judged s r v (step.Draw o st p ∷ h)
  unfolding names draws
  judged_drawn o st p k j = record { long = j.long; right = j.right; done = λ q t w n. on q t w (eqb q o && eqb t st) refl n }
    where
      on : (q t : ℕ) → Within r q t → (b : Bool) → (eqb q o && eqb t st) ≡ b → (b || names h q t) ≡ true → cell_at v q t ≡ 255 → ⊥
      on q t w true e n c =
          let eo : q ≡ o = eqb-true q o (and_left (eqb q o) (eqb t st) e) in
          let es : t ≡ st = eqb-true t st (and_right (eqb q o) (eqb t st) e) in
          k (rw (eo, es) at w) (rw (eo, es) at c)
      on q t w false e n c = j.done q t w n c

  pub judged_hidden : (o : ℕ) → Judged s r v h → Judged s r v (step.Hide o ∷ h)
  unfolding names draws
  judged_hidden o j = record { long = j.long; right = j.right; done = j.done }

  -- a verdict is put into its cell
  module _ (few : r.objects ≤ 128) (o st w : ℕ) (in_table : Within r o st) (right : Right s r o st w) (j : Judged s r v h) where
    new-same : cell_at (set v (10 * o + st) w) o st ≡ w
    new-same = get_or-set_same v (10 * o + st) w 0 (omega (arith, few, in_table.last, in_table.highest, j.long))

    same_object : (q t : ℕ) → Within r q t → 10 * q + t ≡ 10 * o + st → (q ≡ o) × (t ≡ st)
    same_object q t i e =
        let a = in_table.lowest in
        let b = in_table.highest in
        let c = i.lowest in
        let d = i.highest in
        (omega (arith, a, b, c, d, e), omega (arith, a, b, c, d, e))

    judged_put : Judged s r (set v (10 * o + st) w) h
    judged_put =
        record {
          long = rw (length-set v (10 * o + st) w) j.long;
          right = λ q t i n. by_cases (ℕ_discrete (10 * q + t) (10 * o + st))
              (λ e.
              let a = same_object q t i e in
              rw (a.0, a.1, new-same) right)
              (λ ne.
              let e = get_or-set_other v (10 * o + st) (10 * q + t) w 0 ne in
              rw e (j.right q t i (λ c. n (e ∙ c))));
          done = λ q t i n c. by_cases (ℕ_discrete (10 * q + t) (10 * o + st))
              (λ e.
              let a = same_object q t i e in
              let z : cell_at (set v (10 * o + st) w) o st ≡ 255 = rw (a.0, a.1) at c in
              omega (arith, new-same, z, right.low))
              (λ ne. j.done q t i n (sym (get_or-set_other v (10 * o + st) (10 * q + t) w 0 ne) ∙ c));
        }

-- and then its image is judged
pub judged-new : (s : List ℕ) (r : Room) (v : List ℕ) (h : List Step) → r.objects ≤ 128 → (o st w : ℕ) → Within r o st → Right s r o st w
    → (p : Place) → Judged s r v h → Judged s r (set v (10 * o + st) w) (step.Draw o st p ∷ h)
judged-new s r v h few o st w i right p j =
    let e = new-same s r v h few o st w i right j in
    judged_drawn s r (set v (10 * o + st) w) h o st p (λ q c. omega (arith, e, c, right.low)) (judged_put s r v h few o st w i right j)

-- the same for a step that is known to draw
pub judged_step : (s : List ℕ) (r : Room) (v v' : List ℕ) (x : Step) (o st a b : ℕ) (p : Place) → x ≡ step.Draw a b p → o ≡ a → st ≡ b
    → ((q : Place) (h : List Step) → Judged s r v h → Judged s r v' (step.Draw o st q ∷ h)) → (h : List Step) → Judged s r v h → Judged s r v' (x ∷ h)
judged_step s r v v' x o st a b p e eo es k h j = rw (e, ← eo, ← es) (k p h j)

-- ---- a table with no verdict yet

filled_each : (n b : ℕ) (v : List ℕ) → take n v ≡ replicate n b → (i : ℕ) → i < n → get_or v i 0 ≡ b
filled_each n b v e i lt = sym (get_or-take n v i 0 lt) ∙ ap (λ (l : List ℕ). get_or l i 0) e ∙ get_or-replicate n i b 0 lt

pub judged-none : (s : List ℕ) (r : Room) (v : List ℕ) → r.objects ≤ 128 → verdicts_length ≤ length v
    → take verdicts_length v ≡ replicate verdicts_length 255 → Judged s r v []
unfolding names
judged-none s r v few long all =
    record {
      long = long;
      right = λ o st i n. absurd (n (filled_each verdicts_length 255 v all (10 * o + st) (omega (arith, few, i.last, i.highest))));
      done = λ o st i n c. absurd (false≢true n);
    }

-- the history that is read
module _ (s : List ℕ) (r : Room) (v l : List ℕ) where
  pub judged-past : most_steps < get_or l 0 0 → Judged s r v [] → Judged s r v (readable l)
  unfolding readable
  judged-past lt j = rw (lt-leb (get_or l 0 0) most_steps lt) j

  pub judged-all : get_or l 0 0 ≤ most_steps → Judged s r v (down (step_at l) (get_or l 0 0)) → Judged s r v (readable l)
  unfolding readable
  judged-all le j = rw (le-leb (get_or l 0 0) most_steps le) j

-- ---- what the tables tell

-- an object that isn't there has no image
no_image : (s : List ℕ) (o : ℕ) → object_block s o ≡ None → image_block s o ≡ None
unfolding image_block
no_image s o e = rw e

image_zero : (s : List ℕ) (o : ℕ) → o ≡ 0 → image_block s o ≡ None
unfolding object_block
image_zero s o e = no_image s o (rw (eq-eqb o 0 e))

image_past : (s : List ℕ) (o : ℕ) → object_count s < o → image_block s o ≡ None
unfolding object_block
image_past s o lt =
    no_image s o
    (rw (ne_eqb o 0 (λ e. omega (arith, lt, e))) (get_or-eq_default (tagged tag-OBCD s 8 (length s)) None {n = o - 1} (omega (arith, lt))))

module _ (s : List ℕ) (o : ℕ) (none : image_block s o ≡ None) where
  none-x : home_x s o ≡ 0
  unfolding home_x
  none-x = rw none

  none-y : home_y s o ≡ 0
  unfolding home_y
  none-y = rw none

  none-width : image_width s o ≡ 0
  unfolding image_width
  none-width = rw none

  none-height : image_height s o ≡ 0
  unfolding image_height
  none-height = rw none

module _ (s : List ℕ) (r : Room) (t : List ℕ) (all : r.objects ≡ object_count s) where
  -- a field of an object's image, by its row
  row_field : (o k f : ℕ) → (1 ≤ o → o ≤ object_count s → get_or t (8 * o + k) 0 ≡ f) → (image_block s o ≡ None → f ≡ 0) → f ≡ cell_of t r.objects o k
  row_field o k f there none =
      by_cases (ℕ_discrete o 0)
      (λ e. none (image_zero s o e) ∙ cell_none t r.objects o k e)
      (λ ne. on ne (leb o r.objects) refl)
    where
      on : (o ≡ 0 → ⊥) → (b : Bool) → leb o r.objects ≡ b → f ≡ cell_of t r.objects o k
      on ne true e =
          let l = leb-true o r.objects e in
          sym (there (omega (arith, ne)) (omega (arith, l, all))) ∙ cell_row t r.objects o k ne l
      on ne false e =
          let l = leb-false o r.objects e in
          none (image_past s o (omega (arith, l, all))) ∙ cell_past t r.objects o k ne l

  -- an image has a cell, or it can't be drawn and its verdict is 11 with no look at the table
  data Cell (v : List ℕ) (o st : ℕ) : Type 0 where
    inside : Within r o st → Cell v o st
    outside : 11 ≡ verdict_of v r.objects o st → false ≡ drawable s o st → Cell v o st

  no_object : (o : ℕ) → object_count s < o → is_object s o ≡ false
  no_object o lt = rw (lt-leb o (object_count s) lt) (and-false (leb 1 o))

  cell-of : (v : List ℕ) (o st : ℕ) → Cell v o st
  cell-of v o st = on (eqb o 0) (leb o r.objects) (eqb st 0) (leb st 9) refl refl refl refl
    where
      on : (a b c d : Bool) → eqb o 0 ≡ a → leb o r.objects ≡ b → eqb st 0 ≡ c → leb st 9 ≡ d → Cell v o st
      on true b c d ea eb ec ed =
          let z = eqb-true o 0 ea in
          outside (verdict_none v r.objects o st z) (drawable_object s o st (rw (lt-leb 1 o (omega (arith, z)))))
      on false false c d ea eb ec ed =
          let l = leb-false o r.objects eb in
          outside (verdict_past v r.objects o st (eqb-false o 0 ea) l) (drawable_object s o st (no_object o (omega (arith, l, all))))
      on false true true d ea eb ec ed =
          let z = eqb-true st 0 ec in
          outside (verdict_zero v r.objects o st (eqb-false o 0 ea) (leb-true o r.objects eb) z)
          (drawable_state s o st (image_count s o) refl (rw (lt-leb 1 st (omega (arith, z)))))
      on false true false false ea eb ec ed =
          let l = leb-false st 9 ed in
          outside (verdict_over v r.objects o st (eqb-false o 0 ea) (leb-true o r.objects eb) (eqb-false st 0 ec) l)
          (drawable_state s o st (image_count s o) refl (rw (lt-leb st 9 l, and-false (leb 1 st))))
      on false true false true ea eb ec ed =
          let no = eqb-false o 0 ea in
          let nst = eqb-false st 0 ec in
          inside (record { first = omega (arith, no); last = leb-true o r.objects eb; lowest = omega (arith, nst); highest = leb-true st 9 ed })

  module _ (v : List ℕ) (h : List Step) (ready : Ready s r t) (j : Judged s r v h) where
    inside_cell : (o st : ℕ) → Within r o st → cell_at v o st ≡ verdict_of v r.objects o st
    inside_cell o st i =
        verdict_cell v r.objects o st (λ e. omega (arith, e, i.first)) i.last (λ e. omega (arith, e, i.lowest)) i.highest

    known_drawable : (o st : ℕ) → names h o st ≡ true → Cell v o st → drawable s o st ≡ not (eqb (verdict_of v r.objects o st) 11)
    known_drawable o st n (inside i) =
        (j.right o st i (j.done o st i n)).can_draw ∙ ap (λ (x : ℕ). not (eqb x 11)) (inside_cell o st i)
    known_drawable o st n (outside e d) = sym d ∙ ap (λ (x : ℕ). not (eqb x 11)) e

    known_fault : (o st : ℕ) → names h o st ≡ true → Cell v o st → drawable s o st ≡ true → size_allowed (decoded s r) o ≡ true
        → number (image_fault r.planes s o st) ≡ verdict_of v r.objects o st
    known_fault o st n (inside i) d z = (j.right o st i (j.done o st i n)).own d z ∙ inside_cell o st i
    known_fault o st n (outside e d) d' z = absurd (false≢true (d ∙ d'))

    pub judged_agree : TablesAgree (decoded s r) t v (size_of r) h
    unfolding decoded
    judged_agree =
        let g = ready.gathered in
        record {
          strips = refl;
          height = refl;
          home_x = λ o. row_field o 1 (home_x s o) (gathered-x s t g o) (none-x s o);
          home_y = λ o. row_field o 2 (home_y s o) (gathered-y s t g o) (none-y s o);
          width = λ o. row_field o 3 (image_width s o) (gathered-width s t g o) (none-width s o);
          tall = λ o. row_field o 4 (image_height s o) (gathered-height s t g o) (none-height s o);
          drawable = λ o st n. known_drawable o st n (cell-of v o st);
          fault = λ o st n d z. known_fault o st n (cell-of v o st) d z;
        }
