-- Change request 7 holds: the list is put in the one order that the request names, and the frame is what the single stamps leave in that order.
use Rattle.std.proofs.Common.{ℕ, ◌+◌, ◌*◌, ◌≤◌, ◌<◌, ◌≡◌, refl, sym, ap, ◌∙◌, true, List, [], ◌∷◌, arith, eq-eqb, ne_eqb, length, get_or, drop, length-drop, get_or-drop}
use mathlib.Core.Logic.{by_cases}
use native.Mathlib.Decide.{ℕ_discrete}
use lib.IntN.{ℤ, pos}
use Rattle.actor.specs.Sizes.{sizes_fit, mask_bytes}
use Rattle.actor.proofs.ActorLaws.{opaque-shown}
use Rattle.actor.proofs.PictureLaws as picture
use Rattle.cast.specs.declared.Actor.{Actor}
use Rattle.cast.specs.Sort.{sort_of, Perm, those}
use Rattle.cast.specs.Call.{record_number, first_bad, number_in, stamp_all, cast_list, cast_frame}
use Rattle.cast.proofs.SortLaws.{sort_perm, sort_keeps, perm_same}
use Rattle.cast.proofs.PairLaws.{sort_pairs, of_pairs}
use Rattle.cast.proofs.OrderLaws.{perm_length, only_sorted, sorted_twice}
use Rattle.cast.proofs.NumberLaws.{Accepted, accepted-exactly, right-first, all_right, perm_right}
use Rattle.cast.proofs.PaintedLaws as painted
use Rattle.demands.specs.Request7.{Lent, number, list_after, frame_after, stamp_answer, stamp_after, Begins, OneByOne, nobody, one_more, InOrder, Shows}
use Rattle.demands.specs.Request7.{Request7}

-- ---- a call, by its number

list_by : (P : List Actor → Type 0) (k : ℕ) (l : List Actor) → (k ≡ 0 → P (sort_of l)) → P l → P (cast_list k l)
unfolding cast_list
list_by P k l accepted refused = by_cases (ℕ_discrete k 0) (λ e. rw (eq-eqb k 0 e) (accepted e)) (λ e. rw (ne_eqb k 0 e) refused)

frame_by : (P : List ℕ → Type 0) (k : ℕ) (masks pictures : List ℕ) (w h n clear : ℕ) (l : List Actor) (frame : List ℕ)
    → (k ≡ 0 → P (stamp_all masks pictures w h n clear (sort_of l) frame)) → P frame → P (cast_frame k masks pictures w h n clear l frame)
unfolding cast_frame
frame_by P k masks pictures w h n clear l frame accepted refused =
    by_cases (ℕ_discrete k 0) (λ e. rw (eq-eqb k 0 e) (accepted e)) (λ e. rw (ne_eqb k 0 e) refused)

module _ (c : Lent) where
  same_records : Perm (list_after c) c.list
  same_records = list_by (λ l. Perm l c.list) (number c) c.list (λ e. sort_perm c.list) (perm_same c.list)

  stable : (y : ℤ) (id : ℕ) → those y id (list_after c) ≡ those y id c.list
  stable y id = list_by (λ l. those y id l ≡ those y id c.list) (number c) c.list (λ e. sort_keeps y id c.list) refl

  frame-length : length (frame_after c) ≡ length c.frame
  frame-length =
      frame_by (λ f. length f ≡ length c.frame) (number c) c.masks c.pictures c.w c.h c.n c.clear c.list c.frame
      (λ e. painted.all-length c.masks c.pictures c.w c.h c.n c.clear (sort_of c.list) c.frame) refl

-- ---- the order

module _ (c : Lent) (accepted : number c ≡ 0) where
  sorted : list_after c ≡ sort_of c.list
  unfolding cast_list
  sorted = rw accepted

  in_order : InOrder (list_after c)
  in_order = rw sorted (sort_pairs c.list)

  only_order : (l : List Actor) → InOrder l → ((y : ℤ) (id : ℕ) → those y id l ≡ those y id c.list) → l ≡ list_after c
  only_order l o e = only_sorted c.list l (of_pairs l o) e ∙ sym sorted

  second-list : (d : Lent) → d.list ≡ list_after c → list_after d ≡ list_after c
  second-list d e =
      list_by (λ l. l ≡ list_after c) (number d) d.list (λ zero. ap sort_of (e ∙ sorted) ∙ sorted_twice c.list ∙ sym sorted) e

-- ---- the stamps

-- one record that is right, on a frame and masks long enough: whatever slice is lent, its stamp is accepted and leaves what the buffer's leaves
module _ (c : Lent) (sizes : sizes_fit c.w c.h c.n ≡ true) (planes : mask_bytes c.w c.h c.n ≤ length c.masks)
    (a : Actor) (right : record_number (length c.pictures) a ≡ 0) where
  abbrev slice : List ℕ
  slice = drop a.start c.pictures

  begins : Begins c a slice
  begins = (
    omega (arith, (painted.right_record (length c.pictures) a right).1, length-drop a.start c.pictures),
    λ i lt. get_or-drop a.start c.pictures i 0,
  )

  module _ (frame : List ℕ) (long : c.w * c.h ≤ length frame) where
    answers : (lent : List ℕ) → Begins c a lent → stamp_answer c a frame lent ≡ 0
    answers lent is =
        painted.stamp_right (length c.pictures) a right (length frame) (length c.masks) (length lent) c.w c.h c.n sizes long planes is.0

    leaves-one : (lent : List ℕ) → Begins c a lent → stamp_after c a frame lent ≡ stamp_after c a frame slice
    leaves-one lent is =
        picture.picture-frame frame c.masks lent slice c.w c.h c.n a.width a.height c.clear a.left a.top a.clip
        is.0 begins.0 (λ i lt. is.1 i lt ∙ sym (begins.1 i lt))

    -- past the room
    past : (i : ℕ) → c.w * c.h ≤ i → get_or (stamp_after c a frame slice) i 0 ≡ get_or frame i 0
    past =
        picture.past frame c.masks slice c.w c.h c.n a.width a.height c.clear a.left a.top a.clip (answers slice begins)

    -- at a pixel of the room
    module _ (p q : ℕ) (in-x : p < c.w) (in-y : q < c.h) where
      makes : (v : ℕ) → Shows c a p q v → get_or (stamp_after c a frame slice) (q * c.w + p) 0 ≡ v
      makes v (column, row, in_c, in-r, at_x, at_y, is, opaque, shown) =
          let colour = get_or-drop a.start c.pictures (row * a.width + column) 0 ∙ is in
          opaque-shown frame c.masks slice c.w c.h c.n a.width a.height c.clear a.left a.top a.clip column row p q
          in_c in-r at_x at_y in-x in-y (answers slice begins) (λ e. opaque (sym colour ∙ e)) shown
          ∙ colour

      leaves : ((u : ℕ) → Shows c a p q u → ⊥) → get_or (stamp_after c a frame slice) (q * c.w + p) 0 ≡ get_or frame (q * c.w + p) 0
      leaves none =
          picture.nothing-shown frame c.masks slice c.w c.h c.n a.width a.height c.clear a.left a.top a.clip
          (answers slice begins) p q in-x in-y
          (λ column row in_c in-r at_x at_y opaque shown.
          let colour = get_or-drop a.start c.pictures (row * a.width + column) 0 in
          none _ (column, row, in_c, in-r, at_x, at_y, sym colour, opaque, shown))

module _ (c : Lent) (accepted : number c ≡ 0) where
  abbrev l : List Actor
  l = list_after c

  tests : Accepted c.list (length c.frame) (length c.masks) (length c.pictures) c.w c.h c.n
  tests = (accepted-exactly c.list (length c.frame) (length c.masks) (length c.pictures) c.w c.h c.n).0 accepted

  -- the records are right in any order
  right : first_bad (length c.pictures) l ≡ 0
  right = perm_right (length c.pictures) (same_records c) tests.right

  right_at : (none : Actor) (j : ℕ) → j < length l → record_number (length c.pictures) (get_or l j none) ≡ 0
  right_at none j lt = (all_right (length c.pictures) l).0 right j none lt

  second_call : (frame : List ℕ) → c.w * c.h ≤ length frame → number_in l frame c.masks c.pictures c.w c.h c.n ≡ 0
  second_call frame long =
      (accepted-exactly l (length frame) (length c.masks) (length c.pictures) c.w c.h c.n).1
      (record {
        few = omega (arith, perm_length (same_records c), tests.few);
        sizes = tests.sizes;
        long = long;
        planes = tests.planes;
        right = right;
      })

  all-stamped : frame_after c ≡ stamp_all c.masks c.pictures c.w c.h c.n c.clear l c.frame
  unfolding cast_frame
  all-stamped = rw (sorted c accepted, accepted)

  one_by_one : (k : List Actor) (frame : List ℕ) → first_bad (length c.pictures) k ≡ 0 → c.w * c.h ≤ length frame
      → OneByOne c k frame (stamp_all c.masks c.pictures c.w c.h c.n c.clear k frame)
  unfolding stamp_all
  one_by_one [] frame none long = nobody
  one_by_one (a ∷ k) frame none long =
      let (here, more) = right-first (length c.pictures) a k none in
      let next = stamp_after c a frame (drop a.start c.pictures) in
      one_more (begins c tests.sizes tests.planes a here)
      (λ lent is. (answers c tests.sizes tests.planes a here frame long lent is, leaves-one c tests.sizes tests.planes a here frame long lent is))
      (one_by_one k next more (omega (arith, painted.one-length c.masks c.pictures c.w c.h c.n c.clear a frame)))

  stamps : OneByOne c l c.frame (frame_after c)
  stamps = rw all-stamped (one_by_one l c.frame right tests.long)

  -- ---- one byte of the frame
  past-accepted : (none : Actor) (i : ℕ) → c.w * c.h ≤ i → get_or (frame_after c) i 0 ≡ get_or c.frame i 0
  past-accepted none i beyond =
      rw all-stamped
      (painted.all_leave c.masks c.pictures c.w c.h c.n c.clear (length c.frame) i none l
      (λ j lt frame long. past c tests.sizes tests.planes (get_or l j none) (right_at none j lt) frame (omega (arith, tests.long, long)) i beyond)
      c.frame refl)

  module _ (p q : ℕ) (in-x : p < c.w) (in-y : q < c.h) (none : Actor) where
    leaves_at : (j : ℕ) → j < length l → ((u : ℕ) → Shows c (get_or l j none) p q u → ⊥) → painted.Leaves c.masks c.pictures c.w c.h c.n
        c.clear (length c.frame) (q * c.w + p) none (get_or l j none)
    leaves_at j lt hides frame long =
        leaves c tests.sizes tests.planes (get_or l j none) (right_at none j lt) frame (omega (arith, tests.long, long)) p q in-x in-y hides

    topmost : (k v : ℕ) → k < length l → Shows c (get_or l k none) p q v
        → ((j u : ℕ) → k < j → j < length l → Shows c (get_or l j none) p q u → ⊥) → get_or (frame_after c) (q * c.w + p) 0 ≡ v
    topmost k v lt shows later =
        rw all-stamped
        (painted.last_makes c.masks c.pictures c.w c.h c.n c.clear (length c.frame) (q * c.w + p) none l k v lt
        (λ frame long.
        makes c tests.sizes tests.planes (get_or l k none) (right_at none k lt) frame (omega (arith, tests.long, long)) p q in-x in-y v shows)
        (λ j after less. leaves_at j less (λ u. later j u after less)) c.frame refl)

    uncovered : ((j u : ℕ) → j < length l → Shows c (get_or l j none) p q u → ⊥) → get_or (frame_after c) (q * c.w + p) 0 ≡ get_or c.frame (q * c.w + p) 0
    uncovered nowhere =
        rw all-stamped
        (painted.all_leave c.masks c.pictures c.w c.h c.n c.clear (length c.frame) (q * c.w + p) none l
        (λ j lt. leaves_at j lt (λ u. nowhere j u lt)) c.frame refl)

past_stays : (c : Lent) (i : ℕ) → c.w * c.h ≤ i → get_or (frame_after c) i 0 ≡ get_or c.frame i 0
unfolding cast_frame
past_stays c i beyond =
    by_cases (ℕ_discrete (number c) 0) (λ e. past-accepted c e nowhere i beyond) (λ e. rw (ne_eqb (number c) 0 e))
  where
    -- a record for what stands past a list's end, which is never asked for
    nowhere : Actor
    nowhere = record { id = 0; y = pos 0; left = pos 0; top = pos 0; width = 0; height = 0; clip = 0; start = 0 }

pub request7 : Request7
request7 =
    record {
      stamps = stamps;
      same_records = same_records;
      in_order = in_order;
      stable = stable;
      only_order = only_order;
      second-list = λ c d accepted. second-list c accepted d;
      second_call = second_call;
      topmost = λ c accepted p q in-x in-y k v none. topmost c accepted p q in-x in-y none k v;
      uncovered = uncovered;
      past_stays = past_stays;
      frame-length = frame-length;
    }
