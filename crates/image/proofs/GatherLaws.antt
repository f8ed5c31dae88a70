-- Laws of the table of objects: the walk over the OBCDs, the walk over the OBIMs, and what the filled table says.
use Rattle.std.proofs.Common.{◌≡◌, refl, ap, sym, ◌∙◌, subst, List, [], ◌∷◌, Bool, true, false, ◌&&◌, cond, ℕ, zero, suc, ◌+◌, ◌*◌, ◌≤◌, ◌<◌, add-one, arith, eqb, get_or, length, drop, ne_eqb, eqb-true, Option, Some, None}
use mathlib.Core.Path.{subst⁻¹}
use mathlib.Core.Bool.{and-false}
use mathlib.Core.Logic.{by_cases}
use native.Mathlib.Decide.{ℕ_discrete}
use Rattle.number.specs.Number.{le16}
use Rattle.block.specs.Tag.{tag-OBCD, tag-OBIM}
use Rattle.block.specs.Tree.{tagged, find_tag, nth_tag}
use Rattle.objects.specs.Object.{object_block}
use Rattle.image.specs.Image.{object_count, object_id, imhd_of, has_id, header_has, first_of, image_block, home_x, home_y, image_width, image_height, image_count}
use Rattle.image.specs.Gathered.{start_of, end_of, row_from, row_with, HasRow, Gathered, RowPut, Filled, RowOffered, Offered, Paired}
use Rattle.image.specs.Rows.{header_row, object_row}
use Rattle.image.proofs.WalkLaws.{walk-found, walk_none}
use Rattle.image.proofs.ImageLaws.{object_nth, image-of}

-- the rest of a list, by its first element
drop-first : (l : List (Option (ℕ × ℕ))) (n : ℕ) (f : Option (ℕ × ℕ)) (r : List (Option (ℕ × ℕ))) → f ∷ r ≡ drop n l
    → (f ≡ get_or l n None) × (r ≡ drop (suc n) l) × (n < length l)
drop-first [] zero f r h = absurd (let e : ◌≡◌ {A = ℕ} 0 1 = cc in omega arith)
drop-first [] (suc n) f r h = absurd (let e : ◌≡◌ {A = ℕ} 0 1 = cc in omega arith)
drop-first (x ∷ l) zero f r h = ((cc), (cc), omega arith)
drop-first (x ∷ l) (suc n) f r h =
    let i = drop-first l n f r h in
    (i.0, i.1, omega (arith, i.2))

drop-none : (l : List (Option (ℕ × ℕ))) (n : ℕ) → [] ≡ drop n l → n ≤ length l → n ≡ length l
drop-none [] zero h le = refl
drop-none [] (suc n) h le = absurd (omega arith)
drop-none (x ∷ l) zero h le = absurd (let e : ◌≡◌ {A = ℕ} 0 1 = cc in omega arith)
drop-none (x ∷ l) (suc n) h le = ap suc (drop-none l n h (omega arith))

-- ---- the objects
-- a walk over the objects' blocks: the first n are passed, and the others stand from `at` on
pub record Walked (s : List ℕ) (at n : ℕ) : Type 0 where
  pub few : n ≤ object_count s
  pub rest : tagged tag-OBCD s at (length s) ≡ drop n (tagged tag-OBCD s 8 (length s))

module _ (s : List ℕ) where
  pub walked_none : Walked s 8 0
  walked_none = record { few = omega arith; rest = refl }

  module _ (at n b z : ℕ) (w : Walked s at n) (found : Some (b, z) ≡ find_tag tag-OBCD s at (length s)) where
    first : (Some (b, z) ≡ nth_tag tag-OBCD s 8 (length s) n) × (tagged tag-OBCD s z (length s) ≡ drop (suc n) (tagged tag-OBCD s 8 (length s)))
        × (n < object_count s)
    first = drop-first (tagged tag-OBCD s 8 (length s)) n (Some (b, z)) (tagged tag-OBCD s z (length s))
        (sym (walk-found tag-OBCD s (length s) at b z found) ∙ w.rest)

    -- the next one is object n + 1
    pub walked_one : n < object_count s
    walked_one = first.2

    pub walked_here : Some (b, z) ≡ object_block s (n + 1)
    walked_here = first.0 ∙ sym (object_nth s n)

    pub walked_more : Walked s z (n + 1)
    walked_more = record { few = omega (arith, walked_one); rest = rw add-one first.1 }

  pub walked_all : (at n : ℕ) → Walked s at n → None ≡ find_tag tag-OBCD s at (length s) → n ≡ object_count s
  walked_all at n w none = drop-none (tagged tag-OBCD s 8 (length s)) n (sym (walk_none tag-OBCD s (length s) at none) ∙ w.rest) w.few

module _ (s : List ℕ) (row : Option (ℕ × ℕ) → List ℕ) (t₀ : List ℕ) where
  -- the rows of the objects that are passed are put
  pub record Listing (t : List ℕ) (at n : ℕ) : Type 0 where
    pub same : length t ≡ length t₀
    pub walked : Walked s at n
    pub rows : (o : ℕ) → 1 ≤ o → o ≤ n → (c : ℕ) → c < 8 → get_or t (8 * o + c) 0 ≡ get_or (row (object_block s o)) c 0

  pub list-none : Listing t₀ 8 0
  list-none = record { same = refl; walked = walked_none s; rows = λ o one h. absurd (omega arith) }

  pub list-more : (t : List ℕ) (at n b z : ℕ) → Listing t at n → Some (b, z) ≡ find_tag tag-OBCD s at (length s) → (t' : List ℕ)
      → RowPut t t' (n + 1) (row (Some (b, z)))
      → Listing t' z (n + 1)
  list-more t at n b z l found t' put =
      record {
        same = put.same ∙ l.same;
        walked = walked_more s at n b z l.walked found;
        rows = λ o one h. by_cases (ℕ_discrete o (n + 1))
            (λ e. subst⁻¹ (λ (q : ℕ). (c : ℕ) → c < 8 → get_or t' (8 * q + c) 0 ≡ get_or (row (object_block s q)) c 0) e
            (λ c k. put.new c k ∙ ap (λ (f : Option (ℕ × ℕ)). get_or (row f) c 0) (walked_here s at n b z l.walked found)))
            (λ ne c k. put.old o c ne k ∙ l.rows o one (omega arith) c k);
      }

  pub list_all : (t : List ℕ) (at n : ℕ) → Listing t at n → None ≡ find_tag tag-OBCD s at (length s) → (n ≡ object_count s) × Filled s row t₀ t
  list_all t at n l none =
      let all = walked_all s at n l.walked none in
      (all, record { same = l.same; new = λ o one h. l.rows o one (omega arith) })

-- ---- the images
-- the first of two
abbrev or_else : Option (ℕ × ℕ) → Option (ℕ × ℕ) → Option (ℕ × ℕ)
or_else (Some (b, z)) g = Some (b, z)
or_else None g = g

else_none : (f : Option (ℕ × ℕ)) → or_else f None ≡ f
else_none (Some (b, z)) = refl
else_none None = refl

-- the OBIMs of the id, from `at` on
abbrev image_from : List ℕ → (id at : ℕ) → Option (ℕ × ℕ)
image_from s id at = first_of (has_id s id) (tagged tag-OBIM s at (length s))

-- of the OBIMs before `at` the object has the first of its id
record Reached (s t : List ℕ) (o id at : ℕ) : Type 0 where
  image : Option (ℕ × ℕ)
  rest : or_else image (image_from s id at) ≡ image_from s id 8
  row : HasRow s t o id image

-- a row's id
row_id : (s t : List ℕ) (o id : ℕ) (f : Option (ℕ × ℕ)) → HasRow s t o id f → get_or t (8 * o) 0 ≡ id
row_id s t o id f h =
    let front : 8 * o + 0 ≡ 8 * o = omega arith in
    rw front at (h 0 (omega arith))

module _ (s t t' : List ℕ) (objects b z : ℕ) (offered : Offered s t t' objects (Some (b, z))) (o id at : ℕ) (one : 1 ≤ o) (le : o ≤ objects) where
  -- what the offer makes of a cell, with the id and the start in its row
  abbrev made : (i start c old : ℕ) → ℕ
  made i start c old = cond (has_id s i (Some (b, z)) && eqb start 0) (get_or (row_with s i (Some (b, z))) c 0) old

  cell : (f : Option (ℕ × ℕ)) → HasRow s t o id f → (c : ℕ) → c < 8
      → get_or t' (8 * o + c) 0 ≡ cond (has_id s id (Some (b, z)) && eqb (start_of f) 0) (get_or (row_with s id (Some (b, z))) c 0)
      (get_or (row_with s id f) c 0)
  cell f h c k =
      offered.new o c one le k ∙ ap (λ (i : ℕ). made i (get_or t (8 * o + 6) 0) c (get_or t (8 * o + c) 0)) (row_id s t o id f h)
      ∙ ap (λ (start : ℕ). made id start c (get_or t (8 * o + c) 0)) (h 6 (omega arith)) ∙ ap (made id (start_of f) c) (h c k)

  module _ (found : Some (b, z) ≡ find_tag tag-OBIM s at (length s)) where
    here : (q : Bool) → has_id s id (Some (b, z)) ≡ q → image_from s id at ≡ cond q (Some (b, z)) (image_from s id z)
    unfolding first_of
    here q e = rw (walk-found tag-OBIM s (length s) at b z found, e)

    reach-on : (f : Option (ℕ × ℕ)) → or_else f (image_from s id at) ≡ image_from s id 8 → HasRow s t o id f → Reached s t' o id z
    reach-on (Some (b', z')) rest h =
        record {
          image = Some (b', z');
          rest = rest;
          row = λ c k. cell (Some (b', z')) h c k ∙ rw (ne_eqb (b' + 8) 0 (λ e. omega arith), and-false (has_id s id (Some (b, z))));
        }
    reach-on None rest h = go (has_id s id (Some (b, z))) refl
      where
        go : (q : Bool) → has_id s id (Some (b, z)) ≡ q → Reached s t' o id z
        go true e = record { image = Some (b, z); rest = sym (here true e) ∙ rest; row = λ c k. cell None h c k ∙ rw e }
        go false e = record { image = None; rest = sym (here false e) ∙ rest; row = λ c k. cell None h c k ∙ rw e }

module _ (s t₀ : List ℕ) (objects : ℕ) where
  -- the OBIMs before `at` are put
  pub record Pairing (t : List ℕ) (at : ℕ) : Type 0 where
    pub same : length t ≡ length t₀
    reached : (o id : ℕ) → 1 ≤ o → o ≤ objects → HasRow s t₀ o id None → Reached s t o id at

  pub pair_none : Pairing t₀ 8
  pair_none = record { same = refl; reached = λ o id one le h. record { image = None; rest = refl; row = h } }

  pub pair_more : (t t' : List ℕ) (at b z : ℕ) → Pairing t at → Some (b, z) ≡ find_tag tag-OBIM s at (length s)
      → Offered s t t' objects (Some (b, z)) → Pairing t' z
  pair_more t t' at b z p found offered =
      record {
        same = offered.same ∙ p.same;
        reached = λ o id one le h.
            let r = p.reached o id one le h in
            reach-on s t t' objects b z offered o id at one le found r.image r.rest r.row;
      }

  pub pair_all : (t : List ℕ) (at : ℕ) → Pairing t at → None ≡ find_tag tag-OBIM s at (length s) → Paired s t₀ t objects
  unfolding first_of
  pair_all t at p none =
      record {
        same = p.same;
        new = λ o id one le h.
            let r = p.reached o id one le h in
            let last : r.image ≡ image_from s id 8 = sym (else_none r.image) ∙ (rw (walk_none tag-OBIM s (length s) at none) at r.rest) in
            subst (HasRow s t o id) last r.row;
      }

-- an OBIM's row is offered by its IMHD
module _ (s t t' : List ℕ) (objects b z : ℕ) where
  offered_cell : (p y : ℕ) (imhd : Option (ℕ × ℕ)) → Some (p, y) ≡ imhd → (i start c old : ℕ)
      → cond (eqb (le16 s p) i && eqb start 0) (get_or (row_from s (le16 s p) (Some (p, z)) (b + 8) z) c 0) old
      ≡ cond (header_has s i imhd && eqb start 0) (get_or (row_from s i imhd (b + 8) z) c 0) old
  offered_cell p y imhd at i start c old =
      subst (λ (f : Option (ℕ × ℕ)). cond (eqb (le16 s p) i && eqb start 0) (get_or (row_from s (le16 s p) (Some (p, z)) (b + 8) z) c 0) old ≡ cond
      (header_has s i f && eqb start 0) (get_or (row_from s i f (b + 8) z) c 0) old) at
      (go (eqb (le16 s p) i) refl)
    where
      go : (q : Bool) → eqb (le16 s p) i ≡ q
          → cond (q && eqb start 0) (get_or (row_from s (le16 s p) (Some (p, z)) (b + 8) z) c 0) old ≡ cond (q && eqb start 0)
          (get_or (row_from s i (Some (p, y)) (b + 8) z) c 0) old
      go true e = ap (λ (k : ℕ). cond (eqb start 0) (get_or (row_from s k (Some (p, y)) (b + 8) z) c 0) old) (eqb-true (le16 s p) i e)
      go false e = refl

  pub offered_row : (p y : ℕ) → Some (p, y) ≡ imhd_of s (Some (b, z)) → RowOffered t t' objects (row_from s (le16 s p) (Some (p, z)) (b + 8) z)
      → Offered s t t' objects (Some (b, z))
  unfolding has_id
  offered_row p y at o =
      record {
        same = o.same;
        new = λ q c one le k. o.new q c one le k ∙ offered_cell p y (imhd_of s (Some (b, z))) at (get_or t (8 * q) 0) (get_or t (8 * q + 6) 0) c
            (get_or t (8 * q + c) 0);
      }

  pub offered_none : None ≡ imhd_of s (Some (b, z)) → t' ≡ t → Offered s t t' objects (Some (b, z))
  unfolding has_id
  offered_none none e = record { same = ap length e; new = λ q c one le k. rw (e, ← none) }

-- ---- the whole table
pub gathered_of : (s t₀ t₁ t₂ : List ℕ) → length s ≤ 1048576 → object_count s ≤ 128 → 1032 ≤ length t₀ → (objects : ℕ) → objects ≡ object_count s
    → Filled s (object_row false s) t₀ t₁ → Paired s t₁ t₂ objects → Gathered s t₂
unfolding object_id header_row
gathered_of s t₀ t₁ t₂ small few long objects all listed paired =
    record {
      small = small;
      few = few;
      long = omega (arith, listed.same, paired.same);
      row = λ o one le.
          subst (HasRow s t₂ o (object_id s o)) (image-of s o one le) (paired.new o (object_id s o) one (omega arith) (listed.new o one le));
    }

-- what the table's cells are
module _ (s t : List ℕ) (g : Gathered s t) (o : ℕ) (one : 1 ≤ o) (le : o ≤ object_count s) where
  pub gathered-x : get_or t (8 * o + 1) 0 ≡ home_x s o
  unfolding home_x
  gathered-x = g.row o one le 1 (omega arith)

  pub gathered-y : get_or t (8 * o + 2) 0 ≡ home_y s o
  unfolding home_y
  gathered-y = g.row o one le 2 (omega arith)

  pub gathered-width : get_or t (8 * o + 3) 0 ≡ image_width s o
  unfolding image_width
  gathered-width = g.row o one le 3 (omega arith)

  pub gathered-height : get_or t (8 * o + 4) 0 ≡ image_height s o
  unfolding image_height
  gathered-height = g.row o one le 4 (omega arith)

  pub gathered-count : get_or t (8 * o + 5) 0 ≡ image_count s o
  unfolding image_count
  gathered-count = g.row o one le 5 (omega arith)

  pub gathered-start : get_or t (8 * o + 6) 0 ≡ start_of (image_block s o)
  gathered-start = g.row o one le 6 (omega arith)

  pub gathered-end : get_or t (8 * o + 7) 0 ≡ end_of (image_block s o)
  gathered-end = g.row o one le 7 (omega arith)
