-- The numbers of the calls that take no room: the hidden-pixel question, the stamp, costumes and the writers.
use Rattle.std.proofs.Common.{◌≡◌, refl, sym, ap, ◌∙◌, subst, Bool, true, false, cond, ◌&&◌, not, List, ◌⊎◌, inl, inr, ◌↔◌, ℕ, ◌*◌, ◌/◌, ◌≤◌, ◌<◌, arith, ltb, leb, eqb, length, eqb-true, Option, Some, None, Result, Ok, Err}
use Rattle.actor.specs.Sizes.{sizes_fit, picture_fits, mask_bytes, buffers_fit}
use Rattle.actor.specs.Hidden.{hidden_at, hidden_number, hidden_of}
use Rattle.actor.specs.Hidden as actor
use Rattle.actor.specs.Stamp.{stamp_number}
use Rattle.actor.proofs.ActorLaws.{number-answered}
use Rattle.limbs.specs.Limb.{flag, limb_at, places_right, limbs_right, draws, draws_number, drawn_of}
use Rattle.limbs.specs.Limb as limb
use Rattle.limbs.specs.Tick.{command_right, stream, tick_number}
use Rattle.costume.specs.Start as start
use Rattle.costume.specs.Start.{numbers_right, offset_at, offset_right, start_number, started_of}
use Rattle.costume.proofs.Theorems.{start-number}
use Rattle.block_writer.specs.Block.{body_for, block_of, smap_tag, plane_tag, smap_block, plane_block}
use Rattle.block_writer.specs.Call.{Outcome, refused, written, number, answer_of, sizes_allowed, source_size, block_outcome, smap_outcome, plane_outcome}
use Rattle.demands.proofs.RefusalTests.{fails, after_fails, apart, holds, after_holds, either_holds, through, below, not-below, up_to, not-up_to}
use Rattle.demands.proofs.RefusalTests.{both_hold, one_fails, ◌then◌, either_way, both_ways, flat, flat_sum, same, renamed}

-- 3 for sizes, then 4 for lengths
abbrev SizeNumbers : ℕ → Type 0
SizeNumbers a = (a ≡ 0) ⊎ ((a ≡ 3) ⊎ (a ≡ 4))

-- ---- the hidden-pixel question

module _ (masks : List ℕ) (w h n clip x y : ℕ) where
  abbrev fit : Bool
  fit = sizes_fit w h n

  abbrev long : Bool
  long = leb (mask_bytes w h n) (length masks)

  abbrev inside : Bool
  inside = ltb x w && ltb y h

  hidden_chain : actor.number (hidden_of masks w h n clip x y) ≡ cond fit (cond long (cond inside 0 14) 4) 3
  unfolding hidden_number
  hidden_chain = number-answered (hidden_number (length masks) w h n x y) (hidden_at masks w h n clip x y) ∙ go fit long inside refl refl refl
    where
      go : (a b c : Bool) → fit ≡ a → long ≡ b → inside ≡ c → hidden_number (length masks) w h n x y ≡ cond a (cond b (cond c 0 14) 4) 3
      go false b c e f g = rw e
      go true false c e f g = rw (e, f)
      go true true false e f g = rw (e, f, g)
      go true true true e f g = rw (e, f, g)

  pub hidden_three : (actor.number (hidden_of masks w h n clip x y) ≡ 3) ↔ (fit ≡ false)
  hidden_three =
      renamed 3 hidden_chain
      then fails fit _ 3 (apart long _ 4 3 (apart inside 0 14 3 (λ e. omega arith) (λ e. omega arith)) (λ e. omega arith))

  pub hidden_four : (actor.number (hidden_of masks w h n clip x y) ≡ 4) ↔ ((fit ≡ true) × (length masks < mask_bytes w h n))
  hidden_four =
      renamed 4 hidden_chain
      then after_fails fit _ 3 4 (λ e. omega arith)
      then both_ways same
      (fails long _ 4 (apart inside 0 14 4 (λ e. omega arith) (λ e. omega arith)) then not-up_to (mask_bytes w h n) (length masks))

  pub hidden_fourteen : (actor.number (hidden_of masks w h n clip x y) ≡ 14)
      ↔ ((fit ≡ true) × (mask_bytes w h n ≤ length masks) × ((w ≤ x) ⊎ (h ≤ y)))
  hidden_fourteen =
      renamed 14 hidden_chain
      then after_fails fit _ 3 14 (λ e. omega arith)
      then both_ways same
      (after_fails long _ 4 14 (λ e. omega arith)
      then both_ways (up_to (mask_bytes w h n) (length masks))
      (fails inside 0 14 (λ e. omega arith) then one_fails (ltb x w) (ltb y h) then either_way (not-below x w) (not-below y h)))
      then flat

  abbrev Few : ℕ → Type 0
  Few a = (a ≡ 0) ⊎ ((a ≡ 3) ⊎ ((a ≡ 4) ⊎ (a ≡ 14)))

  pub hidden_numbers : Few (actor.number (hidden_of masks w h n clip x y))
  hidden_numbers = subst Few (sym hidden_chain) (go fit long inside)
    where
      go : (a b c : Bool) → Few (cond a (cond b (cond c 0 14) 4) 3)
      go false b c = inr (inl refl)
      go true false c = inr (inr (inl refl))
      go true true false = inr (inr (inr refl))
      go true true true = inl refl

-- ---- the stamp

module _ (frame masks picture w h n width height : ℕ) where
  abbrev sizes : Bool
  sizes = sizes_fit w h n && picture_fits width height

  abbrev lengths : Bool
  lengths = buffers_fit frame masks picture w h n width height

  stamp_chain : stamp_number frame masks picture w h n width height ≡ cond sizes (cond lengths 0 4) 3
  unfolding stamp_number
  stamp_chain = go sizes lengths refl refl
    where
      go : (a b : Bool) → sizes ≡ a → lengths ≡ b → stamp_number frame masks picture w h n width height ≡ cond a (cond b 0 4) 3
      go false b e f = rw e
      go true false e f = rw (e, f)
      go true true e f = rw (e, f)

  pub stamp_three : (stamp_number frame masks picture w h n width height ≡ 3) ↔ ((sizes_fit w h n ≡ false) ⊎ (picture_fits width height ≡ false))
  stamp_three =
      renamed 3 stamp_chain
      then fails sizes _ 3 (apart lengths 0 4 3 (λ e. omega arith) (λ e. omega arith))
      then one_fails (sizes_fit w h n) (picture_fits width height)

  too_short : (lengths ≡ false) ↔ ((frame < w * h) ⊎ (masks < mask_bytes w h n) ⊎ (picture < width * height))
  unfolding buffers_fit
  too_short =
      one_fails (leb (w * h) frame && leb (mask_bytes w h n) masks) (leb (width * height) picture)
      then either_way
      (one_fails (leb (w * h) frame) (leb (mask_bytes w h n) masks) then either_way (not-up_to (w * h) frame) (not-up_to (mask_bytes w h n) masks))
      (not-up_to (width * height) picture)
      then flat_sum

  pub stamp_four : (stamp_number frame masks picture w h n width height ≡ 4)
      ↔ ((sizes_fit w h n ≡ true) × (picture_fits width height ≡ true)
      × ((frame < w * h) ⊎ (masks < mask_bytes w h n) ⊎ (picture < width * height)))
  stamp_four =
      renamed 4 stamp_chain
      then after_fails sizes _ 3 4 (λ e. omega arith)
      then both_ways (both_hold (sizes_fit w h n) (picture_fits width height)) (fails lengths 0 4 (λ e. omega arith) then too_short)
      then (λ ((a, b), c). (a, b, c), λ (a, b, c). ((a, b), c))

  pub stamp_numbers : SizeNumbers (stamp_number frame masks picture w h n width height)
  stamp_numbers = subst SizeNumbers (sym stamp_chain) (go sizes lengths)
    where
      go : (a b : Bool) → SizeNumbers (cond a (cond b 0 4) 3)
      go false b = inr (inl refl)
      go true false = inr (inr refl)
      go true true = inl refl

-- ---- costumes: 4, then 15

abbrev costume_number : (few right : Bool) → ℕ
costume_number few right = cond few 4 (cond right 0 15)

abbrev CostumeNumbers : ℕ → Type 0
CostumeNumbers a = (a ≡ 0) ⊎ ((a ≡ 4) ⊎ (a ≡ 15))

costume_four : (few right : Bool) → (costume_number few right ≡ 4) ↔ (few ≡ true)
costume_four few right = holds few 4 (cond right 0 15) (apart right 0 15 4 (λ e. omega arith) (λ e. omega arith))

costume_fifteen : (few right : Bool) → (costume_number few right ≡ 15) ↔ ((few ≡ false) × (right ≡ false))
costume_fifteen few right = after_holds few 4 (cond right 0 15) 15 (λ e. omega arith) then both_ways same (fails right 0 15 (λ e. omega arith))

costume_numbers : (few right : Bool) → CostumeNumbers (costume_number few right)
costume_numbers true right = inr (inl refl)
costume_numbers false true = inl refl
costume_numbers false false = inr (inr refl)

module _ (s l : List ℕ) (v : ℕ) where
  abbrev tick_right : Bool
  tick_right = command_right s v && limbs_right (length (stream s v)) l

  tick_chain : tick_number s l v ≡ costume_number (ltb (length l) 256) tick_right
  unfolding tick_number
  tick_chain = refl

  pub tick_four : (tick_number s l v ≡ 4) ↔ (length l < 256)
  tick_four = renamed 4 tick_chain then costume_four (ltb (length l) 256) tick_right then below (length l) 256

  pub tick_fifteen : (tick_number s l v ≡ 15) ↔ ((256 ≤ length l) × ((command_right s v ≡ false) ⊎ (limbs_right (length (stream s v)) l ≡ false)))
  tick_fifteen =
      renamed 15 tick_chain
      then costume_fifteen (ltb (length l) 256) tick_right
      then both_ways (not-below (length l) 256) (one_fails (command_right s v) (limbs_right (length (stream s v)) l))

  pub tick_numbers : CostumeNumbers (tick_number s l v)
  tick_numbers = subst CostumeNumbers (sym tick_chain) (costume_numbers (ltb (length l) 256) tick_right)

module _ (s l : List ℕ) (t count v chore direction : ℕ) where
  abbrev numbers : Bool
  numbers = numbers_right s t count chore direction

  abbrev command : Bool
  command = command_right s v

  abbrev limbs : Bool
  limbs = limbs_right (length (stream s v)) l

  abbrev record-right : Bool
  record-right = offset_right s (offset_at s t chore direction) (length (stream s v))

  abbrev start_right : Bool
  start_right = numbers && command && limbs && record-right

  start-chain : start.number (started_of s l t count v chore direction) ≡ costume_number (ltb (length l) 256) start_right
  unfolding start_number
  start-chain = start-number s l t count v chore direction

  pub start-four : (start.number (started_of s l t count v chore direction) ≡ 4) ↔ (length l < 256)
  start-four = renamed 4 start-chain then costume_four (ltb (length l) 256) start_right then below (length l) 256

  wrong : (start_right ≡ false) ↔ ((numbers ≡ false) ⊎ (command ≡ false) ⊎ (limbs ≡ false) ⊎ (record-right ≡ false))
  wrong =
      one_fails (numbers && command && limbs) record-right
      then either_way (one_fails (numbers && command) limbs then either_way (one_fails numbers command) same) same
      then flat_sum
      then flat_sum

  pub start_fifteen : (start.number (started_of s l t count v chore direction) ≡ 15)
      ↔ ((256 ≤ length l) × ((numbers ≡ false) ⊎ (command ≡ false) ⊎ (limbs ≡ false) ⊎ (record-right ≡ false)))
  start_fifteen = renamed 15 start-chain then costume_fifteen (ltb (length l) 256) start_right then both_ways (not-below (length l) 256) wrong

  pub start_numbers : CostumeNumbers (start.number (started_of s l t count v chore direction))
  start_numbers = subst CostumeNumbers (sym start-chain) (costume_numbers (ltb (length l) 256) start_right)

-- the question whether a limb draws
draws-accepted : (x : Result (Option ℕ) ℕ) → limb.number x ≡ 0 → (n : ℕ) (zero : Bool) → eqb n 0 ≡ zero → limb.number (cond zero x (Err n)) ≡ n
draws-accepted x ok n true e = ok ∙ sym (eqb-true n 0 e)
draws-accepted x ok n false e = refl

module _ (l : List ℕ) (i : ℕ) where
  abbrev draws_right : Bool
  draws_right = leb i 15 && places_right l

  no_number : limb.number (draws (limb_at l i)) ≡ 0
  unfolding draws
  no_number = go (flag (limb_at l i).active && not (flag (limb_at l i).stopped) && flag (limb_at l i).shows)
    where
      go : (q : Bool) → limb.number (cond q (Ok (Some (limb_at l i).picture)) (Ok None)) ≡ 0
      go true = refl
      go false = refl

  draws-chain : limb.number (drawn_of l i) ≡ costume_number (ltb (length l) 256) draws_right
  unfolding drawn_of draws_number
  draws-chain = draws-accepted (draws (limb_at l i)) no_number (draws_number l i) (eqb (draws_number l i) 0) refl

  pub draws-four : (limb.number (drawn_of l i) ≡ 4) ↔ (length l < 256)
  draws-four = renamed 4 draws-chain then costume_four (ltb (length l) 256) draws_right then below (length l) 256

  pub draws_fifteen : (limb.number (drawn_of l i) ≡ 15) ↔ ((256 ≤ length l) × ((15 < i) ⊎ (places_right l ≡ false)))
  draws_fifteen =
      renamed 15 draws-chain
      then costume_fifteen (ltb (length l) 256) draws_right
      then both_ways (not-below (length l) 256) (one_fails (leb i 15) (places_right l) then either_way (not-up_to i 15) same)

  pub draws_numbers : CostumeNumbers (limb.number (drawn_of l i))
  draws_numbers = subst CostumeNumbers (sym draws-chain) (costume_numbers (ltb (length l) 256) draws_right)

-- ---- the writers: 3, then 4

abbrev number_of : Outcome → ℕ
number_of o = number (answer_of o)

module _ (tag : ℕ) (mask : Bool) (n h : ℕ) (rows : List ℕ) (size : ℕ) where
  abbrev block : List ℕ
  block = block_of tag mask n (body_for mask n h rows)

  abbrev block_number : ℕ
  block_number = cond (ltb (length rows) (source_size mask n h)) 4 (cond (ltb size (length block)) 4 0)

  block-chain : number_of (block_outcome tag mask n h rows size) ≡ block_number
  unfolding block_outcome
  block-chain =
      through number_of (ltb (length rows) (source_size mask n h)) (refused 4) (cond (ltb size (length block)) (refused 4) (written block))
      ∙ ap (cond (ltb (length rows) (source_size mask n h)) 4) (through number_of (ltb size (length block)) (refused 4) (written block))

  block-four : (block_number ≡ 4) ↔ ((length rows < source_size mask n h) ⊎ (size < length block))
  block-four =
      either_holds (ltb (length rows) (source_size mask n h)) (ltb size (length block)) 4 0 (λ e. omega arith)
      then either_way (below (length rows) (source_size mask n h)) (below size (length block))

  block-not-three : block_number ≡ 3 → ⊥
  block-not-three =
      apart (ltb (length rows) (source_size mask n h)) 4 _ 3 (λ e. omega arith) (apart (ltb size (length block)) 4 0 3 (λ e. omega arith) (λ e. omega arith))

  writer_numbers : (allowed : Bool) → SizeNumbers (cond allowed block_number 3)
  writer_numbers false = inr (inl refl)
  writer_numbers true = go (ltb (length rows) (source_size mask n h)) (ltb size (length block))
    where
      go : (a b : Bool) → SizeNumbers (cond a 4 (cond b 4 0))
      go true b = inr (inr refl)
      go false true = inr (inr refl)
      go false false = inl refl

module _ (w h : ℕ) (rows : List ℕ) (size : ℕ) where
  abbrev smap_number : ℕ
  smap_number = block_number smap_tag false (w / 8) h rows size

  smap-chain : number_of (smap_outcome w h rows size) ≡ cond (sizes_allowed w h) smap_number 3
  unfolding smap_outcome
  smap-chain =
      through number_of (sizes_allowed w h) (block_outcome smap_tag false (w / 8) h rows size) (refused 3)
      ∙ ap (λ (a : ℕ). cond (sizes_allowed w h) a 3) (block-chain smap_tag false (w / 8) h rows size)

  pub smap-three : (number_of (smap_outcome w h rows size) ≡ 3) ↔ (sizes_allowed w h ≡ false)
  smap-three = renamed 3 smap-chain then fails (sizes_allowed w h) smap_number 3 (block-not-three smap_tag false (w / 8) h rows size)

  pub smap-four : (number_of (smap_outcome w h rows size) ≡ 4)
      ↔ ((sizes_allowed w h ≡ true) × ((length rows < h * (8 * (w / 8))) ⊎ (size < length (smap_block (w / 8) h rows))))
  smap-four =
      renamed 4 smap-chain
      then after_fails (sizes_allowed w h) smap_number 3 4 (λ e. omega arith)
      then both_ways same (block-four smap_tag false (w / 8) h rows size)

  pub smap_numbers : SizeNumbers (number_of (smap_outcome w h rows size))
  smap_numbers =
      subst SizeNumbers (sym smap-chain) (writer_numbers smap_tag false (w / 8) h rows size (sizes_allowed w h))

module _ (k w h : ℕ) (rows : List ℕ) (size : ℕ) where
  abbrev allowed : Bool
  allowed = sizes_allowed w h && (leb 1 k && leb k 4)

  abbrev plane_number : ℕ
  plane_number = block_number (plane_tag k) true (w / 8) h rows size

  plane-chain : number_of (plane_outcome k w h rows size) ≡ cond allowed plane_number 3
  unfolding plane_outcome
  plane-chain =
      through number_of allowed (block_outcome (plane_tag k) true (w / 8) h rows size) (refused 3)
      ∙ ap (λ (a : ℕ). cond allowed a 3) (block-chain (plane_tag k) true (w / 8) h rows size)

  pub plane-three : (number_of (plane_outcome k w h rows size) ≡ 3) ↔ ((sizes_allowed w h ≡ false) ⊎ (k < 1) ⊎ (4 < k))
  plane-three =
      renamed 3 plane-chain
      then fails allowed plane_number 3 (block-not-three (plane_tag k) true (w / 8) h rows size)
      then one_fails (sizes_allowed w h) (leb 1 k && leb k 4)
      then either_way same (one_fails (leb 1 k) (leb k 4) then either_way (not-up_to 1 k) (not-up_to k 4))

  pub plane-four : (number_of (plane_outcome k w h rows size) ≡ 4)
      ↔ ((sizes_allowed w h ≡ true) × (1 ≤ k) × (k ≤ 4) × ((length rows < h * (w / 8)) ⊎ (size < length (plane_block k (w / 8) h rows))))
  plane-four =
      renamed 4 plane-chain
      then after_fails allowed plane_number 3 4 (λ e. omega arith)
      then both_ways
      (both_hold (sizes_allowed w h) (leb 1 k && leb k 4) then both_ways same (both_hold (leb 1 k) (leb k 4) then both_ways (up_to 1 k) (up_to k 4)))
      (block-four (plane_tag k) true (w / 8) h rows size)
      then (λ ((a, (b, c)), d). (a, b, c, d), λ (a, b, c, d). ((a, (b, c)), d))

  pub plane_numbers : SizeNumbers (number_of (plane_outcome k w h rows size))
  plane_numbers =
      subst SizeNumbers (sym plane-chain) (writer_numbers (plane_tag k) true (w / 8) h rows size allowed)
