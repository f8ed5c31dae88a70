-- A block that is written, as the reader's own definitions (crate table) find it wherever it stands: its header, its offsets, where
-- each body ends, its bodies, and that its table is right. For any bodies f that the offsets can point at.
use Rattle.std.proofs.Common.{◌≡◌, refl, sym, ap, ap₂, ◌∙◌, Bool, true, false, ◌&&◌, cond, List, [], ◌∷◌, ◌++◌, append_assoc, append-nil, ℕ, zero, suc, ◌+◌, ◌-◌, ◌*◌, ◌/◌, ◌%◌, ◌^◌, ◌≤◌, ◌<◌, zero-le, mod-eq_of_lt, le_refl, add-zero, zero-add, suc-add, arith, eq-eqb, ne_eqb, le-leb, lt-ltb, length, get_or, take, drop, length-append, get_or-append-add, drop_at, take_at, eqb, Result, Ok}
use native.Mathlib.Nat.{div-div-eq-div-mul, mod-add-div}
use Rattle.number.specs.Number.{be32, le16, le32, le16_bytes, le32_bytes, be32_bytes}
use Rattle.table.specs.Table.{offset_size, table_end, offset_at, offset_right, bodiless, offsets_right, table_right}
use Rattle.table.specs.Body.{body_end, body_of}
use Rattle.table.specs.Test.{strip_test, leftmost, block_test}
use Rattle.table.proofs.TestLaws.{leftmost-none, leftmost_pass}
use Rattle.block_writer.specs.Block.{offset_bytes, offset_of, table_from, bodies_from, size_of, block_of}
use Rattle.block_writer.proofs.FillLaws.{length-table, bodies_step}
use Rattle.block_writer.proofs.CallLaws.{length-block, length-be32}

-- ---- numbers in bytes, read back

pub four_bytes : (v : ℕ) → v < 2 ^ 32 → v % 256 + (256 * (v / 256 % 256) + (65536 * (v / 65536 % 256) + 16777216 * (v / 16777216 % 256))) ≡ v
four_bytes v h =
    let e : v / 256 / 256 ≡ v / 65536 = div-div-eq-div-mul v 256 256 in
    let g : v / 65536 / 256 ≡ v / 16777216 = div-div-eq-div-mul v 65536 256 in
    let a : v % 256 + 256 * (v / 256) ≡ v = mod-add-div v 256 in
    let b : v / 256 % 256 + 256 * (v / 256 / 256) ≡ v / 256 = mod-add-div (v / 256) 256 in
    let c : v / 65536 % 256 + 256 * (v / 65536 / 256) ≡ v / 65536 = mod-add-div (v / 65536) 256 in
    let top : v / 16777216 % 256 ≡ v / 16777216 = mod-eq_of_lt (omega arith) in
    join (v % 256) (v / 256) (v / 256 % 256) (v / 65536) (v / 65536 % 256) (v / 16777216) (v / 16777216 % 256) v a
    (ap (λ (k : ℕ). v / 256 % 256 + 256 * k) (sym e) ∙ b) (ap (λ (k : ℕ). v / 65536 % 256 + 256 * k) (sym g) ∙ c) top
  where
    join : (b0 v1 b1 v2 b2 v3 b3 v : ℕ) → b0 + 256 * v1 ≡ v → b1 + 256 * v2 ≡ v1 → b2 + 256 * v3 ≡ v2 → b3 ≡ v3 → b0 + (256 * b1 + (65536 * b2 + 16777216 * b3))
        ≡ v
    join b0 v1 b1 v2 b2 v3 b3 v p q r s = omega arith

pub first_at : (p q : List ℕ) (x : ℕ) → get_or q 0 0 ≡ x → get_or (p ++ q) (length p) 0 ≡ x
first_at p q x e = ap (λ (k : ℕ). get_or (p ++ q) k 0) (sym (add-zero (length p))) ∙ get_or-append-add p q 0 0 ∙ e

pub be32_back : (v : ℕ) (p r : List ℕ) → v < 2 ^ 32 → be32 (p ++ (be32_bytes v ++ r)) (length p) ≡ v
unfolding be32_bytes
be32_back v p r h =
    let q = be32_bytes v ++ r in
    let a : get_or (p ++ q) (length p) 0 ≡ v / 16777216 % 256 = first_at p q (v / 16777216 % 256) refl in
    let b : get_or (p ++ q) (length p + 1) 0 ≡ v / 65536 % 256 = get_or-append-add p q 1 0 in
    let c : get_or (p ++ q) (length p + 2) 0 ≡ v / 256 % 256 = get_or-append-add p q 2 0 in
    let d : get_or (p ++ q) (length p + 3) 0 ≡ v % 256 = get_or-append-add p q 3 0 in
    omega (arith, four_bytes v h)

pub le16_back : (v : ℕ) (p r : List ℕ) → v < 2 ^ 16 → le16 (p ++ (le16_bytes v ++ r)) (length p) ≡ v
unfolding le16_bytes
le16_back v p r h =
    let q = le16_bytes v ++ r in
    let x : get_or (p ++ q) (length p) 0 ≡ v % 256 = first_at p q (v % 256) refl in
    let y : get_or (p ++ q) (length p + 1) 0 ≡ v / 256 % 256 = get_or-append-add p q 1 0 in
    omega arith

-- what an offset can hold
abbrev pub most : Bool → ℕ
most false = 2 ^ 32
most true = 2 ^ 16

offset_back : (mask : Bool) (v b k : ℕ) (p r : List ℕ) → v < most mask → length p ≡ b + 8 + offset_size mask * k
    → offset_at mask (p ++ (offset_bytes mask v ++ r))
    b k ≡ v
unfolding offset_at offset_bytes le16_bytes le32_bytes
offset_back true v b k p r h e = ap (le16 (p ++ (offset_bytes true v ++ r))) (sym e) ∙ le16_back v p r h
offset_back false v b k p r h e =
    let q = offset_bytes false v ++ r in
    let x : get_or (p ++ q) (length p) 0 ≡ v % 256 = first_at p q (v % 256) refl in
    let y : get_or (p ++ q) (length p + 1) 0 ≡ v / 256 % 256 = get_or-append-add p q 1 0 in
    let c : get_or (p ++ q) (length p + 2) 0 ≡ v / 65536 % 256 = get_or-append-add p q 2 0 in
    let d : get_or (p ++ q) (length p + 3) 0 ≡ v / 16777216 % 256 = get_or-append-add p q 3 0 in
    ap (le32 (p ++ q)) (sym e) ∙ omega (arith, four_bytes v h)

-- ---- the table and the bodies, cut at a strip

module _ (f : ℕ → List ℕ) where
  pub bodies_split : (s k m : ℕ) → bodies_from f s (k + m) ≡ bodies_from f s k ++ bodies_from f (s + k) m
  unfolding bodies_from
  bodies_split s zero m = ap₂ (λ (a b : ℕ). bodies_from f a b) (sym (add-zero s)) (zero-add m)
  bodies_split s (suc k) m =
      let e : s + 1 + k ≡ s + suc k = omega arith in
      ap (bodies_from f s) (suc-add k m)
      ∙ ap (λ (q : List ℕ). f s ++ q) (bodies_split (s + 1) k m ∙ ap (λ (a : ℕ). bodies_from f (s + 1) k ++ bodies_from f a m) e)
      ∙ sym (append_assoc (f s) (bodies_from f (s + 1) k) (bodies_from f (s + suc k) m))

  module _ (mask : Bool) where
    pub table_split : (s k m at : ℕ) → table_from mask f s (k + m) at ≡ table_from mask f s k at
        ++ table_from mask f (s + k) m (at + length (bodies_from f s k))
    unfolding table_from bodies_from
    table_split s zero m at =
        ap₂ (λ (a b : ℕ). table_from mask f a b at) (sym (add-zero s)) (zero-add m) ∙ ap (table_from mask f (s + 0) m) (sym (add-zero at))
    table_split s (suc k) m at =
        let e : s + 1 + k ≡ s + suc k = omega arith in
        let c = offset_bytes mask (offset_of (f s) at) in
        let z : at + length (f s) + length (bodies_from f (s + 1) k) ≡ at + length (f s ++ bodies_from f (s + 1) k) = omega
        (arith, length-append (f s) (bodies_from f (s + 1) k)) in
        ap (λ (j : ℕ). table_from mask f s j at) (suc-add k m)
        ∙ ap (λ (q : List ℕ). c ++ q)
        (table_split (s + 1) k m (at + length (f s)) ∙ ap₂ (λ (a b : ℕ). table_from mask f (s + 1) k (at + length (f s)) ++ table_from mask f a m b) e z)
        ∙ sym (append_assoc c (table_from mask f (s + 1) k (at + length (f s)))
        (table_from mask f (s + suc k) m (at + length (f s ++ bodies_from f (s + 1) k))))

-- where the body of strip k starts, counted from the header
abbrev pub start_of : Bool → (n : ℕ) → (ℕ → List ℕ) → ℕ → ℕ
start_of mask n f k = table_end mask n + length (bodies_from f 0 k)

module _ (mask : Bool) (n : ℕ) (f : ℕ → List ℕ) where
  start-more : (k m : ℕ) → start_of mask n f (k + m) ≡ start_of mask n f k + length (bodies_from f k m)
  start-more k m =
      omega (
        arith,
        ap length (bodies_split f 0 k m) ∙ length-append (bodies_from f 0 k) (bodies_from f (0 + k) m) ∙ ap
            (λ (j : ℕ). length (bodies_from f 0 k) + length (bodies_from f j m)) (zero-add k),
      )

  start-next : (k : ℕ) → start_of mask n f (k + 1) ≡ start_of mask n f k + length (f k)
  unfolding bodies_from
  start-next k =
      let e : length (bodies_from f k 1) ≡ length (f k) = ap length (append-nil (f k)) in
      omega (arith, start-more k 1)

  start-le : (k m : ℕ) → k ≤ m → start_of mask n f k ≤ start_of mask n f m
  start-le k m le =
      let e : k + (m - k) ≡ m = omega arith in
      omega (arith, start-more k (m - k), ap (start_of mask n f) e)

offset_le : (b : List ℕ) (at : ℕ) → offset_of b at ≤ at
offset_le [] at = zero-le
offset_le (x ∷ b) at = le_refl at

-- ---- a block in its place: the block of the bodies f stands in [b, z) of s

pub record Placed (mask : Bool) (n : ℕ) (f : ℕ → List ℕ) (s : List ℕ) (b z : ℕ) : Type 0 where
  pub end : z ≡ b + start_of mask n f n
  pub offset : (k : ℕ) → k < n → offset_at mask s b k ≡ offset_of (f k) (start_of mask n f k)
  pub body : (k : ℕ) → k < n → take (length (f k)) (drop (b + start_of mask n f k) s) ≡ f k

module _ (tag : ℕ) (mask : Bool) (n : ℕ) (f : ℕ → List ℕ) (before after : List ℕ) (small : size_of mask n f < most mask) where
  -- the bytes of the room around the block's table and bodies
  around : (rest : List ℕ) → before ++ ((be32_bytes tag ++ (be32_bytes (size_of mask n f) ++ rest)) ++ after) ≡
      ((before ++ be32_bytes tag) ++ be32_bytes (size_of mask n f)) ++ (rest ++ after)
  around rest = simp append_assoc

  front : length ((before ++ be32_bytes tag) ++ be32_bytes (size_of mask n f)) ≡ length before + 8
  front =
      omega (
        arith,
        length-append (before ++ be32_bytes tag) (be32_bytes (size_of mask n f)),
        length-append before (be32_bytes tag),
        length-be32 tag,
        length-be32 (size_of mask n f),
      )

  place_end : length before + length (block_of tag mask n f) ≡ length before + start_of mask n f n
  unfolding size_of
  place_end = ap (λ (k : ℕ). length before + k) (length-block tag mask n f)

  place_offset : (k : ℕ) → k < n → offset_at mask (before ++ (block_of tag mask n f ++ after)) (length before) k ≡ offset_of (f k) (start_of mask n f k)
  unfolding block_of table_from size_of
  place_offset k lt =
      let at = table_end mask n in
      let v = offset_of (f k) (start_of mask n f k) in
      let head = (before ++ be32_bytes tag) ++ be32_bytes (size_of mask n f) in
      let done = table_from mask f 0 k at in
      let m = n - (k + 1) in
      let left = table_from mask f (k + 1) m (start_of mask n f k + length (f k)) in
      let all = bodies_from f 0 n in
      let e : n ≡ k + suc m = omega arith in
      let t : table_from mask f 0 n at ≡ done ++ (offset_bytes mask v ++ left) =
      ap (λ (j : ℕ). table_from mask f 0 j at) e ∙ table_split f mask 0 k (suc m) at ∙ ap (λ (j : ℕ). done ++ table_from mask f j (suc m) (start_of mask n f k))
      (zero-add k) in
      let joined : (((done ++ (offset_bytes mask v ++ left)) ++ all) ++ after) ≡ done ++ (offset_bytes mask v ++ (left ++ (all ++ after))) =
      simp append_assoc in
      let whole : before ++ (block_of tag mask n f ++ after) ≡ (head ++ done) ++ (offset_bytes mask v ++ (left ++ (all ++ after))) =
      around (table_from mask f 0 n at ++ all)
      ∙ ap (λ (q : List ℕ). head ++ ((q ++ all) ++ after)) t
      ∙ ap (λ (q : List ℕ). head ++ q) joined
      ∙ sym (append_assoc head done (offset_bytes mask v ++ (left ++ (all ++ after)))) in
      let len : length (head ++ done) ≡ length before + 8 + offset_size mask * k =
      length-append head done ∙ omega (arith, front, length-table mask f 0 k at) in
      let fits : v < most mask = omega (arith, small, offset_le (f k) (start_of mask n f k), start-le mask n f k n (omega arith)) in
      ap (λ (q : List ℕ). offset_at mask q (length before) k) whole ∙ offset_back mask v (length before) k (head ++ done) (left ++ (all ++ after)) fits len

  place_body : (k : ℕ) → k < n → take (length (f k)) (drop (length before + start_of mask n f k) (before ++ (block_of tag mask n f ++ after))) ≡ f k
  unfolding block_of size_of
  place_body k lt =
      let head = (before ++ be32_bytes tag) ++ be32_bytes (size_of mask n f) in
      let table = table_from mask f 0 n (table_end mask n) in
      let done = bodies_from f 0 k in
      let left = bodies_from f (k + 1) (n - (k + 1)) in
      let e : n ≡ k + (n - k) = omega arith in
      let split : bodies_from f 0 n ≡ done ++ (f k ++ left) =
      ap (bodies_from f 0) e ∙ bodies_split f 0 k (n - k) ∙ ap (λ (j : ℕ). done ++ bodies_from f j (n - k)) (zero-add k) ∙ ap (λ (q : List ℕ). done ++ q)
      (bodies_step mask f n k lt) in
      let joined : ((table ++ (done ++ (f k ++ left))) ++ after) ≡ table ++ (done ++ (f k ++ (left ++ after))) = simp append_assoc in
      let whole : before ++ (block_of tag mask n f ++ after) ≡ ((head ++ table) ++ done) ++ (f k ++ (left ++ after)) =
      around (table ++ bodies_from f 0 n)
      ∙ ap (λ (q : List ℕ). head ++ ((table ++ q) ++ after)) split
      ∙ ap (λ (q : List ℕ). head ++ q) joined
      ∙ sym (append_assoc head table (done ++ (f k ++ (left ++ after))))
      ∙ sym (append_assoc (head ++ table) done (f k ++ (left ++ after))) in
      let len : length ((head ++ table) ++ done) ≡ length before + start_of mask n f k =
      length-append (head ++ table) done ∙ omega (arith, front, length-append head table, length-table mask f 0 n (table_end mask n)) in
      ap (λ (q : List ℕ). take (length (f k)) (drop (length before + start_of mask n f k) q)) whole
      ∙ ap (take (length (f k))) (drop_at ((head ++ table) ++ done) (f k ++ (left ++ after)) (length before + start_of mask n f k) len)
      ∙ take_at (f k) (left ++ after) (length (f k)) refl

  pub placed : Placed mask n f (before ++ (block_of tag mask n f ++ after)) (length before) (length before + length (block_of tag mask n f))
  placed = record { end = place_end; offset = place_offset; body = place_body }

  -- the header
  pub tag_back : tag < 2 ^ 32 → be32 (before ++ (block_of tag mask n f ++ after)) (length before) ≡ tag
  unfolding block_of
  tag_back h =
      let rest = be32_bytes (size_of mask n f) ++ (table_from mask f 0 n (table_end mask n) ++ bodies_from f 0 n) in
      ap (λ (q : List ℕ). be32 (before ++ q) (length before)) (append_assoc (be32_bytes tag) rest after) ∙ be32_back tag before (rest ++ after) h

  pub size_back : size_of mask n f < 2 ^ 32 → be32 (before ++ (block_of tag mask n f ++ after)) (length before + 4) ≡ length (block_of tag mask n f)
  unfolding block_of
  size_back h =
      let rest = table_from mask f 0 n (table_end mask n) ++ bodies_from f 0 n in
      let len : length (before ++ be32_bytes tag) ≡ length before + 4 = length-append before (be32_bytes tag) ∙ ap (λ (k : ℕ). length before + k)
      (length-be32 tag) in
      let whole : before ++ (block_of tag mask n f ++ after) ≡ (before ++ be32_bytes tag) ++ (be32_bytes (size_of mask n f) ++ (rest ++ after)) = around rest ∙
      append_assoc (before ++ be32_bytes tag) (be32_bytes (size_of mask n f)) (rest ++ after) in
      ap₂ (λ (q : List ℕ) (i : ℕ). be32 q i) whole (sym len) ∙ be32_back (size_of mask n f) (before ++ be32_bytes tag) (rest ++ after) h ∙ sym
      (length-block tag mask n f)

-- ---- what the reader's definitions find of a block in its place

offset_zero : (b : List ℕ) (at : ℕ) → length b ≡ 0 → offset_of b at ≡ 0
offset_zero [] at e = refl
offset_zero (x ∷ b) at e = absurd (omega arith)

offset_here : (b : List ℕ) (at : ℕ) → 1 ≤ length b → offset_of b at ≡ at
offset_here [] at e = absurd (omega arith)
offset_here (x ∷ b) at e = refl

bodiless-none : (mask : Bool) (o : ℕ) → o ≡ 0 → (mask ≡ false → ⊥) → bodiless mask o ≡ true
bodiless-none true o e h = eq-eqb o 0 e
bodiless-none false o e h = absurd (h refl)

bodiless-some : (mask : Bool) (o : ℕ) → (o ≡ 0 → ⊥) → bodiless mask o ≡ false
bodiless-some true o e = ne_eqb o 0 e
bodiless-some false o e = refl

offset-right : (low size prev o : ℕ) → low ≤ o → o < size → prev < o → offset_right low size prev o ≡ true
unfolding offset_right
offset-right low size prev o a b c = rw (le-leb low o a, lt-ltb o size b, lt-ltb prev o c)

module _ (mask : Bool) (n : ℕ) (f : ℕ → List ℕ) (s : List ℕ) (b z : ℕ) (p : Placed mask n f s b z) where
  -- a body runs to where the next one starts
  end_is : (m k : ℕ) → k + m ≡ n → body_end mask s b z k m ≡ b + start_of mask n f k
  unfolding body_end
  end_is zero k e = p.end ∙ ap (λ (j : ℕ). b + start_of mask n f j) (sym e ∙ add-zero k)
  end_is (suc m) k e = go (f k) refl (end_is m (k + 1) (omega arith))
    where
      go : (q : List ℕ) → f k ≡ q → body_end mask s b z (k + 1) m ≡ b + start_of mask n f (k + 1)
          → cond (eqb (offset_at mask s b k) 0) (body_end mask s b z (k + 1) m) (b + offset_at mask s b k) ≡ b + start_of mask n f k
      go [] g next =
          let o : offset_at mask s b k ≡ 0 = p.offset k (omega arith) ∙ ap (λ (q : List ℕ). offset_of q (start_of mask n f k)) g in
          rw (eq-eqb (offset_at mask s b k) 0 o) (next ∙ omega (arith, start-next mask n f k, ap length g))
      go (x ∷ q) g next =
          let o : offset_at mask s b k ≡ start_of mask n f k = p.offset k (omega arith) ∙ ap (λ (q : List ℕ). offset_of q (start_of mask n f k)) g in
          rw (ne_eqb (offset_at mask s b k) 0 (λ (e : offset_at mask s b k ≡ 0). omega arith)) (ap (λ (j : ℕ). b + j) o)

  module _ (k : ℕ) (lt : k < n) where
    pub none_is : length (f k) ≡ 0 → offset_at mask s b k ≡ 0
    none_is e = p.offset k lt ∙ offset_zero (f k) (start_of mask n f k) e

    module _ (one : 1 ≤ length (f k)) where
      pub offset_is : offset_at mask s b k ≡ start_of mask n f k
      offset_is = p.offset k lt ∙ offset_here (f k) (start_of mask n f k) one

      pub body_is : body_of mask n s b z k ≡ f k
      unfolding body_of
      body_is =
          let e : body_end mask s b z (k + 1) (n - (k + 1)) ≡ b + start_of mask n f (k + 1) = end_is (n - (k + 1)) (k + 1) (omega arith) in
          let size : body_end mask s b z (k + 1) (n - (k + 1)) - (b + offset_at mask s b k) ≡ length (f k) = omega (arith, offset_is, start-next mask n f k) in
          ap₂ (λ (i j : ℕ). take i (drop j s)) size (ap (λ (j : ℕ). b + j) offset_is) ∙ p.body k lt

  -- the table is right where each strip has a body, or may do without
  module _ (bodies : (k : ℕ) → k < n → mask ≡ false → 1 ≤ length (f k)) where
    offsets_are : (m k prev : ℕ) → k + m ≡ n → prev < start_of mask n f k → offsets_right mask s b (table_end mask n) (z - b) k m prev ≡ true
    unfolding offsets_right
    offsets_are zero k prev e h = refl
    offsets_are (suc m) k prev e h = go (f k) refl (λ q g. offsets_are m (k + 1) q (omega arith) g)
      where
        go : (q : List ℕ) → f k ≡ q → ((q : ℕ) → q < start_of mask n f (k + 1) → offsets_right mask s b (table_end mask n) (z - b) (k + 1) m q ≡ true)
            → cond (bodiless mask (offset_at mask s b k)) (offsets_right mask s b (table_end mask n) (z - b) (k + 1) m prev)
            (offset_right (table_end mask n) (z - b) prev (offset_at mask s b k) && offsets_right mask s b (table_end mask n) (z - b) (k + 1) m
            (offset_at mask s b k)) ≡ true
        go [] g next =
            let o : offset_at mask s b k ≡ 0 = p.offset k (omega arith) ∙ ap (λ (q : List ℕ). offset_of q (start_of mask n f k)) g in
            let must : mask ≡ false → ⊥ = λ (w : mask ≡ false). omega (arith, bodies k (omega arith) w, ap length g) in
            rw (bodiless-none mask (offset_at mask s b k) o must) (next prev (omega (arith, start-next mask n f k)))
        go (x ∷ q) g next =
            let o : offset_at mask s b k ≡ start_of mask n f k = p.offset k (omega arith) ∙ ap (λ (q : List ℕ). offset_of q (start_of mask n f k)) g in
            let more : start_of mask n f k < start_of mask n f (k + 1) = omega (arith, start-next mask n f k, ap length g) in
            let below : offset_at mask s b k < z - b = omega (arith, p.end, start-le mask n f (k + 1) n (omega arith)) in
            rw (
              bodiless-some mask (offset_at mask s b k) (λ (e : offset_at mask s b k ≡ 0). omega arith),
              offset-right (table_end mask n) (z - b) prev (offset_at mask s b k) (omega arith) below (omega arith),
            )
            (next (offset_at mask s b k) (omega arith))

    pub table_is : table_right mask n s b z ≡ true
    unfolding table_right
    table_is =
        let fits : table_end mask n ≤ z - b = omega (arith, p.end) in
        rw (le-leb (table_end mask n) (z - b) fits) (offsets_are n 0 0 (zero-add n) (omega arith))

-- ---- the leftmost refusal where every test from `low` on passes, and the test of a block all of whose strips pass

module _ (low n : ℕ) (test : ℕ → Result (Unit {0}) ℕ) (all : (k : ℕ) → low ≤ k → k < n → test k ≡ Ok tt) where
  pub leftmost-all : (m k : ℕ) → low ≤ k → k + m ≡ n → leftmost test k m ≡ Ok tt
  leftmost-all zero k le e = leftmost-none test k 0 refl
  leftmost-all (suc m) k le e = leftmost_pass test k (suc m) m refl (all k le (omega arith)) ∙ leftmost-all m (k + 1) (omega arith) (omega arith)

pub block-passes : (mask : Bool) (n h : ℕ) (s : List ℕ) (b z : ℕ) → table_right mask n s b z ≡ true → ((k : ℕ) → k < n → strip_test mask n h s b z k ≡ Ok tt) →
    block_test mask n h s b z ≡ Ok tt
unfolding block_test
block-passes mask n h s b z right all = rw right (leftmost-all 0 n (strip_test mask n h s b z) (λ k le lt. all k lt) n 0 zero-le (zero-add n))
