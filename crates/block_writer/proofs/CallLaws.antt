-- Laws of the calls: each answer from the tests that led to it.
use Rattle.std.proofs.Common.{◌≡◌, refl, sym, ap, ap₂, ◌∙◌, Bool, true, ◌&&◌, List, ◌++◌, append_assoc, ℕ, ◌+◌, ◌*◌, ◌%◌, ◌≤◌, ◌<◌, le_trans, mul-le-mul_right, zero-add, arith, lt-ltb, le-ltb, leb-true, eqb-true, length, take, drop, length-append, drop_at, length-take-le, leb, eqb, Ok, Err}
use lib.Seq.{sets}
use Rattle.number.specs.Number.{be32_bytes}
use Rattle.table.specs.Table.{table_end}
use Rattle.block_writer.specs.Block.{table_from, bodies_from, size_of, block_of, body_for}
use Rattle.block_writer.specs.Call.{sizes_allowed, source_size, block_outcome, Answered}
use Rattle.number.proofs.BoolLaws.{both}
use Rattle.number.specs.Buffer.{over}
use Rattle.number.proofs.StoreLaws.{sets-append, sets_is}
use Rattle.block_writer.proofs.FillLaws.{length-table}

-- ---- sizes

pub record Sizes (w h : ℕ) : Type 0 where
  pub even : w % 8 ≡ 0
  pub wide : 8 ≤ w
  pub narrow : w ≤ 1024
  pub one : 1 ≤ h
  pub high : h ≤ 200

pub sizes : (w h : ℕ) → sizes_allowed w h ≡ true → Sizes w h
unfolding sizes_allowed
sizes w h e =
    let a = both (eqb (w % 8) 0) (leb 8 w && (leb w 1024 && (leb 1 h && leb h 200))) e in
    let b = both (leb 8 w) (leb w 1024 && (leb 1 h && leb h 200)) a.1 in
    let c = both (leb w 1024) (leb 1 h && leb h 200) b.1 in
    let d = both (leb 1 h) (leb h 200) c.1 in
    record {
      even = eqb-true (w % 8) 0 a.0;
      wide = leb-true 8 w b.0;
      narrow = leb-true w 1024 c.0;
      one = leb-true 1 h d.0;
      high = leb-true h 200 d.1;
    }

pub need_few : (n h : ℕ) → n ≤ 128 → h ≤ 200 → h * (8 * n) ≤ 204800
need_few n h a b = le_trans (mul-le-mul_right (8 * n) b) (omega arith)

pub rows_few : (n h : ℕ) → n ≤ 128 → h ≤ 200 → h * n ≤ 25600
rows_few n h a b = le_trans (mul-le-mul_right n b) (omega arith)

-- ---- a block

pub length-be32 : (v : ℕ) → length (be32_bytes v) ≡ 4
unfolding be32_bytes
length-be32 v = refl

pub length-block : (tag : ℕ) (mask : Bool) (n : ℕ) (f : ℕ → List ℕ) → length (block_of tag mask n f) ≡ size_of mask n f
unfolding block_of size_of
length-block tag mask n f =
    let s = table_end mask n + length (bodies_from f 0 n) in
    omega (
      arith,
      length-append (be32_bytes tag) (be32_bytes s ++ (table_from mask f 0 n (table_end mask n) ++ bodies_from f 0 n)),
      length-append (be32_bytes s) (table_from mask f 0 n (table_end mask n) ++ bodies_from f 0 n),
      length-append (table_from mask f 0 n (table_end mask n)) (bodies_from f 0 n),
      length-table mask f 0 n (table_end mask n),
      length-be32 tag,
      length-be32 s,
    )

pub size-some : (mask : Bool) (n : ℕ) (f : ℕ → List ℕ) → 8 ≤ size_of mask n f
unfolding size_of
size-some mask n f = omega arith

-- the header over the table and the bodies
pub block-done : (tag : ℕ) (mask : Bool) (n : ℕ) (f : ℕ → List ℕ) (d : List ℕ) (size : ℕ) → size ≡ size_of mask n f → 8 ≤ length d
    → (x e : List ℕ) → x ≡ over (take 8 d ++ (table_from mask f 0 n (table_end mask n) ++ bodies_from f 0 n)) d
    → e ≡ sets (sets x 0 (be32_bytes tag)) 4 (be32_bytes size) → e ≡ over (block_of tag mask n f) d
unfolding over block_of
block-done tag mask n f d size same room x e g h =
    let t = be32_bytes tag in
    let z = be32_bytes size in
    let rest = table_from mask f 0 n (table_end mask n) ++ bodies_from f 0 n in
    let tail = drop (length (take 8 d ++ rest)) d in
    let lt : length t ≡ 4 = length-be32 tag in
    let lz : length z ≡ 4 = length-be32 size in
    let eight : length (take 8 d) ≡ 8 = length-take-le 8 d room in
    let head : length (t ++ z) ≡ 8 = length-append t z ∙ ap₂ (λ (a b : ℕ). a + b) lt lz in
    let four : 0 + length t ≡ 4 = omega arith in
    let parts : x ≡ take 8 d ++ (rest ++ tail) = g ∙ append_assoc (take 8 d) rest tail in
    let fits : 0 + length (t ++ z) ≤ length x = omega (arith, ap length parts ∙ length-append (take 8 d) (rest ++ tail)) in
    let behind : drop (0 + length (t ++ z)) x ≡ rest ++ tail =
    ap₂ (λ (k : ℕ) (l : List ℕ). drop k l) (zero-add (length (t ++ z)) ∙ head) parts ∙ drop_at (take 8 d) (rest ++ tail) 8 eight in
    let end : length (take 8 d ++ rest) ≡ length (t ++ (z ++ rest)) =
    omega (arith, length-append (take 8 d) rest, length-append t (z ++ rest), length-append z rest) in
    h
    ∙ rw four at (sets-append t z x 0)
    ∙ sets_is x 0 (t ++ z) fits
    ∙ ap (λ (q : List ℕ). (t ++ z) ++ q) behind
    ∙ append_assoc t z (rest ++ tail)
    ∙ ap (λ (q : List ℕ). t ++ q) (sym (append_assoc z rest tail))
    ∙ sym (append_assoc t (z ++ rest) tail)
    ∙ ap (λ (k : ℕ). (t ++ (z ++ rest)) ++ drop k d) end
    ∙ ap (λ (k : ℕ). (t ++ (be32_bytes k ++ rest)) ++ drop (length (t ++ (be32_bytes k ++ rest))) d) same

-- ---- the answers

module _ (tag : ℕ) (mask : Bool) (n h : ℕ) (src d : List ℕ) where
  pub short_source : length src < source_size mask n h → Answered (block_outcome tag mask n h src (length d)) d d (Err 4)
  unfolding block_outcome
  short_source lt = rw (lt-ltb (length src) (source_size mask n h) lt) (refl, refl)

  module _ (enough : source_size mask n h ≤ length src) where
    len : length (block_of tag mask n (body_for mask n h src)) ≡ size_of mask n (body_for mask n h src)
    len = length-block tag mask n (body_for mask n h src)

    pub short_target : length d < size_of mask n (body_for mask n h src) → Answered (block_outcome tag mask n h src (length d)) d d (Err 4)
    unfolding block_outcome
    short_target lt =
        rw (le-ltb (length src) (source_size mask n h) enough, lt-ltb (length d) (length (block_of tag mask n (body_for mask n h src))) (omega (arith, len)))
        (refl, refl)

    pub whole-block : (size : ℕ) → size ≡ size_of mask n (body_for mask n h src) → size_of mask n (body_for mask n h src) ≤ length d
        → (e : List ℕ) → e ≡ over (block_of tag mask n (body_for mask n h src)) d → Answered (block_outcome tag mask n h src (length d)) d e (Ok size)
    unfolding block_outcome
    whole-block size same le e f =
        rw (le-ltb (length src) (source_size mask n h) enough, le-ltb (length d) (length (block_of tag mask n (body_for mask n h src))) (omega (arith, len)))
        (ap Ok (same ∙ sym len), f)
