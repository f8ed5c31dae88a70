-- Laws of a strip taken out of the rows.
use Rattle.std.proofs.Common.{◌≡◌, refl, sym, ap, ap₂, ◌∙◌, Bool, true, false, List, [], ◌∷◌, ◌++◌, append_assoc, append-nil, ℕ, zero, suc, ◌+◌, ◌*◌, ◌/◌, ◌%◌, ◌≤◌, ◌<◌, add-zero, add-suc, suc-mul, mul-le-mul_right, le_refl, arith, length, get_or, take, drop, set, zero-add, length-drop, get_or-drop, drop-drop, ◌-◌}
use borrow.Rule.Slice.PartMut.{put_mid}
use lib.Seq.{sets}
use Rattle.number.proofs.StoreLaws.{sets_is}
use Rattle.strip.specs.Picture.{up_to}
use Rattle.strip.proofs.PictureLaws.{length-up_to, take-up_to, up_to_store}
use Rattle.table.specs.Table.{offset_size}
use Rattle.block_writer.specs.Block.{place_of, strip_bytes, body_for}
use Rattle.block_writer.specs.Call.{source_size}
use Rattle.strip_writer.specs.Pixels.{strip_body}
use Rattle.strip_writer.specs.Rows.{rows_body}
use Rattle.block_writer.proofs.PutLaws.{put_to}

pub length-strip_bytes : (k wide h : ℕ) (src : List ℕ) (s : ℕ) → length (strip_bytes k wide h src s) ≡ k * h
unfolding strip_bytes
length-strip_bytes k wide h src s = length-up_to _ (k * h)

-- the first values of F from a on, where they are the first ones of g
pub up_to-add : (F g : ℕ → ℕ) (a m : ℕ) → ((j : ℕ) → j < m → F (a + j) ≡ g j) → up_to F (a + m) ≡ up_to F a ++ up_to g m
up_to-add F g a zero same = ap (up_to F) (add-zero a) ∙ sym (append-nil (up_to F a))
up_to-add F g a (suc m) same =
    ap (up_to F) (add-suc a m)
    ∙ ap₂ (λ (l : List ℕ) (v : ℕ). l ++ (v ∷ [])) (up_to-add F g a m (λ j h. same j (omega arith))) (same m (le_refl (suc m)))
    ∙ append_assoc (up_to F a) (up_to g m) (g m ∷ [])

-- eight bytes copied, from one place to another
pub eight_copied : (d src part : List ℕ) (from to : ℕ) → from + 8 ≤ length src → to + 8 ≤ length d → part ≡ take (from + 8 - from) (drop from src)
    → put_mid to (to + 8 - to) d part ≡ sets d to (up_to (λ j. get_or src (from + j) 0) 8)
eight_copied d src part from to read room e =
    let row = up_to (λ j. get_or src (from + j) 0) 8 in
    let n : from + 8 - from ≡ 8 = omega arith in
    let m : to + 8 - to ≡ 8 = omega arith in
    let len : length row ≡ 8 = length-up_to (λ j. get_or src (from + j) 0) 8 in
    let same : part ≡ row =
    e
    ∙ ap (λ (k : ℕ). take k (drop from src)) n
    ∙ take-up_to 1 (drop from src) 8 (omega (arith, length-drop from src))
    ∙ up_to-add (λ j. get_or (drop from src) j 0) (λ j. get_or src (from + j) 0) 0 8
    (λ j h. ap (λ (k : ℕ). get_or (drop from src) k 0) (zero-add j) ∙ get_or-drop from src j 0) in
    ap₂ (λ (k : ℕ) (p : List ℕ). put_mid to k d p) m same
    ∙ ap (λ (q : List ℕ). take to d ++ (row ++ q)) (drop-drop 8 to d ∙ ap (λ (k : ℕ). drop (to + k) d) (sym len))
    ∙ sym (sets_is d to row (omega (arith, len)))

-- ---- a row of a picture: its eight bytes of strip k

pub row_in : (wide h k y size : ℕ) → 8 * k + 8 ≤ wide → h * wide ≤ size → y < h → y * wide + 8 * k + 8 ≤ size
row_in wide h k y size fits all lt = let m : suc y * wide ≤ h * wide = mul-le-mul_right wide lt in omega (arith, suc-mul y wide)

row-place : (wide k y j : ℕ) → j < 8 → place_of 8 wide k (8 * y + j) ≡ y * wide + 8 * k + j
row-place wide k y j lt =
    let q : (8 * y + j) / 8 ≡ y = omega arith in
    let r : (8 * y + j) % 8 ≡ j = omega arith in
    ap₂ (λ (a b : ℕ). a * wide + (8 * k + b)) q r ∙ omega arith

pub pixels-more : (wide k : ℕ) (src out : List ℕ) (y : ℕ) → 8 * y + 8 ≤ length out → take (8 * y) out ≡ up_to (λ j. get_or src (place_of 8 wide k j) 0) (8 * y)
    → take (8 * (y + 1)) (sets out (8 * y) (up_to (λ j. get_or src (y * wide + 8 * k + j) 0) 8)) ≡ up_to (λ j. get_or src (place_of 8 wide k j) 0) (8 * (y + 1))
pixels-more wide k src out y room so_far =
    let row = up_to (λ j. get_or src (y * wide + 8 * k + j) 0) 8 in
    let len : length row ≡ 8 = length-up_to (λ j. get_or src (y * wide + 8 * k + j) 0) 8 in
    let next : 8 * (y + 1) ≡ 8 * y + 8 = omega arith in
    put_to out (8 * y) row (omega arith) (8 * (y + 1)) (omega arith)
    ∙ ap (λ (l : List ℕ). l ++ row) so_far
    ∙ sym (up_to-add (λ j. get_or src (place_of 8 wide k j) 0) (λ j. get_or src (y * wide + 8 * k + j) 0) (8 * y) 8
    (λ j h. ap (λ (i : ℕ). get_or src i 0) (row-place wide k y j h)))
    ∙ ap (up_to (λ j. get_or src (place_of 8 wide k j) 0)) (sym next)

-- ---- a row of a plane: its byte of strip k

byte_place : (n k y : ℕ) → place_of 1 n k y ≡ y * n + k
byte_place n k y =
    let q : y / 1 ≡ y = omega arith in
    let r : 1 * k + y % 1 ≡ k = omega arith in
    ap₂ (λ (a b : ℕ). a * n + b) q r

pub rows_more : (n k : ℕ) (src out : List ℕ) (y : ℕ) → y < length out → take y out ≡ up_to (λ j. get_or src (place_of 1 n k j) 0) y
    → take (y + 1) (set out y (get_or src (y * n + k) 0)) ≡ up_to (λ j. get_or src (place_of 1 n k j) 0) (y + 1)
rows_more n k src out y lt so_far =
    up_to_store (λ j. get_or src (place_of 1 n k j) 0) out y (get_or src (y * n + k) 0) lt so_far (ap (λ (i : ℕ). get_or src i 0) (byte_place n k y))

-- ---- which of the two kinds

pub size-two : (mask : Bool) → mask ≡ true → offset_size mask ≡ 2
size-two mask e = ap offset_size e

pub size-four : (mask : Bool) → mask ≡ false → offset_size mask ≡ 4
size-four mask e = ap offset_size e

module _ (mask : Bool) (n h : ℕ) where
  pub need_rows : mask ≡ true → source_size mask n h ≡ h * n
  need_rows e = ap (λ (m : Bool). source_size m n h) e

  pub need_pixels : mask ≡ false → source_size mask n h ≡ h * (8 * n)
  need_pixels e = ap (λ (m : Bool). source_size m n h) e

pub body_rows : (n h : ℕ) (src : List ℕ) (k : ℕ) → body_for true n h src k ≡ rows_body (strip_bytes 1 n h src k)
unfolding body_for
body_rows n h src k = refl

pub body_pixels : (n h : ℕ) (src : List ℕ) (k : ℕ) → body_for false n h src k ≡ strip_body (strip_bytes 8 (8 * n) h src k)
unfolding body_for
body_pixels n h src k = refl
