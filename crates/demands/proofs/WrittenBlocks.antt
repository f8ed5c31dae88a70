-- Bytes in their place in a longer list: cut in two, read as numbers, and as blocks that the block tree finds.
use Rattle.std.proofs.Common.{◌≡◌, refl, sym, ap, ap₂, ◌∙◌, subst, Bool, List, [], ◌++◌, append_assoc, append-nil, ℕ, zero, suc, ◌+◌, ◌^◌, ◌≤◌, ◌<◌, arith, length, get_or, length-append, get_or-append-add}
use mathlib.Core.Logic.{by_cases}
use native.Mathlib.Decide.{dec_lt}
use lib.ListN.{get_or-append}
use Rattle.number.specs.Number.{be32, le16, be32_bytes, le16_bytes}
use Rattle.block.specs.Tag.{container}
use Rattle.block.proofs.ListLaws.{Stands}
use Rattle.table.specs.Table.{table_end}
use Rattle.block_writer.specs.Block.{block_of, size_of, table_from, bodies_from}
use Rattle.block_writer.proofs.CallLaws.{length-be32, length-block}
use Rattle.block_writer.proofs.FillLaws.{length-table}
use Rattle.block_writer.proofs.PlacedLaws.{be32_back, le16_back}
use Rattle.demands.specs.Written.{block, concat_to}

-- the bytes l stand in s from a on
pub record Held (s : List ℕ) (a : ℕ) (l : List ℕ) : Type 0 where
  pub before : List ℕ
  pub after : List ℕ
  pub whole : s ≡ before ++ (l ++ after)
  pub place : length before ≡ a

pub held_all : (s : List ℕ) → Held s 0 s
held_all s = record { before = []; after = []; whole = sym (append-nil s); place = refl }

module _ (s : List ℕ) (a : ℕ) where
  pub held-left : (x y : List ℕ) → Held s a (x ++ y) → Held s a x
  held-left x y h =
      record {
        before = h.before;
        after = y ++ h.after;
        whole = h.whole ∙ ap (λ (q : List ℕ). h.before ++ q) (append_assoc x y h.after);
        place = h.place;
      }

  pub held-right : (x y : List ℕ) (b : ℕ) → b ≡ a + length x → Held s a (x ++ y) → Held s b y
  held-right x y b e h =
      record {
        before = h.before ++ x;
        after = h.after;
        whole =
            h.whole ∙ ap (λ (q : List ℕ). h.before ++ q) (append_assoc x y h.after) ∙ sym (append_assoc h.before x (y ++ h.after));
        place = omega (arith, length-append h.before x, h.place, e);
      }

  -- what holds of l anywhere in a longer list
  pub held_reads : (P : List ℕ → ℕ → ℕ → Type 0) (l : List ℕ) (len : ℕ)
      → ((before after : List ℕ) → P (before ++ (l ++ after)) (length before) (length before + len)) → Held s a l → P s a (a + len)
  held_reads P l len all h =
      subst (λ (i : ℕ). P s i (i + len)) h.place
      (subst (λ (q : List ℕ). P q (length h.before) (length h.before + len)) (sym h.whole) (all h.before h.after))

  -- its byte i
  pub held_byte : (l : List ℕ) (i j : ℕ) → i < length l → j ≡ a + i → Held s a l → get_or s j 0 ≡ get_or l i 0
  held_byte l i j lt e h =
      let at : j ≡ length h.before + i = omega (arith, e, h.place) in
      ap₂ (λ (q : List ℕ) (k : ℕ). get_or q k 0) h.whole at ∙ get_or-append-add h.before (l ++ h.after) i 0 ∙ get_or-append l h.after 0 i lt

  pub held-be32 : (v : ℕ) (r : List ℕ) → v < 2 ^ 32 → Held s a (be32_bytes v ++ r) → be32 s a ≡ v
  held-be32 v r small h =
      let g = held-left (be32_bytes v) r h in
      ap₂ (λ (q : List ℕ) (i : ℕ). be32 q i) g.whole (sym g.place) ∙ be32_back v g.before g.after small

  pub held-le16 : (v : ℕ) → v < 2 ^ 16 → Held s a (le16_bytes v) → le16 s a ≡ v
  held-le16 v small h = ap₂ (λ (q : List ℕ) (i : ℕ). le16 q i) h.whole (sym h.place) ∙ le16_back v h.before h.after small

-- ---- a block

same_bytes : (s : List ℕ) (a : ℕ) (l : List ℕ) → get_or s a 0 ≡ get_or l 0 0 → get_or s (a + 1) 0 ≡ get_or l 1 0 → get_or s (a + 2) 0 ≡ get_or l 2 0
    → get_or s (a + 3) 0 ≡ get_or l 3 0 → container s a ≡ container l 0
unfolding container
same_bytes s a l p q r t = rw (p, q, r, t)

length_headed : (tag size : ℕ) (rest : List ℕ) → length (be32_bytes tag ++ (be32_bytes size ++ rest)) ≡ 8 + length rest
length_headed tag size rest =
    omega (
      arith,
      length-append (be32_bytes tag) (be32_bytes size ++ rest),
      length-append (be32_bytes size) rest,
      length-be32 tag,
      length-be32 size,
    )

-- a tag, a number and the bytes after them
module _ (s : List ℕ) (a tag size : ℕ) (rest : List ℕ) (h : Held s a (be32_bytes tag ++ (be32_bytes size ++ rest))) where
  letter : (i j : ℕ) → i < 4 → j ≡ a + i → get_or s j 0 ≡ get_or (be32_bytes tag) i 0
  letter i j lt e = held_byte s a (be32_bytes tag) i j (omega (arith, length-be32 tag)) e (held-left s a (be32_bytes tag) (be32_bytes size ++ rest) h)

  size-held : Held s (a + 4) (be32_bytes size ++ rest)
  size-held = held-right s a (be32_bytes tag) (be32_bytes size ++ rest) (a + 4) (omega (arith, length-be32 tag)) h

  rest-held : (b : ℕ) → b ≡ a + 8 → Held s b rest
  rest-held b e = held-right s (a + 4) (be32_bytes size) rest b (omega (arith, e, length-be32 size)) size-held

  -- they stand there as a block that the block tree finds, if the number is the size of it all
  stands : tag < 2 ^ 32 → size ≡ 8 + length rest → size < 2 ^ 32 → Stands tag s a (a + size)
  stands named whole small =
      record {
        tag = held-be32 s a tag (be32_bytes size ++ rest) named h;
        size = held-be32 s (a + 4) size rest small size-held ∙ omega arith;
        headed = omega arith;
        kind =
            same_bytes s a (be32_bytes tag) (letter 0 a (omega arith) (omega arith)) (letter 1 (a + 1) (omega arith) refl)
            (letter 2 (a + 2) (omega arith) refl) (letter 3 (a + 3) (omega arith) refl);
      }

pub length-of : (tag : ℕ) (payload : List ℕ) → length (block tag payload) ≡ 8 + length payload
unfolding block
length-of tag payload = length_headed tag _ payload

module _ (s : List ℕ) (a tag : ℕ) (payload : List ℕ) (h : Held s a (block tag payload)) where
  pub payload-held : (b : ℕ) → b ≡ a + 8 → Held s b payload
  unfolding block
  payload-held b e = rest-held s a tag _ payload h b e

  pub block_stands : tag < 2 ^ 32 → 8 + length payload < 2 ^ 32 → (z : ℕ) → z ≡ a + (8 + length payload) → Stands tag s a z
  unfolding block
  block_stands named small z e = subst (λ (q : ℕ). Stands tag s a q) (sym e) (stands s a tag _ payload h named refl small)

size_is : (mask : Bool) (n : ℕ) (f : ℕ → List ℕ) → size_of mask n f ≡ 8 + length (table_from mask f 0 n (table_end mask n) ++ bodies_from f 0 n)
unfolding size_of
size_is mask n f =
    omega (
      arith,
      length-append (table_from mask f 0 n (table_end mask n)) (bodies_from f 0 n),
      length-table mask f 0 n (table_end mask n),
    )

-- a block that was written
module _ (s : List ℕ) (a tag : ℕ) (mask : Bool) (n : ℕ) (f : ℕ → List ℕ) (named : tag < 2 ^ 32) (h : Held s a (block_of tag mask n f)) where
  sized_stands : size_of mask n f < 2 ^ 32 → Stands tag s a (a + size_of mask n f)
  unfolding block_of
  sized_stands small =
      let rest = table_from mask f 0 n (table_end mask n) ++ bodies_from f 0 n in
      stands s a tag (size_of mask n f) rest h named (size_is mask n f) small

  pub written_stands : (len : ℕ) → length (block_of tag mask n f) ≡ len → len < 2 ^ 32 → Stands tag s a (a + len)
  written_stands len e small =
      let size : size_of mask n f ≡ len = sym (length-block tag mask n f) ∙ e in
      subst (λ (q : ℕ). Stands tag s a (a + q)) size (sized_stands (omega arith))

-- ---- f 1 to f n, one after another

module _ (f : ℕ → List ℕ) where
  pub one-held : (s : List ℕ) (a n k : ℕ) → suc k ≤ n → Held s a (concat_to f n) → Held s (a + length (concat_to f k)) (f (suc k))
  unfolding concat_to
  one-held s a zero k le h = absurd (omega arith)
  one-held s a (suc n) k le h =
      by_cases (dec_lt k n)
      (λ lt. one-held s a n k lt (held-left s a (concat_to f n) (f (suc n)) h))
      (λ ge.
      let last : n ≡ k = omega arith in
      subst (λ (j : ℕ). Held s (a + length (concat_to f j)) (f (suc j))) last (held-right s a (concat_to f n) (f (suc n)) _ refl h))
