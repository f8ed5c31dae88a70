-- Change request 5, in the customer's words: "In a code 01 strip there is no colour byte: source 001 is right, the 8H pixels follow the code
-- directly. And a second-method run of n gives n pixels, with 0 meaning 256."
use Rattle.std.specs.Prelude.{ℕ, ◌+◌, ◌-◌, ◌*◌, ◌/◌, ◌%◌, ◌≤◌, ◌<◌, ◌≡◌, Bool, true, false, List, ◌∷◌, ◌++◌, ◌⊎◌, length, get_or, take, replicate, Ok}
use Rattle.bits.specs.Bits.{low_bits}
use Rattle.strip.specs.Strip.{refused, prepend, decode}
use Rattle.strip.specs.Picture.{refusal, picture, strip_of}
use Rattle.room.specs.declared.Room.{Room}
use Rattle.play.specs.Bytes.{Lent, test_of, after_load}
use Rattle.demands.specs.Demand2.{body_in}

-- a run's bits up to its number: `11` and d = 4
abbrev pub run_head : List Bool
run_head = true ∷ true ∷ low_bits 3 4

-- "a second-method run of n gives n pixels, with 0 meaning 256"
abbrev pub RunGives : (n pixels : ℕ) → Type 0
RunGives n pixels = ((1 ≤ n) × (n ≤ 255) × (pixels ≡ n)) ⊎ ((n ≡ 0) × (pixels ≡ 256))

pub record Request5 : Type 0 where
  -- kg_load: where a strip's body starts with 01, the pixel in column x, row y is the body's byte 1 + 8y + x mod 8
  pub raw_loaded : (s : List ℕ) (b : Lent) (r : Room) → Ok r ≡ test_of s b → (x y : ℕ) → x < r.width → y < r.height
      → get_or (body_in s r (x / 8)) 0 0 ≡ 0x01
      → get_or (after_load s b).pixels (y * r.width + x) 0 ≡ get_or (body_in s r (x / 8)) (1 + 8 * y + x % 8) 0
  -- and of every strip, an image's too: 7 for fewer than 1 + 8H bytes, else its pixels are the 8H bytes after the code, and opaque
  pub raw_strip : (h : ℕ) (t : List ℕ) → (length t < 8 * h → strip_of h (0x01 ∷ t) ≡ refusal 7)
      × (8 * h ≤ length t → strip_of h (0x01 ∷ t) ≡ picture false (take (8 * h) t))
  -- a run, wherever in a strip its bits stand, with k pixels still to come: it gives its pixels in the colour c, and the operations after it
  -- give the others; 8 where it is longer than what is to come
  pub run_gives : (width k n m c step : ℕ) (l : List Bool) → RunGives n m
      → (m ≤ k → decode true width k 0 c step (run_head ++ (low_bits 8 n ++ l)) ≡ prepend (replicate m c) (decode true width (k - m) 0 c step l))
      × (1 ≤ k → k < m → decode true width k 0 c step (run_head ++ (low_bits 8 n ++ l)) ≡ refused 8)
  -- 7 where the number's 8 bits aren't there, however long a run it would be
  pub run_cut : (width k c step : ℕ) (l : List Bool) → 1 ≤ k → length l < 8 → decode true width k 0 c step (run_head ++ l) ≡ refused 7
