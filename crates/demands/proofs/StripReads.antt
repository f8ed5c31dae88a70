-- What the pixels of raw strips and of coded ones are, and what a run gives (change request 5), from the laws of crates bits and strip.
use Rattle.std.proofs.Common.{◌≡◌, refl, sym, ap, ◌∙◌, Bool, true, false, List, [], ◌∷◌, ◌++◌, inl, inr, ℕ, zero, suc, ◌+◌, ◌-◌, ◌*◌, ◌/◌, ◌%◌, ◌^◌, ◌≤◌, ◌<◌, arith, length, get_or, take, drop, replicate, take-suc, get_or-take, get_or-drop, Ok}
use mathlib.Core.Logic.{by_cases}
use native.Mathlib.Decide.{dec_lt}
use Rattle.bits.specs.Bits.{low_bits, got, pull}
use Rattle.bits.proofs.BitLaws.{pull-low, pull-short}
use Rattle.strip.specs.Strip.{Strip, refused, values, go, run_pixels, run_op, op_of, prepend, decode}
use Rattle.strip.specs.Picture.{source_of, up_to, placed, Picture, refusal, picture, kind_of, raw_of, shown, by_kind, strip_of}
use Rattle.strip.specs.declared.Kind.{Kind}
use Rattle.strip.specs.declared.Kind.TheVariants.{Raw, Coded}
use Rattle.strip.proofs.StripLaws.{decode_op, decode-past, decode-refuse}
use Rattle.strip.proofs.PictureLaws.{get_or-up_to, raw_short, raw_full, coded_none, coded_some, strip-none, strip-some}
use Rattle.table.specs.Body.{pixels_of}
use Rattle.table.specs.Test.{picture_test}
use Rattle.table.proofs.BlockLaws.{not-passed}
use Rattle.demands.specs.Demand2.{operations}
use Rattle.demands.specs.Request5.{run_head, RunGives}

-- ---- raw strips

raw_kind : kind_of 0x01 ≡ Raw
unfolding kind_of
raw_kind = refl

read_in_order : (t : List ℕ) (n : ℕ) → n ≤ length t → up_to (λ j. get_or t j 0) n ≡ take n t
read_in_order t zero le = refl
read_in_order t (suc n) le = ap (λ (l : List ℕ). l ++ (get_or t n 0 ∷ [])) (read_in_order t n (omega arith)) ∙ sym (take-suc t n 0 le)

placed_rows : (h : ℕ) (t : List ℕ) → 8 * h ≤ length t → placed false h t ≡ take (8 * h) t
unfolding placed
placed_rows h t le = read_in_order t (8 * h) le

-- a body that starts with 01
raw_body : (h : ℕ) (s : List ℕ) → 1 ≤ length s → get_or s 0 0 ≡ 0x01 → strip_of h s ≡ raw_of h (drop 1 s)
raw_body h s some code = strip-some h s some ∙ ap (λ (k : Kind). by_kind h (drop 1 s) k) (ap kind_of code ∙ raw_kind)

module _ (h : ℕ) (s : List ℕ) (some : 1 ≤ length s) (code : get_or s 0 0 ≡ 0x01) where
  raw_none : length (drop 1 s) < 8 * h → strip_of h s ≡ refusal 7
  raw_none lt = raw_body h s some code ∙ raw_short h (drop 1 s) lt

  raw_all : 8 * h ≤ length (drop 1 s) → strip_of h s ≡ picture false (take (8 * h) (drop 1 s))
  raw_all le = raw_body h s some code ∙ raw_full h (drop 1 s) le ∙ ap (picture false) (placed_rows h (drop 1 s) le)

pub raw_strip : (h : ℕ) (t : List ℕ) → (length t < 8 * h → strip_of h (0x01 ∷ t) ≡ refusal 7)
    × (8 * h ≤ length t → strip_of h (0x01 ∷ t) ≡ picture false (take (8 * h) t))
raw_strip h t = (
  raw_none h (0x01 ∷ t) (omega arith) refl,
  raw_all h (0x01 ∷ t) (omega arith) refl,
)

raw_some : (s : List ℕ) → get_or s 0 0 ≡ 0x01 → 1 ≤ length s
raw_some [] code = absurd (omega (arith, code))
raw_some (c ∷ t) code = omega arith

-- a pixel of a raw strip that passes
pub raw_pixel : (h : ℕ) (s : List ℕ) → get_or s 0 0 ≡ 0x01 → picture_test (strip_of h s) ≡ Ok tt → (j : ℕ) → j < 8 * h
    → get_or (pixels_of (strip_of h s)) j 0 ≡ get_or s (1 + j) 0
raw_pixel h s code passed j lt =
    let some = raw_some s code in
    by_cases (dec_lt (length (drop 1 s)) (8 * h))
    (λ few. absurd (not-passed 7 (sym (ap picture_test (raw_none h s some code few)) ∙ passed)))
    (λ many.
    ap (λ (p : Picture). get_or (pixels_of p) j 0) (raw_all h s some code (omega (arith, many)))
    ∙ get_or-take (8 * h) (drop 1 s) j 0 lt
    ∙ get_or-drop 1 s j 0)

-- ---- coded strips

placed-pixel : (vertical : Bool) (h : ℕ) (xs : List ℕ) (j : ℕ) → j < 8 * h → get_or (placed vertical h xs) j 0 ≡ get_or xs (source_of vertical h j) 0
unfolding placed
placed-pixel vertical h xs j lt = get_or-up_to (λ i. get_or xs (source_of vertical h i) 0) (8 * h) j lt

shown-pixel : (vertical clear : Bool) (h : ℕ) (x : Strip) → picture_test (shown vertical clear h x) ≡ Ok tt → (j : ℕ) → j < 8 * h
    → (xs : List ℕ) × (x ≡ values xs) × (get_or (pixels_of (shown vertical clear h x)) j 0 ≡ get_or xs (source_of vertical h j) 0)
shown-pixel vertical clear h (refused n) passed j lt = absurd (not-passed n passed)
shown-pixel vertical clear h (values xs) passed j lt = (xs, refl, placed-pixel vertical h xs j lt)

module _ (second vertical clear : Bool) (w h : ℕ) (s : List ℕ) (kind : kind_of (get_or s 0 0) ≡ Coded second vertical clear w) where
  pub coded_short : length s < 2 → strip_of h s ≡ refusal 7
  coded_short few =
      by_cases (dec_lt (length s) 1)
      (λ none. strip-none h s none)
      (λ some.
      strip-some h s (omega (arith, some)) ∙ ap (λ (k : Kind). by_kind h (drop 1 s) k) kind ∙ coded_none second vertical clear w h s few)

  pub coded_whole : 2 ≤ length s → strip_of h s ≡ shown vertical clear h (operations second w h s)
  coded_whole many =
      strip-some h s (omega arith) ∙ ap (λ (k : Kind). by_kind h (drop 1 s) k) kind ∙ coded_some second vertical clear w h s many

  -- a pixel of a coded strip that passes
  pub coded_pixel : picture_test (strip_of h s) ≡ Ok tt → (j : ℕ) → j < 8 * h
      → (xs : List ℕ) × (operations second w h s ≡ values xs) × (get_or (pixels_of (strip_of h s)) j 0 ≡ get_or xs (source_of vertical h j) 0)
  coded_pixel passed j lt =
      by_cases (dec_lt (length s) 2)
      (λ few. absurd (not-passed 7 (sym (ap picture_test (coded_short few)) ∙ passed)))
      (λ many.
      let whole = coded_whole (omega (arith, many)) in
      let read = shown-pixel vertical clear h (operations second w h s) (sym (ap picture_test whole) ∙ passed) j lt in
      (read.0, read.1, ap (λ (p : Picture). get_or (pixels_of p) j 0) whole ∙ read.2))

-- ---- runs

run-head : (w c s : ℕ) (l : List Bool) → op_of true w c s (run_head ++ l) ≡ run_op c s (pull 8 l)
unfolding low_bits
run-head w c s l = refl

run-pixels : (n m : ℕ) → RunGives n m → (n < 256) × (run_pixels n ≡ m) × (1 ≤ m)
run-pixels zero m (inl (some, few, e)) = absurd (omega arith)
run-pixels (suc n) m (inl (some, few, e)) = (omega arith, sym e, omega arith)
run-pixels zero m (inr (none, e)) = (omega arith, sym e, omega arith)
run-pixels (suc n) m (inr (none, e)) = absurd (omega arith)

run-number : (c s n m : ℕ) (l : List Bool) → RunGives n m → run_op c s (got (n % 2 ^ 8) (low_bits (8 - 8) (n / 2 ^ 8) ++ l)) ≡ go (m - 1) c s l
unfolding low_bits
run-number c s n m l gives =
    let p = run-pixels n m gives in
    let small : n % 2 ^ 8 ≡ n = omega (arith, p.0) in
    ap (λ (q : ℕ). go (run_pixels q - 1) c s l) small ∙ ap (λ (q : ℕ). go (q - 1) c s l) p.1

op_of-run_head : (w c s n m : ℕ) (l : List Bool) → RunGives n m → op_of true w c s (run_head ++ (low_bits 8 n ++ l)) ≡ go (m - 1) c s l
op_of-run_head w c s n m l gives = run-head w c s (low_bits 8 n ++ l) ∙ ap (run_op c s) (pull-low 8 8 n l (omega arith)) ∙ run-number c s n m l gives

pub run_gives : (width k n m c step : ℕ) (l : List Bool) → RunGives n m
    → (m ≤ k → decode true width k 0 c step (run_head ++ (low_bits 8 n ++ l)) ≡ prepend (replicate m c) (decode true width (k - m) 0 c step l))
    × (1 ≤ k → k < m → decode true width k 0 c step (run_head ++ (low_bits 8 n ++ l)) ≡ refused 8)
run_gives width k n m c step l gives =
    let bits = run_head ++ (low_bits 8 n ++ l) in
    let op = op_of-run_head width c step n m l gives in
    let some = (run-pixels n m gives).2 in (
      λ le.
          let whole : k ≡ suc (m - 1 + (k - m)) = omega arith in
          let count : suc (m - 1) ≡ m = omega arith in
          ap (λ (j : ℕ). decode true width j 0 c step bits) whole
          ∙ decode_op true width c step bits (m - 1) (k - m) c step l op
          ∙ ap (λ (j : ℕ). prepend (replicate j c) (decode true width (k - m) 0 c step l)) count,
      λ one lt.
          let whole : k ≡ suc (k - 1) = omega arith in
          ap (λ (j : ℕ). decode true width j 0 c step bits) whole ∙ decode-past true width c step bits (m - 1) (k - 1) c step l op (omega arith),
    )

pub run_cut : (width k c step : ℕ) (l : List Bool) → 1 ≤ k → length l < 8 → decode true width k 0 c step (run_head ++ l) ≡ refused 7
run_cut width k c step l one few =
    let whole : k ≡ suc (k - 1) = omega arith in
    ap (λ (j : ℕ). decode true width j 0 c step (run_head ++ l)) whole
    ∙ decode-refuse true width c step (run_head ++ l) 7 (k - 1) (run-head width c step l ∙ ap (run_op c step) (pull-short 8 l few))
