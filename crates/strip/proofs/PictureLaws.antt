-- Laws of a strip's code and of where its pixels lie.
use Rattle.std.proofs.Common.{◌≡◌, ℕ, zero, suc, ◌+◌, ◌-◌, ◌*◌, ◌/◌, ◌%◌, ◌<◌, ◌≤◌, Bool, true, false, cond, ltb, List, [], ◌∷◌, ◌++◌, length, get_or, take, drop, set, sym, refl, ap, ◌∙◌, subst, ap₂, le_of_eq, mul-le-mul_right, add-one, arith, length-append, length-drop, take_all, get_or-take, take-suc, take-suc-set, ltb-false, ltb-true, le-ltb, lt-ltb, Result, Ok, Err}
use lib.ListN.{get_or-append}
use lib.Seq.{get_or_at}
use Rattle.strip.specs.declared.Kind.{Kind}
use Rattle.number.specs.Buffer.{over}
use Rattle.number.proofs.BufferLaws.{over_of}
use Rattle.bits.specs.Bits.{bits_of}
use Rattle.strip.specs.Strip.{decode}
use Rattle.strip.specs.Picture.{source_of, up_to, Width, placed, Picture, refusal, picture, raw_of, coded_of, shown}
use Rattle.strip.specs.Picture.{strip_of, by_kind, kind_of, Answered}

-- a strip made by columns has pixel c of row y after c columns and y rows
pub source_column : (h y c : ℕ) → c < 8 → source_of true h (8 * y + c) ≡ c * h + y
source_column h y c lt =
    let column : (8 * y + c) % 8 ≡ c = omega arith in
    let row : (8 * y + c) / 8 ≡ y = omega arith in
    ap₂ (λ (m q : ℕ). m * h + q) column row

pub column_below : (h y c : ℕ) → c < 8 → y < h → c * h + y < 8 * h
column_below h y c lt below =
    let m : c * h ≤ 7 * h = mul-le-mul_right h (omega arith) in
    omega arith

pub length-up_to : (f : ℕ → ℕ) (n : ℕ) → length (up_to f n) ≡ n
length-up_to f zero = refl
length-up_to f (suc n) = length-append (up_to f n) (f n ∷ []) ∙ ap (λ (k : ℕ). k + 1) (length-up_to f n) ∙ add-one n

pub get_or-up_to : (f : ℕ → ℕ) (n i : ℕ) → i < n → get_or (up_to f n) i 0 ≡ f i
get_or-up_to f zero i h = absurd (omega arith)
get_or-up_to f (suc n) i h = go (ltb i n) refl (get_or-up_to f n i)
  where
    go : (t : Bool) → ltb i n ≡ t → (i < n → get_or (up_to f n) i 0 ≡ f i) → get_or (up_to f n ++ (f n ∷ [])) i 0 ≡ f i
    go true e k = let lt = ltb-true i n e in get_or-append (up_to f n) (f n ∷ []) 0 i (omega (arith, length-up_to f n)) ∙ k lt
    go false e k =
        let ge = ltb-false i n e in
        let g : i ≡ n = omega arith in
        ap (λ (k : ℕ). get_or (up_to f n ++ (f n ∷ [])) k 0) g ∙ get_or_at (up_to f n) (f n) [] 0 n (length-up_to f n) ∙ ap f (sym g)

pub up_to_store : (f : ℕ → ℕ) (out : List ℕ) (j v : ℕ) → j < length out → take j out ≡ up_to f j → f j ≡ v → take (j + 1) (set out j v) ≡ up_to f (j + 1)
up_to_store f out j v h e g =
    rw add-one (take-suc-set {A = ℕ} out j v h ∙ ap (λ (p : List ℕ). p ++ (v ∷ [])) e ∙ ap (λ (x : ℕ). up_to f j ++ (x ∷ [])) (sym g))

-- the pixel that stands at j, counted by rows
abbrev pub pixel_at : Bool → ℕ → List ℕ → ℕ → ℕ
pixel_at vertical h xs j = get_or xs (source_of vertical h j) 0

-- the first pixels, made by rows already
pub take-up_to : (h : ℕ) (xs : List ℕ) (n : ℕ) → n ≤ length xs → take n xs ≡ up_to (pixel_at false h xs) n
take-up_to h xs zero le = refl
take-up_to h xs (suc n) le = take-suc xs n 0 (omega arith) ∙ ap (λ (p : List ℕ). p ++ (get_or xs n 0 ∷ [])) (take-up_to h xs n (omega arith))

pub placed-over : (vertical : Bool) (h : ℕ) (xs out d : List ℕ) → take (8 * h) out ≡ up_to (pixel_at vertical h xs) (8 * h) → drop (8 * h) out ≡ drop (8 * h) d
    → out ≡ over (placed vertical h xs) d
unfolding placed
placed-over vertical h xs out d front back = over_of _ out d (8 * h) (length-up_to (pixel_at vertical h xs) (8 * h)) front back

-- ---- answers

pub answered-no : (x : Picture) (d : List ℕ) (n : ℕ) → x ≡ refusal n → Answered x d d (Err n)
answered-no x d n e = subst (λ q. Answered q d d (Err n)) (sym e) (refl, refl)

pub answered_yes : (x : Picture) (clear : Bool) (px d out : List ℕ) → x ≡ picture clear px → out ≡ over px d → Answered x d out (Ok clear)
answered_yes x clear px d out e f = subst (λ q. Answered q d out (Ok clear)) (sym e) (refl, f)

pub answered_from : (d out : List ℕ) (r : Result Bool ℕ) {x y : Picture} → x ≡ y → Answered y d out r → Answered x d out r
answered_from d out r e h = subst (λ q. Answered q d out r) (sym e) h

pub told_width : {r r' : Kind} → r ≡ r' → Width r → Width r'
told_width e h = subst (λ q. Width q) e h

-- the rest of a list from 1 on, as the part of a slice has it
pub part-one : (s : List ℕ) → take (length s - 1) (drop 1 s) ≡ drop 1 s
part-one s = take_all _ _ (le_of_eq (length-drop 1 s))

pub raw_short : (h : ℕ) (t : List ℕ) → length t < 8 * h → raw_of h t ≡ refusal 7
unfolding raw_of
raw_short h t lt = ap (λ (few : Bool). cond few (refusal 7) (picture false (placed false h t))) (lt-ltb (length t) (8 * h) lt)

pub raw_full : (h : ℕ) (t : List ℕ) → 8 * h ≤ length t → raw_of h t ≡ picture false (placed false h t)
unfolding raw_of
raw_full h t le = ap (λ (few : Bool). cond few (refusal 7) (picture false (placed false h t))) (le-ltb (length t) (8 * h) le)

module _ (second vertical clear : Bool) (w h : ℕ) where
  pub coded_none : (s : List ℕ) → length s < 2 → coded_of second vertical clear w h (drop 1 s) ≡ refusal 7
  unfolding coded_of
  coded_none [] lt = refl
  coded_none (a ∷ []) lt = refl
  coded_none (a ∷ b ∷ t) lt = absurd (omega arith)

  pub coded_some : (s : List ℕ) → 2 ≤ length s
      → coded_of second vertical clear w h (drop 1 s) ≡ shown vertical clear h (decode second w (8 * h) 1 (get_or s 1 0) 1 (bits_of (drop 2 s)))
  unfolding coded_of
  coded_some [] lt = absurd (omega arith)
  coded_some (a ∷ []) lt = absurd (omega arith)
  coded_some (a ∷ b ∷ t) lt = refl

  -- a strip of no rows has no pixels
  pub coded_empty : (s d : List ℕ) → 2 ≤ length s → h ≡ 0 → Answered (coded_of second vertical clear w h (drop 1 s)) d d (Ok clear)
  unfolding decode placed over
  coded_empty s d le e =
      let z : 8 * h ≡ 0 = omega arith in
      let none : coded_of second vertical clear w h (drop 1 s) ≡ picture clear [] =
      coded_some s le
      ∙ ap (λ (n : ℕ). shown vertical clear h (decode second w n 1 (get_or s 1 0) 1 (bits_of (drop 2 s)))) z
      ∙ ap (λ (n : ℕ). picture clear (up_to (λ j. get_or [] (source_of vertical h j) 0) n)) z in
      answered_yes _ clear [] d d none refl

pub strip-none : (h : ℕ) (s : List ℕ) → length s < 1 → strip_of h s ≡ refusal 7
unfolding strip_of
strip-none h [] lt = refl
strip-none h (a ∷ t) lt = absurd (omega arith)

pub strip-some : (h : ℕ) (s : List ℕ) → 1 ≤ length s → strip_of h s ≡ by_kind h (drop 1 s) (kind_of (get_or s 0 0))
unfolding strip_of
strip-some h [] lt = absurd (omega arith)
strip-some h (a ∷ t) lt = refl

-- ---- only the first 8h pixels are placed

source_lt : (vertical : Bool) (h j : ℕ) → j < 8 * h → source_of vertical h j < 8 * h
source_lt true h j lt = column_below h (j / 8) (j % 8) (omega arith) (omega arith)
source_lt false h j lt = lt

up_to_ext : (f g : ℕ → ℕ) (n : ℕ) → ((j : ℕ) → j < n → f j ≡ g j) → up_to f n ≡ up_to g n
up_to_ext f g zero e = refl
up_to_ext f g (suc n) e = ap₂ (λ (p : List ℕ) (x : ℕ). p ++ (x ∷ [])) (up_to_ext f g n (λ j h. e j (omega arith))) (e n (omega arith))

pub placed-take : (vertical : Bool) (h : ℕ) (xs : List ℕ) → placed vertical h (take (8 * h) xs) ≡ placed vertical h xs
unfolding placed
placed-take vertical h xs = up_to_ext _ _ (8 * h) (λ j lt. get_or-take (8 * h) xs (source_of vertical h j) 0 (source_lt vertical h j lt))
