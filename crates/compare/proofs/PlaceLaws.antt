-- Laws of the list's places: how many there are, and the bytes that they take. Assumes nothing.
use Rattle.std.proofs.Common.{ℕ, zero, suc, ◌+◌, ◌-◌, ◌*◌, ◌≤◌, ◌<◌, ◌≡◌, refl, sym, ap, ap₂, ◌∙◌, Bool, true, false, cond, List, [], ◌∷◌, ◌++◌, append_assoc, le_of_suc-le-suc, add-one, arith, length, get_or, length-append, get_or-append-add}
use Rattle.std.specs.Int.{from_bool}
use lib.ListN.{get_or-append}
use lib.Seq.{sets}
use Rattle.number.specs.Number.{le16_bytes}
use Rattle.number.specs.Buffer.{over}
use Rattle.number.proofs.StoreLaws.{sets-append, sets_is}
use Rattle.compare.specs.Compare.{Difference, is_different, next, listed_to, place_bytes, list_bytes}

-- ---- how many

pub listed_start : (f : ℕ → Difference) → 0 ≡ length (listed_to f 0)
unfolding listed_to
listed_start f = refl

next-length : (d : Difference) → length (next d) ≡ from_bool (is_different d)
next-length d = go (is_different d)
  where
    go : (t : Bool) → length (cond t (d ∷ []) []) ≡ from_bool t
    go true = refl
    go false = refl

pub listed_next : (f : ℕ → Difference) (k count more : ℕ) → count ≡ length (listed_to f k) → more ≡ from_bool (is_different (f k))
    → count + more ≡ length (listed_to f (k + 1))
unfolding listed_to
listed_next f k count more e q = rw (add-one k) (ap₂ ◌+◌ e (q ∙ sym (next-length (f k))) ∙ sym (length-append (listed_to f k) (next (f k))))

-- more strips, no fewer places; and no more places than strips
next-few : (d : Difference) → length (next d) ≤ 1
next-few d = go (is_different d)
  where
    go : (t : Bool) → length (cond t (d ∷ []) []) ≤ 1
    go true = omega arith
    go false = omega arith

pub listed-few : (f : ℕ → Difference) (n : ℕ) → length (listed_to f n) ≤ n
unfolding listed_to
listed-few f zero = omega arith
listed-few f (suc n) = omega (arith, length-append (listed_to f n) (next (f n)), listed-few f n, next-few (f n))

pub listed-length : (f : ℕ → Difference) (k : ℕ) → length (listed_to f (k + 1)) ≡ length (listed_to f k) + length (next (f k))
unfolding listed_to
listed-length f k = rw (add-one k) (length-append (listed_to f k) (next (f k)))

grows : (f : ℕ → Difference) (k j : ℕ) → length (listed_to f k) ≤ length (listed_to f (j + k))
unfolding listed_to
grows f k zero = let e : zero + k ≡ k = omega arith in rw e (omega arith)
grows f k (suc j) =
    let e : suc j + k ≡ suc (j + k) = omega arith in
    rw e (omega (arith, grows f k j, length-append (listed_to f (j + k)) (next (f (j + k)))))

pub listed_grows : (f : ℕ → Difference) (k n : ℕ) → k ≤ n → length (listed_to f k) ≤ length (listed_to f n)
listed_grows f k n le = let e : n - k + k ≡ n = omega arith in rw e at (grows f k (n - k))

pub listed_same : (f g : ℕ → Difference) (n : ℕ) → ((k : ℕ) → k < n → f k ≡ g k) → listed_to f n ≡ listed_to g n
unfolding listed_to
listed_same f g zero same = refl
listed_same f g (suc n) same =
    ap₂ (λ (l : List Difference) (d : Difference). l ++ next d) (listed_same f g n (λ k lt. same k (omega arith))) (same n (omega arith))

-- ---- the bytes

place-length : (d : Difference) → length (place_bytes d) ≡ 8
unfolding le16_bytes
place-length d = refl

pub bytes-append : (xs ys : List Difference) → list_bytes (xs ++ ys) ≡ list_bytes xs ++ list_bytes ys
unfolding list_bytes
bytes-append [] ys = refl
bytes-append (x ∷ xs) ys = ap (λ (l : List ℕ). place_bytes x ++ l) (bytes-append xs ys) ∙ sym (append_assoc (place_bytes x) (list_bytes xs) (list_bytes ys))

pub bytes-length : (xs : List Difference) → length (list_bytes xs) ≡ 8 * length xs
unfolding list_bytes
bytes-length [] = refl
bytes-length (x ∷ xs) =
    let rest = bytes-length xs in
    length-append (place_bytes x) (list_bytes xs) ∙ omega (arith, rest, place-length x)

-- a place is written
pub place_put : (d : Difference) (at x : ℕ) (l₀ l₁ l₂ l₃ : List ℕ) → x ≡ d.pixels → l₁ ≡ sets l₀ at (le16_bytes d.strip)
    → l₂ ≡ sets l₁ (at + 2) (le16_bytes x) → l₃ ≡ sets l₂ (at + 4) (d.planes ∷ 0 ∷ 0 ∷ 0 ∷ []) → l₃ ≡ sets l₀ at (place_bytes d)
unfolding le16_bytes
place_put d at x l₀ l₁ l₂ l₃ e strip pixels planes =
    let last = d.planes ∷ 0 ∷ 0 ∷ 0 ∷ [] in
    let four : at + 4 ≡ at + 2 + 2 = omega arith in
    let counted : l₂ ≡ sets l₁ (at + 2) (le16_bytes d.pixels) = rw e at pixels in
    planes
    ∙ ap (λ (l : List ℕ). sets l (at + 4) last) counted
    ∙ ap (λ (n : ℕ). sets (sets l₁ (at + 2) (le16_bytes d.pixels)) n last) four
    ∙ sets-append (le16_bytes d.pixels) last l₁ (at + 2)
    ∙ ap (λ (l : List ℕ). sets l (at + 2) (le16_bytes d.pixels ++ last)) strip
    ∙ sets-append (le16_bytes d.strip) (le16_bytes d.pixels ++ last) l₀ at

-- what a strip adds
pub next_off : (d : Difference) → is_different d ≡ true → (list_bytes (next d) ≡ place_bytes d) × (length (next d) ≡ 1)
unfolding list_bytes le16_bytes
next_off d e = rw e (refl, refl)

pub next-alike : (d : Difference) → is_different d ≡ false → (list_bytes (next d) ≡ []) × (length (next d) ≡ 0)
unfolding list_bytes
next-alike d e = rw e (refl, refl)

-- one strip more
pub bytes-more : (f : ℕ → Difference) (k at : ℕ) (l₀ l m : List ℕ) → at ≡ 8 * length (listed_to f k) → l ≡ sets l₀ 0 (list_bytes (listed_to f k))
    → m ≡ sets l at (list_bytes (next (f k))) → m ≡ sets l₀ 0 (list_bytes (listed_to f (k + 1)))
unfolding listed_to
bytes-more f k at l₀ l m e was put =
    let here : at ≡ 0 + length (list_bytes (listed_to f k)) = omega (arith, e, bytes-length (listed_to f k)) in
    let joined : list_bytes (listed_to f k) ++ list_bytes (next (f k)) ≡ list_bytes (listed_to f (k + 1)) =
    rw (add-one k) (sym (bytes-append (listed_to f k) (next (f k)))) in
    put
    ∙ ap₂ (λ (x : List ℕ) (n : ℕ). sets x n (list_bytes (next (f k)))) was here
    ∙ sets-append (list_bytes (listed_to f k)) (list_bytes (next (f k))) l₀ 0
    ∙ ap (sets l₀ 0) joined

pub bytes-start : (f : ℕ → Difference) (l : List ℕ) → l ≡ sets l 0 (list_bytes (listed_to f 0))
unfolding listed_to list_bytes
bytes-start f l = refl

pub bytes-over : (ds : List Difference) (l : List ℕ) → 8 * length ds ≤ length l → sets l 0 (list_bytes ds) ≡ over (list_bytes ds) l
unfolding over
bytes-over ds l fits =
    let none : 0 + length (list_bytes ds) ≡ length (list_bytes ds) = omega arith in
    sets_is l 0 (list_bytes ds) (omega (arith, bytes-length ds)) ∙ rw none

-- place i of a list of places stands 8i bytes behind its start
pub place_byte : (ds : List Difference) (rest : List ℕ) (i j : ℕ) (none : Difference) → i < length ds → j < 8
    → get_or (list_bytes ds ++ rest) (8 * i + j) 0 ≡ get_or (place_bytes (get_or ds i none)) j 0
unfolding list_bytes
place_byte [] rest i j none lt lj = absurd (omega arith)
place_byte (d ∷ ds) rest zero j none lt lj =
    let eight : length (place_bytes d) ≡ 8 = place-length d in
    let here : 8 * zero + j ≡ j = omega arith in
    ap (λ (n : ℕ). get_or ((place_bytes d ++ list_bytes ds) ++ rest) n 0) here
    ∙ ap (λ (l : List ℕ). get_or l j 0) (append_assoc (place_bytes d) (list_bytes ds) rest)
    ∙ get_or-append (place_bytes d) (list_bytes ds ++ rest) 0 j (omega (arith, eight))
place_byte (d ∷ ds) rest (suc i) j none lt lj =
    let there : 8 * suc i + j ≡ length (place_bytes d) + (8 * i + j) = omega (arith, place-length d) in
    ap (λ (n : ℕ). get_or ((place_bytes d ++ list_bytes ds) ++ rest) n 0) there
    ∙ ap (λ (l : List ℕ). get_or l (length (place_bytes d) + (8 * i + j)) 0) (append_assoc (place_bytes d) (list_bytes ds) rest)
    ∙ get_or-append-add (place_bytes d) (list_bytes ds ++ rest) (8 * i + j) 0
    ∙ place_byte ds rest i j none (le_of_suc-le-suc lt) lj
