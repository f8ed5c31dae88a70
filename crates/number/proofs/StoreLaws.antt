-- Laws of `sets l i vs`, the list l with vs stored from i on: runs of stores, and each byte afterwards.
use Rattle.std.proofs.Common.{◌≡◌, refl, sym, ap, ap₂, ◌∙◌, List, [], ◌∷◌, ◌++◌, append_assoc, ℕ, zero, suc, ◌+◌, ◌/◌, ◌%◌, ◌≤◌, ◌<◌, le_of_suc-le-suc, not-suc-le-zero, arith, length, get_or, take, drop, drop-drop, set, length-set, get_or-set_same, get_or-set_other}
use mathlib.Core.Logic.{by_cases}
use native.Mathlib.Decide.{ℕ_discrete}
use lib.Seq.{sets, sets-eq}
use borrow.Rule.Slice.PartMut.{put_mid}
use Rattle.std.specs.Int.{w16, w32, to_le_bytes, to_be_bytes}
use Rattle.number.specs.Number.{le16_bytes, le32_bytes, be32_bytes}

-- two runs, one behind the other, are a run of stores
pub sets-append : (xs ys l : List ℕ) (n : ℕ) → sets (sets l n xs) (n + length xs) ys ≡ sets l n (xs ++ ys)
sets-append [] ys l n = let e : n + 0 ≡ n = omega arith in rw e
sets-append (x ∷ xs) ys l n =
    let e : n + suc (length xs) ≡ suc n + length xs = omega arith in
    ap (λ (k : ℕ). sets (sets (set l n x) (suc n) xs) k ys) e ∙ sets-append xs ys (set l n x) (suc n)

-- ---- the list afterwards

pub sets_is : (l : List ℕ) (i : ℕ) (vs : List ℕ) → i + length vs ≤ length l → sets l i vs ≡ take i l ++ (vs ++ drop (i + length vs) l)
sets_is l i vs fits = sets-eq vs l i fits ∙ append_assoc (take i l) vs (drop (i + length vs) l)

pub sets_below : (vs l : List ℕ) (i j : ℕ) → j < i → get_or (sets l i vs) j 0 ≡ get_or l j 0
sets_below [] l i j h = refl
sets_below (v ∷ vs) l i j h = sets_below vs (set l i v) (suc i) j (omega arith) ∙ get_or-set_other l i j v 0 (λ e. omega arith)

pub sets_above : (vs l : List ℕ) (i j : ℕ) → i + length vs ≤ j → get_or (sets l i vs) j 0 ≡ get_or l j 0
sets_above [] l i j h = refl
sets_above (v ∷ vs) l i j h = sets_above vs (set l i v) (suc i) j (omega arith) ∙ get_or-set_other l i j v 0 (λ e. omega arith)

pub sets_in : (vs l : List ℕ) (i j k : ℕ) → j ≡ i + k → k < length vs → i + length vs ≤ length l → get_or (sets l i vs) j 0 ≡ get_or vs k 0
sets_in [] l i j k e h f = absurd (not-suc-le-zero h)
sets_in (v ∷ vs) l i j zero e h f =
    sets_below vs (set l i v) (suc i) j (omega arith)
    ∙ ap (λ (q : ℕ). get_or (set l i v) q 0) (omega arith)
    ∙ get_or-set_same l i v 0 (omega arith)
sets_in (v ∷ vs) l i j (suc k) e h f = sets_in vs (set l i v) (suc i) j k (omega arith) (le_of_suc-le-suc h) (rw length-set (omega arith))

-- a copy into the part of l from i on is a run of stores
pub copied_is : (l ys vs : List ℕ) (i k : ℕ) → ys ≡ vs → k ≡ length vs → i + length vs ≤ length l → put_mid i k l ys ≡ sets l i vs
copied_is l ys vs i k same long fits =
    ap₂ (λ (bs : List ℕ) (n : ℕ). put_mid i n l bs) same long
    ∙ ap (λ (t : List ℕ). take i l ++ (vs ++ t)) (drop-drop (length vs) i l)
    ∙ sym (sets_is l i vs fits)

-- ---- a number's bytes, as std's `to_le_bytes` and `to_be_bytes` give them

pub le16_given : (n : ℕ) → to_le_bytes w16 (n % 65536) ≡ le16_bytes n
unfolding le16_bytes
le16_given n =
    let a : n % 65536 % 256 ≡ n % 256 = omega arith in
    let b : n % 65536 / 256 % 256 ≡ n / 256 % 256 = omega arith in cc

pub le32_given : (n : ℕ) → to_le_bytes w32 (n % 4294967296) ≡ le32_bytes n
unfolding le32_bytes
le32_given n =
    let a : n % 4294967296 % 256 ≡ n % 256 = omega arith in
    let b : n % 4294967296 / 256 % 256 ≡ n / 256 % 256 = omega arith in
    let c : n % 4294967296 / 65536 % 256 ≡ n / 65536 % 256 = omega arith in
    let d : n % 4294967296 / 16777216 % 256 ≡ n / 16777216 % 256 = omega arith in cc

pub be32_given : (n : ℕ) → to_be_bytes w32 (n % 4294967296) ≡ be32_bytes n
unfolding be32_bytes
be32_given n =
    let a : n % 4294967296 % 256 ≡ n % 256 = omega arith in
    let b : n % 4294967296 / 256 % 256 ≡ n / 256 % 256 = omega arith in
    let c : n % 4294967296 / 65536 % 256 ≡ n / 65536 % 256 = omega arith in
    let d : n % 4294967296 / 16777216 % 256 ≡ n / 16777216 % 256 = omega arith in cc

-- ---- a table of f's values that is filled from its front: one more, and the places behind it

pub table_more : (f : ℕ → ℕ) (l : List ℕ) (k v : ℕ) → k < length l → ((i : ℕ) → i < k → get_or l i 0 ≡ f i) → v ≡ f k
    → (i : ℕ) → i < k + 1 → get_or (set l k v) i 0 ≡ f i
table_more f l k v h so_far e i lt =
    by_cases (ℕ_discrete i k)
    (λ z. ap (λ (n : ℕ). get_or (set l k v) n 0) z ∙ get_or-set_same l k v 0 h ∙ e ∙ ap f (sym z))
    (λ z. get_or-set_other l k i v 0 z ∙ so_far i (omega arith))

pub table-behind : (f : ℕ → ℕ) (l : List ℕ) (k v : ℕ) → ((i : ℕ) → k ≤ i → get_or l i 0 ≡ f i) → (i : ℕ) → k + 1 ≤ i → get_or (set l k v) i 0 ≡ f i
table-behind f l k v rest i le = get_or-set_other l k i v 0 (λ z. omega arith) ∙ rest i (omega arith)
