-- Laws of the rows: how many bytes they take, and how they are stored. Assumes nothing.
use Rattle.std.proofs.Common.{Bool, true, false, ℕ, ◌%◌, zero, suc, ◌+◌, ◌*◌, ◌/◌, ◌^◌, ◌≤◌, ◌<◌, ◌≡◌, refl, sym, ap, ap₂, ◌∙◌, cond, List, [], ◌∷◌, ◌++◌, append_assoc, add-one, arith, length, get_or, take, drop, replicate, length-append, take-append-drop, pow_mono, take_all, get_or-append-add, Option, Some, Result, Ok, Err}
use mathlib.Core.Logic.{by_cases}
use native.Mathlib.Decide.{ℕ_discrete}
use lib.ListN.{get_or-replicate, get_or-append}
use lib.Seq.{sets, sets-eq}
use Rattle.number.specs.Number.{le16_bytes, le32_bytes}
use Rattle.number.specs.Buffer.{over}
use Rattle.number.proofs.StoreLaws.{sets-append, sets_is}
use Rattle.room.specs.declared.Room.{Room}
use Rattle.room.proofs.TestLaws.{test-passes, flags_long}
use Rattle.objects.specs.Object.{block_or_absent, object_block, header_in, header_bytes}
use Rattle.objects.specs.declared.Part.{Part}
use Rattle.image.specs.Image.{object_count, drawable}
use Rattle.image.proofs.CountLaws.{objects-counted}
use Rattle.object_list.specs.List.{header_part, name_part, state_bits, row_with, row_bytes, rows_to, list_test}

-- ---- the states

pub bits-start : (s : List ℕ) (o : ℕ) → 0 ≡ state_bits s o 0
unfolding state_bits
bits-start s o = refl

pub bits-next : (s : List ℕ) (o n bits bit more : ℕ) → bits ≡ state_bits s o n → bit ≡ 2 ^ n → more ≡ cond (drawable s o (n + 1)) bit 0
    → bits + more ≡ state_bits s o (n + 1)
unfolding state_bits
bits-next s o n bits bit more e p q = rw (e, q, p, add-one n)

pub bit_next : (n bit : ℕ) → bit ≡ 2 ^ n → 2 * bit ≡ 2 ^ (n + 1)
bit_next n bit e = rw (e, add-one n) (omega arith)

pub bit_few : (n bit : ℕ) → bit ≡ 2 ^ n → n ≤ 9 → bit ≤ 512
bit_few n bit e le = rw e (pow_mono {i = n} {j = 9} le)

-- one state more, with what the code adds for it
pub bits_more : (s : List ℕ) (o n bits : ℕ) → n < 9 → (bits ≡ state_bits s o n) × (bits + 1 ≤ 2 ^ n) → (set : Bool) → set ≡ drawable s o (n + 1) → (more : ℕ)
    → more ≡ cond set (bits + 1 * 2 ^ n % 18446744073709551616) bits → (more ≡ state_bits s o (n + 1)) × (more + 1 ≤ 2 ^ (n + 1))
bits_more s o n bits lt now true can more e =
    let few = bit_few n (2 ^ n) refl (omega arith) in
    let next = bit_next n (2 ^ n) refl in
    let added : more ≡ bits + 2 ^ n = omega (arith, e, few) in
    (added ∙ bits-next s o n bits (2 ^ n) (2 ^ n) now.0 refl (rw (← can)), omega (arith, added, next, now.1))
bits_more s o n bits lt now false can more e =
    let next = bit_next n (2 ^ n) refl in
    let same : more ≡ bits + 0 = omega (arith, e) in
    (same ∙ bits-next s o n bits (2 ^ n) 0 now.0 refl (rw (← can)), omega (arith, same, next, now.1))

-- ---- one row

pub header-long : (s : List ℕ) (q : Result ℕ ℕ) → length (header_part s q) ≡ 16
unfolding header_bytes
header-long s (Ok p) = refl
header-long s (Err n) = refl

-- a whole list copied, told by what stands before it and behind it
pub copied : (src l l' : List ℕ) (at n : ℕ) → length src ≡ n → at + n ≤ length l → take (at + n) l' ≡ take at l ++ take n (drop 0 src)
    → drop (at + n) l' ≡ drop (at + n) l → l' ≡ sets l at src
copied src l l' at n len fits front back =
    sym (take-append-drop (at + n) l')
    ∙ ap₂ ◌++◌ (front ∙ ap (λ (vs : List ℕ). take at l ++ vs) (take_all n src (omega arith))) back
    ∙ ap (λ (k : ℕ). take at l ++ src ++ drop (at + k) l) (sym len)
    ∙ sym (sets-eq src l at (rw len fits))

-- a run behind another
next_put : (xs ys l₀ l₁ l₂ : List ℕ) (at n : ℕ) → n ≡ at + length xs → l₁ ≡ sets l₀ at xs → l₂ ≡ sets l₁ n ys → l₂ ≡ sets l₀ at (xs ++ ys)
next_put xs ys l₀ l₁ l₂ at n e was put = put ∙ ap₂ (λ (l : List ℕ) (k : ℕ). sets l k ys) was e ∙ sets-append xs ys l₀ at

-- a row's parts, one behind the other
module _ (header : List ℕ) (long : length header ≡ 16) (name : Part) (states : ℕ) where
  abbrev second : List ℕ
  second = header ++ le32_bytes name.start

  abbrev third : List ℕ
  third = second ++ le32_bytes name.count

  abbrev fourth : List ℕ
  fourth = third ++ le16_bytes states

  second-long : length second ≡ 20
  unfolding le32_bytes
  second-long = omega (arith, length-append header (le32_bytes name.start))

  third_long : length third ≡ 24
  unfolding le32_bytes
  third_long = omega (arith, length-append second (le32_bytes name.count), second-long)

  fourth_long : length fourth ≡ 26
  unfolding le16_bytes
  fourth_long = omega (arith, length-append third (le16_bytes states), third_long)

  all-long : length (fourth ++ replicate 6 0) ≡ 32
  all-long = omega (arith, length-append fourth (replicate 6 0), fourth_long)

  parts_put : (at : ℕ) (l₀ l₁ l₂ l₃ l₄ l₅ l₆ : List ℕ) → l₁ ≡ sets l₀ at header → l₂ ≡ sets l₁ (at + 16) (le32_bytes name.start)
      → l₃ ≡ sets l₂ (at + 20) (le32_bytes name.count) → l₄ ≡ sets l₃ (at + 24) (le16_bytes states)
      → l₅ ≡ sets l₄ (at + 26) (0 ∷ 0 ∷ []) → l₆ ≡ sets l₅ (at + 28) (0 ∷ 0 ∷ 0 ∷ 0 ∷ []) → l₆ ≡ sets l₀ at (fourth ++ replicate 6 0)
  parts_put at l₀ l₁ l₂ l₃ l₄ l₅ l₆ p₁ p₂ p₃ p₄ p₅ p₆ =
      let q₂ = next_put header (le32_bytes name.start) l₀ l₁ l₂ at (at + 16) (omega arith) p₁ p₂ in
      let q₃ = next_put second (le32_bytes name.count) l₀ l₂ l₃ at (at + 20) (omega (arith, second-long)) q₂ p₃ in
      let q₄ = next_put third (le16_bytes states) l₀ l₃ l₄ at (at + 24) (omega (arith, third_long)) q₃ p₄ in
      let q₅ = next_put fourth (0 ∷ 0 ∷ []) l₀ l₄ l₅ at (at + 26) (omega (arith, fourth_long)) q₄ p₅ in
      let last : length (fourth ++ (0 ∷ 0 ∷ [])) ≡ 28 = omega (arith, length-append fourth (0 ∷ 0 ∷ []), fourth_long) in
      next_put (fourth ++ (0 ∷ 0 ∷ [])) (0 ∷ 0 ∷ 0 ∷ 0 ∷ []) l₀ l₅ l₆ at (at + 28) (omega (arith, last)) q₅ p₆
      ∙ ap (sets l₀ at) (append_assoc fourth (0 ∷ 0 ∷ []) (0 ∷ 0 ∷ 0 ∷ 0 ∷ []))

module _ (s : List ℕ) (block : Option (ℕ × ℕ)) (states : ℕ) where
  abbrev header_here : List ℕ
  header_here = header_part s (header_in s (block_or_absent block))

  pub row-long : length (row_with s block states) ≡ 32
  unfolding row_with
  row-long = all-long header_here (header-long s (header_in s (block_or_absent block))) (name_part s block) states

  -- the row is stored part by part
  pub row_put : (header : List ℕ) (name : Part) → header ≡ header_here → name ≡ name_part s block → (at : ℕ) (l₀ l₁ l₂ l₃ l₄ l₅ l₆ : List ℕ)
      → l₁ ≡ sets l₀ at header → l₂ ≡ sets l₁ (at + 16) (le32_bytes name.start) → l₃ ≡ sets l₂ (at + 20) (le32_bytes name.count)
      → l₄ ≡ sets l₃ (at + 24) (le16_bytes states) → l₅ ≡ sets l₄ (at + 26) (0 ∷ 0 ∷ []) → l₆ ≡ sets l₅ (at + 28) (0 ∷ 0 ∷ 0 ∷ 0 ∷ [])
      → l₆ ≡ sets l₀ at (row_with s block states)
  unfolding row_with
  row_put header name e f at l₀ l₁ l₂ l₃ l₄ l₅ l₆ p₁ p₂ p₃ p₄ p₅ p₆ =
      parts_put header (ap length e ∙ header-long s (header_in s (block_or_absent block))) name states at l₀ l₁ l₂ l₃ l₄ l₅ l₆ p₁ p₂ p₃ p₄ p₅ p₆
      ∙ (λ i. sets l₀ at (e i ++ le32_bytes (f i).start ++ le32_bytes (f i).count ++ le16_bytes states ++ replicate 6 0))

-- ---- the rows

module _ (s : List ℕ) where
  pub rows_long : (n : ℕ) → length (rows_to s n) ≡ 32 * n
  unfolding rows_to
  rows_long zero = refl
  rows_long (suc n) =
      omega (arith, length-append (rows_to s n) (row_bytes s (suc n)), rows_long n, row-long s (object_block s (suc n)) (state_bits s (suc n) 9))

  pub rows_start : (l : List ℕ) → l ≡ sets l 0 (rows_to s 0)
  unfolding rows_to
  rows_start l = refl

  -- one object more
  pub rows_more : (n b z states : ℕ) (l₀ l l' : List ℕ) → Some (b, z) ≡ object_block s (n + 1) → states ≡ state_bits s (n + 1) 9 → l ≡ sets l₀ 0 (rows_to s n)
      → l' ≡ sets l (32 * n) (row_with s (Some (b, z)) states) → l' ≡ sets l₀ 0 (rows_to s (n + 1))
  unfolding rows_to
  rows_more n b z states l₀ l l' block bits was put =
      let own : l' ≡ sets l (32 * n) (row_bytes s (n + 1)) = rw (← block, ← bits) put in
      let here : 32 * n ≡ 0 + length (rows_to s n) = omega (arith, rows_long n) in
      rw (add-one n) (next_put (rows_to s n) (row_bytes s (suc n)) l₀ l l' 0 (32 * n) here was (rw (add-one n) at own))

  pub rows-over : (n : ℕ) (l : List ℕ) → 32 * n ≤ length l → sets l 0 (rows_to s n) ≡ over (rows_to s n) l
  unfolding over
  rows-over n l fits =
      let none : 0 + length (rows_to s n) ≡ length (rows_to s n) = omega arith in
      sets_is l 0 (rows_to s n) (omega (arith, rows_long n)) ∙ rw none

-- ---- what a row's bytes are

behind : (xs ys : List ℕ) (n i : ℕ) → length xs ≡ n → get_or (xs ++ ys) (n + i) 0 ≡ get_or ys i 0
behind xs ys n i e = ap (λ (k : ℕ). get_or (xs ++ ys) (k + i) 0) (sym e) ∙ get_or-append-add xs ys i 0

-- of a header, a name's place and states
module _ (header : List ℕ) (long : length header ≡ 16) (name : Part) (states : ℕ) where
  abbrev whole : List ℕ
  whole = fourth header long name states ++ replicate 6 0

  in_fourth : (k : ℕ) → k < 26 → get_or whole k 0 ≡ get_or (fourth header long name states) k 0
  in_fourth k lt = get_or-append (fourth header long name states) (replicate 6 0) 0 k (omega (arith, fourth_long header long name states))

  in_third : (k : ℕ) → k < 24 → get_or whole k 0 ≡ get_or (third header long name states) k 0
  in_third k lt =
      in_fourth k (omega arith) ∙ get_or-append (third header long name states) (le16_bytes states) 0 k (omega (arith, third_long header long name states))

  in_second : (k : ℕ) → k < 20 → get_or whole k 0 ≡ get_or (second header long name states) k 0
  in_second k lt =
      in_third k (omega arith)
      ∙ get_or-append (second header long name states) (le32_bytes name.count) 0 k (omega (arith, second-long header long name states))

  header_byte : (k : ℕ) → k < 16 → get_or whole k 0 ≡ get_or header k 0
  header_byte k lt = in_second k (omega arith) ∙ get_or-append header (le32_bytes name.start) 0 k (omega arith)

  start_byte : (i : ℕ) → i < 4 → get_or whole (16 + i) 0 ≡ get_or (le32_bytes name.start) i 0
  start_byte i lt = in_second (16 + i) (omega arith) ∙ behind header (le32_bytes name.start) 16 i long

  count_byte : (i : ℕ) → i < 4 → get_or whole (20 + i) 0 ≡ get_or (le32_bytes name.count) i 0
  count_byte i lt =
      in_third (20 + i) (omega arith)
      ∙ behind (second header long name states) (le32_bytes name.count) 20 i (second-long header long name states)

  states_byte : (i : ℕ) → i < 2 → get_or whole (24 + i) 0 ≡ get_or (le16_bytes states) i 0
  states_byte i lt =
      in_fourth (24 + i) (omega arith) ∙ behind (third header long name states) (le16_bytes states) 24 i (third_long header long name states)

  zero_byte : (i : ℕ) → i < 6 → get_or whole (26 + i) 0 ≡ 0
  zero_byte i lt =
      behind (fourth header long name states) (replicate 6 0) 26 i (fourth_long header long name states) ∙ get_or-replicate 6 i 0 0 lt

module _ (s : List ℕ) (block : Option (ℕ × ℕ)) (states : ℕ) where
  abbrev here : List ℕ
  here = header_part s (header_in s (block_or_absent block))

  here_long : length here ≡ 16
  here_long = header-long s (header_in s (block_or_absent block))

  pub row-header : (k : ℕ) → k < 16 → get_or (row_with s block states) k 0 ≡ get_or here k 0
  unfolding row_with
  row-header = header_byte here here_long (name_part s block) states

  pub row-start : (i : ℕ) → i < 4 → get_or (row_with s block states) (16 + i) 0 ≡ get_or (le32_bytes (name_part s block).start) i 0
  unfolding row_with
  row-start = start_byte here here_long (name_part s block) states

  pub row_count : (i : ℕ) → i < 4 → get_or (row_with s block states) (20 + i) 0 ≡ get_or (le32_bytes (name_part s block).count) i 0
  unfolding row_with
  row_count = count_byte here here_long (name_part s block) states

  pub row-states : (i : ℕ) → i < 2 → get_or (row_with s block states) (24 + i) 0 ≡ get_or (le16_bytes states) i 0
  unfolding row_with
  row-states = states_byte here here_long (name_part s block) states

  pub row-zeros : (i : ℕ) → i < 6 → get_or (row_with s block states) (26 + i) 0 ≡ 0
  unfolding row_with
  row-zeros = zero_byte here here_long (name_part s block) states

-- the row of object k + 1 stands 32k bytes behind the rows' start
pub row_byte : (s : List ℕ) (n : ℕ) (rest : List ℕ) (k j : ℕ) → k < n → j < 32 → get_or (rows_to s n ++ rest) (32 * k + j) 0 ≡ get_or (row_bytes s (suc k)) j 0
unfolding rows_to
row_byte s zero rest k j lt lj = absurd (omega arith)
row_byte s (suc n) rest k j lt lj =
    ap (λ (l : List ℕ). get_or l (32 * k + j) 0) (append_assoc (rows_to s n) (row_bytes s (suc n)) rest)
    ∙ by_cases (ℕ_discrete k n) newest (λ e. row_byte s n (row_bytes s (suc n) ++ rest) k j (omega (arith, e)) lj)
  where
    newest : k ≡ n → get_or (rows_to s n ++ (row_bytes s (suc n) ++ rest)) (32 * k + j) 0 ≡ get_or (row_bytes s (suc k)) j 0
    newest e =
        rw e
        (behind (rows_to s n) (row_bytes s (suc n) ++ rest) (32 * n) j (rows_long s n)
        ∙ get_or-append (row_bytes s (suc n)) rest 0 j (omega (arith, row-long s (object_block s (suc n)) (state_bits s (suc n) 9))))

-- ---- the call

-- what a test that passes says of the room and of what is lent
pub listed : (s lent rows : List ℕ) (r : Room) → Ok r ≡ list_test s lent rows
    → (16 ≤ length lent) × (32 * r.objects ≤ length rows) × (length s ≤ 1048576) × (r.objects ≤ 128) × (r.objects ≡ object_count s)
listed s lent rows r right =
    let passes = test-passes _ s r right in
    let long = flags_long 16 (length lent) (length rows / 32) r passes.enough in
    (long.0, omega (arith, long.1), passes.sound.small, passes.sound.counted, objects-counted s _ r right)
