-- Laws of runs of bytes stored in a buffer.
use Rattle.std.proofs.Common.{◌≡◌, refl, sym, ap, ◌∙◌, List, ◌∷◌, ◌++◌, ℕ, zero, suc, ◌+◌, ◌≤◌, arith, length, take, drop, set, replicate, take-append-drop, take-take, length-take-le, drop-drop, drop-set-lt}
use lib.Seq.{take-append-add}
use Rattle.number.specs.Buffer.{over}

-- what lies behind the byte stored, and behind a run, is as it was
pub drop_store : (out d : List ℕ) (i c : ℕ) → drop i out ≡ drop i d → drop (i + 1) (set out i c) ≡ drop (i + 1) d
drop_store out d i c e =
    drop-set-lt (i + 1) out i c (omega arith) ∙ sym (drop-drop 1 i out) ∙ ap (drop 1) e ∙ drop-drop 1 i d

pub drop_more : (out d : List ℕ) (i n : ℕ) → drop i out ≡ drop i d → drop (i + n) out ≡ drop (i + n) d
drop_more out d i n e = sym (drop-drop n i out) ∙ ap (drop n) e ∙ drop-drop n i d

-- copies stored further than they are wanted
pub fill_part : (out out' : List ℕ) (i n k c : ℕ) → i ≤ length out → k ≤ n
    → take (i + n) out' ≡ take i out ++ replicate n c → take (i + k) out' ≡ take i out ++ replicate k c
fill_part out out' i n k c h le e =
    let len : length (take i out) ≡ i = length-take-le i out h in
    sym (take-take (i + k) (i + n) out' (omega arith))
    ∙ ap (take (i + k)) e
    ∙ ap (λ (j : ℕ). take (j + k) (take i out ++ replicate n c)) (sym len)
    ∙ take-append-add (take i out) (replicate n c) k
    ∙ ap (λ (l : List ℕ). take i out ++ l) (front k n le)
  where
    front : (k n : ℕ) → k ≤ n → take k (replicate n c) ≡ replicate k c
    front zero n h = refl
    front (suc k) zero h = absurd (omega arith)
    front (suc k) (suc n) h = ap {B = List ℕ} (λ l. c ∷ l) (front k n (omega arith))

-- a buffer whose front is xs and whose rest stays
pub over_of : (xs out d : List ℕ) (n : ℕ) → length xs ≡ n → take n out ≡ xs → drop n out ≡ drop n d → out ≡ over xs d
unfolding over
over_of xs out d n len front back =
    sym (ap (λ (k : ℕ). xs ++ drop k d) len ∙ ap (λ (t : List ℕ). xs ++ t) (sym back) ∙ ap (λ (t : List ℕ). t ++ drop n out) (sym front) ∙ take-append-drop n
    out)
