-- Laws of the moves and the decode of a strip.
use Rattle.std.proofs.Common.{◌≡◌, ℕ, zero, suc, ◌+◌, ◌%◌, ◌^◌, ◌<◌, ◌≤◌, Bool, List, [], ◌∷◌, ◌++◌, replicate, sym, refl, ap, ◌∙◌, append_assoc, arith, le-leb}
use borrow.Author.Tests.{lt-leb}
use Rattle.strip.specs.Strip.{minus, Move, refuse, go, op_of, measured, move_of, Strip, refused, values, made_of, onto, prepend, decode}

-- what `wrapping_sub_u8` says is the difference modulo 256
pub minus_of : (a b r : ℕ) → b < 2 ^ 8 → r < 2 ^ 8 → (r + b) % 2 ^ 8 ≡ a → minus a b ≡ r
minus_of a b r hb hr e = omega arith

pub measured-fits : (k left c s : ℕ) (l : List Bool) → left ≤ k → measured k (go left c s l) ≡ go left c s l
measured-fits k left c s l h = rw (le-leb left k h)

pub measured-past : (k left c s : ℕ) (l : List Bool) → k < left → measured k (go left c s l) ≡ refuse 8
measured-past k left c s l h = rw (lt-leb left k h)

-- ---- the loop

pub prepend-none : (x : Strip) → x ≡ prepend [] x
prepend-none (refused n) = refl
prepend-none (values ys) = refl

pub prepend-onto : (xs : List ℕ) (c : ℕ) (x : Strip) → prepend xs (onto c x) ≡ prepend (xs ++ (c ∷ [])) x
prepend-onto xs c (refused n) = refl
prepend-onto xs c (values ys) = ap values (sym (append_assoc xs (c ∷ []) ys))

module _ (second : Bool) (w n k left c s : ℕ) (l : List Bool) (more : n ≡ suc k) where
  pub decode-go : (left' c' s' : ℕ) (l' : List Bool) → move_of second w k left c s l ≡ go left' c' s' l'
      → decode second w n left c s l ≡ onto c' (decode second w k left' c' s' l')
  unfolding decode
  decode-go left' c' s' l' e =
      ap (λ (m : ℕ). decode second w m left c s l) more
      ∙ ap (λ (q : Move). elim q as (λ _. Strip) [ refuse r ↦ refused r | go a b d f ↦ onto b (decode second w k a b d f) ]) e

  pub decode_stop : (r : ℕ) → move_of second w k left c s l ≡ refuse r → decode second w n left c s l ≡ refused r
  unfolding decode
  decode_stop r e =
      ap (λ (m : ℕ). decode second w m left c s l) more
      ∙ ap (λ (q : Move). elim q as (λ _. Strip) [ refuse r ↦ refused r | go a b d f ↦ onto b (decode second w k a b d f) ]) e

pub prepend-prepend : (xs ys : List ℕ) (x : Strip) → prepend xs (prepend ys x) ≡ prepend (xs ++ ys) x
prepend-prepend xs ys (refused n) = refl
prepend-prepend xs ys (values zs) = ap values (sym (append_assoc xs ys zs))

pub made-prepend : (xs : List ℕ) (y : Strip) → made_of (prepend xs y) ≡ made_of y
made-prepend xs (refused n) = refl
made-prepend xs (values ys) = refl

-- ---- pixels that are pending, and an operation that gives some

onto-prepend : (c : ℕ) (xs : List ℕ) (x : Strip) → onto c (prepend xs x) ≡ prepend (c ∷ xs) x
onto-prepend c xs (refused n) = refl
onto-prepend c xs (values ys) = refl

module _ (second : Bool) (w : ℕ) where
  pub decode-pending : (n k c s : ℕ) (l : List Bool) → decode second w (n + k) n c s l ≡ prepend (replicate n c) (decode second w k 0 c s l)
  decode-pending zero k c s l = let e : 0 + k ≡ k = omega arith in ap (λ (j : ℕ). decode second w j 0 c s l) e ∙ prepend-none (decode second w k 0 c s l)
  decode-pending (suc n) k c s l =
      let e : suc n + k ≡ suc (n + k) = omega arith in
      decode-go second w (suc n + k) (n + k) (suc n) c s l e n c s l refl ∙ ap (onto c) (decode-pending n k c s l) ∙ onto-prepend c (replicate n c)
      (decode second w k 0 c s l)

  module _ (c s : ℕ) (l : List Bool) where
    pub decode_op : (n k c' s' : ℕ) (l' : List Bool) → op_of second w c s l ≡ go n c' s' l'
        → decode second w (suc (n + k)) 0 c s l ≡ prepend (replicate (suc n) c') (decode second w k 0 c' s' l')
    decode_op n k c' s' l' e =
        decode-go second w (suc (n + k)) (n + k) 0 c s l refl n c' s' l' (ap (measured (n + k)) e ∙ measured-fits (n + k) n c' s' l' (omega arith))
        ∙ ap (onto c') (decode-pending n k c' s' l')
        ∙ onto-prepend c' (replicate n c') (decode second w k 0 c' s' l')

    pub decode-past : (n k c' s' : ℕ) (l' : List Bool) → op_of second w c s l ≡ go n c' s' l' → k < n → decode second w (suc k) 0 c s l ≡ refused 8
    decode-past n k c' s' l' e h =
        decode_stop second w (suc k) k 0 c s l refl 8 (ap (measured k) e ∙ measured-past k n c' s' l' h)

    pub decode-refuse : (r k : ℕ) → op_of second w c s l ≡ refuse r → decode second w (suc k) 0 c s l ≡ refused r
    decode-refuse r k e = decode_stop second w (suc k) k 0 c s l refl r (ap (measured k) e)
