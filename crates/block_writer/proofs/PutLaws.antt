-- Laws of a list stored over a part of another.
use Rattle.std.proofs.Common.{◌≡◌, sym, ap, ap₂, ◌∙◌, List, [], ◌∷◌, ◌++◌, append_assoc, append-nil, ℕ, zero, suc, ◌+◌, ◌-◌, ◌≤◌, suc-add, zero-add, arith, length, take, drop, length-append, length-drop, drop_of_length-le, take_all, drop-drop, take_at, drop_at, take-take, length-take-le}
use borrow.Rule.Slice.PartMut.{put_mid}
use lib.Seq.{sets, take-nil, take-append-le, drop-append-le}
use Rattle.number.proofs.StoreLaws.{sets_is}
use Rattle.number.specs.Buffer.{over}
use Rattle.strip_writer.proofs.BitWriterLaws.{further}

pub drop-take : (b m : ℕ) (l : List ℕ) → drop b (take (b + m) l) ≡ take m (drop b l)
drop-take zero m l = ap (λ (k : ℕ). take k l) (zero-add m)
drop-take (suc b) m [] = ap (λ (k : ℕ). drop (suc b) (take k [])) (suc-add b m) ∙ sym (take-nil m)
drop-take (suc b) m (x ∷ l) = ap (λ (k : ℕ). drop (suc b) (take k (x ∷ l))) (suc-add b m) ∙ drop-take b m l

module _ (d : List ℕ) (at : ℕ) (xs : List ℕ) (fits : at + length xs ≤ length d) where
  front : length (take at d) ≡ at
  front = length-take-le at d (omega arith)

  -- what lies behind xs
  abbrev behind : List ℕ
  behind = drop (at + length xs) d

  -- in two parts, cut behind xs
  cut : sets d at xs ≡ (take at d ++ xs) ++ behind
  cut = sets_is d at xs fits ∙ sym (append_assoc (take at d) xs behind)

  cut_at : length (take at d ++ xs) ≡ at + length xs
  cut_at = length-append (take at d) xs ∙ omega (arith, front)

  pub put_before : (k : ℕ) → k ≤ at → take k (sets d at xs) ≡ take k d
  put_before k le = ap (take k) (sets_is d at xs fits) ∙ take-append-le k (take at d) (xs ++ behind) (omega (arith, front)) ∙ take-take k at d le

  pub put_to : (k : ℕ) → k ≡ at + length xs → take k (sets d at xs) ≡ take at d ++ xs
  put_to k e = ap (take k) cut ∙ take_at (take at d ++ xs) behind k (cut_at ∙ sym e)

  put_end : drop (at + length xs) (sets d at xs) ≡ behind
  put_end = ap (drop (at + length xs)) cut ∙ drop_at (take at d ++ xs) behind (at + length xs) cut_at

  pub put_past : (k : ℕ) → at + length xs ≤ k → drop k (sets d at xs) ≡ drop k d
  put_past k le = further (sets d at xs) d k (at + length xs) le put_end

  pub put_tail : (b m : ℕ) → at ≡ b + m → drop b (sets d at xs) ≡ sets (drop b d) m xs
  put_tail b m e =
      let s : b + (m + length xs) ≡ at + length xs = omega arith in
      ap (drop b) (sets_is d at xs fits)
      ∙ drop-append-le b (take at d) (xs ++ behind) (omega (arith, front))
      ∙ ap₂ (λ (p q : List ℕ). p ++ (xs ++ q)) (ap (λ (k : ℕ). drop b (take k d)) e ∙ drop-take b m d)
      (ap (λ (k : ℕ). drop k d) (sym s) ∙ sym (drop-drop (m + length xs) b d))
      ∙ sym (sets_is (drop b d) m xs (omega (arith, length-drop b d)))

  -- the part of a buffer from `at` on was written over
  put_part : take at d ++ over xs (drop at d) ≡ sets d at xs
  unfolding over
  put_part = ap (λ (q : List ℕ). take at d ++ (xs ++ q)) (drop-drop (length xs) at d) ∙ sym (sets_is d at xs fits)

  -- the part from `at` to the end was lent, and came back with xs at its front
  pub put-mid : (part : List ℕ) → part ≡ over xs (take (length d - at) (drop at d)) → put_mid at (length d - at) d part ≡ sets d at xs
  put-mid part e =
      let len : length (drop at d) ≡ length d - at = length-drop at d in
      let all : take (length d - at) (drop at d) ≡ drop at d = take_all (length d - at) (drop at d) (omega arith) in
      let short : length (drop at d) ≤ length d - at = omega arith in
      let none : drop (length d - at) (drop at d) ≡ [] = drop_of_length-le (drop at d) short in
      ap₂ (λ (p q : List ℕ). take at d ++ (p ++ q)) (e ∙ ap (over xs) all) none
      ∙ ap (λ (p : List ℕ). take at d ++ p) (append-nil (over xs (drop at d)))
      ∙ put_part
