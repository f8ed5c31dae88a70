-- Laws of a walk from one block of a tag to the next: the list of such blocks from a place on, by its first.
use Rattle.std.proofs.Common.{◌≡◌, refl, sym, List, [], ◌∷◌, Bool, true, false, ℕ, zero, suc, ◌+◌, ◌-◌, ◌≤◌, ◌<◌, not-suc-le-zero, le_of_suc-le-suc, arith, eqb, get_or, length, eqb-true, Option, Some, None}
use mathlib.Core.Path.{subst⁻¹}
use borrow.Author.Tests.{eqb-false}
use Rattle.number.specs.Number.{be32}
use Rattle.block.specs.Tree.{block_end, tagged, find_tag, is_at}
use Rattle.block.proofs.Laws.{end_in, end_none, tagged_stop, tagged_here, tagged-on}

module _ (t : ℕ) (s : List ℕ) (e : ℕ) where
  -- a block is there, and those of the tag from its end on follow it
  abbrev Follows : Option (ℕ × ℕ) → List (Option (ℕ × ℕ)) → Type 0
  Follows (Some (b, z)) l = l ≡ tagged t s z e
  Follows None l = ⊥

  abbrev Chained : List (Option (ℕ × ℕ)) → Type 0
  Chained [] = Unit {0}
  Chained (f ∷ l) = Follows f l × Chained l

  chained : (n a : ℕ) → e ≤ a + n → Chained (tagged t s a e)
  chained zero a h = subst⁻¹ Chained (tagged_stop t s e a (block_end s a e) refl (end_none s a e (omega arith))) tt
  chained (suc n) a h = go (block_end s a e) refl (λ z k. chained n z k)
    where
      at : (z : ℕ) → z ≡ block_end s a e → (z ≡ 0 → ⊥) → (q : Bool) → eqb (be32 s a) t ≡ q → Chained (tagged t s z e) → Chained (tagged t s a e)
      at z p f true g ih = subst⁻¹ Chained (tagged_here t s e a z p f (be32 s a) refl (eqb-true (be32 s a) t g)) (refl, ih)
      at z p f false g ih = subst⁻¹ Chained (tagged-on t s e a z p f (be32 s a) refl (eqb-false (be32 s a) t g)) ih

      go : (z : ℕ) → block_end s a e ≡ z → ((z : ℕ) → e ≤ z + n → Chained (tagged t s z e)) → Chained (tagged t s a e)
      go zero p ih = subst⁻¹ Chained (tagged_stop t s e a 0 (sym p) refl) tt
      go (suc z) p ih =
          let i = end_in s a e (λ q. omega (arith, p, q)) in
          at (suc z) (sym p) (λ q. omega arith) (eqb (be32 s a) t) refl (ih (suc z) (omega (arith, i, p)))

  found_first : (l : List (Option (ℕ × ℕ))) → Chained l → (b z : ℕ) → Some (b, z) ≡ get_or l 0 None → l ≡ Some (b, z) ∷ tagged t s z e
  found_first [] k b z h = cc
  found_first (Some (b', z') ∷ l) k b z h =
      let rest : l ≡ tagged t s z' e = k.0 in
      let ends : ◌≡◌ {A = ℕ × ℕ} (b, z) (b', z') = cc in
      let last : ◌≡◌ {A = ℕ} z z' = λ i. (ends i).1 in
      cc
  found_first (None ∷ l) k b z h = absurd k.0

  none_first : (l : List (Option (ℕ × ℕ))) → Chained l → None ≡ get_or l 0 None → l ≡ []
  none_first [] k h = refl
  none_first (Some (b, z) ∷ l) k h = cc
  none_first (None ∷ l) k h = absurd k.0

  each-found : (l : List (Option (ℕ × ℕ))) → Chained l → (k : ℕ) → k < length l → is_at (get_or l k None) ≡ true
  each-found [] c k h = absurd (not-suc-le-zero h)
  each-found (Some (b, z) ∷ l) c zero h = refl
  each-found (None ∷ l) c zero h = absurd c.0
  each-found (f ∷ l) c (suc k) h = each-found l c.1 k (le_of_suc-le-suc h)

  module _ (a : ℕ) where
    pub walk-found : (b z : ℕ) → Some (b, z) ≡ find_tag t s a e → tagged t s a e ≡ Some (b, z) ∷ tagged t s z e
    walk-found b z h = found_first (tagged t s a e) (chained (e - a) a (omega arith)) b z h

    pub walk_none : None ≡ find_tag t s a e → tagged t s a e ≡ []
    walk_none h = none_first (tagged t s a e) (chained (e - a) a (omega arith)) h

    -- each of them is a block
    pub walk-each : (k : ℕ) → k < length (tagged t s a e) → is_at (get_or (tagged t s a e) k None) ≡ true
    walk-each k h = each-found (tagged t s a e) (chained (e - a) a (omega arith)) k h
