-- Blocks that stand one after another in a list: what the tests and the searches of the tree find of them, for any number of blocks.
use Rattle.std.proofs.Common.{◌≡◌, refl, sym, ap, ◌∙◌, List, [], ◌∷◌, true, false, ℕ, zero, suc, ◌+◌, ◌-◌, ◌≤◌, ◌<◌, add-zero, arith, eq-eqb, get_or, Option, Some, None}
use Rattle.number.specs.Number.{be32, be32_bytes}
use Rattle.block.specs.Tag.{container}
use Rattle.block.specs.Tree.{block_end, block_ok, list_ok, tagged, find_tag}
use Rattle.block.proofs.Laws.{end_none, end_at, list_stop, list_on, block_in, block_leaf, tagged_stop, tagged_here, tagged-on}

-- a block with the tag t stands in [a, z) of s
pub record Stands (t : ℕ) (s : List ℕ) (a z : ℕ) : Type 0 where
  pub tag : be32 s a ≡ t
  pub size : be32 s (a + 4) ≡ z - a
  pub headed : a + 8 ≤ z
  pub kind : container s a ≡ container (be32_bytes t) 0

module _ (t : ℕ) (s : List ℕ) (a z : ℕ) (b : Stands t s a z) where
  pub stands_end : (e : ℕ) → z ≤ e → z ≡ block_end s a e
  stands_end e le =
      let h = b.headed in
      let whole : a + (z - a) ≡ z = omega arith in
      sym whole ∙ end_at s a e (z - a) (sym b.size) (omega arith) (omega arith) (omega arith)

  some : z ≡ 0 → ⊥
  some e = omega (arith, b.headed, e)

  -- a block that holds no blocks, and one that does
  pub leaf_right : (d : ℕ) → container (be32_bytes t) 0 ≡ false → block_ok (suc d) s a z ≡ true
  leaf_right d leaf = sym (block_leaf s a z (suc d) (container s a) (λ e. omega (arith, e)) refl (b.kind ∙ leaf))

  pub container-right : (d : ℕ) → container (be32_bytes t) 0 ≡ true → list_ok d s (a + 8) z ≡ true → block_ok (suc d) s a z ≡ true
  container-right d holds right =
      let same : suc d - 1 ≡ d = omega arith in
      sym (block_in s a z (suc d) (container s a) (λ e. omega (arith, e)) refl (b.kind ∙ holds)) ∙ ap (λ (k : ℕ). list_ok k s (a + 8) z) same ∙ right

-- blocks 0 to n - 1: block j has the tag t j, and stands in [at j, at (j + 1))
module _ (s : List ℕ) (n : ℕ) (t at : ℕ → ℕ) (stands : (j : ℕ) → j < n → Stands (t j) s (at j) (at (suc j))) where
  -- with m blocks still to come
  rising : (m j : ℕ) → j + m ≡ n → at j ≤ at n
  rising zero j e = omega (arith, ap at (sym (add-zero j) ∙ e))
  rising (suc m) j e = omega (arith, (stands j (omega arith)).headed, rising m (suc j) (omega arith))

  ends : (j : ℕ) → j < n → at (suc j) ≡ block_end s (at j) (at n)
  ends j lt = stands_end (t j) s (at j) (at (suc j)) (stands j lt) (at n) (rising (n - suc j) (suc j) (omega arith))

  none_left : (j : ℕ) → j ≡ n → 0 ≡ block_end s (at j) (at n)
  none_left j e = sym (end_none s (at j) (at n) (omega (arith, ap at e)))

  -- they fill the list, and are all right
  module _ (d : ℕ) (right : (j : ℕ) → j < n → block_ok d s (at j) (at (suc j)) ≡ true) where
    list_from : (m j : ℕ) → j + m ≡ n → list_ok d s (at j) (at n) ≡ true
    list_from zero j e =
        let last : j ≡ n = sym (add-zero j) ∙ e in
        sym (list_stop d s (at n) (at j) 0 (none_left j last) refl) ∙ eq-eqb (at j) (at n) (ap at last)
    list_from (suc m) j e =
        let lt : j < n = omega arith in
        sym (list_on d s (at n) (at j) (at (suc j)) (ends j lt) (block_ok d s (at j) (at (suc j))) refl (some (t j) s (at j) (at (suc j)) (stands j lt))
        (right j lt))
        ∙ list_from m (suc j) (omega arith)

    pub list_right : list_ok d s (at 0) (at n) ≡ true
    list_right = list_from n 0 (omega arith)

  -- block j is passed over where another tag is looked for
  passed : (u j : ℕ) (lt : j < n) → (t j ≡ u → ⊥) → tagged u s (at j) (at n) ≡ tagged u s (at (suc j)) (at n)
  passed u j lt other =
      tagged-on u s (at n) (at j) (at (suc j)) (ends j lt) (some (t j) s (at j) (at (suc j)) (stands j lt)) (be32 s (at j)) refl
      (λ e. other (sym (stands j lt).tag ∙ e))

  -- no block has the tag u
  module _ (u : ℕ) (others : (j : ℕ) → j < n → t j ≡ u → ⊥) where
    none_from : (m j : ℕ) → j + m ≡ n → tagged u s (at j) (at n) ≡ []
    none_from zero j e = tagged_stop u s (at n) (at j) 0 (none_left j (sym (add-zero j) ∙ e)) refl
    none_from (suc m) j e = passed u j (omega arith) (others j (omega arith)) ∙ none_from m (suc j) (omega arith)

    pub none-tagged : tagged u s (at 0) (at n) ≡ []
    none-tagged = none_from n 0 (omega arith)

  -- block k is the first with its tag
  module _ (k : ℕ) (lt : k < n) (first : (j : ℕ) → j < k → t j ≡ t k → ⊥) where
    here : tagged (t k) s (at k) (at n) ≡ Some (at k, at (suc k)) ∷ tagged (t k) s (at (suc k)) (at n)
    here =
        tagged_here (t k) s (at n) (at k) (at (suc k)) (ends k lt) (some (t k) s (at k) (at (suc k)) (stands k lt)) (be32 s (at k)) refl (stands k lt).tag

    find_from : (m j : ℕ) → j + m ≡ k → find_tag (t k) s (at j) (at n) ≡ Some (at k, at (suc k))
    find_from zero j e =
        let same : j ≡ k = sym (add-zero j) ∙ e in
        ap (λ (i : ℕ). find_tag (t k) s (at i) (at n)) same ∙ ap (λ (l : List (Option (ℕ × ℕ))). get_or l 0 None) here
    find_from (suc m) j e =
        ap (λ (l : List (Option (ℕ × ℕ))). get_or l 0 None) (passed (t k) j (omega arith) (first j (omega arith))) ∙ find_from m (suc j) (omega arith)

    pub find_first : find_tag (t k) s (at 0) (at n) ≡ Some (at k, at (suc k))
    find_first = find_from k 0 (omega arith)
