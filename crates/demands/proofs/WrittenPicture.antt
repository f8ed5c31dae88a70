-- The SMAP block and the blocks of planes 1 to n, one after another from `first` on: they fill their list, and each is found by its tag.
use Rattle.std.proofs.Common.{◌≡◌, refl, sym, ap, ◌∙◌, subst, true, false, List, ℕ, zero, suc, ◌+◌, ◌≤◌, ◌<◌, add-zero, arith, length, Some}
use Rattle.number.specs.Number.{be32_bytes}
use Rattle.block.specs.Tag.{container, tag-SMAP, tag-ZP}
use Rattle.block.specs.Tree.{block_ok, list_ok, find_tag}
use Rattle.block.proofs.ListLaws.{Stands, leaf_right, list_right, find_first}
use Rattle.demands.specs.Written.{concat_to}

-- none of them holds blocks
smap_kind : container (be32_bytes tag-SMAP) 0 ≡ false
unfolding container be32_bytes
smap_kind = refl

plane_kind : (k : ℕ) → k ≤ 4 → container (be32_bytes (tag-ZP k)) 0 ≡ false
unfolding container be32_bytes
plane_kind zero le = refl
plane_kind (suc zero) le = refl
plane_kind (suc (suc zero)) le = refl
plane_kind (suc (suc (suc zero))) le = refl
plane_kind (suc (suc (suc (suc zero)))) le = refl
plane_kind (suc (suc (suc (suc (suc k))))) le = absurd (omega arith)

module _ (s smap : List ℕ) (planes : ℕ → List ℕ) (n first : ℕ) (few : n ≤ 4) where
  -- where plane k + 1 starts
  abbrev pub plane_at : ℕ → ℕ
  plane_at k = first + length smap + length (concat_to planes k)

  abbrev tag_of : ℕ → ℕ
  tag_of zero = tag-SMAP
  tag_of (suc k) = tag-ZP (suc k)

  abbrev start_of : ℕ → ℕ
  start_of zero = first
  start_of (suc k) = plane_at k

  planes-start : plane_at 0 ≡ first + length smap
  unfolding concat_to
  planes-start = add-zero (first + length smap)

  module _ (background : Stands tag-SMAP s first (first + length smap))
      (each : (k : ℕ) → k < n → Stands (tag-ZP (suc k)) s (plane_at k) (plane_at (suc k))) where
    all_stand : (j : ℕ) → j < suc n → Stands (tag_of j) s (start_of j) (start_of (suc j))
    all_stand zero lt = subst (λ (z : ℕ). Stands tag-SMAP s first z) (sym planes-start) background
    all_stand (suc k) lt = each k (omega arith)

    -- their list, with d depths left below it
    pub pictures_fill : (d : ℕ) → list_ok (suc d) s first (plane_at n) ≡ true
    pictures_fill d = list_right s (suc n) tag_of start_of all_stand (suc d) right
      where
        right : (j : ℕ) → j < suc n → block_ok (suc d) s (start_of j) (start_of (suc j)) ≡ true
        right zero lt = leaf_right tag-SMAP s first (plane_at 0) (all_stand zero lt) d smap_kind
        right (suc k) lt =
            leaf_right (tag-ZP (suc k)) s (plane_at k) (plane_at (suc k)) (all_stand (suc k) lt) d (plane_kind (suc k) (omega arith))

    pub smap-found : find_tag tag-SMAP s first (plane_at n) ≡ Some (first, first + length smap)
    smap-found =
        find_first s (suc n) tag_of start_of all_stand 0 (omega arith) (λ j lt. absurd (omega arith)) ∙ ap (λ (z : ℕ). Some (first, z)) planes-start

    pub plane-found : (k : ℕ) → k < n → find_tag (tag-ZP (suc k)) s first (plane_at n) ≡ Some (plane_at k, plane_at (suc k))
    plane-found k lt = find_first s (suc n) tag_of start_of all_stand (suc k) (omega arith) others
      where
        others : (j : ℕ) → j < suc k → tag_of j ≡ tag-ZP (suc k) → ⊥
        others zero lt e = omega (arith, e)
        others (suc j) lt e = omega (arith, e)
