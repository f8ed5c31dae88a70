-- When a slice isn't one room (refusal 1): a list of blocks that isn't right has a place where no block stands, or a block at depth 7.
use Rattle.std.proofs.Common.{◌≡◌, refl, sym, ◌∙◌, subst, Bool, true, false, true≢false, List, ◌⊎◌, inl, inr, ◌↔◌, ℕ, zero, suc, ◌+◌, ◌-◌, ◌≤◌, ◌<◌, arith, eq-eqb, ne_eqb, leb, eqb, length}
use mathlib.Core.Logic.{by_cases}
use native.Mathlib.Decide.{ℕ_discrete}
use borrow.Author.Tests.{eqb-false}
use Rattle.number.specs.Number.{be32}
use Rattle.block.specs.Tag.{container, tag-ROOM}
use Rattle.block.specs.Tree.{block_end, block_ok, list_ok, well_formed}
use Rattle.block.proofs.Laws.{end_in, end_none, list_stop, list_on, list_off, block_deep, block_in, block_leaf}
use Rattle.demands.specs.RoomRefusals.{Stands, Goes, first, next, into, NotOneRoom}
use Rattle.demands.proofs.RefusalTests.{or_fails, not-up_to, differs, flat_sum, ◌then◌, same}

module _ (s : List ℕ) where
  abbrev NoBlock : Type 0
  NoBlock = (d : ℕ) × (a : ℕ) × (e : ℕ) × Goes s d a e × (block_end s a e ≡ 0) × (a ≡ e → ⊥)

  abbrev TooDeep : Type 0
  TooDeep = (a : ℕ) × (e : ℕ) × Goes s 7 a e × Stands s a e

  -- ---- a list that isn't right makes those that hold it wrong

  list_wrong : (m a e : ℕ) → Stands s a e → (q : Bool) → q ≡ block_ok m s a (block_end s a e) → (q ≡ false) ⊎ (list_ok m s (block_end s a e) e ≡ false)
      → list_ok m s a e ≡ false
  list_wrong m a e stands false ok w = sym (list_off m s e a (block_end s a e) refl false ok stands refl)
  list_wrong m a e stands true ok (inl w) = absurd (true≢false w)
  list_wrong m a e stands true ok (inr w) = sym (list_on m s e a (block_end s a e) refl true ok stands refl) ∙ w

  block_wrong : (m a z : ℕ) → container s a ≡ true → (0 < m → list_ok (m - 1) s (a + 8) z ≡ false) → block_ok m s a z ≡ false
  block_wrong m a z holds w =
      by_cases (ℕ_discrete m 0)
      (λ e. sym (block_deep s a z m e))
      (λ e. sym (block_in s a z m true e (sym holds) refl) ∙ w (omega (arith, e)))

  up : (d a e : ℕ) → Goes s d a e → list_ok (7 - d) s a e ≡ false → list_ok 5 s 8 (length s) ≡ false
  up d a e first w = w
  up d a e (next {a = b} before stands) w =
      up d b e before (list_wrong (7 - d) b e stands (block_ok (7 - d) s b (block_end s b e)) refl (inr w))
  up d a e (into {d = c} {a = b} {e = z} before stands holds) w =
      let one : 7 - d ≡ 7 - c - 1 = omega arith in
      up c b z before
      (list_wrong (7 - c) b z stands (block_ok (7 - c) s b (block_end s b z)) refl
      (inl (block_wrong (7 - c) b (block_end s b z) holds (λ some. subst (λ (m : ℕ). list_ok m s (b + 8) (block_end s b z) ≡ false) one w))))

  no_block : NoBlock → list_ok 5 s 8 (length s) ≡ false
  no_block (d, a, e, goes, none, other) = up d a e goes (sym (list_stop (7 - d) s e a 0 (sym none) refl) ∙ ne_eqb a e other)

  too_deep : TooDeep → list_ok 5 s 8 (length s) ≡ false
  too_deep (a, e, goes, stands) =
      up 7 a e goes (list_wrong 0 a e stands false (block_deep s a (block_end s a e) 0 refl) (inl refl))

  -- ---- and a list that isn't right has such a place

  abbrev Bad : Type 0
  Bad = NoBlock ⊎ TooDeep

  -- with m depths left: a block that isn't right has one
  abbrev Deeper : ℕ → Type 0
  Deeper m = (d a e : ℕ) → 7 ≡ m + d → Goes s d a e → Stands s a e → block_ok m s a (block_end s a e) ≡ false → Bad

  list_stops : (m d a e : ℕ) → Goes s d a e → list_ok m s a e ≡ false → block_end s a e ≡ 0 → Bad
  list_stops m d a e goes w none = inl (d, a, e, goes, none, eqb-false a e (list_stop m s e a 0 (sym none) refl ∙ w))

  list-goes : (m : ℕ) → Deeper m → (d a e : ℕ) → 7 ≡ m + d → Goes s d a e → list_ok m s a e ≡ false → Stands s a e
      → (Goes s d (block_end s a e) e → list_ok m s (block_end s a e) e ≡ false → Bad) → (q : Bool) → q ≡ block_ok m s a (block_end s a e) → Bad
  list-goes m deeper d a e depth goes w stands later false ok = deeper d a e depth goes stands (sym ok)
  list-goes m deeper d a e depth goes w stands later true ok = later (next goes stands) (list_on m s e a (block_end s a e) refl true ok stands refl ∙ w)

  list_bad : (m : ℕ) → Deeper m → (fuel d a e : ℕ) → e ≤ a + fuel → 7 ≡ m + d → Goes s d a e → list_ok m s a e ≡ false → Bad
  list_bad m deeper zero d a e le depth goes w = list_stops m d a e goes w (end_none s a e (omega arith))
  list_bad m deeper (suc fuel) d a e le depth goes w =
      by_cases (ℕ_discrete (block_end s a e) 0)
      (list_stops m d a e goes w)
      (λ stands.
      list-goes m deeper d a e depth goes w stands (list_bad m deeper fuel d (block_end s a e) e (omega (arith, (end_in s a e stands).0)) depth)
      (block_ok m s a (block_end s a e)) refl)

  block_bad : (m d a e : ℕ) → Deeper m → 7 ≡ suc m + d → Goes s d a e → Stands s a e → block_ok (suc m) s a (block_end s a e) ≡ false
      → (q : Bool) → q ≡ container s a → Bad
  block_bad m d a e deeper depth goes stands w false leaf =
      absurd (true≢false (block_leaf s a (block_end s a e) (suc m) false (λ z. omega arith) leaf refl ∙ w))
  block_bad m d a e deeper depth goes stands w true holds =
      let one : suc m - 1 ≡ m = omega arith in
      list_bad m deeper (block_end s a e) (suc d) (a + 8) (block_end s a e) (omega arith) (omega arith) (into goes stands (sym holds))
      (subst (λ (k : ℕ). list_ok k s (a + 8) (block_end s a e) ≡ false) one (block_in s a (block_end s a e) (suc m) true (λ z. omega arith) holds refl ∙ w))

  all_depths : (m : ℕ) → Deeper m
  all_depths zero d a e depth goes stands w = inr (a, e, subst (λ (k : ℕ). Goes s k a e) (let f : d ≡ 7 = omega arith in f) goes, stands)
  all_depths (suc m) d a e depth goes stands w = block_bad m d a e (all_depths m) depth goes stands w (container s a) refl

  tree_bad : list_ok 5 s 8 (length s) ≡ false → Bad
  tree_bad w = list_bad 5 (all_depths 5) (length s) 2 8 (length s) (omega arith) refl first w

  -- ---- the whole slice

  room-holds : be32 s 0 ≡ tag-ROOM → container s 0 ≡ true
  unfolding container
  room-holds e = rw (eq-eqb (be32 s 0) tag-ROOM e)

  root : be32 s 0 ≡ tag-ROOM → list_ok 5 s 8 (length s) ≡ block_ok 6 s 0 (length s)
  root e = block_in s 0 (length s) 6 true (λ z. omega arith) (sym (room-holds e)) refl

  -- where the tag is another, what is said of the tree doesn't matter
  abbrev Tagged : Type 0
  Tagged = be32 s 0 ≡ tag-ROOM

  unformed : (well_formed s ≡ false)
      ↔ ((1048576 < length s) ⊎ (length s < 8) ⊎ (Tagged → ⊥) ⊎ (block_end s 0 (length s) ≡ length s → ⊥) ⊎ (block_ok 6 s 0 (length s) ≡ false))
  unfolding well_formed
  unformed =
      or_fails _ (block_ok 6 s 0 (length s))
      (or_fails _ (eqb (block_end s 0 (length s)) (length s))
      (or_fails _ (eqb (be32 s 0) tag-ROOM)
      (or_fails (leb (length s) 1048576) (leb 8 (length s)) (not-up_to (length s) 1048576) (not-up_to 8 (length s)))
      (differs (be32 s 0) tag-ROOM))
      (differs (block_end s 0 (length s)) (length s)))
      same
      then flat_sum
      then flat_sum
      then flat_sum

  abbrev Small : Type 0
  Small = (1048576 < length s) ⊎ (length s < 8) ⊎ (Tagged → ⊥) ⊎ (block_end s 0 (length s) ≡ length s → ⊥) ⊎ (block_ok 6 s 0 (length s) ≡ false)

  there : Small → NotOneRoom s
  there (inl w) = inl w
  there (inr (inl w)) = inr (inl w)
  there (inr (inr (inl w))) = inr (inr (inl w))
  there (inr (inr (inr (inl w)))) = inr (inr (inr (inl w)))
  there (inr (inr (inr (inr w)))) =
      by_cases (ℕ_discrete (be32 s 0) tag-ROOM) (λ e. inr (inr (inr (inr (tree_bad (root e ∙ w)))))) (λ other. inr (inr (inl other)))

  tree : list_ok 5 s 8 (length s) ≡ false → Small
  tree w =
      by_cases (ℕ_discrete (be32 s 0) tag-ROOM) (λ e. inr (inr (inr (inr (sym (root e) ∙ w))))) (λ other. inr (inr (inl other)))

  back : NotOneRoom s → Small
  back (inl w) = inl w
  back (inr (inl w)) = inr (inl w)
  back (inr (inr (inl w))) = inr (inr (inl w))
  back (inr (inr (inr (inl w)))) = inr (inr (inr (inl w)))
  back (inr (inr (inr (inr (inl w))))) = tree (no_block w)
  back (inr (inr (inr (inr (inr w))))) = tree (too_deep w)

  pub not-one-room : (well_formed s ≡ false) ↔ NotOneRoom s
  not-one-room = unformed then (there, back)
