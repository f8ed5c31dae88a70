-- Laws of a shown list as numbers: one entry more.
use Rattle.std.proofs.Common.{◌≡◌, refl, sym, ap, ap₂, ◌∙◌, List, [], ◌∷◌, ◌++◌, ℕ, zero, suc, ◌+◌, ◌*◌, ◌≤◌, ◌<◌, add-one, arith, length, get_or, set, take, length-set, get_or-set_same, get_or-set_other, take-suc}
use Rattle.scene.specs.declared.Entry.{Entry}
use Rattle.layers.specs.Decoded.{entry_at, entries_of}

abbrev pub none : Entry
none = record { object = 0; state = 0; x = 0; y = 0 }

-- four numbers from `at` on
abbrev pub put4 : List ℕ → ℕ → Entry → List ℕ
put4 l at e = set (set (set (set l at e.object) (at + 1) e.state) (at + 2) e.x) (at + 3) e.y

module _ (l : List ℕ) (at : ℕ) (e : Entry) (room : at + 4 ≤ length l) where
  other : (j : ℕ) → j < at → get_or (put4 l at e) j 0 ≡ get_or l j 0
  other j lt =
      get_or-set_other (set (set (set l at e.object) (at + 1) e.state) (at + 2) e.x) (at + 3) j e.y 0 (λ q. omega arith)
      ∙ get_or-set_other (set (set l at e.object) (at + 1) e.state) (at + 2) j e.x 0 (λ q. omega arith)
      ∙ get_or-set_other (set l at e.object) (at + 1) j e.state 0 (λ q. omega arith)
      ∙ get_or-set_other l at j e.object 0 (λ q. omega arith)

  at_3 : get_or (put4 l at e) (at + 3) 0 ≡ e.y
  at_3 = get_or-set_same (set (set (set l at e.object) (at + 1) e.state) (at + 2) e.x) (at + 3) e.y 0 (simp length-set (omega arith))

  at_2 : get_or (put4 l at e) (at + 2) 0 ≡ e.x
  at_2 =
      get_or-set_other (set (set (set l at e.object) (at + 1) e.state) (at + 2) e.x) (at + 3) (at + 2) e.y 0 (λ q. omega arith)
      ∙ get_or-set_same (set (set l at e.object) (at + 1) e.state) (at + 2) e.x 0 (simp length-set (omega arith))

  at_1 : get_or (put4 l at e) (at + 1) 0 ≡ e.state
  at_1 =
      get_or-set_other (set (set (set l at e.object) (at + 1) e.state) (at + 2) e.x) (at + 3) (at + 1) e.y 0 (λ q. omega arith)
      ∙ get_or-set_other (set (set l at e.object) (at + 1) e.state) (at + 2) (at + 1) e.x 0 (λ q. omega arith)
      ∙ get_or-set_same (set l at e.object) (at + 1) e.state 0 (simp length-set (omega arith))

  at_0 : get_or (put4 l at e) at 0 ≡ e.object
  at_0 =
      get_or-set_other (set (set (set l at e.object) (at + 1) e.state) (at + 2) e.x) (at + 3) at e.y 0 (λ q. omega arith)
      ∙ get_or-set_other (set (set l at e.object) (at + 1) e.state) (at + 2) at e.x 0 (λ q. omega arith)
      ∙ get_or-set_other (set l at e.object) (at + 1) at e.state 0 (λ q. omega arith)
      ∙ get_or-set_same l at e.object 0 (omega arith)

entry_here : (l : List ℕ) (i : ℕ) (e : Entry) → 4 * i + 4 ≤ length l → entry_at (put4 l (4 * i) e) i ≡ e
unfolding entry_at
entry_here l i e room =
    λ k. record {
      object = at_0 l (4 * i) e room k;
      state = at_1 l (4 * i) e room k;
      x = at_2 l (4 * i) e room k;
      y = at_3 l (4 * i) e room k;
    }

-- the entries before a place are those of any list that agrees before it
entries-same : (a b : List ℕ) (n : ℕ) → ((j : ℕ) → j < 4 * n → get_or a j 0 ≡ get_or b j 0) → entries_of a n ≡ entries_of b n
unfolding entries_of entry_at
entries-same a b zero h = refl
entries-same a b (suc n) h =
    ap₂ (λ (es : List Entry) (e : Entry). es ++ (e ∷ [])) (entries-same a b n (λ j lt. h j (omega arith)))
    (λ k. record {
      object = h (4 * n) (omega arith) k;
      state = h (4 * n + 1) (omega arith) k;
      x = h (4 * n + 2) (omega arith) k;
      y = h (4 * n + 3) (omega arith) k;
    })

pub flat_more : (l : List ℕ) (es : List Entry) (i : ℕ) → i < length es → 4 * i + 4 ≤ length l → entries_of l i ≡ take i es
    → entries_of (put4 l (4 * i) (get_or es i none)) (i + 1) ≡ take (i + 1) es
unfolding entries_of
flat_more l es i lt room so =
    let l' = put4 l (4 * i) (get_or es i none) in
    ap (entries_of l') (add-one i)
    ∙ ap₂ (λ (p : List Entry) (e : Entry). p ++ (e ∷ []))
    (entries-same l' l i (other l (4 * i) (get_or es i none) room) ∙ so)
    (entry_here l i (get_or es i none) room)
    ∙ sym (take-suc es i none lt) ∙ ap (λ (k : ℕ). take k es) (sym (add-one i))
