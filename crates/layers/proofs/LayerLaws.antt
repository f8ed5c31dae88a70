-- Laws of a strip rebuilt: the room's own bytes, then entries one over the other, then strip after strip. Assumes nothing.
use Rattle.std.proofs.Common.{◌≡◌, refl, sym, ap, ◌∙◌, Bool, true, false, ◌&&◌, List, [], ◌∷◌, ◌++◌, ℕ, ◌+◌, ◌≤◌, ◌<◌, add-one, arith, le-ltb, eqb-true, ltb, eqb, get_or}
use Rattle.grid.specs.Grid.{upd}
use Rattle.grid.proofs.Upd.{upd_ext, upd_then}
use Rattle.scene.specs.Painting.{Room, Layout, covers, layered, fresh_byte, new_byte, rebuilt_bytes}
use Rattle.scene.specs.declared.Entry.{Entry}
use Rattle.scene.proofs.Strips.{Local}
use Rattle.scene.proofs.Loops.{layered-more, rebuilt-none, rebuilt-alike, rebuilt-next, rebuilt-last}
use Rattle.layers.specs.Decoded.{entry_at, entries_of}
use Rattle.layers.specs.Layer.{strip_byte, over_byte}
use Rattle.layers.proofs.ByteLaws.{strip_ext, strip_then, strip-same}

module _ (lay : Layout) (k : ℕ) (l : List ℕ) where
  -- no entry
  pub over_none : l ≡ upd (over_byte lay [] k) l
  unfolding over_byte layered
  over_none = sym (strip-same lay.size lay.strip k (λ i old. old) l (λ i o e. refl))

  -- an entry that does not cover the strip
  pub over_off : (room : Room) → Local room lay → (e : Entry) → covers room e k ≡ false → l ≡ upd (over_byte lay (e ∷ []) k) l
  unfolding over_byte layered
  over_off room loc e off =
      sym (strip-same lay.size lay.strip k (λ i old. lay.over i e old) l (λ i o is. loc.off i e (ap (covers room e) is ∙ off) o))

  -- one entry that paints as f does
  pub over-one : (e : Entry) (f : ℕ → ℕ → ℕ) (px : List ℕ) → ((i o : ℕ) → i < lay.size → lay.strip i ≡ k → f i o ≡ lay.over i e o)
      → px ≡ upd (strip_byte lay.size lay.strip k f) l → px ≡ upd (over_byte lay (e ∷ []) k) l
  unfolding over_byte layered
  over-one e f px same so =
      so
      ∙ upd_ext _ _ l
      (λ i lt. strip_ext lay.size lay.strip k f (λ j old. lay.over j e old) i (get_or l i 0) (same i (get_or l i 0)))

  -- one entry more
  pub over-more : (es : List Entry) (e : Entry) (px qx : List ℕ) → px ≡ upd (over_byte lay es k) l → qx ≡ upd (over_byte lay (e ∷ []) k) px
      → qx ≡ upd (over_byte lay (es ++ e ∷ []) k) l
  unfolding over_byte layered
  over-more es e px qx p q =
      upd_then _ _ _ l px qx
      (λ i o.
      strip_then lay.size lay.strip k (λ j old. layered (lay.over j) old es) (λ j old. lay.over j e old) i o
      ∙ strip_ext lay.size lay.strip k (λ j old. lay.over j e (layered (lay.over j) old es)) (λ j old. layered (lay.over j) old (es ++ e ∷ [])) i o
      (λ lt is. sym (layered-more (lay.over i) o es e)))
      p q

  -- the room's own bytes, painted as f does
  pub fresh_none : (f : ℕ → ℕ → ℕ) (px : List ℕ) → ((i o : ℕ) → i < lay.size → lay.strip i ≡ k → f i o ≡ lay.empty i)
      → px ≡ upd (strip_byte lay.size lay.strip k f) l → px ≡ rebuilt_bytes lay [] (λ t. eqb t k) l
  unfolding strip_byte rebuilt_bytes new_byte fresh_byte layered
  fresh_none f px same so =
      so ∙ upd_ext _ _ l (λ i lt. strip_ext lay.size lay.strip k f (λ j old. lay.empty j) i (get_or l i 0) (same i (get_or l i 0)))

  -- the entries over them
  pub fresh_over : (es : List Entry) (px qx : List ℕ) → px ≡ rebuilt_bytes lay [] (λ t. eqb t k) l → qx ≡ upd (over_byte lay es k) px
      → qx ≡ rebuilt_bytes lay es (λ t. eqb t k) l
  unfolding over_byte strip_byte rebuilt_bytes new_byte fresh_byte layered
  fresh_over es px qx p q =
      upd_then (new_byte lay [] (λ t. eqb t k)) (over_byte lay es k) (new_byte lay es (λ t. eqb t k)) l px qx
      (λ i o. strip_then lay.size lay.strip k (λ j old. lay.empty j) (λ j old. layered (lay.over j) old es) i o)
      p q

-- ---- the strips that a test picks, from left to right
module _ (lay : Layout) (es : List Entry) (t : ℕ → Bool) (l : List ℕ) where
  pub touch_none : l ≡ rebuilt_bytes lay es (λ s. ltb s 0 && t s) l
  touch_none =
      sym (rebuilt-alike lay es es (λ s. ltb s 0 && t s) (λ s. false) l (λ i. refl) (λ i lt. rw (le-ltb (lay.strip i) 0 (omega arith)))
      ∙ rebuilt-none lay es (λ s. false) l)

  module _ (k : ℕ) (px : List ℕ) (so : px ≡ rebuilt_bytes lay es (λ s. ltb s k && t s) l) where
    next : rebuilt_bytes lay es (λ s. eqb s k && t s) px ≡ rebuilt_bytes lay es (λ s. ltb s (k + 1) && t s) l
    next = ap (rebuilt_bytes lay es (λ s. eqb s k && t s)) so ∙ rebuilt-next lay es t l k

    pub touch_on : t k ≡ true → (qx : List ℕ) → qx ≡ rebuilt_bytes lay es (λ s. eqb s k) px → qx ≡ rebuilt_bytes lay es (λ s. ltb s (k + 1) && t s) l
    touch_on on qx q =
        q
        ∙ rebuilt-alike lay es es (λ s. eqb s k) (λ s. eqb s k && t s) px (λ i. refl)
        (λ i lt. same (lay.strip i) (eqb (lay.strip i) k) refl) ∙ next
      where
        same : (s : ℕ) (b : Bool) → eqb s k ≡ b → b ≡ (b && t s)
        same s true e = sym (ap t (eqb-true s k e) ∙ on)
        same s false e = refl

    pub touch_off : t k ≡ false → px ≡ rebuilt_bytes lay es (λ s. ltb s (k + 1) && t s) l
    touch_off off =
        sym (rebuilt-alike lay es es (λ s. eqb s k && t s) (λ s. false) px (λ i. refl) (λ i lt. same (lay.strip i) (eqb (lay.strip i) k) refl)
        ∙ rebuilt-none lay es (λ s. false) px)
        ∙ next
      where
        same : (s : ℕ) (b : Bool) → eqb s k ≡ b → (b && t s) ≡ false
        same s true e = ap t (eqb-true s k e) ∙ off
        same s false e = refl

  -- after the last of n strips
  pub touch_all : (n k : ℕ) → n ≤ k → ((i : ℕ) → i < lay.size → lay.strip i < n) → (px : List ℕ)
      → px ≡ rebuilt_bytes lay es (λ s. ltb s k && t s) l → px ≡ rebuilt_bytes lay es t l
  touch_all n k all in_room px so = so ∙ rebuilt-last lay es t l k (λ i lt. omega (arith, in_room i lt))

-- ---- the entries of a shown list in numbers
entries_next : (shown : List ℕ) (i : ℕ) → entries_of shown (i + 1) ≡ entries_of shown i ++ entry_at shown i ∷ []
unfolding entries_of
entries_next shown i = rw add-one

pub entries_none : (lay : Layout) (k : ℕ) (shown l : List ℕ) → l ≡ upd (over_byte lay (entries_of shown 0) k) l
unfolding entries_of
entries_none lay k shown l = over_none lay k l

pub entries-more : (lay : Layout) (k : ℕ) (shown l : List ℕ) (i : ℕ) (e : Entry) (px qx : List ℕ) → e ≡ entry_at shown i
    → px ≡ upd (over_byte lay (entries_of shown i) k) l → qx ≡ upd (over_byte lay (e ∷ []) k) px → qx ≡ upd (over_byte lay (entries_of shown (i + 1)) k) l
entries-more lay k shown l i e px qx is p q =
    rw (entries_next shown i, ← is) (over-more lay k l (entries_of shown i) e px qx p q)
