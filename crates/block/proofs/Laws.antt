-- Laws of the block tree: what a walk over a list of blocks gives at a block, and where no block stands.
use Rattle.std.proofs.Common.{◌≡◌, refl, ap, sym, ◌∙◌, List, [], ◌∷◌, Bool, true, false, ◌&&◌, cond, ℕ, zero, suc, ◌+◌, ◌-◌, ◌≤◌, ◌<◌, arith, sub-one, leb, eqb, get_or, length, leb-true, le-leb, ne_eqb, eq-eqb, Option, Some, None}
use mathlib.Core.Path.{subst⁻¹}
use mathlib.Core.Bool.{and-false}
use borrow.Author.Tests.{lt-leb}
use Rattle.number.proofs.BoolLaws.{and_left, and_right}
use Rattle.number.specs.Number.{be32}
use Rattle.block.specs.Tag.{container}
use Rattle.block.specs.Tree.{block_end, found_end, walk, run, block_ok, list_ok, tagged, nth_tag, find_tag, need_tag, payload, Inside, well_formed, each_has, is_at}

cond_pos : (b : Bool) (x : ℕ) → (cond b x 0 ≡ 0 → ⊥) → b ≡ true
cond_pos true x h = refl
cond_pos false x h = absurd (h refl)

some-none : (z : ℕ) → ◌≡◌ {A = Option ℕ} (Some z) None → ⊥
some-none z h = let e : ◌≡◌ {A = ℕ} 0 1 = cc in omega arith

module _ (s : List ℕ) (a e : ℕ) where
  -- a block has a header, and ends in its list
  pub end_in : (block_end s a e ≡ 0 → ⊥) → (a + 8 ≤ block_end s a e) × (block_end s a e ≤ e)
  unfolding block_end
  end_in h =
      let n = be32 s (a + 4) in
      let t : (leb (a + 8) e && leb 8 n && leb (a + n) e) ≡ true = cond_pos _ (a + n) h in
      let t₃ : a + n ≤ e = leb-true _ _ (and_right (leb (a + 8) e && leb 8 n) _ t) in
      let t₂ : 8 ≤ n = leb-true _ _ (and_right (leb (a + 8) e) _ (and_left _ (leb (a + n) e) t)) in
      rw t (omega arith)

  pub end_none : e ≤ a → block_end s a e ≡ 0
  unfolding block_end
  end_none h = rw (lt-leb (a + 8) e (omega arith))

  -- the same of the end z that the code got
  pub end_of : (z : ℕ) → z ≡ block_end s a e → (z ≡ 0 → ⊥) → (a + 8 ≤ z) × (z ≤ e)
  end_of z h f = rw h (end_in (λ q. f (h ∙ q)))

  -- the same from the tests that the code makes, with n the size that it read
  module _ (n : ℕ) (size : n ≡ be32 s (a + 4)) where
    pub end-small : n < 8 → 0 ≡ block_end s a e
    unfolding block_end
    end-small h = rw (← size, lt-leb 8 n h, and-false (leb (a + 8) e))

    pub end-past : a ≤ e → e - a < n → 0 ≡ block_end s a e
    unfolding block_end
    end-past l h = rw (← size, lt-leb (a + n) e (omega arith), and-false (leb (a + 8) e && leb 8 n))

    pub end_at : a ≤ e → 8 ≤ n → n ≤ e - a → a + n ≡ block_end s a e
    unfolding block_end
    end_at l g h = rw (← size, le-leb (a + n) e (omega arith), le-leb 8 n g, le-leb (a + 8) e (omega arith))

  pub end_low : e < 8 → 0 ≡ block_end s a e
  unfolding block_end
  end_low h = rw (lt-leb (a + 8) e (omega arith))

  pub end_short : 8 ≤ e → e - 8 < a → 0 ≡ block_end s a e
  unfolding block_end
  end_short l h = rw (lt-leb (a + 8) e (omega arith))

-- what the code's answer says of the end
pub some_end : (n z : ℕ) → Some z ≡ found_end n → (z ≡ n) × (z ≡ 0 → ⊥)
some_end zero z h = absurd (some-none z h)
some_end (suc n) z h = let same : ◌≡◌ {A = ℕ} z (suc n) = cc in (same, λ e. omega arith)

pub none_end : (n : ℕ) → None ≡ found_end n → n ≡ 0
none_end zero h = refl
none_end (suc n) h = absurd (some-none (suc n) (sym h))

pub is_end : (n z : ℕ) → n ≡ z → (z ≡ 0 → ⊥) → Some z ≡ found_end n
is_end zero z h f = absurd (f (sym h))
is_end (suc n) z h f = rw (← h)

pub no_end : (n : ℕ) → 0 ≡ n → None ≡ found_end n
no_end n h = rw (← h)

-- what a walk gives at one block
module _ {A : Type 0} (last : Bool → A) (step : ℕ → ℕ → A → A) (s : List ℕ) (e : ℕ) where
  walk_stop : (n a : ℕ) → block_end s a e ≡ 0 → walk last step n s a e ≡ last (eqb a e)
  unfolding walk
  walk_stop zero a h = refl
  walk_stop (suc n) a h =
      ap (λ (k : ℕ). elim k as (λ _. A) [ zero ↦ last (eqb a e) | suc z ↦ step a (suc z) (walk last step n s (suc z) e) ]) h

  walk_step : (n a z : ℕ) → block_end s a e ≡ suc z → walk last step (suc n) s a e ≡ step a (suc z) (walk last step n s (suc z) e)
  unfolding walk
  walk_step n a z h =
      ap (λ (k : ℕ). elim k as (λ _. A) [ zero ↦ last (eqb a e) | suc z ↦ step a (suc z) (walk last step n s (suc z) e) ]) h

  -- any bound that is enough gives the same
  walk_bound : (n m a : ℕ) → e ≤ a + n → e ≤ a + m → walk last step n s a e ≡ walk last step m s a e
  walk_bound zero m a h k = walk_stop zero a (end_none s a e (omega arith)) ∙ sym (walk_stop m a (end_none s a e (omega arith)))
  walk_bound (suc n) zero a h k = walk_stop (suc n) a (end_none s a e (omega arith)) ∙ sym (walk_stop zero a (end_none s a e (omega arith)))
  walk_bound (suc n) (suc m) a h k = go (block_end s a e) refl (λ z p q. walk_bound n m (suc z) p q)
    where
      go : (b : ℕ) → block_end s a e ≡ b → ((z : ℕ) → e ≤ suc z + n → e ≤ suc z + m → walk last step n s (suc z) e ≡ walk last step m s (suc z) e) → walk last
          step (suc n) s a e ≡ walk last step (suc m) s a e
      go zero p ih = walk_stop (suc n) a p ∙ sym (walk_stop (suc m) a p)
      go (suc z) p ih =
          let i = end_in s a e (λ q. omega (arith, p, q)) in
          walk_step n a z p ∙ ap (step a (suc z)) (ih z (omega (arith, i, p)) (omega (arith, i, p))) ∙ sym (walk_step m a z p)

  -- what holds of the walk at every place
  walk-all : (P : ℕ → A → Type 0) → ((a : ℕ) (b : Bool) → P a (last b)) → ((a z : ℕ) (r : A) → a + 8 ≤ z → z ≤ e → P z r → P a (step a z r))
      → (n a : ℕ) → P a (walk last step n s a e)
  walk-all P l f zero a = unfold walk in l a (eqb a e)
  walk-all P l f (suc n) a = go (block_end s a e) refl (λ z. walk-all P l f n z)
    where
      go : (b : ℕ) → block_end s a e ≡ b → ((z : ℕ) → P z (walk last step n s z e)) → P a (walk last step (suc n) s a e)
      go zero p ih = subst⁻¹ (P a) (walk_stop (suc n) a p) (l a (eqb a e))
      go (suc z) p ih =
          let i = end_in s a e (λ q. omega (arith, p, q)) in
          subst⁻¹ (P a) (walk_step n a z p) (f a (suc z) _ (omega (arith, i, p)) (omega (arith, i, p)) (ih (suc z)))

  pub run_stop : (a : ℕ) → block_end s a e ≡ 0 → run last step s a e ≡ last (eqb a e)
  unfolding run
  run_stop a h = walk_stop (e - a) a h

  pub run_step : (a z : ℕ) → block_end s a e ≡ z → (z ≡ 0 → ⊥) → run last step s a e ≡ step a z (run last step s z e)
  unfolding run
  run_step a zero h f = absurd (f refl)
  run_step a (suc z) h f =
      let i = end_in s a e (λ q. omega (arith, h, q)) in
      walk_bound (e - a) (suc (e - a)) a (omega arith) (omega arith) ∙ walk_step (e - a) a z h
      ∙ ap (step a (suc z)) (walk_bound (e - a) (e - suc z) (suc z) (omega (arith, i, h)) (omega arith))

-- a list of blocks, from the tests that the code makes at the block [a, z)
module _ (d : ℕ) (s : List ℕ) (e : ℕ) where
  module _ (a z : ℕ) (ends : z ≡ block_end s a e) where
    pub list_stop : z ≡ 0 → eqb a e ≡ list_ok d s a e
    unfolding list_ok
    list_stop h = sym (run_stop _ _ s e a (sym ends ∙ h))

    list_step : (z ≡ 0 → ⊥) → list_ok d s a e ≡ (block_ok d s a z && list_ok d s z e)
    unfolding list_ok
    list_step f = run_step _ _ s e a z (sym ends) f

    module _ (b : Bool) (ok : b ≡ block_ok d s a z) (f : z ≡ 0 → ⊥) where
      pub list_on : b ≡ true → list_ok d s z e ≡ list_ok d s a e
      list_on h = sym (list_step f ∙ rw (← ok, h))

      pub list_off : b ≡ false → false ≡ list_ok d s a e
      list_off h = sym (list_step f ∙ rw (← ok, h))

module _ (s : List ℕ) (a z : ℕ) where
  pub block_deep : (d : ℕ) → d ≡ 0 → false ≡ block_ok d s a z
  unfolding block_ok
  block_deep d h = rw h

  pub block_in : (d : ℕ) (b : Bool) → (d ≡ 0 → ⊥) → b ≡ container s a → b ≡ true → list_ok (d - 1) s (a + 8) z ≡ block_ok d s a z
  unfolding block_ok list_ok
  block_in zero b f k h = absurd (f refl)
  block_in (suc d) b f k h = rw (sub-one, ← k, h)

  pub block_leaf : (d : ℕ) (b : Bool) → (d ≡ 0 → ⊥) → b ≡ container s a → b ≡ false → true ≡ block_ok d s a z
  unfolding block_ok
  block_leaf zero b f k h = absurd (f refl)
  block_leaf (suc d) b f k h = rw (← k, h)

-- the blocks with a tag, from the tests that the code makes at the block [a, z)
module _ (t : ℕ) (s : List ℕ) (e a z : ℕ) (ends : z ≡ block_end s a e) where
  pub tagged_stop : z ≡ 0 → tagged t s a e ≡ []
  unfolding tagged
  tagged_stop h = run_stop _ _ s e a (sym ends ∙ h)

  module _ (f : z ≡ 0 → ⊥) (n : ℕ) (read : n ≡ be32 s a) where
    pub tagged_here : n ≡ t → tagged t s a e ≡ Some (a, z) ∷ tagged t s z e
    unfolding tagged
    tagged_here h = run_step _ _ s e a z (sym ends) f ∙ rw (← read, eq-eqb n t h)

    pub tagged-on : (n ≡ t → ⊥) → tagged t s a e ≡ tagged t s z e
    unfolding tagged
    tagged-on h = run_step _ _ s e a z (sym ends) f ∙ rw (← read, ne_eqb n t h)

-- an element further on
get_or-down : (x : Option (ℕ × ℕ)) (l : List (Option (ℕ × ℕ))) (k : ℕ) → (k ≡ 0 → ⊥) → get_or (x ∷ l) k None ≡ get_or l (k - 1) None
get_or-down x l zero f = absurd (f refl)
get_or-down x l (suc k) f = rw sub-one

abbrev AllIn : ℕ → ℕ → List (Option (ℕ × ℕ)) → Type 0
AllIn e a l = (k : ℕ) → Inside a e (get_or l k None)

in_earlier : (a z e : ℕ) (f : Option (ℕ × ℕ)) → a ≤ z → Inside z e f → Inside a e f
in_earlier a z e (Some (b, y)) h i = omega arith
in_earlier a z e None h i = tt

in_cons : (a z e : ℕ) (l : List (Option (ℕ × ℕ))) → a + 8 ≤ z → z ≤ e → AllIn e z l → AllIn e a (Some (a, z) ∷ l)
in_cons a z e l h g i zero = omega arith
in_cons a z e l h g i (suc k) = in_earlier a z e (get_or l k None) (omega arith) (i k)

in_step : (c : Bool) (a z e : ℕ) (l : List (Option (ℕ × ℕ))) → a + 8 ≤ z → z ≤ e → AllIn e z l → AllIn e a (cond c (Some (a, z) ∷ l) l)
in_step true a z e l h g i k = in_cons a z e l h g i k
in_step false a z e l h g i k = in_earlier a z e (get_or l k None) (omega arith) (i k)

-- a block that is found lies in the list
pub nth_in : (t : ℕ) (s : List ℕ) (a e k : ℕ) → Inside a e (nth_tag t s a e k)
unfolding tagged run
nth_in t s a e k = walk-all _ _ s e (AllIn e) (λ a b k. tt) (λ a z r h g i. in_step (eqb (be32 s a) t) a z e r h g i) (e - a) a k

pub nth_at : (t : ℕ) (s : List ℕ) (a e k b z : ℕ) → Some (b, z) ≡ nth_tag t s a e k → (a ≤ b) × (b + 8 ≤ z) × (z ≤ e)
nth_at t s a e k b z h = subst⁻¹ (Inside a e) h (nth_in t s a e k)

abbrev pub Held : ℕ → ℕ → ℕ → Option (ℕ × ℕ) → Type 0
Held n a e (Some (p, z)) = (a + 8 ≤ p) × (p + n ≤ z) × (z ≤ e)
Held n a e None = Unit {0}

held-cond : (c : Bool) (n a e b z : ℕ) → leb n (z - (b + 8)) ≡ c → Inside a e (Some (b, z)) → Held n a e (cond c (Some (b + 8, z)) None)
held-cond true n a e b z h i = omega (arith, leb-true n (z - (b + 8)) h)
held-cond false n a e b z h i = tt

payload_in : (n a e : ℕ) (f : Option (ℕ × ℕ)) → Inside a e f → Held n a e (payload n f)
unfolding payload
payload_in n a e (Some (b, z)) i = held-cond (leb n (z - (b + 8))) n a e b z refl i
payload_in n a e None i = tt

pub need_in : (t n : ℕ) (s : List ℕ) (a e : ℕ) → Held n a e (need_tag t n s a e)
need_in t n s a e = payload_in n a e (find_tag t s a e) (nth_in t s a e 0)

pub need_at : (t n : ℕ) (s : List ℕ) (a e p z : ℕ) → Some (p, z) ≡ need_tag t n s a e → (a + 8 ≤ p) × (p + n ≤ z) × (z ≤ e)
need_at t n s a e p z h = subst⁻¹ (Held n a e) h (need_in t n s a e)

-- the payload of a block that was found, where it has n bytes or more
pub payload-long : (n b z : ℕ) (f : Option (ℕ × ℕ)) → Some (b, z) ≡ f → n ≤ z - (b + 8) → Some (b + 8, z) ≡ payload n f
unfolding payload
payload-long n b z f found h = rw (← found, le-leb n (z - (b + 8)) h)

module _ (t : ℕ) (s : List ℕ) (e a z : ℕ) (ends : z ≡ block_end s a e) (k : ℕ) where
  pub nth_stop : z ≡ 0 → None ≡ nth_tag t s a e k
  nth_stop h = rw (tagged_stop t s e a z ends h)

  module _ (f : z ≡ 0 → ⊥) (n : ℕ) (read : n ≡ be32 s a) where
    pub nth_here : n ≡ t → k ≡ 0 → Some (a, z) ≡ nth_tag t s a e k
    nth_here h g = rw (tagged_here t s e a z ends f n read h, g)

    pub nth-down : n ≡ t → (k ≡ 0 → ⊥) → nth_tag t s z e (k - 1) ≡ nth_tag t s a e k
    nth-down h g = rw (tagged_here t s e a z ends f n read h) (sym (get_or-down (Some (a, z)) (tagged t s z e) k g))

    pub nth_on : (n ≡ t → ⊥) → nth_tag t s z e k ≡ nth_tag t s a e k
    nth_on h = rw (tagged-on t s e a z ends f n read h)

-- a room that is well formed is not over the size
pub formed_small : (s : List ℕ) → well_formed s ≡ true → length s ≤ 1048576
unfolding well_formed
formed_small s h = leb-true (length s) 1048576 (and_left (leb (length s) 1048576) _ (and_left _ _ (and_left _ _ (and_left _ (block_ok 6 s 0 (length s)) h))))

-- every block with a tag has another in it, from the tests that the code makes at the block [a, z)
module _ (t ch m : ℕ) (s : List ℕ) (e a z : ℕ) (ends : z ≡ block_end s a e) where
  pub each_stop : z ≡ 0 → true ≡ each_has t ch m s a e
  unfolding each_has
  each_stop h = rw (tagged_stop t s e a z ends h)

  module _ (f : z ≡ 0 → ⊥) (n : ℕ) (read : n ≡ be32 s a) where
    pub each_on : (n ≡ t → ⊥) → each_has t ch m s z e ≡ each_has t ch m s a e
    unfolding each_has
    each_on h = rw (tagged-on t s e a z ends f n read h)

    module _ (h : n ≡ t) (b : Bool) (has : b ≡ is_at (need_tag ch m s (a + 8) z)) where
      pub each-has : b ≡ true → each_has t ch m s z e ≡ each_has t ch m s a e
      unfolding each_has
      each-has g = rw (tagged_here t s e a z ends f n read h, ← has, g)

      pub each-not : b ≡ false → false ≡ each_has t ch m s a e
      unfolding each_has
      each-not g = rw (tagged_here t s e a z ends f n read h, ← has, g)
