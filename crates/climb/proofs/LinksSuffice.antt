-- The climb's count of links is no rule of its own: with as many links as there are objects, a chain is open exactly if it is open with more
-- links, for an open chain passes no object twice (document 01: "a chain that never reaches 0 closes it").
use Rattle.std.proofs.Common.{ℕ, zero, suc, ◌+◌, ◌-◌, ◌≤◌, ◌<◌, ◌≡◌, refl, sym, ap, ◌∙◌, subst, Bool, true, false, cond, ◌&&◌, true≢false, arith, eqb-true, eq-eqb, ne_eqb, leb-true, le-leb, eqb, leb}
use mathlib.Core.Logic.{by_cases}
use native.Mathlib.Decide.{ℕ_discrete}
use borrow.Author.Tests.{eqb-false}
use Rattle.number.proofs.BoolLaws.{both}
use Rattle.climb.specs.Objects.{Objects}
use Rattle.climb.specs.Climb.{lets, is_open}

-- ---- m numbers below n, no two of them equal, are at most n

module _ (n m : ℕ) (g : ℕ → ℕ) (low : (i : ℕ) → i < suc m → g i < suc n) (apart : (a b : ℕ) → a < suc m → b < suc m → g a ≡ g b → a ≡ b) where
  -- the last one takes the place of the one that is n
  moved : ℕ → ℕ
  moved i = cond (eqb (g i) n) (g m) (g i)

  moved_at : (i : ℕ) → g i ≡ n → moved i ≡ g m
  unfolding moved
  moved_at i e = rw (eq-eqb (g i) n e)

  moved_off : (i : ℕ) → (g i ≡ n → ⊥) → moved i ≡ g i
  unfolding moved
  moved_off i f = rw (ne_eqb (g i) n f)

  moved_low : (i : ℕ) → i < m → moved i < n
  moved_low i h =
      by_cases (ℕ_discrete (g i) n)
      (λ e.
      let l = low m (omega arith) in
      let d : g m ≡ n → ⊥ = λ z. let k = apart i m (omega arith) (omega arith) (e ∙ sym z) in omega arith in
      let s : g m < n = by_cases (ℕ_discrete (g m) n) (λ z. absurd (d z)) (λ z. omega (arith, z)) in
      subst (λ (k : ℕ). k < n) (sym (moved_at i e)) s)
      (λ f.
      let l = low i (omega arith) in
      let s : g i < n = omega (arith, f) in
      subst (λ (k : ℕ). k < n) (sym (moved_off i f)) s)

  moved_apart : (a b : ℕ) → a < m → b < m → moved a ≡ moved b → a ≡ b
  moved_apart a b ha hb e =
      by_cases (ℕ_discrete (g a) n)
      (λ p. by_cases (ℕ_discrete (g b) n)
      (λ q. apart a b (omega arith) (omega arith) (p ∙ sym q))
      (λ q. let k = apart m b (omega arith) (omega arith) (sym (moved_at a p) ∙ e ∙ moved_off b q) in absurd (omega arith)))
      (λ p. by_cases (ℕ_discrete (g b) n)
      (λ q. let k = apart a m (omega arith) (omega arith) (sym (moved_off a p) ∙ e ∙ moved_at b q) in absurd (omega arith))
      (λ q. apart a b (omega arith) (omega arith) (sym (moved_off a p) ∙ e ∙ moved_off b q)))

pub few : (n m : ℕ) (g : ℕ → ℕ) → ((i : ℕ) → i < m → g i < n) → ((a b : ℕ) → a < m → b < m → g a ≡ g b → a ≡ b) → m ≤ n
few n zero g low apart = omega arith
few zero (suc m) g low apart = let z = low 0 (omega arith) in absurd (omega arith)
few (suc n) (suc m) g low apart =
    let i = few n m (moved n m g low apart) (moved_low n m g low apart) (moved_apart n m g low apart) in
    omega arith

-- ---- the chain

module _ (obs : Objects) (state : ℕ → ℕ) where
  -- object i of the chain of o, which is object 0
  above : ℕ → ℕ → ℕ
  above zero o = o
  above (suc i) o = above i (obs.parent o)

  -- the chain of o is open and has j links
  abbrev Opens : ℕ → ℕ → Type 0
  Opens zero o = obs.parent o ≡ 0
  Opens (suc j) o =
      (obs.parent o ≡ 0 → ⊥) × (obs.parent o ≤ obs.count) × (lets (obs.flags o) (state (obs.parent o)) ≡ true) × Opens j (obs.parent o)

  one-length : (i j o : ℕ) → Opens i o → Opens j o → i ≡ j
  one-length zero zero o p q = refl
  one-length zero (suc j) o p q = absurd (q.0 p)
  one-length (suc i) zero o p q = absurd (p.0 q)
  one-length (suc i) (suc j) o p q = ap suc (one-length i j (obs.parent o) p.3 q.3)

  open_above : (a j o : ℕ) → a ≤ j → Opens j o → Opens (j - a) (above a o)
  unfolding above
  open_above zero j o h p = let e : j - 0 ≡ j = omega arith in rw e p
  open_above (suc a) zero o h p = absurd (omega arith)
  open_above (suc a) (suc j) o h p =
      let e : suc j - suc a ≡ j - a = omega arith in
      subst (λ (k : ℕ). Opens k (above a (obs.parent o))) (sym e) (open_above a j (obs.parent o) (omega arith) p.3)

  there : (a j o : ℕ) → a ≤ j → 1 ≤ o → o ≤ obs.count → Opens j o → (1 ≤ above a o) × (above a o ≤ obs.count)
  unfolding above
  there zero j o h one le p = (one, le)
  there (suc a) zero o h one le p = absurd (omega arith)
  there (suc a) (suc j) o h one le p =
      let some = p.0 in
      let k : 1 ≤ obs.parent o = omega (arith, some) in
      there a j (obs.parent o) (omega arith) k p.1 p.3

  -- an open chain passes no object twice, so it has fewer links than there are objects
  short : (j o : ℕ) → 1 ≤ o → o ≤ obs.count → Opens j o → j < obs.count
  short j o one le p =
      few obs.count (suc j) (λ i. above i o - 1)
      (λ i h. let t = there i j o (omega arith) one le p in omega arith)
      (λ a b ha hb e.
      let s = there a j o (omega arith) one le p in
      let t = there b j o (omega arith) one le p in
      let same : above a o ≡ above b o = omega arith in
      let q = open_above a j o (omega arith) p in
      let r = open_above b j o (omega arith) p in
      let k : j - a ≡ j - b = one-length (j - a) (j - b) (above b o) (subst (Opens (j - a)) same q) r in
      omega arith)

  opened : (j n o : ℕ) → j < n → Opens j o → is_open obs state n o ≡ true
  unfolding is_open
  opened j zero o h p = absurd (omega arith)
  opened zero (suc n) o h p = rw (eq-eqb (obs.parent o) 0 p)
  opened (suc j) (suc n) o h p =
      let again = opened j n (obs.parent o) (omega arith) p.3 in
      rw (ne_eqb (obs.parent o) 0 p.0, le-leb (obs.parent o) obs.count p.1, p.2, again)

  opens : (n o : ℕ) → is_open obs state n o ≡ true → (j : ℕ) × (j < n) × Opens j o
  unfolding is_open
  opens zero o e = absurd (true≢false (sym e))
  opens (suc n) o e = go (λ k. opens n k) (eqb (obs.parent o) 0) refl e
    where
      go : ((k : ℕ) → is_open obs state n k ≡ true → (j : ℕ) × (j < n) × Opens j k) → (t : Bool) → eqb (obs.parent o) 0 ≡ t
          → cond t true (leb (obs.parent o) obs.count && lets (obs.flags o) (state (obs.parent o)) && is_open obs state n (obs.parent o)) ≡ true
          → (j : ℕ) × (j < suc n) × Opens j o
      go again true z e = (0, omega arith, eqb-true (obs.parent o) 0 z)
      go again false z e =
          let a = both (leb (obs.parent o) obs.count && lets (obs.flags o) (state (obs.parent o))) (is_open obs state n (obs.parent o)) e in
          let b = both (leb (obs.parent o) obs.count) (lets (obs.flags o) (state (obs.parent o))) a.0 in
          let r = again (obs.parent o) a.1 in
          (suc r.0, omega (arith, r.1), (eqb-false (obs.parent o) 0 z, leb-true (obs.parent o) obs.count b.0, b.1, r.2))

  pub links_suffice : (more o : ℕ) → 1 ≤ o → o ≤ obs.count → is_open obs state (obs.count + more) o ≡ is_open obs state obs.count o
  links_suffice more o one le = go (is_open obs state (obs.count + more) o) (is_open obs state obs.count o) refl refl
    where
      go : (s t : Bool) → is_open obs state (obs.count + more) o ≡ s → is_open obs state obs.count o ≡ t → s ≡ t
      go true true a b = refl
      go false false a b = refl
      go true false a b =
          let r = opens (obs.count + more) o a in
          absurd (true≢false (sym (opened r.0 obs.count o (short r.0 o one le r.2) r.2) ∙ b))
      go false true a b =
          let r = opens obs.count o b in
          absurd (true≢false (sym (opened r.0 (obs.count + more) o (omega (arith, r.1)) r.2) ∙ a))
