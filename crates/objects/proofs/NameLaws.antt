-- Laws of names: the first NUL, and where a name lies.
use Rattle.std.proofs.Common.{◌≡◌, refl, List, Bool, true, false, cond, ℕ, zero, suc, ◌+◌, ◌-◌, ◌*◌, ◌≤◌, ◌<◌, arith, eqb, get_or, length, take, drop, ne_eqb, eq-eqb, Option, Some, None}
use mathlib.Core.Path.{subst⁻¹}
use Rattle.block.specs.Tag.{tag-OBNA}
use Rattle.block.specs.Tree.{need_tag}
use Rattle.objects.specs.Name.{nul_from, before_nul, name_in, part_at, part_of, place_word}
use Rattle.block.proofs.Laws.{Held, need_in}

module _ (s : List ℕ) where
  pub nul_end : (n p : ℕ) → n ≡ 0 → p ≡ nul_from n s p
  unfolding nul_from
  nul_end n p h = rw h

  nul_suc : (n m p : ℕ) (b : Bool) → n ≡ suc m → eqb (get_or s p 0) 0 ≡ b → cond b p (nul_from m s (p + 1)) ≡ nul_from n s p
  unfolding nul_from
  nul_suc n m p true h g = rw (h, g)
  nul_suc n m p false h g = rw (h, g)

  pub nul_here : (z p : ℕ) → p < z → get_or s p 0 ≡ 0 → p ≡ nul_from (z - p) s p
  nul_here z p l h = nul_suc (z - p) (z - (p + 1)) p true (omega arith) (eq-eqb _ _ h)

  pub nul_on : (z p : ℕ) → p < z → (get_or s p 0 ≡ 0 → ⊥) → nul_from (z - (p + 1)) s (p + 1) ≡ nul_from (z - p) s p
  nul_on z p l h = nul_suc (z - p) (z - (p + 1)) p false (omega arith) (ne_eqb _ _ h)

  -- it lies in the bytes that are looked at
  pub nul_in : (n p : ℕ) → (p ≤ nul_from n s p) × (nul_from n s p ≤ p + n)
  nul_in zero p = unfold nul_from in omega arith
  nul_in (suc n) p = go (eqb (get_or s p 0) 0) refl (nul_in n (p + 1))
    where
      go : (b : Bool) → eqb (get_or s p 0) 0 ≡ b → (p + 1 ≤ nul_from n s (p + 1)) × (nul_from n s (p + 1) ≤ p + 1 + n) → (p ≤ nul_from (suc n) s p) ×
          (nul_from (suc n) s p ≤ p + suc n)
      go true h i = rw (← nul_suc (suc n) n p true refl h) (omega arith)
      go false h i = rw (← nul_suc (suc n) n p false refl h) (omega arith)

  -- a name that is found lies in the room
  abbrev Named : Option (ℕ × ℕ) → Type 0
  Named (Some (a, z)) = (a ≤ z) × (z ≤ length s)
  Named None = Unit {0}

  named_nul : (a e : ℕ) (f : Option (ℕ × ℕ)) → e ≤ length s → Held 0 a e f → Named (before_nul s f)
  unfolding before_nul
  named_nul a e (Some (p, z)) l i = omega (arith, nul_in (z - p) p)
  named_nul a e None l i = tt

  pub name_at : (b z a e : ℕ) → z ≤ length s → Some (a, e) ≡ name_in s b z → (a ≤ e) × (e ≤ length s)
  unfolding name_in
  name_at b z a e l h = subst⁻¹ Named h (named_nul (b + 8) z (need_tag tag-OBNA 0 s (b + 8) z) l (need_in tag-OBNA 0 s (b + 8) z))

  -- the part, as the place tells it
  pub part_bytes : (f : Option (ℕ × ℕ)) → take (part_at f).count (drop (part_at f).start s) ≡ part_of s f
  part_bytes (Some (a, z)) = refl
  part_bytes None = refl

pub part-word : (f : Option (ℕ × ℕ)) → (part_at f).start + (part_at f).count * 4294967296 ≡ place_word f
part-word (Some (a, z)) = refl
part-word None = refl
