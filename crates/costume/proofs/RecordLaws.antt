-- Laws of animation records.
use Rattle.std.proofs.Common.{◌≡◌, refl, sym, ap, ap₂, ◌∙◌, Bool, true, false, cond, List, ℕ, suc, ◌+◌, ◌/◌, ◌%◌, ◌<◌, ◌≤◌, arith, le-leb, leb-true, leb, eqb, length, get_or}
use borrow.Author.Tests.{lt-leb}
use Rattle.number.proofs.BoolLaws.{both}
use Rattle.number.specs.Number.{le16}
use Rattle.limbs.specs.declared.Limb.{Limb}
use Rattle.limbs.specs.Limb.{all, limb_right}
use Rattle.limbs.proofs.LimbLaws.{all_false, all_at, right-idle, right_from}
use Rattle.limbs.proofs.AfterLaws.{Bytes, Small}
use Rattle.costume.specs.declared.Entry.{Entry}
use Rattle.costume.specs.declared.Entry.TheVariants.{Unnamed, Cut, Idle, Window}
use Rattle.costume.specs.Record.{entry_at, size_of, mask_of, entry_place, entry_of, entry_right, record_right, named, reset_limb, begun_limb}

-- ---- the record at payload byte r
module _ (s : List ℕ) (r : ℕ) where
  -- limb i's entry, as the code reads it
  pub entry_read : (i m p : ℕ) (e : Entry) → m ≡ mask_of s r → p ≡ entry_place s r i → e ≡ entry_at s m i p → e ≡ entry_of s r i
  unfolding entry_of
  entry_read i m p e a b d = d ∙ ap₂ (λ (x y : ℕ). entry_at s x i y) a b

  pub place-more : (i p k : ℕ) (e : Entry) → p ≡ entry_place s r i → e ≡ entry_of s r i → k ≡ size_of e → p + k ≡ entry_place s r (suc i)
  unfolding entry_place entry_of
  place-more i p k e a b d = ap₂ ◌+◌ a (d ∙ ap size_of b)

  module _ (n : ℕ) where
    pub record_cut : length s < r + 2 → false ≡ record_right s r n
    unfolding record_right
    record_cut h = rw (lt-leb _ _ h)

    pub record_wrong : (i : ℕ) → r + 2 ≤ length s → i < 16 → entry_right n (entry_of s r i) ≡ false → false ≡ record_right s r n
    unfolding record_right
    record_wrong i h l e = rw (le-leb _ _ h) (sym (all_false 16 (λ k. entry_right n (entry_of s r k)) i l e))

    pub record-right : r + 2 ≤ length s → all 16 (λ k. entry_right n (entry_of s r k)) ≡ true → true ≡ record_right s r n
    unfolding record_right
    record-right h e = rw (le-leb _ _ h) (sym e)

    pub record_in : record_right s r n ≡ true → r + 2 ≤ length s
    unfolding record_right
    record_in h = leb-true _ _ (both (leb (r + 2) (length s)) (all 16 (λ k. entry_right n (entry_of s r k))) h).0

    pub record_entries : record_right s r n ≡ true → (i : ℕ) → i < 16 → entry_right n (entry_of s r i) ≡ true
    unfolding record_right
    record_entries h =
        all_at 16 (λ k. entry_right n (entry_of s r k)) (both (leb (r + 2) (length s)) (all 16 (λ k. entry_right n (entry_of s r k))) h).1

-- ---- an entry that was read from bytes
abbrev pub Shape : Entry → Type 0
Shape Unnamed = Unit {0}
Shape Cut = Unit {0}
Shape Idle = Unit {0}
Shape (Window p n k) = (1 ≤ n) × (n ≤ 128) × (p < 65536)

shape_cond : (t : Bool) (a b : Entry) → Shape a → Shape b → Shape (cond t a b)
shape_cond true a b p q = p
shape_cond false a b p q = q

pub entry_shape : (s : List ℕ) (r i : ℕ) → Bytes s → Shape (entry_of s r i)
unfolding entry_of entry_at
entry_shape s r i bytes =
    let p = entry_place s r i in
    let last = get_or s (p + 2) 0 in
    let window : Shape (Window (le16 s p) (last % 128 + 1) (last / 128)) = (omega arith, omega arith, omega (arith, bytes p, bytes (p + 1))) in
    shape_cond (named (mask_of s r) i) _ Unnamed
    (shape_cond (leb (p + 2) (length s)) _ Cut
    (shape_cond (eqb (le16 s p) 0xFFFF) Idle _ tt
    (shape_cond (leb (p + 3) (length s)) (Window (le16 s p) (last % 128 + 1) (last / 128)) Cut window tt))
    tt)
    tt

-- what an entry makes of a limb that is right is right
module _ (n : ℕ) (x : Limb) where
  pub begun_right : (e : Entry) → Shape e → entry_right n e ≡ true → limb_right n x ≡ true → limb_right n (begun_limb e x) ≡ true
  unfolding begun_limb
  begun_right Unnamed a b h = h
  begun_right Cut a b h = h
  begun_right Idle a b h = sym (right-idle n (reset_limb 0 0 0 0 x) refl)
  begun_right (Window p k q) a b h =
      let le = leb-true (p + k) n b in
      right_from n (reset_limb 1 q k p x) (record { some = a.0; few = a.1; inside = le; from = omega arith; to = omega arith })

  pub begun_small : (e : Entry) → Shape e → Small x → Small (begun_limb e x)
  unfolding begun_limb
  begun_small Unnamed a h = h
  begun_small Cut a h = h
  begun_small Idle a h = record { start = omega arith; place = omega arith }
  begun_small (Window p k q) a h = record { start = omega arith; place = omega arith }
