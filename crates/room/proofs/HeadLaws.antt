-- Laws of a room's head: where the needed blocks lie, and what holds of a room without the refusals 1 to 3.
use Rattle.std.proofs.Common.{◌≡◌, refl, List, Bool, true, false, ◌&&◌, cond, ℕ, ◌+◌, ◌%◌, ◌≤◌, arith, leb-true, eqb-true, length, leb, eqb, Option, Some, None, Result, Ok, Err}
use mathlib.Core.Path.{subst⁻¹}
use Rattle.number.proofs.BoolLaws.{and_left, and_right}
use Rattle.block.specs.Tag.{tag-RMHD, tag-RMIM, tag-RMIH, tag-IM00, tag-SMAP}
use Rattle.block.specs.Tree.{well_formed, need_tag, find_tag}
use Rattle.block.proofs.Laws.{need_at, nth_at, formed_small}
use Rattle.room.specs.Head.{when_found, both_found, headed_in, with_header}
use Rattle.room.specs.Head.{background_in, needed_in, objects_right, trns_in, holds_index, sizes_right, room_of, sized, head_in, head_of, Sound}
use Rattle.room.specs.declared.Parts.{Parts}
use Rattle.room.specs.declared.Room.{Room}

-- what holds of None, and of each way on, holds of the whole
module _ (P : Option Parts → Type 0) (m : P None) where
  or_missing : (f : Option (ℕ × ℕ)) (next : ℕ → ℕ → Option Parts) → ((a z : ℕ) → Some (a, z) ≡ f → P (next a z)) → P (when_found f next)
  or_missing (Some (a, z)) next h = h a z refl
  or_missing None next h = m

  with-header : (f : Option (ℕ × ℕ × ℕ)) (next : ℕ → ℕ → ℕ → Option Parts) → ((hd a z : ℕ) → Some (hd, a, z) ≡ f → P (next hd a z)) → P (with_header f next)
  with-header (Some (hd, a, z)) next h = h hd a z refl
  with-header None next h = m

-- where a header and the block beside it lie, in the list [a, e)
module _ (t n u : ℕ) (s : List ℕ) (a e : ℕ) where
  abbrev BothLie : Option (ℕ × ℕ × ℕ) → Type 0
  BothLie (Some (hd, b, z)) = (hd + n ≤ e) × (b ≤ z) × (z ≤ e)
  BothLie None = Unit {0}

  both_lie : (f g : Option (ℕ × ℕ)) → f ≡ need_tag t n s a e → g ≡ need_tag u 0 s a e → BothLie (both_found f g)
  both_lie (Some (hd, hd-end)) (Some (b, z)) p q =
      let i = need_at _ _ _ _ _ _ _ p in
      let j = need_at _ _ _ _ _ _ _ q in
      (omega arith, omega arith, omega arith)
  both_lie (Some (hd, hd-end)) None p q = tt
  both_lie None g p q = tt

  pub headed_lies : (hd b z : ℕ) → Some (hd, b, z) ≡ headed_in t n u s a e → (hd + n ≤ e) × (b ≤ z) × (z ≤ e)
  unfolding headed_in
  headed_lies hd b z h = subst⁻¹ BothLie h (both_lie (need_tag t n s a e) (need_tag u 0 s a e) refl refl)

-- where the needed blocks lie
pub record Lies (s : List ℕ) (p : Parts) : Type 0 where
  pub header-in : p.header + 6 ≤ length s
  pub counts_in : p.image_header + 2 ≤ length s
  pub image_in : p.image ≤ p.image_end
  pub image_last : p.image_end ≤ length s
  pub smap_in : p.smap + 8 ≤ p.smap_end
  pub smap-last : p.smap_end ≤ length s

module _ (s : List ℕ) where
  abbrev AllLie : Option Parts → Type 0
  AllLie (Some p) = Lies s p
  AllLie None = Unit {0}

  background-lies : (hd im e : ℕ) → hd + 6 ≤ length s → e ≤ length s → AllLie (background_in s hd im e)
  unfolding background_in
  background-lies hd im e h le =
      with-header AllLie tt (headed_in tag-RMIH 2 tag-IM00 s im e) _ λ ih bg bg-end h₁.
      or_missing AllLie tt (find_tag tag-SMAP s bg bg-end) _ λ sm sm-end h₂.
      let i₁ = headed_lies _ _ _ _ _ _ _ _ _ h₁ in
      let i₂ = nth_at _ _ _ _ _ _ _ h₂ in
      record {
        header-in = h;
        counts_in = omega arith;
        image_in = omega arith;
        image_last = omega arith;
        smap_in = omega arith;
        smap-last = omega arith;
      }

  needed_lies : AllLie (needed_in s)
  unfolding needed_in
  needed_lies =
      with-header AllLie tt (headed_in tag-RMHD 6 tag-RMIM s 8 (length s)) _ λ hd im im-end h.
      let i = headed_lies _ _ _ _ _ _ _ _ _ h in
      background-lies hd im im-end (omega arith) (omega arith)

  pub parts_lie : (p : Parts) → Some p ≡ needed_in s → Lies s p
  parts_lie p h = subst⁻¹ AllLie h needed_lies

-- where the room's TRNS lies
pub trns_lies : (s : List ℕ) (b z : ℕ) → Some (b, z) ≡ trns_in s → (b + 8 ≤ z) × (z ≤ length s)
unfolding trns_in
trns_lies s b z at = let i = nth_at _ _ _ _ _ _ _ at in (omega (arith, i), omega (arith, i))

-- a conjunction's last part, and what is before it
module _ (w h n objects : ℕ) (all : sizes_right w h n objects ≡ true) where
  pub sizes_hold : (w % 8 ≡ 0) × (8 ≤ w) × (w ≤ 1024) × (1 ≤ h) × (h ≤ 200) × (n ≤ 4) × (objects ≤ 128)
  unfolding sizes_right
  sizes_hold =
      let a₁ = eqb (w % 8) 0 in
      let a₂ = a₁ && leb 8 w in
      let a₃ = a₂ && leb w 1024 in
      let a₄ = a₃ && leb 1 h in
      let a₅ = a₄ && leb h 200 in
      let a₆ = a₅ && leb n 4 in
      let t₆ = and_left a₆ (leb objects 128) all in
      let t₅ = and_left a₅ (leb n 4) t₆ in
      let t₄ = and_left a₄ (leb h 200) t₅ in
      let t₃ = and_left a₃ (leb 1 h) t₄ in
      let t₂ = and_left a₂ (leb w 1024) t₃ in (
        eqb-true _ _ (and_left a₁ (leb 8 w) t₂),
        leb-true _ _ (and_right a₁ (leb 8 w) t₂),
        leb-true _ _ (and_right a₂ (leb w 1024) t₃),
        leb-true _ _ (and_right a₃ (leb 1 h) t₄),
        leb-true _ _ (and_right a₄ (leb h 200) t₅),
        leb-true _ _ (and_right a₅ (leb n 4) t₆),
        leb-true _ _ (and_right a₆ (leb objects 128) all),
      )

-- a room without the refusals 1 to 3 is sound
module _ (s : List ℕ) where
  abbrev AllSound : Result Room ℕ → Type 0
  AllSound (Ok r) = Sound s r
  AllSound (Err n) = Unit {0}

  sound_of : length s ≤ 1048576 → (r : Room) (q : Bool) → sizes_right r.width r.height r.planes r.objects ≡ q
      → r.image ≤ r.image_end → r.image_end ≤ length s → r.smap + 8 ≤ r.smap_end → r.smap_end ≤ length s
      → AllSound (cond q (Ok r) (Err 3))
  sound_of small r true e a b c d =
      let z = sizes_hold r.width r.height r.planes r.objects e in
      record {
        small = small;
        whole = z.0;
        narrowest = z.1;
        widest = z.2;
        lowest = z.3;
        highest = z.4;
        few = z.5;
        counted = z.6;
        image_in = a;
        image_last = b;
        smap_in = c;
        smap-last = d;
      }
  sound_of small r false e a b c d = tt

  sized-sound : length s ≤ 1048576 → (p : Parts) → Lies s p → AllSound (sized (room_of s p))
  unfolding sized room_of
  sized-sound small p lies = sound_of small (room_of s p) _ refl lies.image_in lies.image_last lies.smap_in lies.smap-last

  in_sound : length s ≤ 1048576 → (f : Option Parts) → f ≡ needed_in s → AllSound (head_in s f)
  in_sound small (Some p) e = go (objects_right s && holds_index (trns_in s))
    where
      go : (q : Bool) → AllSound (cond q (sized (room_of s p)) (Err 2))
      go true = sized-sound small p (parts_lie s p e)
      go false = tt
  in_sound small None e = tt

  head_holds : AllSound (head_of s)
  unfolding head_of
  head_holds = go (well_formed s) refl
    where
      go : (q : Bool) → well_formed s ≡ q → AllSound (cond q (head_in s (needed_in s)) (Err 1))
      go true e = in_sound (formed_small s e) (needed_in s) refl
      go false e = tt

  pub head_sound : (r : Room) → Ok r ≡ head_of s → Sound s r
  head_sound r h = subst⁻¹ AllSound h head_holds
