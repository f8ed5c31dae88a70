-- What an accepted start leaves, as a reader of document 01 asks for it: limb by limb, the bytes beside them, and that the next tick is accepted.
use Rattle.std.proofs.Common.{◌≡◌, refl, sym, ap, ◌∙◌, Bool, true, false, cond, List, ℕ, ◌+◌, ◌*◌, ◌-◌, ◌<◌, ◌≤◌, le-ltb, eqb-true, ne_eqb, eqb, length, get_or, Ok, Err}
use Rattle.limbs.specs.declared.Limb.{Limb}
use Rattle.limbs.specs.Limb.{limb_at, each_limb, limb_right, limbs_right}
use Rattle.limbs.specs.Tick.{stream, tick_number}
use Rattle.limbs.proofs.LimbLaws.{all_at, length-each, each_above}
use Rattle.limbs.proofs.AfterLaws.{Bytes, Small, limb_small, each-limb, each_unused, each-kept}
use Rattle.limbs.proofs.Theorems.{limbs_put}
use Rattle.costume.specs.declared.Entry.{Entry}
use Rattle.costume.specs.declared.Entry.TheVariants.{Unnamed, Cut, Idle, Window}
use Rattle.costume.specs.declared.Started.TheVariants.{Set, Undefined}
use Rattle.costume.specs.Record.{entry_of, begun_limb}
use Rattle.costume.specs.Start.{offset_at, defined, start_number, started_of, start_bytes, number}
use Rattle.costume.proofs.RecordLaws.{entry_shape, begun_right, begun_small, record_entries}
use Rattle.costume.proofs.StartLaws.{start-accepted, Starts, defined-some, offset_record_right}

-- ---- an accepted start of an animation that is defined
module _ (s l : List ℕ) (t count v chore direction : ℕ) (ok : start_number s l t count v chore direction ≡ 0) where
  abbrev o : ℕ
  o = offset_at s t chore direction

  module _ (is : defined s o ≡ true) where
    starts : Starts s l t count v chore direction
    starts = start-accepted s l t count v chore direction ok

    abbrev f : ℕ → Limb → Limb
    f i = begun_limb (entry_of s (o - 6) i)

    start_is : start_bytes s l t count v chore direction ≡ each_limb f 16 l
    unfolding start_bytes
    start_is = rw (ok, is)

    -- as many bytes as were lent, and those past the 16 limbs as they were
    pub start-length : length (start_bytes s l t count v chore direction) ≡ length l
    start-length = ap length start_is ∙ length-each f l 16

    pub start-rest : (j : ℕ) → 256 ≤ j → get_or (start_bytes s l t count v chore direction) j 0 ≡ get_or l j 0
    start-rest j h = ap (λ (m : List ℕ). get_or m j 0) start_is ∙ each_above f l 16 j h

    -- the two bytes of a limb that are not used stay
    pub start_unused : (i j : ℕ) → i < 16 → 16 * i + 6 ≤ j → j < 16 * i + 8 → get_or (start_bytes s l t count v chore direction) j 0 ≡ get_or l j 0
    start_unused i j h a b = ap (λ (m : List ℕ). get_or m j 0) start_is ∙ each_unused f l i 16 h starts.whole j a b

    module _ (bytes : Bytes l) where
      -- a limb that the record does not name keeps every byte
      pub start-still : (i j : ℕ) → i < 16 → entry_of s (o - 6) i ≡ Unnamed → 16 * i ≤ j → j < 16 * i + 16
          → get_or (start_bytes s l t count v chore direction) j 0 ≡ get_or l j 0
      unfolding begun_limb
      start-still i j h e a b =
          ap (λ (m : List ℕ). get_or m j 0) start_is ∙ each-kept f l i 16 h starts.whole bytes (ap (λ (q : Entry). begun_limb q (limb_at l i)) e) j a b

      module _ (payload : Bytes s) where
        set-small : (i : ℕ) → Small (f i (limb_at l i))
        set-small i = begun_small 0 (limb_at l i) (entry_of s (o - 6) i) (entry_shape s (o - 6) i payload) (limb_small l i bytes)

        -- limb i is what its entry makes of what it was
        pub start_limb : (i : ℕ) → i < 16 → limb_at (start_bytes s l t count v chore direction) i ≡ begun_limb (entry_of s (o - 6) i) (limb_at l i)
        start_limb i h = ap (λ (m : List ℕ). limb_at m i) start_is ∙ each-limb f l i 16 h starts.whole (set-small i)

        set-right : (i : ℕ) → i < 16 → limb_right (length (stream s v)) (f i (limb_at l i)) ≡ true
        unfolding limbs_right
        set-right i h =
            let n = length (stream s v) in
            begun_right n (limb_at l i) (entry_of s (o - 6) i) (entry_shape s (o - 6) i payload)
            (record_entries s (o - 6) n (offset_record_right s o n starts.offset (defined-some s o is)) i h)
            (all_at 16 (λ k. limb_right n (limb_at l k)) starts.limbs i h)

        -- a tick is accepted then
        pub start_then_tick : tick_number s (start_bytes s l t count v chore direction) v ≡ 0
        unfolding tick_number
        start_then_tick =
            let right : limbs_right (length (stream s v)) (start_bytes s l t count v chore direction) ≡ true =
            ap (limbs_right (length (stream s v))) start_is ∙ limbs_put (length (stream s v)) f l starts.whole (λ i h. set-small i) set-right in
            rw (start-length, le-ltb (length l) 256 starts.whole, starts.command, right)

-- ---- the answer, and that nothing changes where a start is refused or the animation is not defined
module _ (s l : List ℕ) (t count v chore direction : ℕ) where
  pub start-number : number (started_of s l t count v chore direction) ≡ start_number s l t count v chore direction
  unfolding started_of
  start-number =
      let n = start_number s l t count v chore direction in
      go n (eqb n 0) refl (defined s (offset_at s t chore direction))
    where
      go : (n : ℕ) (z : Bool) → eqb n 0 ≡ z → (d : Bool) → number (cond z (cond d (Ok Set) (Ok Undefined)) (Err n)) ≡ n
      go n true e true = sym (eqb-true n 0 e)
      go n true e false = sym (eqb-true n 0 e)
      go n false e d = refl

  pub start_unchanged : (start_number s l t count v chore direction ≡ 0 → ⊥) → start_bytes s l t count v chore direction ≡ l
  unfolding start_bytes
  start_unchanged h = rw (ne_eqb _ _ h)

  pub undefined_unchanged : start_number s l t count v chore direction ≡ 0 → defined s (offset_at s t chore direction) ≡ false
      → start_bytes s l t count v chore direction ≡ l
  unfolding start_bytes
  undefined_unchanged h d = rw (h, d)

-- the stopped byte stays at a start, on idling too
pub begun_stopped : (e : Entry) (x : Limb) → (begun_limb e x).stopped ≡ x.stopped
unfolding begun_limb
begun_stopped Unnamed x = refl
begun_stopped Cut x = refl
begun_stopped Idle x = refl
begun_stopped (Window p n k) x = refl
