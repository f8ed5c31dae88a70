-- Laws of the table and the bodies: one strip more, and all of them. They hold for any bodies f.
use Rattle.std.proofs.Common.{◌≡◌, refl, sym, ap, ap₂, ◌∙◌, Bool, true, false, List, [], ◌∷◌, ◌++◌, append_assoc, append-nil, ℕ, zero, suc, ◌+◌, ◌-◌, ◌*◌, ◌≤◌, ◌<◌, zero-le, le_refl, arith, length, take, drop, length-append, length-drop, drop-drop, length-take-le, take-add}
use native.Mathlib.Nat.{sub-zero}
use lib.Seq.{sets, length-sets}
use Rattle.number.specs.Number.{le16_bytes, le32_bytes}
use Rattle.number.specs.Buffer.{over}
use Rattle.number.proofs.BufferLaws.{over_of}
use Rattle.table.specs.Table.{offset_size, table_end}
use Rattle.block_writer.specs.Block.{offset_bytes, offset_of, table_from, bodies_from}
use Rattle.block_writer.proofs.PutLaws.{put_before, put_to, put_past, put_tail}

pub offsets_less : (mask : Bool) (n s : ℕ) → s < n → offset_size mask * s + offset_size mask ≤ offset_size mask * n
offsets_less true n s h = omega arith
offsets_less false n s h = omega arith

pub offsets_next : (mask : Bool) (s : ℕ) → offset_size mask * (s + 1) ≡ offset_size mask * s + offset_size mask
offsets_next true s = omega arith
offsets_next false s = omega arith

pub offsets_few : (mask : Bool) (n : ℕ) → n ≤ 128 → offset_size mask * n ≤ 512
offsets_few true n h = omega arith
offsets_few false n h = omega arith

pub length_offset : (mask : Bool) (v : ℕ) → length (offset_bytes mask v) ≡ offset_size mask
unfolding offset_bytes le16_bytes le32_bytes
length_offset true v = refl
length_offset false v = refl

module _ (mask : Bool) (f : ℕ → List ℕ) where
  pub bodies_step : (n s : ℕ) → s < n → bodies_from f s (n - s) ≡ f s ++ bodies_from f (s + 1) (n - (s + 1))
  unfolding bodies_from
  bodies_step n s h = let e : n - s ≡ suc (n - (s + 1)) = omega arith in ap (bodies_from f s) e

  pub bodies_stop : (n s : ℕ) → n ≤ s → bodies_from f s (n - s) ≡ []
  unfolding bodies_from
  bodies_stop n s h = let e : n - s ≡ 0 = omega arith in ap (bodies_from f s) e

  pub table_step : (n s at : ℕ) → s < n
      → table_from mask f s (n - s) at ≡ offset_bytes mask (offset_of (f s) at) ++ table_from mask f (s + 1) (n - (s + 1)) (at + length (f s))
  unfolding table_from
  table_step n s at h = let e : n - s ≡ suc (n - (s + 1)) = omega arith in ap (λ (m : ℕ). table_from mask f s m at) e

  pub table_stop : (n s at : ℕ) → n ≤ s → table_from mask f s (n - s) at ≡ []
  unfolding table_from
  table_stop n s at h = let e : n - s ≡ 0 = omega arith in ap (λ (m : ℕ). table_from mask f s m at) e

  pub length-table : (s m at : ℕ) → length (table_from mask f s m at) ≡ offset_size mask * m
  unfolding table_from
  length-table s zero at = sym (none mask)
    where
      none : (mask : Bool) → offset_size mask * 0 ≡ 0
      none true = refl
      none false = refl
  length-table s (suc m) at =
      length-append (offset_bytes mask (offset_of (f s) at)) (table_from mask f (s + 1) m (at + length (f s)))
      ∙ ap₂ (λ (a b : ℕ). a + b) (length_offset mask (offset_of (f s) at)) (length-table (s + 1) m (at + length (f s)))
      ∙ more mask m
    where
      more : (mask : Bool) (m : ℕ) → offset_size mask + offset_size mask * m ≡ offset_size mask * suc m
      more true m = omega arith
      more false m = omega arith

-- s strips are written; the next offset goes to p, and the next body to `at`
pub record Filling (mask : Bool) (n : ℕ) (f : ℕ → List ℕ) (d out : List ℕ) (s at p : ℕ) : Type 0 where
  pub inside : s ≤ n
  pub whole : length out ≡ length d
  pub spot : p ≡ 8 + offset_size mask * s
  pub far : table_end mask n ≤ at
  pub past : drop at out ≡ drop at d
  pub room : at + length (bodies_from f s (n - s)) ≤ length out
  pub table : take p out ++ table_from mask f s (n - s) at ≡ take 8 d ++ table_from mask f 0 n (table_end mask n)
  pub bodies : take (at - table_end mask n) (drop (table_end mask n) out) ++ bodies_from f s (n - s) ≡ bodies_from f 0 n

pub filling_start : (mask : Bool) (n : ℕ) (f : ℕ → List ℕ) (d : List ℕ) → table_end mask n + length (bodies_from f 0 n) ≤ length d
    → Filling mask n f d d 0 (table_end mask n) 8
filling_start mask n f d room =
    let z : table_end mask n - table_end mask n ≡ 0 = omega arith in
    record {
      inside = zero-le;
      whole = refl;
      spot = none mask;
      far = le_refl (table_end mask n);
      past = refl;
      room = rw (sub-zero n) room;
      table = rw (sub-zero n);
      bodies = rw (sub-zero n) (ap (λ (k : ℕ). take k (drop (table_end mask n) d) ++ bodies_from f 0 n) z);
    }
  where
    none : (mask : Bool) → 8 ≡ 8 + offset_size mask * 0
    none true = refl
    none false = refl

module _ (mask : Bool) (n : ℕ) (f : ℕ → List ℕ) (d out : List ℕ) (s at p : ℕ) (w : Filling mask n f d out s at p) (lt : s < n) where
  b : ℕ
  b = table_end mask n

  pub body_room : at + length (f s) + length (bodies_from f (s + 1) (n - (s + 1))) ≤ length out
  body_room = omega (arith, w.room, ap length (bodies_step mask f n s lt) ∙ length-append (f s) (bodies_from f (s + 1) (n - (s + 1))))

  pub offset_room : p + offset_size mask ≤ table_end mask n
  offset_room = omega (arith, w.spot, offsets_less mask n s lt)

  pub filling_more : (v : ℕ) → v ≡ offset_of (f s) at
      → Filling mask n f d (sets (sets out at (f s)) p (offset_bytes mask v)) (s + 1) (at + length (f s)) (p + offset_size mask)
  unfolding b
  filling_more v e =
      let one = sets out at (f s) in
      let x = offset_bytes mask v in
      let m = at - b in
      let far = w.far in
      let lx = length_offset mask v in
      let h1 : at + length (f s) ≤ length out = omega (arith, body_room) in
      let l1 : length one ≡ length out = length-sets out at (f s) in
      let h2 : p + length x ≤ length one = omega (arith, offset_room) in
      let two = sets one p x in
      let l2 : length two ≡ length one = length-sets one p x in
      let to : p + offset_size mask ≡ p + length x = omega arith in
      let ld : length (drop b out) ≡ length out - b = length-drop b out in
      let tail : drop b two ≡ sets (drop b out) m (f s) =
      put_past one p x h2 b (omega (arith, offset_room)) ∙ put_tail out at (f s) h1 b m (omega arith) in
      let h3 : m + length (f s) ≤ length (drop b out) = omega arith in
      record {
        inside = omega arith;
        whole = l2 ∙ l1 ∙ w.whole;
        spot = omega (arith, w.spot, offsets_next mask s);
        far = omega arith;
        past =
            put_past one p x h2 (at + length (f s)) (omega (arith, offset_room))
            ∙ put_past out at (f s) h1 (at + length (f s)) (le_refl (at + length (f s)))
            ∙ sym (drop-drop (length (f s)) at out)
            ∙ ap (drop (length (f s))) w.past
            ∙ drop-drop (length (f s)) at d;
        room = omega (arith, body_room);
        table =
            ap (λ (q : List ℕ). q ++ table_from mask f (s + 1) (n - (s + 1)) (at + length (f s)))
            (put_to one p x h2 (p + offset_size mask) to ∙ ap₂ (λ (q r : List ℕ). q ++ r) (put_before out at (f s) h1 p (omega (arith, offset_room)))
            (ap (offset_bytes mask) e))
            ∙ append_assoc (take p out) (offset_bytes mask (offset_of (f s) at)) (table_from mask f (s + 1) (n - (s + 1)) (at + length (f s)))
            ∙ ap (λ (q : List ℕ). take p out ++ q) (sym (table_step mask f n s at lt))
            ∙ w.table;
        bodies =
            ap (λ (q : List ℕ). q ++ bodies_from f (s + 1) (n - (s + 1)))
            (ap (take (at + length (f s) - b)) tail ∙ put_to (drop b out) m (f s) h3 (at + length (f s) - b) (omega arith))
            ∙ append_assoc (take m (drop b out)) (f s) (bodies_from f (s + 1) (n - (s + 1)))
            ∙ ap (λ (q : List ℕ). take m (drop b out) ++ q) (sym (bodies_step mask f n s lt))
            ∙ w.bodies;
      }

pub filled : (mask : Bool) (n : ℕ) (f : ℕ → List ℕ) (d out : List ℕ) (s at p : ℕ) → Filling mask n f d out s at p → n ≤ s → 8 ≤ length d
    → out ≡ over (take 8 d ++ (table_from mask f 0 n (table_end mask n) ++ bodies_from f 0 n)) d
filled mask n f d out s at p w le h =
    let b = table_end mask n in
    let far = w.far in
    let same : p ≡ b = omega (arith, w.spot, ap (λ (k : ℕ). offset_size mask * k) (full s n w.inside le)) in
    let t : take b out ≡ take 8 d ++ table_from mask f 0 n b =
    ap (λ (k : ℕ). take k out) (sym same) ∙ sym (append-nil (take p out)) ∙ ap (λ (q : List ℕ). take p out ++ q) (sym (table_stop mask f n s at le)) ∙
    w.table in
    let u : take (at - b) (drop b out) ≡ bodies_from f 0 n =
    sym (append-nil (take (at - b) (drop b out))) ∙ ap (λ (q : List ℕ). take (at - b) (drop b out) ++ q) (sym (bodies_stop mask f n s le)) ∙ w.bodies in
    let room : at ≤ length out = omega (arith, w.room) in
    let split : take at out ≡ take b out ++ take (at - b) (drop b out) = cut b at out far in
    over_of (take 8 d ++ (table_from mask f 0 n b ++ bodies_from f 0 n)) out d at
    (ap length (sym (append_assoc (take 8 d) (table_from mask f 0 n b) (bodies_from f 0 n)) ∙ ap₂ (λ (q r : List ℕ). q ++ r) (sym t) (sym u) ∙ sym split) ∙
    length-take-le at out room)
    (split ∙ ap₂ (λ (q r : List ℕ). q ++ r) t u ∙ append_assoc (take 8 d) (table_from mask f 0 n b) (bodies_from f 0 n))
    w.past
  where
    full : (s n : ℕ) → s ≤ n → n ≤ s → s ≡ n
    full s n a b = omega arith

    cut : (b at : ℕ) (out : List ℕ) → b ≤ at → take at out ≡ take b out ++ take (at - b) (drop b out)
    cut b at out le = let e : at ≡ b + (at - b) = omega arith in ap (λ (k : ℕ). take k out) e ∙ take-add b (at - b) out

pub filled_size : (mask : Bool) (n : ℕ) (f : ℕ → List ℕ) (d out : List ℕ) (s at p : ℕ) → Filling mask n f d out s at p → n ≤ s
    → at ≡ table_end mask n + length (bodies_from f 0 n)
filled_size mask n f d out s at p w le =
    let b = table_end mask n in
    let far = w.far in
    let left = ap length (bodies_stop mask f n s le) in
    let len : length (drop b out) ≡ length out - b = length-drop b out in
    omega (
      arith,
      ap length w.bodies,
      length-append (take (at - b) (drop b out)) (bodies_from f s (n - s)),
      length-take-le (at - b) (drop b out) (omega (arith, w.room)),
    )

pub offset_none : (len at : ℕ) (b : List ℕ) → len ≡ 0 → len ≡ length b → 0 ≡ offset_of b at
offset_none len at [] e f = refl
offset_none len at (x ∷ b) e f = absurd (omega arith)

pub offset_some : (len at : ℕ) (b : List ℕ) → (len ≡ 0 → ⊥) → len ≡ length b → at ≡ offset_of b at
offset_some len at [] e f = absurd (e f)
offset_some len at (x ∷ b) e f = refl
