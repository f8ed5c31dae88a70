-- Laws of a strip that is written: where it starts, one pixel more, and where it ends.
use Rattle.std.proofs.Common.{◌≡◌, ℕ, ◌+◌, ◌-◌, ◌*◌, ◌/◌, ◌^◌, ◌<◌, ◌≤◌, Bool, List, [], ◌∷◌, ◌++◌, length, get_or, take, drop, set, sym, refl, ap, ◌∙◌, ap₂, append_assoc, zero-le, le_refl, add-one, arith, lit<, length-append, length-set, drop_of_length-le, length-take-le, drop-cons, drop-drop}
use Rattle.number.specs.Buffer.{over}
use Rattle.number.proofs.BufferLaws.{over_of}
use Rattle.bits.specs.Bits.{low_bits}
use Rattle.bits.proofs.BitLaws.{length-low}
use Rattle.strip_writer.specs.declared.BitWriter.{BitWriter}
use Rattle.strip_writer.specs.declared.Op.{Op}
use Rattle.strip_writer.specs.Pixels.{op_bits, step_of, ops_bits, strip_body}
use Rattle.strip_writer.specs.BitWriter.{bytes_with, bit_count, BitsPut, OpCoded}
use Rattle.strip_writer.proofs.BitWriterLaws.{further}
use Rattle.strip_writer.proofs.PackLaws.{length-packed}
use Rattle.strip_writer.proofs.SizeLaws.{Unit, unit_one, unit_step, ops_any_step}

pub length-strip : (px : List ℕ) → 1 ≤ length px → length (strip_body px) ≡ 2 + (length (ops_bits (get_or px 0 0) 1 (drop 1 px)) + 7) / 8
unfolding strip_body
length-strip [] h = absurd (omega arith)
length-strip (c ∷ vs) h = omega (arith, length-packed (ops_bits c 1 vs))

pub start : (px d : List ℕ) → 1 ≤ length px → 2 ≤ length d
    → strip_body px ≡ bytes_with (set (set d 0 0x1C) 1 (get_or px 0 0)) (record { at = 2; bits = 0; hold = 0 }) (ops_bits (get_or px 0 0) 1 (drop 1 px))
unfolding strip_body bytes_with low_bits
start [] d h k = absurd (omega arith)
start (c ∷ vs) [] h k = absurd (omega arith)
start (c ∷ vs) (x ∷ []) h k = absurd (omega arith)
start (c ∷ vs) (x ∷ y ∷ d) h k = refl

pub start-past : (d : List ℕ) (a b n : ℕ) → 2 ≤ n → drop n (set (set d 0 a) 1 b) ≡ drop n d
start-past d a b n h =
    let s : n ≡ 2 + (n - 2) = omega arith in
    ap (λ (k : ℕ). drop k (set (set d 0 a) 1 b)) s ∙ sym (drop-drop (n - 2) 2 (set (set d 0 a) 1 b)) ∙ ap (drop (n - 2)) (two d) ∙ drop-drop (n - 2) 2 d ∙ ap
    (λ (k : ℕ). drop k d) (sym s)
  where
    two : (d : List ℕ) → drop 2 (set (set d 0 a) 1 b) ≡ drop 2 d
    two [] = refl
    two (x ∷ []) = refl
    two (x ∷ y ∷ d) = refl

-- one pixel more
pub ops_step : (colour step : ℕ) (px : List ℕ) (i : ℕ) → i < length px
    → ops_bits colour step (drop i px) ≡ op_bits colour step (get_or px i 0) ++ ops_bits (get_or px i 0) (step_of colour step (get_or px i 0)) (drop (i + 1) px)
unfolding ops_bits
ops_step colour step px i h = ap (ops_bits colour step) (drop-cons px i 0 h ∙ ap (λ (k : ℕ). get_or px i 0 ∷ drop k px) (sym (add-one i)))

pub ops_end : (colour step : ℕ) (px : List ℕ) (i : ℕ) → length px ≤ i → ops_bits colour step (drop i px) ≡ []
unfolding ops_bits
ops_end colour step px i h = ap (ops_bits colour step) (drop_of_length-le px h)

pub written : (body e d : List ℕ) (r : ℕ) → take r e ≡ body → r ≤ length e → drop r e ≡ drop r d → (r ≡ length body) × (e ≡ over body d)
written body e d r front le back =
    let len : length body ≡ r = ap length (sym front) ∙ length-take-le r e le in
    (sym len, over_of body e d r len front back)

-- ---- the loop: i pixels are taken up, the last of them `colour`

pub record Writing (px d out : List ℕ) (writer : BitWriter) (colour step i : ℕ) : Type 0 where
  pub one : 1 ≤ i
  pub inside : i ≤ length px
  pub unit : Unit step
  pub whole : length out ≡ length d
  pub far : 2 ≤ writer.at
  pub past : drop writer.at out ≡ drop writer.at d
  pub low : writer.hold < 2 ^ writer.bits
  pub few : writer.bits ≤ 31
  pub room : bit_count writer + length (ops_bits colour step (drop i px)) ≤ 8 * length out
  pub same : strip_body px ≡ bytes_with out writer (ops_bits colour step (drop i px))

pub writing_start : (px d : List ℕ) → 1 ≤ length px → length (strip_body px) ≤ length d
    → Writing px (set (set d 0 0x1C) 1 (get_or px 0 0)) (set (set d 0 0x1C) 1 (get_or px 0 0)) (record { at = 2; bits = 0; hold = 0 }) (get_or px 0 0) 1 1
writing_start px d h room =
    let len = length-strip px h in
    let size : length (set (set d 0 0x1C) 1 (get_or px 0 0)) ≡ length d = length-set (set d 0 0x1C) 1 (get_or px 0 0) ∙ length-set d 0 0x1C in
    record {
      one = le_refl 1;
      inside = h;
      unit = unit_one;
      whole = refl;
      far = le_refl 2;
      past = refl;
      low = lit< tt;
      few = zero-le;
      room = omega arith;
      same = start px d h (omega arith);
    }

-- what is still to be written, by its next bits: those of one operation, or of two
pub split_one : (colour step : ℕ) (px : List ℕ) (i : ℕ) → i < length px → (o : Op) → OpCoded colour step (get_or px i 0) o
    → ops_bits colour step (drop i px) ≡ low_bits o.count o.value ++ ops_bits (get_or px i 0) o.step (drop (i + 1) px)
split_one colour step px i lt o k =
    ops_step colour step px i lt
    ∙ ap₂ (λ (b : List Bool) (s : ℕ). b ++ ops_bits (get_or px i 0) s (drop (i + 1) px)) (sym k.means) (sym k.after)

pub split_two : (colour step : ℕ) (px : List ℕ) (i : ℕ) → i + 1 < length px → (o : Op)
    → low_bits o.count o.value ≡ op_bits colour step (get_or px i 0) ++ op_bits (get_or px i 0) (step_of colour step (get_or px i 0)) (get_or px (i + 1) 0)
    → o.step ≡ step_of (get_or px i 0) (step_of colour step (get_or px i 0)) (get_or px (i + 1) 0)
    → ops_bits colour step (drop i px) ≡ low_bits o.count o.value ++ ops_bits (get_or px (i + 1) 0) o.step (drop (i + 2) px)
split_two colour step px i lt o means after =
    let v = get_or px i 0 in
    let x = get_or px (i + 1) 0 in
    let s = step_of colour step v in
    let e : i + 1 + 1 ≡ i + 2 = omega arith in
    ops_step colour step px i (omega arith)
    ∙ ap (λ (t : List Bool). op_bits colour step v ++ t)
    (ops_step v s px (i + 1) lt ∙ ap (λ (k : ℕ). op_bits v s x ++ ops_bits x (step_of v s x) (drop k px)) e)
    ∙ sym (append_assoc (op_bits colour step v) (op_bits v s x) (ops_bits x (step_of v s x) (drop (i + 2) px)))
    ∙ ap₂ (λ (b : List Bool) (t : ℕ). b ++ ops_bits x t (drop (i + 2) px)) (sym means) (sym after)

module _ (px d out : List ℕ) (writer : BitWriter) (colour step i : ℕ) (w : Writing px d out writer colour step i) (colour' step' i' count value : ℕ)
    (split : ops_bits colour step (drop i px) ≡ low_bits count value ++ ops_bits colour' step' (drop i' px)) where
  counted : length (ops_bits colour step (drop i px)) ≡ count + length (ops_bits colour' step' (drop i' px))
  counted =
      ap length split
      ∙ length-append (low_bits count value) (ops_bits colour' step' (drop i' px))
      ∙ ap (λ (n : ℕ). n + length (ops_bits colour' step' (drop i' px))) (length-low count value)

  pub room_for : bit_count writer + count < 8 * length out + 8
  room_for = omega (arith, counted, w.room)

  pub writing_more : 1 ≤ i' → i' ≤ length px → Unit step' → (e : List ℕ) (q : BitWriter) → BitsPut out e writer q (low_bits count value)
      → bit_count q ≡ bit_count writer + count → q.bits ≤ 31 → Writing px d e q colour' step' i'
  writing_more one inside unit e q p at few =
      record {
        one = one;
        inside = inside;
        unit = unit;
        whole = p.whole ∙ w.whole;
        far = omega (arith, p.on, w.far);
        past = p.past ∙ further out d q.at writer.at p.on w.past;
        low = p.low;
        few = few;
        room = omega (arith, counted, w.room, p.whole);
        same = w.same ∙ ap (bytes_with out writer) split ∙ p.same (ops_bits colour' step' (drop i' px));
      }

pub writing_end : (px d d₀ out e : List ℕ) (writer : BitWriter) (colour step i r : ℕ) → Writing px d out writer colour step i → length px ≤ i
    → ((n : ℕ) → 2 ≤ n → drop n d ≡ drop n d₀)
    → take r e ≡ bytes_with out writer [] → drop r e ≡ drop r out → writer.at ≤ r → r ≤ length e
    → (r ≡ length (strip_body px)) × (e ≡ over (strip_body px) d₀)
writing_end px d d₀ out e writer colour step i r w le tail front back on in_e =
    written (strip_body px) e d₀ r
    (front ∙ ap (bytes_with out writer) (sym (ops_end colour step px i le)) ∙ sym w.same)
    in_e
    (back ∙ further out d r writer.at on w.past ∙ tail r (omega (arith, w.far)))

-- ---- the count: one pixel more, which takes as many bits whatever the step before it was
pub count-more : (px : List ℕ) (c i : ℕ) → i < length px
    → length (ops_bits c 1 (drop i px)) ≡ length (op_bits c 1 (get_or px i 0)) + length (ops_bits (get_or px i 0) 1 (drop (i + 1) px))
count-more px c i h =
    let v = get_or px i 0 in
    ap length (ops_step c 1 px i h)
    ∙ length-append (op_bits c 1 v) (ops_bits v (step_of c 1 v) (drop (i + 1) px))
    ∙ ap (λ (k : ℕ). length (op_bits c 1 v) + k) (ops_any_step v (step_of c 1 v) (drop (i + 1) px) (unit_step c 1 v unit_one))
