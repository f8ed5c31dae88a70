-- A listing says what the calls say one by one: the record, and for each object its header, its name's place and the states that can be drawn.
use Rattle.std.proofs.Common.{ℕ, suc, ◌+◌, ◌-◌, ◌*◌, ◌/◌, ◌%◌, ◌^◌, ◌≤◌, ◌<◌, ◌≡◌, refl, sym, ap, ap₂, ◌∙◌, subst, Bool, true, false, cond, List, ◌⊎◌, inl, inr, ◌↔◌, arith, le-ltb, length, get_or, drop, length-append, length-drop, get_or-append-add, get_or-drop, Option, Some, None, Result, Ok, Err}
use mathlib.Core.Bool.{false≢true}
use lib.ListN.{get_or-append}
use Rattle.number.specs.Number.{le16, le32, le16_bytes, le32_bytes}
use Rattle.number.specs.Buffer.{over}
use Rattle.block.specs.Tag.{tag-CDHD}
use Rattle.block.specs.Tree.{need_tag, is_at, has_in, Inside}
use Rattle.block_writer.proofs.PlacedLaws.{four_bytes}
use Rattle.room.specs.Head.{room_of, head_of}
use Rattle.room.specs.Test.{pictures_test, short, room_when_passed, after_head, room_test, number_of, nothing, fixed_only, with_flags}
use Rattle.room.proofs.TestLaws.{test-passes}
use Rattle.room.specs.declared.Lent.{Lent}
use Rattle.room.specs.declared.Room.{Room}
use Rattle.objects.specs.Record.{record_test, record_after}
use Rattle.objects.specs.Object.{payload_at, object_block, block_or_absent, chosen_after, chosen_block, header_in, header_place, header_bytes}
use Rattle.objects.specs.Object.{place_number, header_after, header_call}
use Rattle.objects.specs.Name.{name_in, name_after, name_place, part_at, place_word, chosen_number, name_number}
use Rattle.objects.proofs.ObjectLaws.{object_in}
use Rattle.objects.proofs.NameLaws.{name_at, part-word}
use Rattle.image.specs.Image.{object_count, drawable}
use Rattle.image.proofs.ImageLaws.{object_there}
use Rattle.object_list.specs.List.{header_part, name_part, state_bits, row_bytes, rows_to, list_test, rows_after}
use Rattle.object_list.proofs.RowLaws.{rows_long, row-header, row-start, row_count, row-states, row-zeros, row_byte, listed}
use Rattle.compare.proofs.CountLaws.{bits_below, bit_is}
use Rattle.demands.specs.PictureRefusals.{picture_of}
use Rattle.demands.specs.Refusals.{Sized}
use Rattle.demands.specs.Listing.{row_at, RowReads, Listing}
use Rattle.demands.proofs.RefusalRooms.{HeadIs, head_is, Verdict, verdict, number_is, accepted, short-flags}
use Rattle.demands.proofs.RefusalPictures.{refused_wrong, wrong_number}
use Rattle.demands.proofs.RefusalObjects.{object_has}

-- ---- the test

-- a test that gives 0 passes
passing : (lent : Lent) (s : List ℕ) (t : Result Room ℕ) → Verdict lent s t → number_of t ≡ 0 → (r : Room) × (t ≡ Ok r)
passing lent s (Ok r) v e = (r, refl)
passing lent s (Err n) v e = absurd (omega (arith, (number_is lent s n v).0, e))

counted : (s : List ℕ) (r : Room) → Sized s r → r.objects ≡ object_count s
unfolding room_of
counted s r (p, blocks, room, sizes) = ap (λ (q : Room). q.objects) (sym room)

head_number : (s : List ℕ) (n : ℕ) → HeadIs s (Err n) → (1 ≤ n) × (n ≤ 3)
head_number s n (inl (e, w)) = (omega arith, omega arith)
head_number s n (inr (inl (e, w, v))) = (omega arith, omega arith)
head_number s n (inr (inr (e, w))) = (omega arith, omega arith)

module _ (s out rows : List ℕ) where
  abbrev lent : Lent
  lent = with_flags 16 (length out) (length rows / 32)

  abbrev alone : Lent
  alone = fixed_only 16 (length out)

  -- rows that are long enough: the test is that of the record
  short-same : (r : Room) → r.objects ≡ object_count s → 32 * object_count s ≤ length rows → short lent r ≡ short alone r
  unfolding short
  short-same r e h = rw (le-ltb (length rows / 32) r.objects (omega arith))

  after_same : 32 * object_count s ≤ length rows → (t : Result Room ℕ) → HeadIs s t → after_head lent s t ≡ after_head alone s t
  unfolding after_head
  after_same h (Ok r) head = ap (λ (q : Bool). cond q (Err 4) (room_when_passed (pictures_test s r) r)) (short-same r (counted s r head) h)
  after_same h (Err n) head = refl

  enough-same : 32 * object_count s ≤ length rows → list_test s out rows ≡ record_test s out
  unfolding room_test
  enough-same h = after_same h (head_of s) (head_is s)

  -- rows that are too short: 4, but for what comes before it
  abbrev Fewer : (n m : ℕ) → Type 0
  Fewer n m = (1 ≤ n → n ≤ 3 → m ≡ n) × ((n ≡ 0) ⊎ (4 ≤ n) → m ≡ 4)

  head_first : (n : ℕ) → HeadIs s (Err n) → (n ≡ 0) ⊎ (4 ≤ n) → n ≡ 4
  head_first n head (inl e) = absurd (omega (arith, (head_number s n head).0))
  head_first n head (inr e) = absurd (omega (arith, (head_number s n head).1))

  pictures_late : (r : Room) (q : Bool) (t : Result (Unit {0}) ℕ) → pictures_test s r ≡ t
      → let n = number_of (cond q (Err 4) (room_when_passed t r)) in 1 ≤ n → n ≤ 3 → ⊥
  unfolding pictures_test
  pictures_late r true t e one few = omega arith
  pictures_late r false (Ok tt) e one few = omega arith
  pictures_late r false (Err n) e one few = omega (arith, (wrong_number s (picture_of r) n (refused_wrong s (picture_of r) n e)).0)

  after_fewer : length rows < 32 * object_count s → (t : Result Room ℕ) → HeadIs s t
      → Fewer (number_of (after_head alone s t)) (number_of (after_head lent s t))
  unfolding after_head
  after_fewer h (Ok r) head =
      let objects = counted s r head in
      let lacks : short lent r ≡ true = (short-flags 16 (length out) (length rows / 32) r).1 (inr (omega arith)) in
      let four = ap (λ (q : Bool). number_of (cond q (Err 4) (room_when_passed (pictures_test s r) r))) lacks in
      (λ one few. absurd (pictures_late r (short alone r) (pictures_test s r) refl one few), λ late. four)
  after_fewer h (Err n) head = (λ one few. refl, head_first n head)

  fewer : length rows < 32 * object_count s → Fewer (number_of (record_test s out)) (number_of (list_test s out rows))
  unfolding room_test
  fewer h = after_fewer h (head_of s) (head_is s)

  -- what an accepted call found
  found-room : number_of (list_test s out rows) ≡ 0 → (r : Room) × (list_test s out rows ≡ Ok r)
  found-room ok = passing lent s (list_test s out rows) (verdict lent s) ok

  long-enough : number_of (list_test s out rows) ≡ 0 → 32 * object_count s ≤ length rows
  long-enough ok =
      let (r, right) = found-room ok in
      let i = listed s out rows r (sym right) in
      omega (arith, i.1, i.4)

  accepted_both : (number_of (list_test s out rows) ≡ 0) ↔ ((number_of (record_test s out) ≡ 0) × (32 * object_count s ≤ length rows))
  accepted_both = (
    λ ok. (sym (ap number_of (enough-same (long-enough ok))) ∙ ok, long-enough ok),
    λ (ok, long). ap number_of (enough-same long) ∙ ok,
  )

-- ---- a number in its bytes

module _ (l : List ℕ) (at v : ℕ) where
  abbrev first : at + 0 ≡ at
  first = omega arith

  le16_read : v < 65536 → ((i : ℕ) → i < 2 → get_or l (at + i) 0 ≡ get_or (le16_bytes v) i 0) → le16 l at ≡ v
  unfolding le16_bytes
  le16_read small bytes =
      let a : get_or l at 0 ≡ v % 256 = rw first at (bytes 0 (omega arith)) in
      let b : get_or l (at + 1) 0 ≡ v / 256 % 256 = bytes 1 (omega arith) in
      omega arith

  le32_read : v < 4294967296 → ((i : ℕ) → i < 4 → get_or l (at + i) 0 ≡ get_or (le32_bytes v) i 0) → le32 l at ≡ v
  unfolding le32_bytes
  le32_read small bytes =
      let a : get_or l at 0 ≡ v % 256 = rw first at (bytes 0 (omega arith)) in
      let b : get_or l (at + 1) 0 ≡ v / 256 % 256 = bytes 1 (omega arith) in
      let c : get_or l (at + 2) 0 ≡ v / 65536 % 256 = bytes 2 (omega arith) in
      let d : get_or l (at + 3) 0 ≡ v / 16777216 % 256 = bytes 3 (omega arith) in
      omega (arith, four_bytes v small)

-- ---- an object of a room that passes

has_header : (s : List ℕ) (f : Option (ℕ × ℕ)) → is_at f ≡ true → has_in tag-CDHD 13 s f ≡ true → (p : ℕ) × (header_in s (block_or_absent f) ≡ Ok p)
has_header s (Some (b, z)) there has = go (need_tag tag-CDHD 13 s (b + 8) z) has
  where
    go : (g : Option (ℕ × ℕ)) → is_at g ≡ true → (p : ℕ) × (payload_at g ≡ Ok p)
    go (Some (p, e)) h = (p, refl)
    go None h = absurd (false≢true h)
has_header s None there has = absurd (false≢true there)

chosen_zero : (f : Option (ℕ × ℕ)) → is_at f ≡ true → chosen_number (block_or_absent f) ≡ 0
chosen_zero (Some (b, z)) there = refl
chosen_zero None there = absurd (false≢true there)

-- a name's place is a small one
part_small : (s : List ℕ) → length s ≤ 1048576 → (f : Option (ℕ × ℕ)) → Inside 8 (length s) f
    → ((name_part s f).start < 4294967296) × ((name_part s f).count < 4294967296)
part_small s small (Some (b, z)) i = go (name_in s b z) refl
  where
    go : (g : Option (ℕ × ℕ)) → g ≡ name_in s b z → ((part_at g).start < 4294967296) × ((part_at g).count < 4294967296)
    go (Some (a, e)) h = let k = name_at s b z a e i.2 h in (omega (arith, k), omega (arith, k))
    go None h = (omega arith, omega arith)
part_small s small None i = (omega arith, omega arith)

header-kept : (s out : List ℕ) (p j : ℕ) → j < 16 → get_or (header_bytes s p) j 0 ≡ get_or (over (header_bytes s p) out) j 0
unfolding over header_bytes
header-kept s out p j lt = sym (get_or-append (header_bytes s p) (drop 16 out) 0 j lt)

holds_bit : (d : Bool) → (◌≡◌ {A = ℕ} (cond d 1 0) 1) ↔ (d ≡ true)
holds_bit true = (λ e. refl, λ e. refl)
holds_bit false = (λ e. absurd (omega arith), λ e. absurd (false≢true e))

module _ (s : List ℕ) (lent : Lent) (r : Room) (right : room_test lent s ≡ Ok r) (rows : List ℕ) where
  -- the whole test with anything else lent that is long enough
  passes : (other : Lent) → short other r ≡ false → room_test other s ≡ Ok r
  passes other enough = let a = (accepted lent s r).0 right in (accepted other s r).1 (a.0, enough, a.2)

  header-enough : (n : ℕ) → 16 ≤ n → short (fixed_only 16 n) r ≡ false
  unfolding short
  header-enough n h = rw (le-ltb n 16 h)

  nothing-short : short nothing r ≡ false
  unfolding short
  nothing-short = refl

  module _ (o : ℕ) (one : 1 ≤ o) (le : o ≤ object_count s) where
    abbrev block : Option (ℕ × ℕ)
    block = object_block s o

    there : is_at block ≡ true
    there = object_there s o one le

    -- the calls, one by one
    header_there : (p : ℕ) × (header_in s (block_or_absent block) ≡ Ok p)
    header_there = has_header s block there (object_has s ((accepted lent s r).0 right).0.1.2 o)

    header_is : (out : List ℕ) → 16 ≤ length out → header_call s out o ≡ header_in s (block_or_absent block)
    unfolding header_place chosen_block
    header_is out h = ap (λ (t : Result Room ℕ). header_in s (chosen_after s o t)) (passes (fixed_only 16 (length out)) (header-enough (length out) h))

    header_at : (out : List ℕ) → 16 ≤ length out → header_call s out o ≡ Ok header_there.0
    header_at out h = header_is out h ∙ header_there.1

    name_is : name_place s o ≡ name_after s (block_or_absent block)
    unfolding name_place chosen_block
    name_is = ap (λ (t : Result Room ℕ). name_after s (chosen_after s o t)) (passes nothing nothing-short)

    name-zero : name_number s o ≡ 0
    unfolding name_number chosen_block
    name-zero = ap (λ (t : Result Room ℕ). chosen_number (chosen_after s o t)) (passes nothing nothing-short) ∙ chosen_zero block there

    -- the row's bytes
    abbrev after : List ℕ
    after = over (rows_to s r.objects) rows

    byte : (j : ℕ) → j < 32 → get_or after (row_at o + j) 0 ≡ get_or (row_bytes s o) j 0
    unfolding over
    byte j lt =
        let objects = counted s r ((accepted lent s r).0 right).0 in
        let same : suc (o - 1) ≡ o = omega arith in
        row_byte s r.objects (drop (length (rows_to s r.objects)) rows) (o - 1) j (omega arith) lt
        ∙ ap (λ (k : ℕ). get_or (row_bytes s k) j 0) same

    abbrev states : ℕ
    states = state_bits s o 9

    few : states < 512
    unfolding state_bits
    few = bits_below (λ n. drawable s o (suc n)) (state_bits s o) refl (λ n. refl) 9

    -- of n bytes from c on
    run : (c n : ℕ) → c + n ≤ 32 → (i : ℕ) → i < n → get_or after (row_at o + c + i) 0 ≡ get_or (row_bytes s o) (c + i) 0
    run c n fits i lt = let e : row_at o + c + i ≡ row_at o + (c + i) = omega arith in rw e (byte (c + i) (omega arith))

    name-small : ((name_part s block).start < 4294967296) × ((name_part s block).count < 4294967296)
    name-small = part_small s (listed_small) block (object_in s o)
      where
        listed_small : length s ≤ 1048576
        listed_small = (test-passes lent s r (sym right)).sound.small

    start_is : le32 after (row_at o + 16) ≡ (name_part s block).start
    start_is =
        le32_read after (row_at o + 16) (name_part s block).start name-small.0
        (λ i lt. run 16 4 (omega arith) i lt ∙ row-start s block states i lt)

    count_is : le32 after (row_at o + 20) ≡ (name_part s block).count
    count_is =
        le32_read after (row_at o + 20) (name_part s block).count name-small.1
        (λ i lt. run 20 4 (omega arith) i lt ∙ row_count s block states i lt)

    states_are : le16 after (row_at o + 24) ≡ states
    states_are = le16_read after (row_at o + 24) states (omega (arith, few)) (λ i lt. run 24 2 (omega arith) i lt ∙ row-states s block states i lt)

    state_bit : (st : ℕ) → 1 ≤ st → st ≤ 9 → states / 2 ^ (st - 1) % 2 ≡ cond (drawable s o st) 1 0
    unfolding state_bits
    state_bit st some most =
        let same : suc (st - 1) ≡ st = omega arith in
        bit_is (λ n. drawable s o (suc n)) (state_bits s o) refl (λ n. refl) 9 (st - 1) (omega arith) ∙ ap (λ (k : ℕ). cond (drawable s o k) 1 0) same

    zeros_are : (j : ℕ) → 26 ≤ j → j < 32 → get_or after (row_at o + j) 0 ≡ 0
    zeros_are j low high =
        let e : j ≡ 26 + (j - 26) = omega arith in
        byte j high ∙ ap (λ (k : ℕ). get_or (row_bytes s o) k 0) e ∙ row-zeros s block states (j - 26) (omega arith)

    row_reads : RowReads s after o
    row_reads =
        record {
          header-accepted = λ out h. ap place_number (header_at out h);
          header = λ out h j lt.
              byte j (omega arith) ∙ row-header s block states j lt
              ∙ ap (λ (q : Result ℕ ℕ). get_or (header_part s q) j 0) header_there.1
              ∙ header-kept s out header_there.0 j lt
              ∙ ap (λ (q : Result ℕ ℕ). get_or (header_after s q out) j 0) (sym (header_at out h));
          name-accepted = name-zero;
          name = ap₂ (λ (x y : ℕ). x + y * 4294967296) start_is count_is ∙ part-word (name_after s (block_or_absent block)) ∙ ap place_word (sym name_is);
          halves = (rw start_is name-small.0, rw count_is name-small.1);
          states = λ st some most. rw (states_are, state_bit st some most) (holds_bit (drawable s o st));
          nine = rw states_are few;
          zeros = zeros_are;
        }

-- ---- what is behind the rows

over-long : (xs l : List ℕ) → length xs ≤ length l → length (over xs l) ≡ length l
unfolding over
over-long xs l h = omega (arith, length-append xs (drop (length xs) l), length-drop (length xs) l)

over-past : (xs l : List ℕ) (j : ℕ) → length xs ≤ j → get_or (over xs l) j 0 ≡ get_or l j 0
unfolding over
over-past xs l j h =
    let e : j ≡ length xs + (j - length xs) = omega arith in
    ap (λ (k : ℕ). get_or (over xs l) k 0) e
    ∙ get_or-append-add xs (drop (length xs) l) (j - length xs) 0
    ∙ get_or-drop (length xs) l (j - length xs) 0
    ∙ ap (λ (k : ℕ). get_or l k 0) (sym e)

module _ (s out rows : List ℕ) where
  rows_keep : (t : Result Room ℕ) → t ≡ list_test s out rows → length (rows_after s t rows) ≡ length rows
  rows_keep (Ok r) e = let i = listed s out rows r e in over-long (rows_to s r.objects) rows (omega (arith, rows_long s r.objects, i.1))
  rows_keep (Err n) e = refl

  rows_stay : number_of (list_test s out rows) ≡ 0 → (j : ℕ) → 32 * object_count s ≤ j → get_or (rows_after s (list_test s out rows) rows) j 0 ≡ get_or rows j 0
  rows_stay ok j h =
      let (r, right) = found-room s out rows ok in
      let i = listed s out rows r (sym right) in
      ap (λ (t : Result Room ℕ). get_or (rows_after s t rows) j 0) right ∙ over-past (rows_to s r.objects) rows j (omega (arith, rows_long s r.objects, i.4))

  rows_read : number_of (list_test s out rows) ≡ 0 → (o : ℕ) → 1 ≤ o → o ≤ object_count s → RowReads s (rows_after s (list_test s out rows) rows) o
  rows_read ok o one le =
      let (r, right) = found-room s out rows ok in
      subst (λ (t : Result Room ℕ). RowReads s (rows_after s t rows) o) (sym right) (row_reads s (lent s out rows) r right rows o one le)

pub listing : Listing
listing =
    record {
      accepted = accepted_both;
      enough = λ s out rows long. ap number_of (enough-same s out rows long);
      first = λ s out rows h. (fewer s out rows h).0;
      short = λ s out rows h. (fewer s out rows h).1;
      same_record = λ s out rows ok. ap (λ (t : Result Room ℕ). record_after t out) (enough-same s out rows (long-enough s out rows ok));
      rows_read = rows_read;
      same_length = λ s out rows. rows_keep s out rows (list_test s out rows) refl;
      past = rows_stay;
    }
