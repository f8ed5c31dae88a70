-- What is wrong with an animation's numbers, record, command offset or limbs (refusal 15).
use Rattle.std.proofs.Common.{◌≡◌, refl, ap, ◌∙◌, Bool, false, true≢false, List, ◌⊎◌, inl, inr, ◌↔◌, ℕ, zero, suc, ◌+◌, ◌-◌, ◌*◌, ◌<◌, arith, leb, ltb, eqb, length}
use Rattle.limbs.specs.declared.Limb.{Limb}
use Rattle.limbs.specs.Limb.{flag, limb_at, all, idle, place_right, limb_right, places_right, limbs_right}
use Rattle.limbs.specs.Tick.{command_right}
use Rattle.limbs.proofs.LimbLaws.{all_false}
use Rattle.costume.specs.declared.Entry.{Entry}
use Rattle.costume.specs.declared.Entry.TheVariants.{Unnamed, Cut, Idle, Window}
use Rattle.costume.specs.Record.{entry_of, entry_right, record_right}
use Rattle.costume.specs.Start.{record_number, numbers_right, no_record, offset_right}
use Rattle.demands.specs.CostumeRefusals.{NumbersWrong, CommandWrong, EntryWrong, RecordWrong, PlaceWrong, LimbWrong, SomePlaceWrong, SomeLimbWrong}
use Rattle.demands.proofs.RefusalTests.{◌then◌, or_fails, one_fails, none-holds, negated, both_ways, flat_sum, not-up_to}
use Rattle.demands.proofs.RefusalTests.{not-below, differs}

-- ---- one of the first n fails

some_fails : (n : ℕ) (t : ℕ → Bool) → all n t ≡ false → (i : ℕ) × (i < n) × (t i ≡ false)
unfolding all
some_fails zero t e = absurd (true≢false e)
some_fails (suc n) t e = go ((one_fails (all n t) (t n)).0 e) (some_fails n t)
  where
    go : (all n t ≡ false) ⊎ (t n ≡ false) → (all n t ≡ false → (i : ℕ) × (i < n) × (t i ≡ false)) → (i : ℕ) × (i < suc n) × (t i ≡ false)
    go (inl w) later = let (i, lt, f) = later w in (i, omega arith, f)
    go (inr w) later = (n, omega arith, w)

one_of : (n : ℕ) (t : ℕ → Bool) (P : ℕ → Type 0) → ((i : ℕ) → (t i ≡ false) ↔ P i) → (all n t ≡ false) ↔ ((i : ℕ) × (i < n) × P i)
one_of n t P e = (
  λ w. let (i, lt, f) = some_fails n t w in (i, lt, (e i).0 f),
  λ (i, lt, p). all_false n t i lt ((e i).1 p),
)

-- ---- numbers and the command offset

pub numbers_wrong : (s : List ℕ) (t count chore direction : ℕ) → (numbers_right s t count chore direction ≡ false) ↔ NumbersWrong s t count chore direction
unfolding numbers_right
numbers_wrong s t count chore direction =
    or_fails _ (leb (t + 2 * count) (length s))
    (or_fails _ (ltb (record_number chore direction) count)
    (or_fails (leb chore 243) (leb direction 3) (not-up_to chore 243) (not-up_to direction 3))
    (not-below (record_number chore direction) count))
    (not-up_to (t + 2 * count) (length s))
    then flat_sum
    then flat_sum

pub command_wrong : (s : List ℕ) (v : ℕ) → (command_right s v ≡ false) ↔ CommandWrong s v
command_wrong s v = or_fails (leb 6 v) (leb (v - 6) (length s)) (not-up_to 6 v) (not-up_to (v - 6) (length s))

-- ---- limbs

one_place : (x : Limb) → (place_right x ≡ false) ↔ PlaceWrong x
unfolding place_right
one_place x =
    none-holds (idle x) _
    then both_ways (negated (flag x.active))
    (or_fails _ (ltb x.place (x.start + x.len))
    (or_fails _ (leb x.start x.place)
    (or_fails (leb 1 x.len) (leb x.len 128) (not-up_to 1 x.len) (not-up_to x.len 128))
    (not-up_to x.start x.place))
    (not-below x.place (x.start + x.len))
    then flat_sum
    then flat_sum)

one_limb : (n : ℕ) (x : Limb) → (limb_right n x ≡ false) ↔ LimbWrong n x
unfolding limb_right
one_limb n x =
    or_fails (place_right x) _ (one_place x)
    (none-holds (idle x) (leb (x.start + x.len) n) then both_ways (negated (flag x.active)) (not-up_to (x.start + x.len) n))

pub place_wrong : (l : List ℕ) → (places_right l ≡ false) ↔ SomePlaceWrong l
unfolding places_right
place_wrong l = one_of 16 (λ i. place_right (limb_at l i)) (λ i. PlaceWrong (limb_at l i)) (λ i. one_place (limb_at l i))

pub limb_wrong : (n : ℕ) (l : List ℕ) → (limbs_right n l ≡ false) ↔ SomeLimbWrong n l
unfolding limbs_right
limb_wrong n l = one_of 16 (λ i. limb_right n (limb_at l i)) (λ i. LimbWrong n (limb_at l i)) (λ i. one_limb n (limb_at l i))

-- ---- records

entry_wrong : (n : ℕ) (e : Entry) → (entry_right n e ≡ false) ↔ EntryWrong n e
entry_wrong n e = (there e, back e)
  where
    there : (e : Entry) → entry_right n e ≡ false → EntryWrong n e
    there Unnamed w = absurd (true≢false w)
    there Cut w = inl refl
    there Idle w = absurd (true≢false w)
    there (Window a len k) w = inr (a, len, k, refl, (not-up_to (a + len) n).0 w)

    back : (e : Entry) → EntryWrong n e → entry_right n e ≡ false
    back e (inl w) = ap (entry_right n) w
    back e (inr (a, len, k, w, past)) = ap (entry_right n) w ∙ (not-up_to (a + len) n).1 past

pub record_wrong : (s : List ℕ) (o n : ℕ) → (offset_right s o n ≡ false) ↔ RecordWrong s o n
unfolding offset_right record_right
record_wrong s o n =
    none-holds (no_record o) _
    then both_ways (none-holds (eqb o 0) (eqb o 65535) then both_ways (differs o 0) (differs o 65535))
    (or_fails (leb 6 o) _ (not-up_to 6 o)
    (or_fails (leb (o - 6 + 2) (length s)) _ (not-up_to (o - 6 + 2) (length s))
    (one_of 16 (λ i. entry_right n (entry_of s (o - 6) i)) (λ i. EntryWrong n (entry_of s (o - 6) i)) (λ i. entry_wrong n (entry_of s (o - 6) i)))))
    then (λ ((a, b), c). (a, b, c), λ (a, b, c). ((a, b), c))
