-- Computed examples: the starts of a payload with five records.
use Rattle.std.proofs.Common.{◌≡◌, refl, true, false, List, [], ◌∷◌, ℕ, replicate, Result, Ok, Err}
use Rattle.number.specs.Number.{le32_bytes}
use Rattle.limbs.specs.Limb.{limb_at, put_limb, each_limb, all, place_right, limb_right, limbs_right}
use Rattle.limbs.proofs.Examples.{commands, lent, still, bytes, bent}
use Rattle.costume.specs.declared.Started.{Started}
use Rattle.costume.specs.declared.Started.TheVariants.{Set, Undefined}
use Rattle.costume.specs.Record.{entry_at, entry_place, entry_of, record_right, begun_limb}
use Rattle.costume.specs.Start.{numbers_right, offset_right, defined, start_number, started_of, start_bytes}

-- The table, five offsets: the record at 10, none, a wrong one, the record at 18, the record at 20. The record at 10 starts limb 0 at 0, 3 bytes long, and
-- limb 2 at 3, 2 bytes long with no-loop; that at 18 has a zero mask; that at 20 idles limb 2. The command stream stands from 24.
payload : List ℕ
payload =
    16 ∷ 0 ∷ 0 ∷ 0 ∷ 3 ∷ 0 ∷ 24 ∷ 0 ∷ 26 ∷ 0
    ∷ 0 ∷ 160 ∷ 0 ∷ 0 ∷ 2 ∷ 3 ∷ 0 ∷ 129
    ∷ 0 ∷ 0
    ∷ 0 ∷ 32 ∷ 255 ∷ 255
    ∷ commands

-- the answers of a start, by chore and direction: a record, offset 0, offset 3, a zero mask, an idling record, a number past the count
answer : (chore direction : ℕ) → Result Started ℕ
answer chore direction = started_of payload still 0 5 30 chore direction

answers : answer 0 0 ∷ answer 0 1 ∷ answer 0 2 ∷ answer 0 3 ∷ answer 1 0 ∷ answer 1 1 ∷ []
    ≡ Ok Set ∷ Ok Undefined ∷ Err 15 ∷ Ok Undefined ∷ Ok Set ∷ Err 15 ∷ []
unfolding answer still lent payload commands started_of start_number numbers_right limbs_right all limb_right place_right limb_at offset_right record_right
    entry_of entry_place entry_at defined
answers = refl

-- too few limbs; a chore, a direction, a count, a table and two command offsets that are wrong; an empty stream; a window past the stream
refusals : started_of payload (replicate 255 0) 0 5 5 244 4 ∷ started_of payload still 0 5 30 244 0 ∷ started_of payload still 0 5 30 0 4 ∷ started_of payload
    still
    0 0 30 0 0
    ∷ started_of payload still 0 15 30 0 0 ∷ started_of payload still 0 5 5 0 0 ∷ started_of payload still 0 5 36 0 1 ∷ started_of payload still 0 5 35 0 1 ∷
    started_of payload still 0 5 31 0 0 ∷ []
    ≡ Err 4 ∷ Err 15 ∷ Err 15 ∷ Err 15 ∷ Err 15 ∷ Err 15 ∷ Err 15 ∷ Ok Undefined ∷ Err 15 ∷ []
unfolding still lent payload commands started_of start_number numbers_right limbs_right all limb_right place_right limb_at offset_right record_right entry_of
    entry_place entry_at defined
refusals = refl

-- ---- the bytes

-- the record at 10 sets limbs 0 and 2; limb 0 was stopped and stays so
setting : start_bytes payload (lent (bytes 0 1 0 0 0 0 0 0) (bytes 1 0 0 1 18 2 0 1)) 0 5 30 0 0 ≡ lent (bytes 1 1 0 0 0 3 0 0) (bytes 1 0 1 0 0 2 3 3)
unfolding lent bytes payload commands start_bytes each_limb put_limb le32_bytes begun_limb start_number numbers_right limbs_right all limb_right place_right
    limb_at offset_right record_right entry_of entry_place entry_at defined
setting = refl

-- the record at 20 idles limb 2 and leaves limb 0
idling : start_bytes payload (lent (bytes 1 0 0 1 18 3 0 1) (bytes 1 1 1 1 5 2 3 4)) 0 5 30 1 0 ≡ lent (bytes 1 0 0 1 18 3 0 1) (bytes 0 1 0 0 0 0 0 0)
unfolding lent bytes payload commands start_bytes each_limb put_limb le32_bytes begun_limb start_number numbers_right limbs_right all limb_right place_right
    limb_at offset_right record_right entry_of entry_place entry_at defined
idling = refl

-- a limb whose place is past its window is wrong for a start, also of an animation that is not defined
wrong : start_number payload bent 0 5 30 0 0 ∷ start_number payload bent 0 5 30 0 1 ∷ [] ≡ 15 ∷ 15 ∷ []
unfolding bent lent bytes payload commands start_number numbers_right limbs_right all limb_right place_right limb_at offset_right record_right entry_of
    entry_place entry_at defined
wrong = refl

-- a start that is refused and one of an animation that is not defined leave the bytes
keeping : start_bytes payload bent 0 5 30 0 0 ∷ start_bytes payload still 0 5 30 0 1 ∷ [] ≡ bent ∷ still ∷ []
unfolding bent still lent bytes payload commands start_bytes each_limb put_limb le32_bytes begun_limb start_number numbers_right limbs_right all limb_right
    place_right limb_at offset_right record_right entry_of entry_place entry_at defined
keeping = refl

-- stored offsets: 0 and FFFF stand for no record, 1 and 5 are wrong, and 6 is the record at payload byte 0
offsets : offset_right payload 0 5 ∷ offset_right payload 0xFFFF 5 ∷ offset_right payload 1 5 ∷ offset_right payload 5 5 ∷ offset_right payload 6 5 ∷ []
    ≡ true ∷ true ∷ false ∷ false ∷ true ∷ []
unfolding payload commands offset_right record_right all entry_of entry_place entry_at
offsets = refl
