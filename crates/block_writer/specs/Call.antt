-- The calls that write a background or a plane (document 01, "Writing rule", "Numbered refusals"): the block that is written, or the
-- number of the refusal. 3 goes before 4.
use Rattle.std.specs.Prelude.{◌≡◌, Bool, true, false, ◌&&◌, cond, List, ℕ, ◌*◌, ◌/◌, ◌%◌, ◌≤◌, length, eqb, leb, ltb, Result, Ok, Err}
use Rattle.number.specs.Buffer.{over}
use Rattle.block_writer.specs.Block.{body_for, block_of, smap_tag, plane_tag}

-- what a call does: it gives a number, or writes a block
pub data Outcome : Type 0 where
  refused : ℕ → Outcome
  written : List ℕ → Outcome

-- the call's answer
abbrev pub answer_of : Outcome → Result ℕ ℕ
answer_of (refused k) = Err k
answer_of (written b) = Ok (length b)

-- the target d after the call: a refusal changes nothing, and bytes past the block stay
abbrev pub target_after : Outcome → List ℕ → List ℕ
target_after (refused k) d = d
target_after (written b) d = over b d

-- document 01's number for each case of an answer
abbrev pub number : Result ℕ ℕ → ℕ
number (Ok size) = 0
number (Err k) = k

-- and its value: the block's length
abbrev pub value : Result ℕ ℕ → ℕ
value (Ok size) = size
value (Err k) = 0

-- width a multiple of 8, 8 to 1,024; height 1 to 200
unfoldable pub sizes_allowed : (w h : ℕ) → Bool
sizes_allowed w h = eqb (w % 8) 0 && (leb 8 w && (leb w 1024 && (leb 1 h && leb h 200)))

-- how many bytes are given: W × H pixels, or S × H rows
abbrev pub source_size : Bool → (n h : ℕ) → ℕ
source_size false n h = h * (8 * n)
source_size true n h = h * n

-- a block of n strips into a target of `room` bytes: 4 where the source or the target is too short
unfoldable pub block_outcome : (tag : ℕ) → Bool → (n h : ℕ) → List ℕ → (room : ℕ) → Outcome
block_outcome tag mask n h rows room =
    let block = block_of tag mask n (body_for mask n h rows) in
    cond (ltb (length rows) (source_size mask n h)) (refused 4)
    (cond (ltb room (length block)) (refused 4)
    (written block))

-- SMAP from the pixels
unfoldable pub smap_outcome : (w h : ℕ) → List ℕ → (room : ℕ) → Outcome
smap_outcome w h rows room = cond (sizes_allowed w h) (block_outcome smap_tag false (w / 8) h rows room) (refused 3)

-- ZP0k, k 1 to 4 (else 3), from one plane's rows
unfoldable pub plane_outcome : (k w h : ℕ) → List ℕ → (room : ℕ) → Outcome
plane_outcome k w h rows room = cond (sizes_allowed w h && (leb 1 k && leb k 4)) (block_outcome (plane_tag k) true (w / 8) h rows room) (refused 3)

-- ---- for the proofs: no public promise rests on what follows

-- the answer r, and the target d that is e after
abbrev pub Answered : Outcome → (d e : List ℕ) → Result ℕ ℕ → Type 0
Answered o d e r = (r ≡ answer_of o) × (e ≡ target_after o d)

-- what the parts of an accepted call may take for granted
pub record Given (mask : Bool) (n h size : ℕ) : Type 0 where
  pub one : 1 ≤ h
  pub high : h ≤ 200
  pub some : 1 ≤ n
  pub few : n ≤ 128
  pub enough : source_size mask n h ≤ size
