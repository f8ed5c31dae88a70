-- The block tree of a room (document 01, "Blocks"; refusal 1). A list of blocks stands in [a, e) of the room's bytes s; positions are
-- counted in s.
use Rattle.std.specs.Prelude.{ℕ, zero, suc, ◌+◌, ◌-◌, ◌≤◌, List, [], ◌∷◌, Bool, true, false, ◌&&◌, cond, length, get_or, leb, eqb, Option, Some, None}
use Rattle.number.specs.Number.{be32}
use Rattle.block.specs.Tag.{container, tag-ROOM}

-- where the block at a ends, in a list that ends at e; 0 where no block stands there: a header that does not fit, a size below 8 or past e
unfoldable pub block_end : List ℕ → ℕ → ℕ → ℕ
block_end s a e = cond (leb (a + 8) e && leb 8 (be32 s (a + 4)) && leb (a + be32 s (a + 4)) e) (a + be32 s (a + 4)) 0

-- the same as an answer: a block never ends at 0
abbrev pub found_end : ℕ → Option ℕ
found_end zero = None
found_end (suc z) = Some (suc z)

-- Goes through a list of blocks: `step a z r` at each block [a, z), with r what the blocks after it give, and `last` where no block
-- stands any more, told whether the list ends exactly there. The first number bounds how many blocks are looked at.
unfoldable pub walk : {A : Type 0} → (last : Bool → A) → (step : ℕ → ℕ → A → A) → ℕ → List ℕ → ℕ → ℕ → A
walk last step zero s a e = last (eqb a e)
walk last step (suc n) s a e = elim (block_end s a e) [ zero ↦ last (eqb a e) | suc z ↦ step a (suc z) (walk last step n s (suc z) e) ]

-- the same, with bound enough: a block has at least 8 bytes
unfoldable pub run : {A : Type 0} → (last : Bool → A) → (step : ℕ → ℕ → A → A) → List ℕ → ℕ → ℕ → A
run last step s a e = walk last step (e - a) s a e

-- the block [a, z) is right, with d depths left: itself stands at a depth that is allowed, and so do all below it, which fill it
unfoldable pub block_ok : ℕ → List ℕ → ℕ → ℕ → Bool
block_ok zero s a z = false
block_ok (suc d) s a z = cond (container s a) (run (λ full. full) (λ b y r. block_ok d s b y && r) s (a + 8) z) true

-- the blocks of the list [a, e) fill it, and each is right with d depths left
unfoldable pub list_ok : ℕ → List ℕ → ℕ → ℕ → Bool
list_ok d s a e = run (λ full. full) (λ b y r. block_ok d s b y && r) s a e

-- refusal 1 does not hold: one ROOM block of at most 1,048,576 bytes that fills the slice, whose tree is right to depth 6
unfoldable pub well_formed : List ℕ → Bool
well_formed s =
    leb (length s) 1048576 && leb 8 (length s) && eqb (be32 s 0) tag-ROOM && eqb (block_end s 0 (length s)) (length s) && block_ok 6 s 0 (length s)

-- the blocks of the list with the tag t, in order
unfoldable pub tagged : ℕ → List ℕ → ℕ → ℕ → List (Option (ℕ × ℕ))
tagged t s a e = run (λ full. []) (λ b y r. cond (eqb (be32 s b) t) (Some (b, y) ∷ r) r) s a e

-- how many there are, the one of number k from 0, and the first
abbrev pub count_tag : ℕ → List ℕ → ℕ → ℕ → ℕ
count_tag t s a e = length (tagged t s a e)

abbrev pub nth_tag : ℕ → List ℕ → ℕ → ℕ → ℕ → Option (ℕ × ℕ)
nth_tag t s a e k = get_or (tagged t s a e) k None

abbrev pub find_tag : ℕ → List ℕ → ℕ → ℕ → Option (ℕ × ℕ)
find_tag t s a e = nth_tag t s a e 0

-- a block that was found lies in the list's bytes, with its header
abbrev pub Inside : ℕ → ℕ → Option (ℕ × ℕ) → Type 0
Inside a e (Some (b, z)) = (a ≤ b) × (b + 8 ≤ z) × (z ≤ e)
Inside a e None = Unit {0}

-- a block's payload, where it has n bytes or more
unfoldable pub payload : ℕ → Option (ℕ × ℕ) → Option (ℕ × ℕ)
payload n (Some (b, z)) = cond (leb n (z - (b + 8))) (Some (b + 8, z)) None
payload n None = None

-- the payload of the first block with the tag t, where it is there and has n bytes or more
abbrev pub need_tag : ℕ → ℕ → List ℕ → ℕ → ℕ → Option (ℕ × ℕ)
need_tag t n s a e = payload n (find_tag t s a e)

-- whether it was found
abbrev pub is_at : Option (ℕ × ℕ) → Bool
is_at (Some (a, z)) = true
is_at None = false

-- a block that has a block with the tag c in it, of n bytes or more
abbrev pub has_in : ℕ → ℕ → List ℕ → Option (ℕ × ℕ) → Bool
has_in c n s (Some (b, z)) = is_at (need_tag c n s (b + 8) z)
has_in c n s None = true

abbrev pub all_of : (Option (ℕ × ℕ) → Bool) → List (Option (ℕ × ℕ)) → Bool
all_of p [] = true
all_of p (f ∷ l) = p f && all_of p l

-- every block of the list with the tag t has one with the tag c in it, of n bytes or more
unfoldable pub each_has : ℕ → ℕ → ℕ → List ℕ → ℕ → ℕ → Bool
each_has t c n s a e = all_of (has_in c n s) (tagged t s a e)
