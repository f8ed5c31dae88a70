-- Animation records (document 004, "Animation records"; document 01, "Actors, points, limbs"): a mask, u16 little-endian, in which limb i is bit 15 - i,
-- and for each limb that the mask names, limb 0 first, an entry: start, u16 little-endian, and where that is not FFFF one byte more,
-- bits 0 to 6 the length less 1, bit 7 no-loop. Positions are counted in the payload.
use Rattle.std.specs.Prelude.{Bool, true, false, ◌&&◌, cond, List, ℕ, zero, suc, ◌+◌, ◌-◌, ◌/◌, ◌%◌, ◌^◌, length, get_or, leb, eqb}
use Rattle.number.specs.Number.{le16}
use Rattle.limbs.specs.declared.Limb.{Limb}
use Rattle.limbs.specs.Limb.{all}
use Rattle.costume.specs.declared.Entry.{Entry}
use Rattle.costume.specs.declared.Entry.TheVariants.{Unnamed, Cut, Idle, Window}

-- the mask names limb i
abbrev pub named : ℕ → ℕ → Bool
named mask i = eqb (mask / 2 ^ (15 - i) % 2) 1

-- limb i's entry where it starts at p; Cut where its bytes are not all in the payload
unfoldable pub entry_at : List ℕ → ℕ → ℕ → ℕ → Entry
entry_at s mask i p =
    cond (named mask i)
    (cond (leb (p + 2) (length s))
    (cond (eqb (le16 s p) 0xFFFF) Idle
    (cond (leb (p + 3) (length s)) (Window (le16 s p) (get_or s (p + 2) 0 % 128 + 1) (get_or s (p + 2) 0 / 128)) Cut))
    Cut)
    Unnamed

-- how many bytes an entry has
abbrev pub size_of : Entry → ℕ
size_of Unnamed = 0
size_of Cut = 0
size_of Idle = 2
size_of (Window a n k) = 3

-- the mask of the record at payload byte r, where limb i's entry starts, and the entry
abbrev pub mask_of : List ℕ → ℕ → ℕ
mask_of s r = le16 s r

unfoldable pub entry_place : List ℕ → ℕ → ℕ → ℕ
entry_place s r zero = r + 2
entry_place s r (suc i) = entry_place s r i + size_of (entry_at s (mask_of s r) i (entry_place s r i))

unfoldable pub entry_of : List ℕ → ℕ → ℕ → Entry
entry_of s r i = entry_at s (mask_of s r) i (entry_place s r i)

-- an entry is right for a stream of n bytes: it lies in the payload, and its window in the stream
abbrev pub entry_right : ℕ → Entry → Bool
entry_right n Unnamed = true
entry_right n Cut = false
entry_right n Idle = true
entry_right n (Window a len k) = leb (a + len) n

-- the record at payload byte r is right: its mask lies in the payload, and each entry is right
unfoldable pub record_right : List ℕ → ℕ → ℕ → Bool
record_right s r n = leb (r + 2) (length s) && all 16 (λ i. entry_right n (entry_of s r i))

-- the limb with a new window: its place is set to the start and its picture forgotten, and its stopped byte stays
abbrev pub reset_limb : (active noloop len start : ℕ) → Limb → Limb
reset_limb a k n p x = record { active = a; stopped = x.stopped; noloop = k; shows = 0; picture = 0; len = n; start = p; place = p }

-- what an entry makes of its limb: one that is not named stays, start FFFF makes it idle with its window, place and picture forgotten, and a window starts it
unfoldable pub begun_limb : Entry → Limb → Limb
begun_limb Unnamed x = x
begun_limb Cut x = x
begun_limb Idle x = reset_limb 0 0 0 0 x
begun_limb (Window p n k) x = reset_limb 1 k n p x
