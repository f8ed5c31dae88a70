-- Computed examples: limbs that are ticked and asked. Crate costume's examples start them.
use Rattle.std.proofs.Common.{◌≡◌, refl, List, [], ◌∷◌, ◌++◌, ℕ, zero, suc, replicate, Option, Some, None, Result, Ok, Err}
use Rattle.number.specs.Number.{le32_bytes}
use Rattle.limbs.specs.declared.Limb.{Limb}
use Rattle.limbs.specs.Limb.{limb_at, put_limb, each_limb, all, place_right, limb_right, places_right, limbs_right, draws, draws_number, drawn_of}
use Rattle.limbs.specs.Tick.{stream, obeyed, moved_on, ticked_limb, tick_number, tick_bytes}

-- a command stream: 12 79 7A 05 13
unfoldable pub commands : List ℕ
commands = 18 ∷ 121 ∷ 122 ∷ 5 ∷ 19 ∷ []

-- it stands from payload byte 24
payload : List ℕ
payload = replicate 24 0 ++ commands

-- lent bytes: limb 0, limb 1 idle, limb 2, the other limbs idle, and one byte more
unfoldable pub lent : List ℕ → List ℕ → List ℕ
lent a b = a ++ replicate 16 0 ++ b ++ replicate 208 0 ++ 9 ∷ []

unfoldable pub still : List ℕ
still = lent (replicate 16 0) (replicate 16 0)

-- a limb's bytes, of a start and a place below 256; 7 and 8 stand where no number is kept
unfoldable pub bytes : (active stopped noloop shows picture len start place : ℕ) → List ℕ
bytes a s k h p n from at = a ∷ s ∷ k ∷ h ∷ p ∷ n ∷ 7 ∷ 8 ∷ from ∷ 0 ∷ 0 ∷ 0 ∷ at ∷ 0 ∷ 0 ∷ 0 ∷ []

-- a tick: limb 0 reads 12, a picture; limb 2 reads 13, a picture, at its last byte, and stays there
ticking : tick_bytes payload (lent (bytes 1 0 0 0 0 3 0 0) (bytes 1 0 1 1 5 2 3 4)) 30 ≡ lent (bytes 1 0 0 1 18 3 0 1) (bytes 1 0 1 1 19 2 3 4)
unfolding lent bytes payload commands tick_bytes tick_number each_limb put_limb le32_bytes ticked_limb obeyed moved_on limbs_right all limb_right place_right
    limb_at
ticking = refl

-- a limb whose place is past its window is wrong
unfoldable pub bent : List ℕ
bent = lent (bytes 1 0 0 0 0 3 0 3) (replicate 16 0)

wrong : tick_number payload bent 30 ≡ 15
unfolding bent lent bytes payload commands tick_number limbs_right all limb_right place_right limb_at
wrong = refl

-- ---- a limb, tick by tick

limb : (stopped noloop shows picture len start place : ℕ) → Limb
limb s k h p n from at = record { active = 1; stopped = s; noloop = k; shows = h; picture = p; len = n; start = from; place = at }

-- the limb, and what each of n ticks makes of it
run : ℕ → Limb → List Limb
run zero x = x ∷ []
run (suc n) x = x ∷ run n (ticked_limb (stream payload 30) x)

-- takes picture 12, is stopped, is un-stopped and loops
looping : run 4 (limb 0 0 0 0 3 0 0) ≡ limb 0 0 0 0 3 0 0 ∷ limb 0 0 1 18 3 0 1 ∷ limb 1 0 1 18 3 0 2 ∷ limb 0 0 1 18 3 0 0 ∷ limb 0 0 1 18 3 0 1 ∷ []
unfolding run limb payload commands ticked_limb obeyed moved_on
looping = refl

-- takes pictures 05 and 13 and stays at the last byte
staying : run 3 (limb 0 1 0 0 2 3 3) ≡ limb 0 1 0 0 2 3 3 ∷ limb 0 1 1 5 2 3 4 ∷ limb 0 1 1 19 2 3 4 ∷ limb 0 1 1 19 2 3 4 ∷ []
unfolding run limb payload commands ticked_limb obeyed moved_on
staying = refl

-- whether it draws: with a picture, stopped, without a picture yet
drawing : draws (limb 0 0 1 18 3 0 1) ∷ draws (limb 1 0 1 18 3 0 2) ∷ draws (limb 0 0 0 0 3 0 0) ∷ [] ≡ Ok (Some 18) ∷ Ok None ∷ Ok None ∷ []
unfolding limb draws
drawing = refl

-- an idle limb, no such limb, too few bytes
asking : drawn_of still 1 ∷ drawn_of still 16 ∷ drawn_of (replicate 255 0) 16 ∷ [] ≡ Ok None ∷ Err 15 ∷ Err 4 ∷ []
unfolding still lent drawn_of draws_number draws places_right all place_right limb_at
asking = refl

-- limb 0 with the length, start and place
placed : (len start place : ℕ) → Result (Option ℕ) ℕ
placed n from at = drawn_of (lent (bytes 1 0 0 1 18 n from at) (replicate 16 0)) 0

-- the length 0, 129, 1 and 128; the place before the window, at its last byte and past it
places : placed 0 5 5 ∷ placed 129 5 5 ∷ placed 1 5 5 ∷ placed 128 5 5 ∷ placed 3 5 4 ∷ placed 3 5 7 ∷ placed 3 5 8 ∷ []
    ≡ Err 15 ∷ Err 15 ∷ Ok (Some 18) ∷ Ok (Some 18) ∷ Err 15 ∷ Ok (Some 18) ∷ Err 15 ∷ []
unfolding placed lent bytes drawn_of draws_number draws places_right all place_right limb_at
places = refl

-- a wrong limb refuses the question about every other
beside : drawn_of bent 1 ≡ Err 15
unfolding bent lent bytes drawn_of draws_number places_right all place_right limb_at
beside = refl
