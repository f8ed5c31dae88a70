-- Laws of the question whether a limb draws.
use Rattle.std.proofs.Common.{◌≡◌, refl, Bool, true, false, ◌&&◌, not, cond, List, ℕ, ◌+◌, ◌<◌, arith, le-leb, leb, eqb, Some, None, Ok, get_or, Fits, w8}
use mathlib.Core.Bool.{and-false, and-true}
use mathlib.Core.Logic.{by_cases}
use native.Mathlib.Decide.{dec_lt}
use borrow.Author.Tests.{lt-leb}
use Rattle.limbs.specs.declared.Limb.{Limb}
use Rattle.limbs.specs.Limb.{flag, limb_at, place_right, limb_right, places_right, limbs_right, draws, number}
use Rattle.limbs.proofs.LimbLaws.{all_same}
use Rattle.limbs.proofs.AfterLaws.{limb_small}

-- ---- without a stream

-- a stream of 4,294,967,295 + 128 bytes holds every window whose limb is right without it
place-right : (x : Limb) → x.start < 4294967296 → limb_right 4294967423 x ≡ place_right x
unfolding limb_right place_right
place-right x h = go (eqb x.active 0) refl
  where
    go : (t : Bool) → eqb x.active 0 ≡ t → limb_right 4294967423 x ≡ place_right x
    go true e = rw e
    go false e =
        by_cases (dec_lt 128 x.len) (λ a. rw (e, lt-leb x.len 128 a, and-false (leb 1 x.len)))
        (λ a. rw (e, le-leb (x.start + x.len) 4294967423 (omega arith), and-true))

pub without_stream : (l : List ℕ) → ((j : ℕ) → Fits w8 (get_or l j 0)) → limbs_right 4294967423 l ≡ places_right l
unfolding limbs_right places_right
without_stream l b =
    all_same 16 (λ i. limb_right 4294967423 (limb_at l i)) (λ i. place_right (limb_at l i))
    (λ i. place-right (limb_at l i) (limb_small l i (λ j. (b j).fits)).start)

-- ---- the answer is accepted

pub draws_zero : (x : Limb) → number (draws x) ≡ 0
unfolding draws
draws_zero x = go (flag x.active && not (flag x.stopped) && flag x.shows)
  where
    go : (t : Bool) → number (cond t (Ok (Some x.picture)) (Ok None)) ≡ 0
    go true = refl
    go false = refl

-- what the call's proof cites
pub ruleset draws_laws = (without_stream, draws_zero)
