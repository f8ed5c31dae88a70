-- Laws of the outcome: it is what the decode comes to, and it goes on past an operation as the decode does.
use Rattle.std.proofs.Common.{◌≡◌, refl, sym, ap, ◌∙◌, Bool, true, false, cond, List, [], ◌∷◌, ℕ, zero, suc, ◌*◌, ◌≤◌, leb, eqb, get_or, length, drop, arith, Result, Ok, Err}
use Rattle.bits.specs.Bits.{Pull, short, got, pull, bits_of}
use Rattle.strip.specs.Strip.{plus, minus, Move, refuse, go, walk_op, run_op, change_op, op_of, measured, move_of, Strip, refused, values, made_of, onto}
use Rattle.strip.specs.Strip.{decode}
use Rattle.strip.specs.Picture.{shown, coded_of}
use Rattle.strip_test.specs.Outcome.{outcome, test_of}
use Rattle.strip.proofs.PictureLaws.{coded_some}

-- ---- a move without its colour and step

abbrev bare : Move → Move
bare (refuse n) = refuse n
bare (go left c s l) = go left 0 0 l

bare-cond : (t : Bool) (a b : Move) → bare (cond t a b) ≡ cond t (bare a) (bare b)
bare-cond true a b = refl
bare-cond false a b = refl

bare-walk : (c s : ℕ) (l : List Bool) → bare (walk_op c s l) ≡ bare (walk_op 0 0 l)
bare-walk c s [] = refl
bare-walk c s (false ∷ l) = refl
bare-walk c s (true ∷ l) = refl

bare-run : (c s : ℕ) (p : Pull) → bare (run_op c s p) ≡ bare (run_op 0 0 p)
bare-run c s short = refl
bare-run c s (got n l) = refl

bare_change : (c s : ℕ) (p : Pull) → bare (change_op c s p) ≡ bare (change_op 0 0 p)
bare_change c s short = refl
bare_change c s (got d l) = go_on (eqb d 4)
  where
    go_on : (t : Bool) → bare (cond t (run_op c s (pull 8 l)) (go 0 (minus (plus c d) 4) s l)) ≡ bare
        (cond t (run_op 0 0 (pull 8 l)) (go 0 (minus (plus 0 d) 4) 0 l))
    go_on true = bare-run c s (pull 8 l)
    go_on false = refl

bare_op : (second : Bool) (w c s : ℕ) (l : List Bool) → bare (op_of second w c s l) ≡ bare (op_of second w 0 0 l)
bare_op second w c s [] = refl
bare_op second w c s (false ∷ l) = refl
bare_op second w c s (true ∷ []) = refl
bare_op second w c s (true ∷ false ∷ l) = refl
bare_op false w c s (true ∷ true ∷ l) = bare-walk c s l
bare_op true w c s (true ∷ true ∷ l) = bare_change c s (pull 3 l)

bare-measured : (k : ℕ) (m : Move) → bare (measured k m) ≡ measured k (bare m)
bare-measured k (refuse n) = refl
bare-measured k (go left c s l) = bare-cond (leb left k) (go left c s l) (refuse 8)

bare_move : (second : Bool) (w k left c s : ℕ) (l : List Bool) → bare (move_of second w k left c s l) ≡ bare (move_of second w k left 0 0 l)
bare_move second w k zero c s l =
    bare-measured k (op_of second w c s l) ∙ ap (measured k) (bare_op second w c s l) ∙ sym (bare-measured k (op_of second w 0 0 l))
bare_move second w k (suc left) c s l = refl

-- ---- the outcome is what the decode comes to

abbrev onward : (Bool) → (w k : ℕ) → Move → Result (Unit {0}) ℕ
onward second w k m = elim m as (λ _. Result (Unit {0}) ℕ) [ refuse n ↦ Err n | go left c s l ↦ outcome second w k left l ]

onward_bare : (second : Bool) (w k : ℕ) (m : Move) → onward second w k m ≡ onward second w k (bare m)
onward_bare second w k (refuse n) = refl
onward_bare second w k (go left c s l) = refl

made-onto : (c : ℕ) (x : Strip) → made_of (onto c x) ≡ made_of x
made-onto c (refused n) = refl
made-onto c (values xs) = refl

pub outcome_is : (second : Bool) (w k left c s : ℕ) (l : List Bool) → made_of (decode second w k left c s l) ≡ outcome second w k left l
unfolding decode outcome
outcome_is second w zero left c s l = refl
outcome_is second w (suc k) left c s l =
    go_on (λ left' c' s' l'. outcome_is second w k left' c' s' l') (move_of second w k left c s l)
    ∙ onward_bare second w k (move_of second w k left c s l)
    ∙ ap (onward second w k) (bare_move second w k left c s l)
    ∙ sym (onward_bare second w k (move_of second w k left 0 0 l))
  where
    go_on : ((left' c' s' : ℕ) (l' : List Bool) → made_of (decode second w k left' c' s' l') ≡ outcome second w k left' l') → (m : Move)
        → made_of (elim m as (λ _. Strip) [ refuse n ↦ refused n | go left' c' s' l' ↦ onto c' (decode second w k left' c' s' l') ]) ≡ onward second w k m
    go_on again (refuse n) = refl
    go_on again (go left' c' s' l') = made-onto c' (decode second w k left' c' s' l') ∙ again left' c' s' l'

-- ---- the test of a strip

test-shown : (vertical clear : Bool) (h : ℕ) (x : Strip) → test_of (shown vertical clear h x) ≡ made_of x
test-shown vertical clear h (refused n) = refl
test-shown vertical clear h (values xs) = refl

pub test-coded : (second vertical clear : Bool) (w h : ℕ) (s : List ℕ) → 2 ≤ length s
    → test_of (coded_of second vertical clear w h (drop 1 s)) ≡ outcome second w (8 * h) 1 (bits_of (drop 2 s))
test-coded second vertical clear w h s le =
    ap test_of (coded_some second vertical clear w h s le)
    ∙ test-shown vertical clear h (decode second w (8 * h) 1 (get_or s 1 0) 1 (bits_of (drop 2 s)))
    ∙ outcome_is second w (8 * h) 1 (get_or s 1 0) 1 (bits_of (drop 2 s))

pub test-empty : (second : Bool) (w h : ℕ) (l : List Bool) → h ≡ 0 → Ok tt ≡ outcome second w (8 * h) 1 l
unfolding outcome
test-empty second w h l e = let z : 8 * h ≡ 0 = omega arith in rw z
