-- Laws of places in a strip: what an operation, many keeps and a refusal come to.
use Rattle.std.proofs.Common.{◌≡◌, ℕ, zero, suc, ◌+◌, ◌-◌, ◌%◌, ◌<◌, ◌≤◌, Bool, true, false, eqb, List, ◌∷◌, ◌++◌, length, replicate, sym, refl, ap, ◌∙◌, true≢false, arith, eqb-true, Ok}
use Rattle.bits.specs.declared.Cursor.{Cursor}
use Rattle.bits.specs.Bits.{low_bits, Pull, short, got, pull, rest, Held, Full}
use Rattle.bits.specs.Reader.{Hands, One}
use Rattle.bits.proofs.BitLaws.{pull_is, pull-long, pull-short, pull-zeros, got_tail}
use Rattle.bits.proofs.CursorLaws.{all_held}
use Rattle.strip.specs.declared.State.{State}
use Rattle.strip.specs.Strip.{Move, refuse, go, run_pixels, op_of, refused, prepend, decode}
use Rattle.strip.specs.Place.{is_run, run_ahead, ahead, Gives, Stepped, Leads, kept_by}
use Rattle.strip.proofs.StripLaws.{prepend-none, prepend-prepend, decode_op, decode-past, decode-refuse}
use Rattle.strip.proofs.OpLaws.{op_keep, op_run, op_none, run_cut}

module _ (second : Bool) (w total : ℕ) (s : List ℕ) (st : State) where
  abbrev next : Move
  next = op_of second w st.colour st.step (rest s st.cur)

  pub gives_op : (to : State) (n : ℕ) → next ≡ go n to.colour to.step (rest s to.cur) → to.i ≡ st.i + 1 + n → to.i ≤ total → Gives second w total s
      st to
  gives_op to n e ei le =
      let a : total - st.i ≡ suc (n + (total - to.i)) = omega arith in
      let b : suc n ≡ to.i - st.i = omega arith in
      ap (λ (j : ℕ). decode second w j 0 st.colour st.step (rest s st.cur)) a
      ∙ decode_op second w st.colour st.step (rest s st.cur) n (total - to.i) to.colour to.step (rest s to.cur) e
      ∙ ap (λ (j : ℕ). prepend (replicate j to.colour) (ahead second w total s to)) b

  pub refuses : (r : ℕ) → st.i < total → next ≡ refuse r → ahead second w total s st ≡ refused r
  refuses r h e =
      let a : total - st.i ≡ suc (total - st.i - 1) = omega arith in
      ap (λ (j : ℕ). decode second w j 0 st.colour st.step (rest s st.cur)) a
      ∙ decode-refuse second w st.colour st.step (rest s st.cur) r (total - st.i - 1) e

  pub runs_past : (n c s' : ℕ) (l : List Bool) → st.i < total → next ≡ go n c s' l → total < st.i + 1 + n → ahead second w total s st ≡ refused 8
  runs_past n c s' l h e past =
      let a : total - st.i ≡ suc (total - st.i - 1) = omega arith in
      ap (λ (j : ℕ). decode second w j 0 st.colour st.step (rest s st.cur)) a
      ∙ decode-past second w st.colour st.step (rest s st.cur) n (total - st.i - 1) c s' l e (omega arith)

-- ---- keeps

decode_keeps : (second : Bool) (w n c s : ℕ) (m : List Bool) (k : ℕ)
    → decode second w (k + n) 0 c s (replicate k false ++ m) ≡ prepend (replicate k c) (decode second w n 0 c s m)
decode_keeps second w n c s m zero =
    let e : 0 + n ≡ n = omega arith in
    ap (λ (j : ℕ). decode second w j 0 c s m) e ∙ prepend-none (decode second w n 0 c s m)
decode_keeps second w n c s m (suc k) =
    let e : suc k + n ≡ suc (0 + (k + n)) = omega arith in
    let l = replicate k false ++ m in
    ap (λ (j : ℕ). decode second w j 0 c s (false ∷ l)) e
    ∙ decode_op second w c s (false ∷ l) 0 (k + n) c s l (op_keep second w c s l)
    ∙ ap (prepend (replicate 1 c)) (decode_keeps second w n c s m k)
    ∙ prepend-prepend (replicate 1 c) (replicate k c) (decode second w n 0 c s m)

-- k bits that are 0
pub gives_kept : (second : Bool) (w total : ℕ) (s : List ℕ) (st : State) (k : ℕ) (next : Cursor) → Hands k 0 st.cur next → st.i + k ≤ total
    → Gives second w total s st (kept_by k next st)
gives_kept second w total s st k next zeros le =
    let a : total - st.i ≡ k + (total - (st.i + k)) = omega arith in
    let b : k ≡ st.i + k - st.i = omega arith in
    ap (λ (j : ℕ). decode second w j 0 st.colour st.step (rest s st.cur)) a
    ∙ ap (decode second w (k + (total - (st.i + k))) 0 st.colour st.step) (pull-zeros k (rest s st.cur) (rest s next) (zeros.front s))
    ∙ decode_keeps second w (total - (st.i + k)) st.colour st.step (rest s next) k
    ∙ ap (λ (j : ℕ). prepend (replicate j st.colour) (ahead second w total s (kept_by k next st))) b

-- ---- one operation that isn't a run

pub none_stepped : (second : Bool) (w total : ℕ) (s : List ℕ) (st : State) → st.i < total → Full s st.cur → st.cur.bits < 1 → ahead second w total s st ≡
    refused 7
none_stepped second w total s st left full h =
    refuses second w total s st 7 left
    (op_none second w st.colour st.step (rest s st.cur) (rw (all_held s st.cur full (omega arith)) h))

module _ (second : Bool) (w total : ℕ) (s : List ℕ) (st : State) (left : st.i < total) (held : Held s st.cur) where
  pub keep_stepped : (to : Cursor) → Hands 1 0 st.cur to → Stepped second w total s st (Ok (kept_by 1 to st))
  keep_stepped to none = (omega arith, omega arith, none.held s held, gives_kept second w total s st 1 to none (omega arith))

  pub op_stepped : (to : State) → Leads second w st to → One (rest s st.cur) → run_ahead second (rest s st.cur) ≡ false → Stepped second w total s st
      (Ok to)
  op_stepped to o one no_run =
      let on = o.on in
      (omega arith, omega arith, o.held s held, gives_op second w total s st to 0 (o.leads s one no_run) (omega arith) (omega arith))

-- a bit that isn't 0
pub one-first : (l m : List Bool) (v : ℕ) → pull 1 l ≡ got v m → (v ≡ 0 → ⊥) → One l
unfolding low_bits
one-first l m v e some =
    let few : v < 2 = (pull_is 1 v l m e).1 in
    let set : v % 2 ≡ 1 = omega (arith, some) in
    (m, (pull_is 1 v l m e).0 ∙ ap (λ (x : ℕ). eqb x 1 ∷ m) set)

-- ---- a run

-- fewer bits than a run starts with
pub few-no-run : (second : Bool) (l : List Bool) → length l < 5 → run_ahead second l ≡ false
few-no-run false l h = refl
few-no-run true l h = ap is_run (pull-short 5 l h)

module _ (w total : ℕ) (s : List ℕ) (st : State) (left : st.i < total) (is-run : run_ahead true (rest s st.cur) ≡ true) where
  -- the number behind 19 bits
  run-head : (p : Pull) → is_run p ≡ true → (m : List Bool) × (p ≡ got 19 m)
  run-head short e = absurd (true≢false (sym e))
  run-head (got v m) e = (m, ap (λ (x : ℕ). got x m) (eqb-true v 19 e))

  abbrev behind : List Bool
  behind = (run-head (pull 5 (rest s st.cur)) is-run).0

  head : pull 5 (rest s st.cur) ≡ got 19 behind
  head = (run-head (pull 5 (rest s st.cur)) is-run).1

  pub run_cut_stepped : Full s st.cur → st.cur.bits < 13 → ahead true w total s st ≡ refused 7
  run_cut_stepped full h =
      let long = pull-long 5 19 (rest s st.cur) behind head in
      let all = all_held s st.cur full (omega arith) in
      refuses true w total s st 7 left (run_cut w st.colour st.step (rest s st.cur) behind head (omega (arith, long, all)))

  module _ (one two : Cursor) (v m n : ℕ) (five : Hands 5 v st.cur one) (eight : Hands 8 m one two) (en : n ≡ run_pixels m) (some : 1 ≤ n) where
    runs : next true w total s st ≡ go (n - 1) st.colour st.step (rest s two)
    runs =
        let same : behind ≡ rest s one = got_tail (sym head ∙ five.front s) in
        op_run w st.colour st.step m (rest s st.cur) behind (rest s two) head (ap (pull 8) same ∙ eight.front s)
        ∙ ap (λ (k : ℕ). go (k - 1) st.colour st.step (rest s two)) (sym en)

    pub run-past_stepped : total < st.i + n → ahead true w total s st ≡ refused 8
    run-past_stepped h = runs_past true w total s st (n - 1) st.colour st.step (rest s two) left runs (omega arith)

    pub run_stepped : Held s st.cur → st.i + n ≤ total → Stepped true w total s st
        (Ok (record { i = st.i + n; colour = st.colour; step = st.step; cur = two }))
    run_stepped held h =
        let to : State = record { i = st.i + n; colour = st.colour; step = st.step; cur = two } in
        (omega arith, h, eight.held s (five.held s held), gives_op true w total s st to (n - 1) runs (omega arith) (omega arith))
