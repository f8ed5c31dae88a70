-- Laws of the operations of a strip of pixels, and that a strip that is written reads back.
use Rattle.std.proofs.Common.{◌≡◌, ℕ, zero, suc, ◌-◌, ◌*◌, ◌/◌, ◌%◌, ◌^◌, ◌<◌, ◌≤◌, Bool, true, false, cond, eqb, List, [], ◌∷◌, ◌++◌, length, get_or, take, sym, refl, ap, ◌∙◌, ap₂, append_assoc, zero-le, le_of_eq, le_refl, mod-eq_of_lt, arith, lit<, take_all, take-suc, eqb-true}
use Rattle.bits.specs.Bits.{low_bits, bits_of, got}
use Rattle.strip.specs.Strip.{plus, minus, go, index_op, op_of, move_of, measured, values, onto, decode}
use Rattle.strip.specs.Picture.{picture, kind_of, coded_of, strip_of, placed, up_to, five_from, shown}
use Rattle.bits.proofs.BitLaws.{pull-low}
use Rattle.strip.proofs.StripLaws.{measured-fits, decode-go}
use Rattle.strip_writer.specs.Pack.{packed}
use Rattle.strip_writer.specs.Pixels.{op_bits, step_of, ops_bits, strip_body}
use Rattle.strip_writer.proofs.PackLaws.{padded}

abbrev pub Bytes : List ℕ → Type 0
Bytes l = (i : ℕ) → get_or l i 0 < 256

-- ---- one operation is read as the pixel it was written for

no_bits : (b : ℕ) → low_bits 0 b ≡ []
unfolding low_bits
no_bits b = refl

op_cases : (c s v : ℕ) (l : List Bool) → c < 256 → s < 256 → v < 256
    → (p : Bool) → eqb v c ≡ p → (q : Bool) → eqb v (minus c s) ≡ q → (r : Bool) → eqb v (plus c s) ≡ r
    → op_of false 8 c s (cond p (false ∷ []) (cond q (true ∷ true ∷ false ∷ []) (cond r (true ∷ true ∷ true ∷ []) (true ∷ false ∷ low_bits 8 v))) ++ l)
    ≡ go 0 v (cond p s (cond q s (cond r (minus 0 s) 1))) l
op_cases c s v l hc hs hv true e q f r g = ap (λ (x : ℕ). go 0 x s l) (sym (eqb-true v c e))
op_cases c s v l hc hs hv false e true f r g = ap (λ (x : ℕ). go 0 x s l) (sym (eqb-true v (minus c s) f))
op_cases c s v l hc hs hv false e false f true g =
    let w = eqb-true v (plus c s) g in
    let back : minus c (minus 0 s) ≡ v = omega arith in
    ap (λ (x : ℕ). go 0 x (minus 0 s) l) back
op_cases c s v l hc hs hv false e false f false g =
    ap index_op (pull-low 8 8 v l (le_refl 8)) ∙ index (v % 2 ^ 8) (v / 2 ^ 8) (mod-eq_of_lt hv)
  where
    index : (a b : ℕ) → a ≡ v → index_op (got a (low_bits (8 - 8) b ++ l)) ≡ go 0 v 1 l
    index a b e = ap₂ (λ (x : ℕ) (t : List Bool). go 0 x 1 (t ++ l)) e (no_bits b)

pub op_back : (c s v : ℕ) (l : List Bool) → c < 256 → s < 256 → v < 256
    → op_of false 8 c s (op_bits c s v ++ l) ≡ go 0 v (step_of c s v) l
unfolding op_bits step_of
op_back c s v l hc hs hv = op_cases c s v l hc hs hv (eqb v c) refl (eqb v (minus c s)) refl (eqb v (plus c s)) refl

step_cases : (s : ℕ) (p q r : Bool) → s < 256 → cond p s (cond q s (cond r (minus 0 s) 1)) < 256
step_cases s true q r h = h
step_cases s false true r h = h
step_cases s false false true h = omega arith
step_cases s false false false h = omega arith

pub step_byte : (c s v : ℕ) → s < 256 → step_of c s v < 256
unfolding step_of
step_byte c s v h = step_cases s (eqb v c) (eqb v (minus c s)) (eqb v (plus c s)) h

move_back : (k c s v : ℕ) (l : List Bool) → c < 256 → s < 256 → v < 256
    → move_of false 8 k 0 c s (op_bits c s v ++ l) ≡ go 0 v (step_of c s v) l
move_back k c s v l hc hs hv = ap (measured k) (op_back c s v l hc hs hv) ∙ measured-fits k 0 v (step_of c s v) l zero-le

pub ops_back : (c s : ℕ) (vs : List ℕ) (l : List Bool) → c < 256 → s < 256 → Bytes vs
    → decode false 8 (length vs) 0 c s (ops_bits c s vs ++ l) ≡ values vs
unfolding ops_bits decode
ops_back c s [] l hc hs b = refl
ops_back c s (v ∷ vs) l hc hs b =
    ap (decode false 8 (suc (length vs)) 0 c s) (append_assoc (op_bits c s v) (ops_bits v (step_of c s v) vs) l)
    ∙ decode-go false 8 (suc (length vs)) (length vs) 0 c s (op_bits c s v ++ (ops_bits v (step_of c s v) vs ++ l)) refl 0 v (step_of c s v)
    (ops_bits v (step_of c s v) vs ++ l) (move_back (length vs) c s v (ops_bits v (step_of c s v) vs ++ l) hc hs (b 0))
    ∙ ap (onto v) (ops_back v (step_of c s v) vs l (b 0) (step_byte c s v hs) (λ i. b (suc i)))

-- the first colour is pending at the start
first_back : (c : ℕ) (vs : List ℕ) (h : ℕ) (l t : List Bool) → 8 * h ≡ suc (length vs) → t ≡ ops_bits c 1 vs ++ l → Bytes (c ∷ vs)
    → decode false 8 (8 * h) 1 c 1 t ≡ values (c ∷ vs)
first_back c vs h l t e f b =
    ap₂ (λ (n : ℕ) (u : List Bool). decode false 8 n 1 c 1 u) e f
    ∙ decode-go false 8 (suc (length vs)) (length vs) 1 c 1 (ops_bits c 1 vs ++ l) refl 0 c 1 (ops_bits c 1 vs ++ l) refl
    ∙ ap (onto c) (ops_back c 1 vs l (b 0) (lit< tt) (λ i. b (suc i)))

-- ---- the whole strip

up_take : (xs : List ℕ) (k : ℕ) → k ≤ length xs → up_to (λ j. get_or xs j 0) k ≡ take k xs
up_take xs zero h = refl
up_take xs (suc k) h = ap (λ (t : List ℕ). t ++ (get_or xs k 0 ∷ [])) (up_take xs k (omega arith)) ∙ sym (take-suc xs k 0 h)

pub placed_same : (h : ℕ) (xs : List ℕ) → length xs ≡ 8 * h → placed false h xs ≡ xs
unfolding placed
placed_same h xs e = up_take xs (8 * h) (le_of_eq (sym e)) ∙ take_all (8 * h) xs (le_of_eq e)

-- A strip that is written reads back, for every height and every content.
pub strip_back : (h : ℕ) (px : List ℕ) → 1 ≤ h → length px ≡ 8 * h → Bytes px → strip_of h (strip_body px) ≡ picture false px
unfolding strip_body strip_of coded_of kind_of five_from
strip_back h [] one e b = absurd (omega arith)
strip_back h (c ∷ vs) one e b =
    let p = padded (ops_bits c 1 vs) in
    ap (shown false false h) (first_back c vs h p.pad (bits_of (packed (ops_bits c 1 vs))) (sym e) p.same b)
    ∙ ap (picture false) (placed_same h (c ∷ vs) e)
