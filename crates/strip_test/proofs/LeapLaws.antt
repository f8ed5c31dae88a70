-- Laws of the test's leaps: past the rows of a view, past 32 keeps, past a run, from spot to spot, and on to the careful test.
use Rattle.std.proofs.Common.{◌≡◌, refl, sym, ap, ap₂, ◌∙◌, subst, Bool, true, false, List, ◌++◌, ℕ, zero, suc, ◌+◌, ◌-◌, ◌*◌, ◌/◌, ◌%◌, ◌^◌, ◌≤◌, ◌<◌, arith, get_or, set, length, drop, length-drop, drop-drop, get_or-set_same, get_or-set_other, leb-true, leb-false, leb, Result, Err}
use mathlib.Core.Logic.{by_cases}
use native.Mathlib.Decide.{ℕ_discrete}
use Rattle.bits.specs.declared.Cursor.{Cursor}
use Rattle.bits.specs.Reader.{Starts, Fetches, Hands}
use Rattle.bits.specs.Bits.{got, pull, low_bits, bits_of, rest, Full, Views}
use Rattle.bits.proofs.BitLaws.{pull-low, pull_is, pull-drop, low-drop}
use Rattle.bits.proofs.CursorLaws.{bits-long, drop-bytes}
use Rattle.strip.specs.declared.State.{State}
use Rattle.strip.specs.Strip.{Move, refuse, go, op_of, measured, run_pixels}
use Rattle.strip.proofs.StripLaws.{measured-fits}
use Rattle.strip.proofs.OpLaws.{op_run}
use Rattle.strip_test.specs.declared.leap.Spot.{Spot}
use Rattle.strip_test.specs.Outcome.{outcome}
use Rattle.strip_test.specs.WholeOps.{whole_ops, reach, packed, Rows}
use Rattle.strip_test.specs.Leap.{widened, Leaps, Over, Leapt, Roomy, Sighted}
use Rattle.strip_test.proofs.WholeOpsLaws.{ops_skipped}
use Rattle.strip_test.proofs.SkipLaws.{found, bounds, parts, outcome-start}

-- ---- rows that count the index's bits

index-bits : (i w : ℕ) → i ≤ 1 → w ≤ 8 → i * (2 + w) ≤ 2 * i + 8
index-bits zero w h le = omega arith
index-bits (suc zero) w h le = omega arith
index-bits (suc (suc i)) w h le = absurd (omega arith)

-- a row reaches past at most 16 bits and gives at most eight pixels
few : (second : Bool) (w x : ℕ) → w ≤ 8 → (reach w (found second x) ≤ 16) × ((found second x).pixels ≤ 8)
few second w x le =
    let b = bounds second x in
    let b0 = b.0 in
    let i = index-bits (found second x).index w b.2 le in
    (omega (arith, b0, i), b.1)

widened-row : (second : Bool) (w x n : ℕ) → n ≡ packed (found second x) → widened w n ≡ reach w (found second x) + (found second x).pixels * 256
widened-row second w x n e = let p = parts second x n e in λ i. p.0 i + p.2 i * (2 + w) + p.1 i * 256

pub widened_rows : (second : Bool) (w : ℕ) (t u : List ℕ) → Rows second t → ((x : ℕ) → x < 256 → get_or u x 0 ≡ widened w (get_or t x 0)) → Leaps second w u
widened_rows second w t u rows e = record { row = λ x h. e x h ∙ widened-row second w x (get_or t x 0) (rows.row x h) }

-- the rows up to x are widened, and one more
pub row_stored : (w : ℕ) (t u : List ℕ) (x v : ℕ) → x < length u → v ≡ widened w (get_or t x 0) → ((y : ℕ) → y < x → get_or u y 0 ≡ widened w (get_or t y 0))
    → (y : ℕ) → y < x + 1 → get_or (set u x v) y 0 ≡ widened w (get_or t y 0)
row_stored w t u x v room e before y h =
    by_cases (ℕ_discrete y x)
    (λ z. subst (λ (k : ℕ). get_or (set u x v) k 0 ≡ widened w (get_or t k 0)) (sym z) (get_or-set_same u x v 0 room ∙ e))
    (λ z. get_or-set_other u x y v 0 z ∙ before y (omega (arith, z)))

-- ---- one leap after another

pub over_none : (second : Bool) (w : ℕ) (s : List ℕ) (p n : ℕ) → n ≡ 0 → Over second w s p p n
over_none second w s p n e = λ k. let z : n + k ≡ k = omega (arith, e) in ap (λ (j : ℕ). outcome second w j 0 (drop p (bits_of s))) z

pub over-on : (second : Bool) (w : ℕ) (s : List ℕ) (p q r n m : ℕ) → Over second w s p q n → Over second w s q r m → Over second w s p r (n + m)
over-on second w s p q r n m f g = λ k.
    let e : n + m + k ≡ n + (m + k) = omega arith in
    ap (λ (j : ℕ). outcome second w j 0 (drop p (bits_of s))) e ∙ f (m + k) ∙ g k

-- ---- past what is in view: n bits, the number v, and l after them

-- what is seen past k bits
pub seen_on : (s : List ℕ) (p n v k : ℕ) (l : List Bool) → drop p (bits_of s) ≡ low_bits n v ++ l → k ≤ n
    → drop (p + k) (bits_of s) ≡ low_bits (n - k) (v / 2 ^ k) ++ l
seen_on s p n v k l e h =
    let parts : n ≡ k + (n - k) = omega arith in
    sym (drop-drop k p (bits_of s)) ∙ ap (drop k) (e ∙ ap (λ (j : ℕ). low_bits j v ++ l) parts) ∙ low-drop k (n - k) v l

-- past the whole operations at the front of the first m bits
ops_over : (second : Bool) (w : ℕ) (s : List ℕ) (p n v m : ℕ) (l : List Bool) → drop p (bits_of s) ≡ low_bits n v ++ l → m ≤ n
    → p + reach w (whole_ops second (low_bits m (v % 2 ^ m))) ≤ 8 * length s
    → Over second w s p (p + reach w (whole_ops second (low_bits m (v % 2 ^ m)))) (whole_ops second (low_bits m (v % 2 ^ m))).pixels
ops_over second w s p n v m l e h inside = λ k.
    let x = v % 2 ^ m in
    let r = whole_ops second (low_bits m x) in
    let far = reach w r in
    let behind = low_bits (n - m) (v / 2 ^ m) ++ l in
    let split : drop p (bits_of s) ≡ low_bits m x ++ behind = e ∙ (pull_is m x (low_bits n v ++ l) behind (pull-low m n v l h)).0 in
    let long : length (drop p (bits_of s)) ≡ 8 * length s - p = length-drop p (bits_of s) ∙ ap (λ (j : ℕ). j - p) (bits-long s) in
    let lo : far ≤ length (low_bits m x ++ behind) = rw (← split) (omega (arith, long, inside)) in
    ap (outcome second w (r.pixels + k) 0) split
    ∙ ops_skipped second w (low_bits m x) behind k lo
    ∙ ap (λ (q : List Bool). outcome second w k 0 (drop far q)) (sym split)
    ∙ ap (outcome second w k 0) (drop-drop far p (bits_of s))

-- ---- rows

sum-two : (a b : ℕ) → a % 256 + b % 256 < 256 → ((a + b) % 256 ≡ a % 256 + b % 256) × ((a + b) / 256 ≡ a / 256 + b / 256)
sum-two a b h = (omega arith, omega arith)

-- the row of a look-up: how far it goes, and how many pixels it gives
module _ (second : Bool) (w : ℕ) (s t : List ℕ) (le : w ≤ 8) (table : Leaps second w t) where
  abbrev row_of : ℕ → ℕ
  row_of v = get_or t (v % 256) 0

  pub row_small : (v : ℕ) → (row_of v % 256 ≤ 16) × (row_of v / 256 ≤ 8) × (row_of v % 64 ≡ row_of v % 256)
  row_small v =
      let e = table.row (v % 256) (omega arith) in
      let f = few second w (v % 256) le in
      let f0 = f.0 in
      let f1 = f.1 in
      (omega (arith, e, f0, f1), omega (arith, e, f0, f1), omega (arith, e, f0, f1))

  pub row-over : (p n v : ℕ) (l : List Bool) → drop p (bits_of s) ≡ low_bits n v ++ l → 8 ≤ n → p + 16 ≤ 8 * length s
      → Over second w s p (p + row_of v % 256) (row_of v / 256)
  row-over p n v l e h inside =
      let x = v % 256 in
      let r = whole_ops second (low_bits 8 x) in
      let is = table.row x (omega arith) in
      let f = few second w x le in
      let f0 = f.0 in
      let f1 = f.1 in
      let far : reach w r ≡ row_of v % 256 = omega (arith, is, f0, f1) in
      let pixels : r.pixels ≡ row_of v / 256 = omega (arith, is, f0, f1) in
      subst (λ (j : ℕ). Over second w s p (p + row_of v % 256) j) pixels
      (subst (λ (j : ℕ). Over second w s p (p + j) r.pixels) far (ops_over second w s p n v 8 l e h (omega (arith, f0, inside))))

  -- one row more
  pub sight_more : (p j v sum v' sum' : ℕ) → p + 72 ≤ 8 * length s → j ≤ 3 → Sighted second w s p j v sum → v' ≡ v / 2 ^ (row_of v % 64)
      → sum' ≡ sum + row_of v → Sighted second w s p (suc j) v' sum'
  sight_more p j v sum v' sum' inside few-rows g ev es =
      let l = bits_of (drop (p / 8 + 8) s) in
      let n = 64 - p % 8 - sum % 256 in
      let r = row_of v in
      let small = row_small v in
      let r0 = small.0 in
      let r1 = small.1 in
      let g0 = g.bits in
      let g1 = g.pixels in
      let two = sum-two sum r (omega arith) in
      let far : sum' % 256 ≡ sum % 256 + r % 256 = ap (λ (k : ℕ). k % 256) es ∙ two.0 in
      let many : sum' / 256 ≡ sum / 256 + r / 256 = ap (λ (k : ℕ). k / 256) es ∙ two.1 in
      let to : p + sum % 256 + r % 256 ≡ p + sum' % 256 = omega (arith, far) in
      let less : n - r % 256 ≡ 64 - p % 8 - sum' % 256 = omega (arith, far) in
      let on : v / 2 ^ (r % 256) ≡ v' = sym (ev ∙ ap (λ (k : ℕ). v / 2 ^ k) small.2) in
      let ahead = g.ahead (omega arith) in
      let one = row-over (p + sum % 256) n v l ahead (omega arith) (omega arith) in
      let both = over-on second w s p (p + sum % 256) (p + sum % 256 + r % 256) (sum / 256) (r / 256) g.over one in
      record {
        bits = omega (arith, far);
        pixels = omega (arith, many);
        ahead = λ h.
            ap (λ (k : ℕ). drop k (bits_of s)) (sym to)
            ∙ seen_on s (p + sum % 256) n v (r % 256) l ahead (omega arith)
            ∙ ap₂ (λ (k x : ℕ). low_bits k x ++ l) less on;
        over = λ k. ap (λ (m : ℕ). outcome second w (m + k) 0 (drop p (bits_of s))) many ∙ both k
            ∙ ap (λ (q : ℕ). outcome second w k 0 (drop q (bits_of s))) to;
      }

  pub sight_none : (p v : ℕ) → Views s p v → Sighted second w s p 0 v 0
  sight_none p v sees =
      let z : p ≡ p + 0 % 256 = omega arith in
      let y : 64 - p % 8 ≡ 64 - p % 8 - 0 % 256 = omega arith in
      record {
        bits = omega arith;
        pixels = omega arith;
        ahead = λ h. ap (λ (q : ℕ). drop q (bits_of s)) (sym z) ∙ sees ∙ ap (λ (k : ℕ). low_bits k v ++ bits_of (drop (p / 8 + 8) s)) y;
        over = subst (λ (q : ℕ). Over second w s p q (0 / 256)) z (over_none second w s p (0 / 256) (omega arith));
      }

-- ---- from spot to spot

leapt_of : (second : Bool) (w total : ℕ) (s : List ℕ) (a b : Spot) (n : ℕ) → b.i ≡ a.i + n → b.i ≤ total → b.p ≤ 8 * length s
    → Over second w s a.p b.p n → Leapt second w total s a b
leapt_of second w total s a b n e room inside f =
    let less : n ≡ b.i - a.i = omega (arith, e) in
    record { on = omega (arith, e); room = room; inside = inside; over = subst (λ (j : ℕ). Over second w s a.p b.p j) less f }

pub leapt_none : (second : Bool) (w total : ℕ) (s : List ℕ) (a : Spot) → a.i ≤ total → a.p ≤ 8 * length s → Leapt second w total s a a
leapt_none second w total s a room inside =
    leapt_of second w total s a a 0 (omega arith) room inside (over_none second w s a.p 0 refl)

pub leapt_on : (second : Bool) (w total : ℕ) (s : List ℕ) (a b c : Spot) → Leapt second w total s a b → Leapt second w total s b c → Leapt second w total s a c
leapt_on second w total s a b c f g =
    let f0 = f.on in
    let g0 = g.on in
    leapt_of second w total s a c (b.i - a.i + (c.i - b.i)) (omega arith) g.room g.inside
    (over-on second w s a.p b.p c.p (b.i - a.i) (c.i - b.i) f.over g.over)

pub leapt_four : (second : Bool) (w total : ℕ) (s : List ℕ) (a : Spot) (v sum : ℕ) → Roomy total s a → Sighted second w s a.p 4 v sum
    → Leapt second w total s a (record { p = a.p + sum % 256; i = a.i + sum / 256 })
leapt_four second w total s a v sum room g =
    leapt_of second w total s a (record { p = a.p + sum % 256; i = a.i + sum / 256 }) (sum / 256) refl (omega (arith, g.pixels, room.pixels))
    (omega (arith, g.bits, room.bits)) g.over

-- 32 keeps
pub leapt_keeps : (second : Bool) (w total : ℕ) (s : List ℕ) (a : Spot) (v : ℕ) → Roomy total s a → Views s a.p v → v % 4294967296 ≡ 0
    → Leapt second w total s a (record { p = a.p + 32; i = a.i + 32 })
unfolding whole_ops low_bits
leapt_keeps second w total s a v room sees e =
    let p = a.p in
    let l = bits_of (drop (p / 8 + 8) s) in
    let z : 32 + 0 * (2 + w) ≡ 32 = omega arith in
    let f : Over second w s p (p + (32 + 0 * (2 + w))) 32 =
    subst (λ (x : ℕ). Over second w s p (p + reach w (whole_ops second (low_bits 32 x))) (whole_ops second (low_bits 32 x)).pixels) e
    (ops_over second w s p (64 - p % 8) v 32 l sees (omega arith)
    (subst (λ (x : ℕ). p + reach w (whole_ops second (low_bits 32 x)) ≤ 8 * length s) (sym e) (omega (arith, room.bits, z)))) in
    leapt_of second w total s a (record { p = p + 32; i = a.i + 32 }) 32 refl room.pixels (omega (arith, room.bits))
    (subst (λ (q : ℕ). Over second w s p (p + q) 32) z f)

-- a run
outcome-pending : (second : Bool) (w n k : ℕ) (l : List Bool) → outcome second w (n + k) n l ≡ outcome second w k 0 l
unfolding outcome
outcome-pending second w zero k l = let z : 0 + k ≡ k = omega arith in ap (λ (j : ℕ). outcome second w j 0 l) z
outcome-pending second w (suc n) k l =
    let e : suc n + k ≡ suc (n + k) = omega arith in
    ap (λ (j : ℕ). outcome second w j (suc n) l) e ∙ outcome-pending second w n k l

outcome-run : (w n k : ℕ) (l m : List Bool) → op_of true w 0 0 l ≡ go n 0 0 m → outcome true w (suc n + k) 0 l ≡ outcome true w k 0 m
unfolding outcome
outcome-run w n k l m e =
    let step : suc n + k ≡ suc (n + k) = omega arith in
    ap (λ (j : ℕ). outcome true w j 0 l) step
    ∙ ap (λ (x : Move). elim x as (λ _. Result (Unit {0}) ℕ) [ refuse r ↦ Err r | go left' c' s' t ↦ outcome true w (n + k) left' t ])
    (ap (measured (n + k)) e ∙ measured-fits (n + k) n 0 0 m (omega arith))
    ∙ outcome-pending true w n k m

pub leapt_run : (w total : ℕ) (s : List ℕ) (a : Spot) (v n : ℕ) → Roomy total s a → Views s a.p v → v % 32 ≡ 19 → n ≡ run_pixels (v / 32 % 256) → 1 ≤ n
    → a.i + n ≤ total → Leapt true w total s a (record { p = a.p + 13; i = a.i + n })
leapt_run w total s a v n room sees e en some fits =
    let p = a.p in
    let l = bits_of (drop (p / 8 + 8) s) in
    let five : pull 5 (low_bits (64 - p % 8) v ++ l) ≡ got (v % 32) (low_bits (64 - p % 8 - 5) (v / 32) ++ l) = pull-low 5 (64 - p % 8) v l (omega arith) in
    let eight : pull 8 (low_bits (64 - p % 8 - 5) (v / 32) ++ l) ≡ got (v / 32 % 256) (low_bits (64 - p % 8 - 5 - 8) (v / 32 / 256) ++ l) =
    pull-low 8 (64 - p % 8 - 5) (v / 32) l (omega arith) in
    let m = low_bits (64 - p % 8 - 5 - 8) (v / 32 / 256) ++ l in
    let runs : op_of true w 0 0 (drop p (bits_of s)) ≡ go (n - 1) 0 0 m =
    ap (op_of true w 0 0) sees
    ∙ op_run w 0 0 (v / 32 % 256) (low_bits (64 - p % 8) v ++ l) (low_bits (64 - p % 8 - 5) (v / 32) ++ l) m
    (five ∙ ap (λ (x : ℕ). got x (low_bits (64 - p % 8 - 5) (v / 32) ++ l)) e) eight
    ∙ ap (λ (x : ℕ). go (x - 1) 0 0 m) (sym en) in
    let less : 64 - p % 8 - 5 - 8 ≡ 64 - p % 8 - 13 = omega arith in
    let far : v / 32 / 256 ≡ v / 2 ^ 13 = omega arith in
    let behind : m ≡ drop (p + 13) (bits_of s) =
    ap₂ (λ (k x : ℕ). low_bits k x ++ l) less far ∙ sym (seen_on s p (64 - p % 8) v 13 l sees (omega arith)) in
    leapt_of true w total s a (record { p = p + 13; i = a.i + n }) n refl fits (omega (arith, room.bits))
    (λ k. let more : n + k ≡ suc (n - 1) + k = omega arith in
    ap (λ (j : ℕ). outcome true w j 0 (drop p (bits_of s))) more ∙ outcome-run w (n - 1) k (drop p (bits_of s)) m runs ∙ ap (outcome true w k 0) behind)

-- ---- on to the careful test

-- the bits of the byte in which the spot stands are held
pub spot_held : (s : List ℕ) (p : ℕ) (c d : Cursor) → p ≤ 8 * length s → Starts (p / 8) c → Fetches s c d → Full s d → p % 8 ≤ d.bits
spot_held s p c d h start fetched full = go_on (leb 56 d.bits) refl
  where
    go_on : (q : Bool) → leb 56 d.bits ≡ q → p % 8 ≤ d.bits
    go_on true e = let many = leb-true 56 d.bits e in omega (arith, many)
    go_on false e =
        let end = full (leb-false 56 d.bits e) in
        omega (arith, end, h, start.place, start.none, fetched.eight)

pub spot_rest : (s : List ℕ) (p v : ℕ) (c d e : Cursor) → Starts (p / 8) c → Fetches s c d → Hands (p % 8) v d e → rest s e ≡ drop p (bits_of s)
spot_rest s p v c d e start fetched taken =
    let whole : 8 * (p / 8) + p % 8 ≡ p = omega arith in
    pull-drop (p % 8) v (rest s d) (rest s e) (taken.front s)
    ∙ ap (drop (p % 8)) (fetched.same ∙ start.all s ∙ sym (drop-bytes (p / 8) s))
    ∙ drop-drop (p % 8) (8 * (p / 8)) (bits_of s)
    ∙ ap (λ (k : ℕ). drop k (bits_of s)) whole

pub leapt_start : (second : Bool) (w total : ℕ) (s : List ℕ) (a : Spot) (st : State) → 1 ≤ total → Leapt second w total s (record { p = 16; i = 1 }) a
    → st.i ≡ a.i → rest s st.cur ≡ drop a.p (bits_of s)
    → (st.i ≤ total) × (outcome second w total 1 (bits_of (drop 2 s)) ≡ outcome second w (total - st.i) 0 (rest s st.cur))
leapt_start second w total s a st some g ei er =
    let g0 = g.on in
    let g1 = g.room in
    let e : total - 1 ≡ a.i - 1 + (total - a.i) = omega arith in (
      omega (arith, ei),
      ap (outcome second w total 1) (sym (drop-bytes 2 s))
          ∙ outcome-start second w total (drop 16 (bits_of s)) some
          ∙ ap (λ (j : ℕ). outcome second w j 0 (drop 16 (bits_of s))) e
          ∙ g.over (total - a.i)
          ∙ ap₂ (λ (j : ℕ) (l : List Bool). outcome second w (total - j) 0 l) (sym ei) (sym er),
    )
