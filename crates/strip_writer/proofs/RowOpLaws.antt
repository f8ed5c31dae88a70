-- Laws of one operation of a strip of rows that is written, and of all of them.
use Rattle.std.proofs.Common.{◌≡◌, ℕ, suc, ◌+◌, ◌-◌, ◌<◌, ◌≤◌, Bool, true, false, cond, leb, List, [], ◌∷◌, ◌++◌, length, get_or, take, drop, set, sym, refl, ap, ◌∙◌, ap₂, append_assoc, append-nil, add-one, arith, length-append, length-drop, length-set, drop_of_length-le, length-take-le, drop-drop, take-suc-set, drop-set-lt, le-leb}
use borrow.Author.Tests.{lt-leb}
use Rattle.number.specs.Buffer.{over}
use Rattle.strip_writer.specs.Rows.{run_length, literal_length, op_rows, op_bytes, ops_bytes, all_zero, rows_body}
use Rattle.strip_writer.specs.Place.{pending, OpWritten}
use Rattle.strip_writer.proofs.RowLaws.{row_ops_step, op_bytes_cases, op_rows_cases, rows_brought}
use Rattle.plane.proofs.MaskLaws.{from_at}
use Rattle.strip_writer.proofs.WritingLaws.{written}

-- the next operation of the rows from y on: its bytes and its rows
pub record Next (rows d : List ℕ) (y at : ℕ) (bytes : List ℕ) (r : ℕ) : Type 0 where
  pub same : ops_bytes 0 (drop y rows) ≡ bytes ++ ops_bytes 0 (drop (y + r) rows)
  pub some : 1 ≤ r
  pub few : r ≤ 127
  pub inside : y + r ≤ length rows
  pub room : at + length bytes + length (ops_bytes 0 (drop (y + r) rows)) ≤ length d

module _ (rows d : List ℕ) (y at : ℕ) (lt : y < length rows) (room : at + length (ops_bytes 0 (drop y rows)) ≤ length d) where
  next_of : (p : List ℕ) (r : ℕ) → op_bytes (get_or rows y 0) (drop (y + 1) rows) ≡ p → op_rows (get_or rows y 0) (drop (y + 1) rows) ≡ r → Next rows d y at p r
  next_of p r e f =
      let x = get_or rows y 0 in
      let t = drop (y + 1) rows in
      let here = from_at rows y lt in
      let k = rows_brought x t in
      let size : suc (length t) ≡ length rows - y = sym (ap length here) ∙ length-drop y rows in
      let split : ops_bytes 0 (drop y rows) ≡ p ++ ops_bytes 0 (drop (y + r) rows) =
      ap (ops_bytes 0) here
      ∙ row_ops_step x t
      ∙ ap₂ (λ (q : List ℕ) (n : ℕ). q ++ ops_bytes 0 (drop n (x ∷ t))) e f
      ∙ ap (λ (l : List ℕ). p ++ ops_bytes 0 l) (ap (drop r) (sym here) ∙ drop-drop r y rows) in
      let len : length (ops_bytes 0 (drop y rows)) ≡ length p + length (ops_bytes 0 (drop (y + r) rows)) = ap length split ∙ length-append p
      (ops_bytes 0 (drop (y + r) rows)) in
      record { same = split; some = omega (arith, k.some); few = omega (arith, k.most); inside = omega (arith, k.inside); room = omega arith }

  pub next-run : (n : ℕ) → n ≡ run_length 127 (get_or rows y 0) (drop y rows) → 2 ≤ n → Next rows d y at ((0x80 + n) ∷ get_or rows y 0 ∷ []) n
  next-run n e two =
      let x = get_or rows y 0 in
      let t = drop (y + 1) rows in
      let m : run_length 127 x (x ∷ t) ≡ n = ap (run_length 127 x) (sym (from_at rows y lt)) ∙ sym e in
      let test : leb 2 (run_length 127 x (x ∷ t)) ≡ true = le-leb 2 (run_length 127 x (x ∷ t)) (omega arith) in
      next_of ((0x80 + n) ∷ x ∷ []) n (op_bytes_cases x t true test ∙ ap (λ (k : ℕ). (0x80 + k) ∷ x ∷ []) m) (op_rows_cases x t true test ∙ m)

  pub next_literal : (n m : ℕ) → n ≡ run_length 127 (get_or rows y 0) (drop y rows) → n < 2 → m ≡ literal_length 127 (drop y rows)
      → Next rows d y at (m ∷ take m (drop y rows)) m
  next_literal n m e two f =
      let x = get_or rows y 0 in
      let t = drop (y + 1) rows in
      let here = from_at rows y lt in
      let k : run_length 127 x (x ∷ t) ≡ n = ap (run_length 127 x) (sym here) ∙ sym e in
      let u : literal_length 127 (x ∷ t) ≡ m = ap (literal_length 127) (sym here) ∙ sym f in
      let test : leb 2 (run_length 127 x (x ∷ t)) ≡ false = lt-leb 2 (run_length 127 x (x ∷ t)) (omega arith) in
      next_of (m ∷ take m (drop y rows)) m
      (op_bytes_cases x t false test ∙ ap₂ (λ (j : ℕ) (l : List ℕ). j ∷ take j l) u (sym here))
      (op_rows_cases x t false test ∙ u)

  -- the operation's bytes stand in the buffer
  pub op_written : (e p : List ℕ) (r z : ℕ) → Next rows d y at p r → z ≡ at + length p
      → take z e ≡ take at d ++ p → drop z e ≡ drop z d → length e ≡ length d
      → OpWritten rows d e y at (record { y = y + r; at = z })
  op_written e p r z k f front back len =
      record {
        same =
            ap (λ (l : List ℕ). take at d ++ l) k.same
            ∙ sym (append_assoc (take at d) p (ops_bytes 0 (drop (y + r) rows)))
            ∙ ap (λ (l : List ℕ). l ++ ops_bytes 0 (drop (y + r) rows)) (sym front);
        past = back;
        whole = len;
        on = omega arith;
        more = omega (arith, k.some);
        inside = k.inside;
        room = omega (arith, k.room);
      }

  pub run-written : (n : ℕ) → Next rows d y at ((0x80 + n) ∷ get_or rows y 0 ∷ []) n
      → OpWritten rows d (set (set d at (0x80 + n)) (at + 1) (get_or rows y 0)) y at (record { y = y + n; at = at + 2 })
  run-written n k =
      let x = get_or rows y 0 in
      let one = set d at (0x80 + n) in
      let l1 : length one ≡ length d = length-set d at (0x80 + n) in
      let s : at + 2 ≡ suc (at + 1) = omega arith in
      op_written (set one (at + 1) x) ((0x80 + n) ∷ x ∷ []) n (at + 2) k refl
      (ap (λ (j : ℕ). take j (set one (at + 1) x)) s
      ∙ take-suc-set {A = ℕ} one (at + 1) x (omega (arith, k.room))
      ∙ ap (λ (q : List ℕ). q ++ (x ∷ [])) (rw (← add-one) at (take-suc-set {A = ℕ} d at (0x80 + n) (omega (arith, k.room))))
      ∙ append_assoc (take at d) ((0x80 + n) ∷ []) (x ∷ []))
      (drop-set-lt (at + 2) one (at + 1) x (omega arith) ∙ drop-set-lt (at + 2) d at (0x80 + n) (omega arith))
      (length-set one (at + 1) x ∙ l1)

  pub literal_written : (m : ℕ) (e : List ℕ) → Next rows d y at (m ∷ take m (drop y rows)) m
      → take (at + 1 + m) e ≡ take (at + 1) (set d at m) ++ take m (drop y rows)
      → drop (at + 1 + m) e ≡ drop (at + 1 + m) (set d at m)
      → length e ≡ length (set d at m)
      → OpWritten rows d e y at (record { y = y + m; at = at + 1 + m })
  literal_written m e k stored behind whole =
      let s = drop y rows in
      let one = set d at m in
      let l1 : length one ≡ length d = length-set d at m in
      let ls : m ≤ length s = omega (arith, k.inside, length-drop y rows) in
      let lt : length (take m s) ≡ m = length-take-le m s ls in
      op_written e (m ∷ take m s) m (at + 1 + m) k (omega arith)
      (stored
      ∙ ap (λ (q : List ℕ). q ++ take m s) (rw (← add-one) at (take-suc-set {A = ℕ} d at m (omega (arith, k.room))))
      ∙ append_assoc (take at d) (m ∷ []) (take m s))
      (behind ∙ drop-set-lt (at + 1 + m) d at m (omega arith))
      (whole ∙ l1)

-- ---- all of them

pub row_ops_end : (rows out d : List ℕ) (y at : ℕ) → length rows ≤ y → at + length (ops_bytes 0 (drop y rows)) ≤ length out → drop at out ≡ drop at d
    → ops_bytes 0 rows ≡ pending rows out y at → (at ≡ length (ops_bytes 0 rows)) × (out ≡ over (ops_bytes 0 rows) d)
unfolding ops_bytes
row_ops_end rows out d y at le room past same =
    written (ops_bytes 0 rows) out d at
    (sym (same ∙ ap (λ (l : List ℕ). take at out ++ ops_bytes 0 l) (drop_of_length-le rows le) ∙ append-nil (take at out)))
    (omega arith)
    past

pub body_none : (l : List ℕ) → true ≡ all_zero l → rows_body l ≡ []
unfolding rows_body
body_none l e = ap (λ (p : Bool). cond p [] (ops_bytes 0 l)) (sym e)

pub body_some : (l : List ℕ) → false ≡ all_zero l → rows_body l ≡ ops_bytes 0 l
unfolding rows_body
body_some l e = ap (λ (p : Bool). cond p [] (ops_bytes 0 l)) (sym e)

pub rows_none : (l d : List ℕ) → rows_body l ≡ [] → (0 ≡ length (rows_body l)) × (d ≡ over (rows_body l) d)
unfolding over
rows_none l d e = (ap length (sym e), ap (λ (x : List ℕ). x ++ drop (length x) d) (sym e))
