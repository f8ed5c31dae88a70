-- Which strips of masks are refused with 7 and 8 (document 01, "Strips of masks"): at the first operation that passes the end, or whose bytes are
-- missing.
use Rattle.std.proofs.Common.{◌≡◌, sym, ap, ◌∙◌, List, [], ◌++◌, ◌⊎◌, inl, inr, ℕ, zero, suc, ◌+◌, ◌-◌, ◌≤◌, ◌<◌, arith, lt-ltb, le-ltb, length, get_or, take, drop, replicate, Ok}
use mathlib.Core.Logic.{by_cases}
use native.Mathlib.Decide.{dec_lt}
use Rattle.strip.specs.Strip.{Strip, refused, prepend}
use Rattle.strip.proofs.StripLaws.{prepend-none, prepend-prepend}
use Rattle.plane.specs.Mask.{rows_in, rows_of, literals, RowsAt}
use Rattle.plane.specs.declared.Rows.TheVariants.{Literals, Copies}
use Rattle.plane.proofs.MaskLaws.{rows_done, at_end, at_past-literals, at_short-literals, at_literals, at_past-copies, at_short-copies, at_copies}
use Rattle.demands.specs.PictureRefusals.{bytes_needed, RowsReached, first, next, RowBytesRunOut, TooManyRows}
use Rattle.demands.proofs.RefusalStrips.{prepend-refused, refused-same, no-values}

-- ---- the operation byte, below 80 or not

low_rows : (op : ℕ) → op < 0x80 → rows_in op ≡ op
low_rows op low = rw (lt-ltb op 0x80 low)

low-bytes : (op : ℕ) → op < 0x80 → bytes_needed op ≡ op
low-bytes op low = rw (lt-ltb op 0x80 low)

high_rows : (op : ℕ) → 0x80 ≤ op → rows_in op ≡ op - 0x80
high_rows op high = rw (le-ltb op 0x80 high)

high-bytes : (op : ℕ) → 0x80 ≤ op → bytes_needed op ≡ 1
high-bytes op high = rw (le-ltb op 0x80 high)

module _ (body : List ℕ) (at k : ℕ) (pos : 1 ≤ k) where
  abbrev op : ℕ
  op = get_or body at 0

  -- what the bytes from `at` on give, with k rows to come
  abbrev ahead : Strip
  ahead = rows_of (drop at body) k (literals 0)

  -- it passes the end; its bytes are missing; it is whole
  past_end : at < length body → k < rows_in op → ahead ≡ refused 8
  past_end here past =
      by_cases (dec_lt op 0x80)
      (λ low. at_past-literals body at k pos here low (omega (arith, low_rows op low)))
      (λ high. let le : 0x80 ≤ op = omega (arith, high) in at_past-copies body at k pos here le (omega (arith, high_rows op le)))

  cut : at < length body → rows_in op ≤ k → length body < at + 1 + bytes_needed op → ahead ≡ refused 7
  cut here fits few =
      by_cases (dec_lt op 0x80)
      (λ low. at_short-literals body at k pos here low (omega (arith, low_rows op low)) (omega (arith, low-bytes op low)))
      (λ high.
      let le : 0x80 ≤ op = omega (arith, high) in
      at_short-copies body at k pos here le (omega (arith, high_rows op le)) (omega (arith, high-bytes op le)))

  abbrev Goes : Type 0
  Goes = (xs : List ℕ) × (ahead ≡ prepend xs (rows_of (drop (at + 1 + bytes_needed op) body) (k - rows_in op) (literals 0)))

  goes-low : (n : ℕ) → rows_in op ≡ n → bytes_needed op ≡ n → RowsAt body at k (Ok (Literals n)) → Goes
  goes-low n rows size (le, room, e) = (
    take n (drop (at + 1) body),
    e ∙ (λ i. prepend (take n (drop (at + 1) body)) (rows_of (drop (at + 1 + sym size i) body) (k - sym rows i) (literals 0))),
  )

  goes-high : (n : ℕ) → rows_in op ≡ n → bytes_needed op ≡ 1 → RowsAt body at k (Ok (Copies n)) → Goes
  goes-high n rows size (le, room, e) =
      let on : at + 2 ≡ at + 1 + bytes_needed op = omega (arith, size) in (
        replicate n (get_or body (at + 1) 0),
        e ∙ (λ i. prepend (replicate n (get_or body (at + 1) 0)) (rows_of (drop (on i) body) (k - sym rows i) (literals 0))),
      )

  goes_on : rows_in op ≤ k → at + 1 + bytes_needed op ≤ length body → Goes
  goes_on fits room =
      by_cases (dec_lt op 0x80)
      (λ low.
      let rows = low_rows op low in
      let size = low-bytes op low in
      goes-low op rows size (at_literals body at k pos (omega arith) low (omega (arith, rows)) (omega (arith, size))))
      (λ high.
      let le : 0x80 ≤ op = omega (arith, high) in
      let rows = high_rows op le in
      let size = high-bytes op le in
      goes-high (op - 0x80) rows size (at_copies body at k pos (omega arith) le (omega (arith, rows)) (omega (arith, size))))

module _ (h : ℕ) (body : List ℕ) where
  abbrev whole : Strip
  whole = rows_of body h (literals 0)

  -- the whole strip is what was given before a place, and what comes from there on
  from_place : (k at : ℕ) → RowsReached h body k at → (xs : List ℕ) × (whole ≡ prepend xs (rows_of (drop at body) k (literals 0)))
  from_place k at first = ([], prepend-none (rows_of body h (literals 0)))
  from_place k at (next {k = k₀} {at = at₀} before pos fits room) =
      let so_far = from_place k₀ at₀ before in
      let step = goes_on body at₀ k₀ pos fits room in (
        so_far.0 ++ step.0,
        so_far.1 ∙ ap (prepend so_far.0) step.1 ∙ prepend-prepend so_far.0 step.0 (rows_of (drop at body) k (literals 0)),
      )

  pub many_refused : TooManyRows h body → whole ≡ refused 8
  many_refused (k, at, reached, pos, here, past) =
      let so_far = from_place k at reached in
      so_far.1 ∙ ap (prepend so_far.0) (past_end body at k pos here past)

  pub out_refused : RowBytesRunOut h body → whole ≡ refused 7
  out_refused (k, at, reached, pos, inl end) =
      let so_far = from_place k at reached in
      so_far.1 ∙ ap (prepend so_far.0) (at_end body at k pos end)
  out_refused (k, at, reached, pos, inr (fits, few)) =
      let so_far = from_place k at reached in
      so_far.1
      ∙ ap (prepend so_far.0) (by_cases (dec_lt at (length body)) (λ here. cut body at k pos here fits few)
      (λ end. at_end body at k pos (omega (arith, end))))

  abbrev pub RowsBad : ℕ → Type 0
  RowsBad n = ((n ≡ 7) × RowBytesRunOut h body) ⊎ ((n ≡ 8) × TooManyRows h body)

  -- the operation at a place, where what comes from there on is refused: it is bad itself, or what comes after it is refused
  bad_step : (k at n : ℕ) → 1 ≤ k → RowsReached h body k at → rows_of (drop at body) k (literals 0) ≡ refused n
      → ((j on : ℕ) → at < on → on ≤ length body → RowsReached h body j on → rows_of (drop on body) j (literals 0) ≡ refused n → RowsBad n)
      → RowsBad n
  bad_step k at n pos reached e later =
      by_cases (dec_lt at (length body))
      (λ here.
      by_cases (dec_lt k (rows_in (get_or body at 0)))
      (λ past. inr (refused-same n 8 (sym e ∙ past_end body at k pos here past), (k, at, reached, pos, here, past)))
      (λ within.
      let fits : rows_in (get_or body at 0) ≤ k = omega (arith, within) in
      by_cases (dec_lt (length body) (at + 1 + bytes_needed (get_or body at 0)))
      (λ few. inl (refused-same n 7 (sym e ∙ cut body at k pos here fits few), (k, at, reached, pos, inr (fits, few))))
      (λ enough.
      let room : at + 1 + bytes_needed (get_or body at 0) ≤ length body = omega (arith, enough) in
      let step = goes_on body at k pos fits room in
      later (k - rows_in (get_or body at 0)) (at + 1 + bytes_needed (get_or body at 0)) (omega arith) room (next reached pos fits room)
      (prepend-refused step.0 (rows_of (drop (at + 1 + bytes_needed (get_or body at 0)) body) (k - rows_in (get_or body at 0)) (literals 0)) n
      (sym step.1 ∙ e)))))
      (λ end.
      let over : length body ≤ at = omega (arith, end) in
      inl (refused-same n 7 (sym e ∙ at_end body at k pos over), (k, at, reached, pos, inl over)))

  bad_at : (k at n : ℕ) → RowsReached h body k at → rows_of (drop at body) k (literals 0) ≡ refused n
      → ((j on : ℕ) → at < on → on ≤ length body → RowsReached h body j on → rows_of (drop on body) j (literals 0) ≡ refused n → RowsBad n)
      → RowsBad n
  bad_at k at n reached e later =
      by_cases (dec_lt k 1)
      (λ none. absurd (no-values [] n (sym (rows_done (drop at body) k (literals 0) (omega (arith, none))) ∙ e)))
      (λ some. bad_step k at n (omega (arith, some)) reached e later)

  bad_from : (fuel k at n : ℕ) → length body ≤ at + fuel → RowsReached h body k at → rows_of (drop at body) k (literals 0) ≡ refused n → RowsBad n
  bad_from zero k at n le reached e = bad_at k at n reached e (λ j on more within. absurd (omega arith))
  bad_from (suc fuel) k at n le reached e = bad_at k at n reached e (λ j on more within. bad_from fuel j on n (omega arith))

  pub bad_rows : (n : ℕ) → whole ≡ refused n → RowsBad n
  bad_rows n e = bad_from (length body) h 0 n (omega arith) first e
