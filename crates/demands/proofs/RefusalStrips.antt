-- Which strips of pixels are refused with 6, 7 and 8 (document 01, "Strips of pixels"): a coded strip at the first operation that is cut or passes
-- the end, another by its length or its code.
use Rattle.std.proofs.Common.{◌≡◌, refl, sym, ap, ◌∙◌, subst, Bool, true, false, List, [], ◌∷◌, ◌++◌, ◌⊎◌, inl, inr, ℕ, zero, suc, ◌+◌, ◌-◌, ◌*◌, ◌≤◌, ◌<◌, arith, eqb, length, get_or, drop, replicate, length-drop}
use mathlib.Core.Logic.{by_cases}
use native.Mathlib.Decide.{dec_lt}
use Rattle.bits.specs.Bits.{Pull, short, got, pull, bits_of}
use Rattle.strip.specs.Strip.{Move, refuse, go, index_op, walk_op, run_op, change_op, op_of, Strip, refused, values, prepend, decode}
use Rattle.strip.specs.Picture.{refusal, picture, kind_of, shown, by_kind, strip_of}
use Rattle.strip.specs.declared.Kind.{Kind}
use Rattle.strip.specs.declared.Kind.TheVariants.{Raw, Coded, Unknown}
use Rattle.strip.proofs.StripLaws.{prepend-none, prepend-prepend, decode-pending, decode_op, decode-past, decode-refuse}
use Rattle.strip.proofs.PictureLaws.{raw_short, raw_full, strip-none, strip-some}
use Rattle.demands.specs.Demand2.{operations}
use Rattle.demands.specs.PictureRefusals.{Reached, first, next, BitsRunOut, TooManyPixels, Method, UnknownCode, BytesRunOut, PassesEnd}
use Rattle.demands.proofs.StripReads.{coded_short, coded_whole}

-- ---- an operation is refused with 7 only

not-refuse : (a c s r n : ℕ) (l : List Bool) → go a c s l ≡ refuse r → n ≡ 7
not-refuse a c s r n l e = absurd (let z : ◌≡◌ {A = ℕ} 0 1 = cc in omega arith)

seven : (r : ℕ) → refuse 7 ≡ refuse r → r ≡ 7
seven r e = cc

index-seven : (p : Pull) (r : ℕ) → index_op p ≡ refuse r → r ≡ 7
index-seven short r e = seven r e
index-seven (got v l) r e = not-refuse _ _ _ r r _ e

walk-seven : (c s : ℕ) (l : List Bool) (r : ℕ) → walk_op c s l ≡ refuse r → r ≡ 7
walk-seven c s [] r e = seven r e
walk-seven c s (false ∷ l) r e = not-refuse _ _ _ r r _ e
walk-seven c s (true ∷ l) r e = not-refuse _ _ _ r r _ e

run-seven : (c s : ℕ) (p : Pull) (r : ℕ) → run_op c s p ≡ refuse r → r ≡ 7
run-seven c s short r e = seven r e
run-seven c s (got n l) r e = not-refuse _ _ _ r r _ e

change_seven : (c s : ℕ) (p : Pull) (r : ℕ) → change_op c s p ≡ refuse r → r ≡ 7
change_seven c s short r e = seven r e
change_seven c s (got d l) r e = go4 (eqb d 4) refl
  where
    go4 : (t : Bool) → eqb d 4 ≡ t → r ≡ 7
    go4 true f = run-seven c s (pull 8 l) r (rw f at e)
    go4 false f = not-refuse _ _ _ r r _ (rw f at e)

op_seven : (second : Bool) (w c s : ℕ) (l : List Bool) (r : ℕ) → op_of second w c s l ≡ refuse r → r ≡ 7
op_seven second w c s [] r e = seven r e
op_seven second w c s (false ∷ l) r e = not-refuse _ _ _ r r _ e
op_seven second w c s (true ∷ []) r e = seven r e
op_seven second w c s (true ∷ false ∷ l) r e = index-seven (pull w l) r e
op_seven false w c s (true ∷ true ∷ l) r e = walk-seven c s l r e
op_seven true w c s (true ∷ true ∷ l) r e = change_seven c s (pull 3 l) r e

-- ---- from place to place

pub prepend-refused : (xs : List ℕ) (x : Strip) (n : ℕ) → prepend xs x ≡ refused n → x ≡ refused n
prepend-refused xs (refused m) n e = e
prepend-refused xs (values ys) n e = absurd (let z : ◌≡◌ {A = ℕ} 0 1 = cc in omega arith)

pub refused-same : (n r : ℕ) → refused n ≡ refused r → n ≡ r
refused-same n r e = cc

pub no-values : (xs : List ℕ) (n : ℕ) → values xs ≡ refused n → ⊥
no-values xs n e = let z : ◌≡◌ {A = ℕ} 0 1 = cc in omega arith

module _ (second : Bool) (w h : ℕ) (body : List ℕ) where
  decode-none : (c s : ℕ) (l : List Bool) → decode second w 0 0 c s l ≡ values []
  unfolding decode
  decode-none c s l = refl

  start_none : (m c s : ℕ) (l : List Bool) → m ≡ 0 → decode second w m 1 c s l ≡ values []
  unfolding decode
  start_none m c s l e = ap (λ (j : ℕ). decode second w j 1 c s l) e

  -- the whole strip is what was made before a place, and what comes from there on
  from_place : (k c st : ℕ) (l : List Bool) → Reached second w h body k c st l
      → (xs : List ℕ) × (operations second w h body ≡ prepend xs (decode second w k 0 c st l))
  from_place k c st l first =
      by_cases (dec_lt (8 * h) 1)
      (λ none. (
        [],
        start_none (8 * h) c st l (omega arith)
            ∙ sym (ap (λ (j : ℕ). decode second w j 0 c st l) (let e : 8 * h - 1 ≡ 0 = omega arith in e) ∙ decode-none c st l)
            ∙ prepend-none (decode second w (8 * h - 1) 0 c st l),
      ))
      (λ some. (
        c ∷ [],
        ap (λ (j : ℕ). decode second w j 1 c st l) (let e : 8 * h ≡ 1 + (8 * h - 1) = omega arith in e)
            ∙ decode-pending second w 1 (8 * h - 1) c st l,
      ))
  from_place k c st l (next {c = c₀} {st = st₀} {more = more} {l = l₀} before op) =
      let so_far = from_place (suc (more + k)) c₀ st₀ l₀ before in (
        so_far.0 ++ replicate (suc more) c,
        so_far.1
            ∙ ap (prepend so_far.0) (decode_op second w c₀ st₀ l₀ more k c st l op)
            ∙ prepend-prepend so_far.0 (replicate (suc more) c) (decode second w k 0 c st l),
      )

  bits-refuse : BitsRunOut second w h body → operations second w h body ≡ refused 7
  bits-refuse (k, c, st, l, at, one, op) =
      let so_far = from_place k c st l at in
      let e : k ≡ suc (k - 1) = omega arith in
      so_far.1
      ∙ ap (prepend so_far.0) (ap (λ (j : ℕ). decode second w j 0 c st l) e ∙ decode-refuse second w c st l 7 (k - 1) op)

  many_refuse : TooManyPixels second w h body → operations second w h body ≡ refused 8
  many_refuse (k, c, st, l, at, one, (more, c', st', l', op, past)) =
      let so_far = from_place k c st l at in
      let e : k ≡ suc (k - 1) = omega arith in
      so_far.1
      ∙ ap (prepend so_far.0)
      (ap (λ (j : ℕ). decode second w j 0 c st l) e ∙ decode-past second w c st l more (k - 1) c' st' l' op (omega arith))

  abbrev Bad : ℕ → Type 0
  Bad n = ((n ≡ 7) × BitsRunOut second w h body) ⊎ ((n ≡ 8) × TooManyPixels second w h body)

  -- the operation at a place, where what comes from there on is refused: it is bad itself, or what comes after it is refused
  bad_step : (k c st : ℕ) (l : List Bool) (n : ℕ) → Reached second w h body (suc k) c st l → decode second w (suc k) 0 c st l ≡ refused n
      → ((j c' st' : ℕ) (l' : List Bool) → j ≤ k → Reached second w h body j c' st' l' → decode second w j 0 c' st' l' ≡ refused n → Bad n)
      → (m : Move) → op_of second w c st l ≡ m → Bad n
  bad_step k c st l n at e later (refuse r) op =
      let cut = op_seven second w c st l r op in
      let same : n ≡ 7 = refused-same n r (sym e ∙ decode-refuse second w c st l r k op) ∙ cut in
      inl (same, (suc k, c, st, l, at, omega arith, op ∙ ap refuse cut))
  bad_step k c st l n at e later (go more c' st' l') op =
      by_cases (dec_lt k more)
      (λ past.
      let same : n ≡ 8 = refused-same n 8 (sym e ∙ decode-past second w c st l more k c' st' l' op past) in
      inr (same, (suc k, c, st, l, at, omega arith, (more, c', st', l', op, omega arith))))
      (λ fits.
      let whole : suc k ≡ suc (more + (k - more)) = omega (arith, fits) in
      later (k - more) c' st' l' (omega arith) (next (subst (λ (j : ℕ). Reached second w h body j c st l) whole at) op)
      (prepend-refused (replicate (suc more) c') (decode second w (k - more) 0 c' st' l') n
      (sym (ap (λ (j : ℕ). decode second w j 0 c st l) whole ∙ decode_op second w c st l more (k - more) c' st' l' op) ∙ e)))

  -- from a place on, a strip that is refused is so at some place
  bad_at : (k c st : ℕ) (l : List Bool) (n : ℕ) → Reached second w h body k c st l → decode second w k 0 c st l ≡ refused n
      → ((j c' st' : ℕ) (l' : List Bool) → j < k → Reached second w h body j c' st' l' → decode second w j 0 c' st' l' ≡ refused n → Bad n)
      → Bad n
  bad_at zero c st l n at e later = absurd (no-values [] n (sym (decode-none c st l) ∙ e))
  bad_at (suc k) c st l n at e later =
      bad_step k c st l n at e (λ j c' st' l' few. later j c' st' l' (omega arith)) (op_of second w c st l) refl

  bad_from : (fuel k c st : ℕ) (l : List Bool) (n : ℕ) → k ≤ fuel → Reached second w h body k c st l → decode second w k 0 c st l ≡ refused n → Bad n
  bad_from zero k c st l n le at e = bad_at k c st l n at e (λ j c' st' l' few. absurd (omega arith))
  bad_from (suc fuel) k c st l n le at e = bad_at k c st l n at e (λ j c' st' l' few. bad_from fuel j c' st' l' n (omega arith))

  bad_operations : (n : ℕ) → operations second w h body ≡ refused n → Bad n
  bad_operations n e =
      let so_far = from_place (8 * h - 1) (get_or body 1 0) 1 (bits_of (drop 2 body)) first in
      bad_from (8 * h - 1) (8 * h - 1) (get_or body 1 0) 1 (bits_of (drop 2 body)) n (omega arith) first
      (prepend-refused so_far.0 (decode second w (8 * h - 1) 0 (get_or body 1 0) 1 (bits_of (drop 2 body))) n (sym so_far.1 ∙ e))

-- ---- a whole strip of h rows

abbrev pub StripBad : ℕ → List ℕ → ℕ → Type 0
StripBad h body n =
    ((n ≡ 6) × UnknownCode false h body) ⊎ ((n ≡ 7) × BytesRunOut false h body) ⊎ ((n ≡ 8) × PassesEnd false h body)

refusal-same : (n r : ℕ) → refusal n ≡ refusal r → r ≡ n
refusal-same n r e = cc

no-picture : (clear : Bool) (xs : List ℕ) (n : ℕ) → picture clear xs ≡ refusal n → ⊥
no-picture clear xs n e = let z : ◌≡◌ {A = ℕ} 0 1 = cc in omega arith

shown-refused : (vertical clear : Bool) (h : ℕ) (x : Strip) (n : ℕ) → shown vertical clear h x ≡ refusal n → x ≡ refused n
shown-refused vertical clear h (refused m) n e = ap refused (refusal-same n m (sym e))
shown-refused vertical clear h (values xs) n e = absurd (no-picture clear _ n e)

module _ (h : ℕ) (body : List ℕ) where
  kind_is : 1 ≤ length body → (kind : Kind) → kind_of (get_or body 0 0) ≡ kind → strip_of h body ≡ by_kind h (drop 1 body) kind
  kind_is some kind e = strip-some h body some ∙ ap (λ (k : Kind). by_kind h (drop 1 body) k) e

  -- each of the three is refused so
  pub unknown_refused : UnknownCode false h body → strip_of h body ≡ refusal 6
  unknown_refused (some, e) = kind_is some Unknown e

  raw_refused : kind_of (get_or body 0 0) ≡ Raw → length body < 1 + 8 * h → strip_of h body ≡ refusal 7
  raw_refused e few =
      by_cases (dec_lt (length body) 1)
      (λ none. strip-none h body none)
      (λ some. kind_is (omega (arith, some)) Raw e ∙ raw_short h (drop 1 body) (omega (arith, some, length-drop 1 body)))

  coded_refused : (second : Bool) (w n : ℕ) → Method body second w → 2 ≤ length body → operations second w h body ≡ refused n → strip_of h body ≡ refusal n
  coded_refused second w n (vertical, clear, kind) many e =
      coded_whole second vertical clear w h body kind many ∙ ap (shown vertical clear h) e

  pub out_refused : BytesRunOut false h body → strip_of h body ≡ refusal 7
  out_refused (inl none) = strip-none h body none
  out_refused (inr (inl (raw, few))) = raw_refused raw few
  out_refused (inr (inr (second, w, method, inl few))) = coded_short second method.0 method.1 w h body method.2 few
  out_refused (inr (inr (second, w, method, inr cut))) =
      by_cases (dec_lt (length body) 2)
      (λ few. coded_short second method.0 method.1 w h body method.2 few)
      (λ many. coded_refused second w 7 method (omega (arith, many)) (bits-refuse second w h body cut))

  pub past-refused : PassesEnd false h body → strip_of h body ≡ refusal 8
  past-refused (second, w, method, many, past) = coded_refused second w 8 method many (many_refuse second w h body past)

  -- and a strip that is refused is one of the three
  bad_coded : (second vertical clear : Bool) (w n : ℕ) → kind_of (get_or body 0 0) ≡ Coded second vertical clear w → 2 ≤ length body
      → Bad second w h body n → StripBad h body n
  bad_coded second vertical clear w n kind many (inl (e, cut)) = inr (inl (e, inr (inr (second, w, (vertical, clear, kind), inr cut))))
  bad_coded second vertical clear w n kind many (inr (e, past)) = inr (inr (e, (second, w, (vertical, clear, kind), many, past)))

  bad_kind : 1 ≤ length body → (kind : Kind) → kind_of (get_or body 0 0) ≡ kind → (n : ℕ) → strip_of h body ≡ refusal n → StripBad h body n
  bad_kind some Raw kind n e =
      by_cases (dec_lt (length (drop 1 body)) (8 * h))
      (λ few.
      let same : n ≡ 7 = refusal-same 7 n (sym (kind_is some Raw kind ∙ raw_short h (drop 1 body) few) ∙ e) in
      inr (inl (same, inr (inl (kind, omega (arith, few, length-drop 1 body))))))
      (λ all. absurd (no-picture false _ n (sym (kind_is some Raw kind ∙ raw_full h (drop 1 body) (omega (arith, all))) ∙ e)))
  bad_kind some (Coded second vertical clear w) kind n e =
      by_cases (dec_lt (length body) 2)
      (λ few.
      let same : n ≡ 7 = refusal-same 7 n (sym (coded_short second vertical clear w h body kind few) ∙ e) in
      inr (inl (same, inr (inr (second, w, (vertical, clear, kind), inl few)))))
      (λ many.
      let all : 2 ≤ length body = omega (arith, many) in
      bad_coded second vertical clear w n kind all
      (bad_operations second w h body n
      (shown-refused vertical clear h (operations second w h body) n (sym (coded_whole second vertical clear w h body kind all) ∙ e))))
  bad_kind some Unknown kind n e = inl (refusal-same 6 n (sym (kind_is some Unknown kind) ∙ e), (some, kind))

  pub bad_strip : (n : ℕ) → strip_of h body ≡ refusal n → StripBad h body n
  bad_strip n e =
      by_cases (dec_lt (length body) 1)
      (λ none. inr (inl (refusal-same 7 n (sym (strip-none h body none) ∙ e), inl none)))
      (λ some. bad_kind (omega (arith, some)) (kind_of (get_or body 0 0)) refl n e)
