-- The claims of change request 2 about a reader: the bits held and then the bytes not fetched are always the body's bits not yet handed
-- out, each byte is fetched once, and after a fetch 25 bits are held or the body ends.
use Rattle.std.proofs.Common.{◌≡◌, sym, ap, ◌∙◌, Bool, List, ◌++◌, append_assoc, ◌⊎◌, inl, inr, ℕ, ◌+◌, ◌-◌, ◌*◌, ◌≤◌, arith, length, drop, length-append}
use mathlib.Core.Logic.{by_cases}
use native.Mathlib.Decide.{dec_lt}
use Rattle.bits.specs.declared.Cursor.{Cursor}
use Rattle.bits.specs.Bits.{low_bits, bits_of, rest, Full}
use Rattle.bits.specs.Reader.{Fetches, Reads, starts, fetches, hands}
use Rattle.bits.proofs.BitLaws.{length-low, pull_is}
use Rattle.bits.proofs.CursorLaws.{all_held}

module _ (s : List ℕ) (from : ℕ) where
  in_order : (l : List Bool) (c : Cursor) → Reads s from l c → bits_of (drop from s) ≡ l ++ rest s c
  in_order _ _ (starts b) = sym (b.all s)
  in_order _ _ (fetches {l} {c} {d} r f) = in_order l c r ∙ ap (λ (q : List Bool). l ++ q) (sym f.same)
  in_order _ _ (hands {l} {c} {d} {n} {v} r h) =
      in_order l c r
      ∙ ap (λ (q : List Bool). l ++ q) (pull_is n v (rest s c) (rest s d) (h.front s)).0
      ∙ sym (append_assoc l (low_bits n v) (rest s d))

  pub always : (l : List Bool) (c : Cursor) → Reads s from l c → bits_of (drop from s) ≡ l ++ (low_bits c.bits c.hold ++ bits_of (drop c.at s))
  unfolding rest
  always l c r = in_order l c r

  pub once : (l : List Bool) (c : Cursor) → Reads s from l c → (from ≤ c.at) × (8 * (c.at - from) ≡ length l + c.bits)
  once _ _ (starts b) = (omega (arith, b.place), omega (arith, b.place, b.none))
  once _ _ (fetches {l} {c} {d} r f) =
      let o = once l c r in
      (omega (arith, o.0, f.on), omega (arith, o.0, o.1, f.on, f.eight))
  once _ _ (hands {l} {c} {d} {n} {v} r h) =
      let o = once l c r in
      (omega (arith, o.0, h.still), omega (arith, o.0, o.1, h.still, h.fewer, length-append l (low_bits n v), length-low n v))

-- what `refill` makes of c
module _ (s : List ℕ) (c d : Cursor) (f : Fetches s c d) (full : Full s d) where
  pub at_least_25 : (25 ≤ d.bits) ⊎ (d.at ≡ length s)
  at_least_25 = by_cases (dec_lt d.bits 25) (λ few. inr (omega (arith, full (omega arith), f.held.inside))) (λ many. inl (omega (arith, many)))

  pub enough-held : (n : ℕ) → n ≤ 25 → n ≤ length (rest s d) → n ≤ d.bits
  enough-held n few le = by_cases (dec_lt d.bits 25) (λ h. rw (all_held s d full (omega arith)) at le) (λ h. omega (arith, h))
