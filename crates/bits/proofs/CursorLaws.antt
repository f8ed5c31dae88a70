-- Laws of a cursor: the bits left are the same whatever of them is held, and bits that are handed out come from their front.
use Rattle.std.proofs.Common.{◌≡◌, refl, sym, ap, ◌∙◌, subst, Bool, List, [], ◌∷◌, ◌++◌, append_assoc, ℕ, zero, suc, ◌+◌, ◌-◌, ◌*◌, ◌/◌, ◌%◌, ◌^◌, ◌≤◌, ◌<◌, add-zero, one-mul, mod-eq_of_lt, lt_of_le_of_lt, add-one, arith, eqb, lit<, get_or, length, drop, length-append, drop_of_length-le, pow-add, pow_mono, shr_lt, shl_exact, drop-cons, drop-drop, drop_at, Fits, w8}
use lib.Arith.{digits_lt}
use lib.Seq.{drop-nil}
use Rattle.bits.specs.declared.Cursor.{Cursor}
use Rattle.bits.specs.Bits.{low_bits, bits_of, got, pull, rest, word_at, Held, Full, Views}
use Rattle.bits.specs.Reader.{Fetches, Hands, Shows, One}
use Rattle.bits.proofs.BitLaws.{pull-low, low_join, low_split, low-drop, length-low, got-value, got_tail, pull_is, pull-drop}

-- ---- bytes

pub bits_byte : (s : List ℕ) (at : ℕ) → at < length s → bits_of (drop at s) ≡ low_bits 8 (get_or s at 0) ++ bits_of (drop (at + 1) s)
unfolding bits_of
bits_byte s at h = rw (add-one, drop-cons s at 0 h)

join : (m n a b : ℕ) (t l : List Bool) → a < 2 ^ m → l ≡ low_bits n b ++ t → low_bits m a ++ l ≡ low_bits (m + n) (a + b * 2 ^ m) ++ t
join m n a b t l h e = rw (e, low_join m n a b h) (sym (append_assoc (low_bits m a) (low_bits n b) t))

bits-word : (s : List ℕ) (at : ℕ) → at + 4 ≤ length s → ((i : ℕ) → Fits w8 (get_or s i 0)) → bits_of (drop at s) ≡ low_bits 32 (word_at s at) ++ bits_of
    (drop (at + 4) s)
bits-word s at h byte =
    let e3 : bits_of (drop (at + 3) s) ≡ low_bits 8 (get_or s (at + 3) 0) ++ bits_of (drop (at + 4) s) = rw (at_on 3) at (bits_byte s (at + 3) (omega arith)) in
    let e2 : bits_of (drop (at + 2) s) ≡ low_bits 16 (get_or s (at + 2) 0 + get_or s (at + 3) 0 * 256) ++ bits_of (drop (at + 4) s) =
    rw (at_on 2) at (bits_byte s (at + 2) (omega arith)) ∙ join 8 8 _ _ _ _ (byte (at + 2)).fits e3 in
    let e1 : bits_of (drop (at + 1) s) ≡ low_bits 24 (get_or s (at + 1) 0 + (get_or s (at + 2) 0 + get_or s (at + 3) 0 * 256) * 256)
    ++ bits_of (drop (at + 4) s) =
    rw (at_on 1) at (bits_byte s (at + 1) (omega arith)) ∙ join 8 16 _ _ _ _ (byte (at + 1)).fits e2 in
    bits_byte s at (omega arith) ∙ join 8 24 _ _ _ _ (byte at).fits e1
  where
    at_on : (k : ℕ) → at + k + 1 ≡ at + (k + 1)
    at_on k = omega arith

word_lt : (s : List ℕ) (at : ℕ) → ((i : ℕ) → Fits w8 (get_or s i 0)) → word_at s at < 2 ^ 32
word_lt s at byte = omega (arith, (byte at).fits, (byte (at + 1)).fits, (byte (at + 2)).fits, (byte (at + 3)).fits)

bits-eight : (s : List ℕ) (at : ℕ) → at + 8 ≤ length s → ((i : ℕ) → Fits w8 (get_or s i 0))
    → bits_of (drop at s) ≡ low_bits 64 (word_at s at + word_at s (at + 4) * 4294967296) ++ bits_of (drop (at + 8) s)
bits-eight s at h byte =
    let four : at + 4 + 4 ≡ at + 8 = omega arith in
    let second : bits_of (drop (at + 4) s) ≡ low_bits 32 (word_at s (at + 4)) ++ bits_of (drop (at + 8) s) =
    rw four at (bits-word s (at + 4) (omega arith) byte) in
    bits-word s at (omega arith) byte ∙ join 32 32 (word_at s at) _ _ _ (word_lt s at byte) second

pub drop-bytes : (a : ℕ) (s : List ℕ) → drop (8 * a) (bits_of s) ≡ bits_of (drop a s)
unfolding bits_of
drop-bytes zero s = let z : 8 * 0 ≡ 0 = omega arith in ap (λ (k : ℕ). drop k (bits_of s)) z
drop-bytes (suc a) [] = drop-nil (8 * suc a)
drop-bytes (suc a) (b ∷ s) =
    let e : 8 * suc a ≡ 8 + 8 * a = omega arith in
    ap (λ (k : ℕ). drop k (low_bits 8 b ++ bits_of s)) e
    ∙ sym (drop-drop (8 * a) 8 (low_bits 8 b ++ bits_of s))
    ∙ ap (drop (8 * a)) (drop_at (low_bits 8 b) (bits_of s) 8 (length-low 8 b))
    ∙ drop-bytes a s

pub bits-long : (s : List ℕ) → length (bits_of s) ≡ 8 * length s
unfolding bits_of
bits-long [] = refl
bits-long (b ∷ s) = length-append (low_bits 8 b) (bits_of s) ∙ omega (arith, length-low 8 b, bits-long s)

-- the bits from bit p on, in the eight bytes from its byte on
pub view_front : (s : List ℕ) (p : ℕ) → p / 8 + 8 ≤ length s → ((i : ℕ) → Fits w8 (get_or s i 0))
    → Views s p ((word_at s (p / 8) + word_at s (p / 8 + 4) * 4294967296) / 2 ^ (p % 8))
view_front s p h byte =
    let r = p % 8 in
    let word = word_at s (p / 8) + word_at s (p / 8 + 4) * 4294967296 in
    let after = bits_of (drop (p / 8 + 8) s) in
    let whole : p ≡ 8 * (p / 8) + p % 8 = omega arith in
    let parts : 64 ≡ p % 8 + (64 - p % 8) = omega arith in
    ap (λ (k : ℕ). drop k (bits_of s)) whole
    ∙ sym (drop-drop r (8 * (p / 8)) (bits_of s))
    ∙ ap (drop r) (drop-bytes (p / 8) s ∙ bits-eight s (p / 8) h byte ∙ ap (λ (k : ℕ). low_bits k word ++ after) parts)
    ∙ low-drop r (64 - r) word after

-- ---- bits that are handed out

-- the low n bits held
pub hands-low : (c : Cursor) (n : ℕ) → n ≤ c.bits → Hands n (c.hold % 2 ^ n) c (record { at = c.at; bits = c.bits - n; hold = c.hold / 2 ^ n })
unfolding rest
hands-low c n le =
    let back : c.bits ≡ c.bits - n + n = omega arith in
    record {
      fewer = sym back;
      still = refl;
      front = λ s. pull-low n c.bits c.hold (bits_of (drop c.at s)) le;
      held = λ s held. record {
        few = omega (arith, held.few);
        low = shr_lt (c.bits - n) n (subst (λ (k : ℕ). c.hold < 2 ^ k) back held.low);
        inside = held.inside;
      };
    }

pub shows_low : (c : Cursor) (n : ℕ) → n ≤ c.bits → Shows n (c.hold % 2 ^ n) c
unfolding rest
shows_low c n le = λ s. (_, pull-low n c.bits c.hold (bits_of (drop c.at s)) le)

module _ (n v : ℕ) (c d : Cursor) (h : Hands n v c d) where
  enough : n ≤ c.bits
  enough = omega (arith, h.fewer)

  -- the same bits, found in the bit buffer
  same-front : (s : List ℕ) → got v (rest s d) ≡ got (c.hold % 2 ^ n) (low_bits (c.bits - n) (c.hold / 2 ^ n) ++ bits_of (drop c.at s))
  unfolding rest
  same-front s = sym (h.front s) ∙ pull-low n c.bits c.hold (bits_of (drop c.at s)) enough

  pub hands-zeros : c.hold % 2 ^ n ≡ 0 → Hands n 0 c d
  hands-zeros z = subst (λ (x : ℕ). Hands n x c d) (got-value (same-front []) ∙ z) h

  pub hands-one : n < c.bits → c.hold / 2 ^ n % 2 ≡ 1 → (s : List ℕ) → One (rest s d)
  unfolding low_bits
  hands-one more one s =
      let k : c.bits - n ≡ suc (c.bits - n - 1) = omega arith in
      let t = bits_of (drop c.at s) in (
        _,
        got_tail (same-front s)
            ∙ ap (λ (j : ℕ). low_bits j (c.hold / 2 ^ n) ++ t) k
            ∙ ap (λ (x : ℕ). eqb x 1 ∷ (low_bits (c.bits - n - 1) (c.hold / 2 ^ n / 2) ++ t)) one,
      )

-- n bits are a number of n bits
pub hands-small : {n v : ℕ} {c d : Cursor} → Hands n v c d → v < 2 ^ n
hands-small {n} {v} {c} {d} h = (pull_is n v (rest [] c) (rest [] d) (h.front [])).1

-- what is seen behind k bits is what stands between there and behind k + n bits
pub hands_shows : (k n v u x : ℕ) (c b d : Cursor) → Hands k v c b → Hands (k + n) u c d → Shows n x b → (s : List ℕ) → pull n (rest s b) ≡ got x (rest s d)
hands_shows k n v u x c b d h g seen s =
    let p = seen s in
    let after : p.0 ≡ rest s d =
    pull-drop n x (rest s b) p.0 p.1
    ∙ ap (drop n) (pull-drop k v (rest s c) (rest s b) (h.front s))
    ∙ drop-drop n k (rest s c)
    ∙ sym (pull-drop (k + n) u (rest s c) (rest s d) (g.front s)) in
    p.1 ∙ ap (got x) after

-- a full cursor that holds fewer than 56 bits holds all that are left
pub all_held : (s : List ℕ) (c : Cursor) → Full s c → c.bits < 56 → length (rest s c) ≡ c.bits
unfolding rest bits_of
all_held s c full few =
    ap (λ (l : List ℕ). length (low_bits c.bits c.hold ++ bits_of l)) (drop_of_length-le s (full few))
    ∙ length-append (low_bits c.bits c.hold) []
    ∙ ap (λ (k : ℕ). k + 0) (length-low c.bits c.hold)
    ∙ add-zero c.bits

pub size_of : (n : ℕ) → n ≤ 63 → 1 * 2 ^ n % 2 ^ 64 ≡ 2 ^ n
size_of n le = simp one-mul (mod-eq_of_lt (lt_of_le_of_lt (pow_mono le) (lit< tt)))

-- ---- m bits more held

module _ (s : List ℕ) (c : Cursor) (held : Held s c) (at m v : ℕ) (few : c.bits + m ≤ 63) (low : v < 2 ^ m) (inside : at ≤ length s) where
  pub shift_exact : v * 2 ^ c.bits % 2 ^ 64 ≡ v * 2 ^ c.bits
  shift_exact = shl_exact m c.bits 64 low (omega arith)

  whole : c.hold + v * 2 ^ c.bits < 2 ^ (c.bits + m)
  whole =
      let top : v * 2 ^ c.bits + c.hold < 2 ^ m * 2 ^ c.bits = digits_lt low held.low in
      let turn : m + c.bits ≡ c.bits + m = omega arith in
      subst (λ (k : ℕ). c.hold + v * 2 ^ c.bits < 2 ^ k) turn (rw pow-add (omega (arith, top)))

  pub sum_fits : c.hold + v * 2 ^ c.bits < 2 ^ 64
  sum_fits = let top : 2 ^ (c.bits + m) ≤ 2 ^ 63 = pow_mono few in omega (arith, whole)

  abbrev more : Cursor
  more = record { at = at; bits = c.bits + m; hold = c.hold + v * 2 ^ c.bits }

  more-rest : bits_of (drop c.at s) ≡ low_bits m v ++ bits_of (drop at s) → rest s more ≡ rest s c
  unfolding rest
  more-rest e = sym (join c.bits m c.hold v (bits_of (drop at s)) (bits_of (drop c.at s)) held.low e)

  -- the bits of the bytes between
  pub more_fetched : c.at ≤ at → m ≡ 8 * (at - c.at) → bits_of (drop c.at s) ≡ low_bits m v ++ bits_of (drop at s) → Fetches s c more
  more_fetched on eight e =
      record { on = on; eight = ap (λ (k : ℕ). c.bits + k) eight; same = more-rest e; held = record { few = few; low = whole; inside = inside } }

-- one fetch after another
pub fetches-on : (s : List ℕ) (b c d : Cursor) → Fetches s b c → Fetches s c d → Fetches s b d
fetches-on s b c d f g =
    record {
      on = omega (arith, f.on, g.on);
      eight = omega (arith, f.on, g.on, f.eight, g.eight);
      same = g.same ∙ f.same;
      held = g.held;
    }

-- n of eight bytes more
pub eight-front : (s : List ℕ) (at n : ℕ) → at + 8 ≤ length s → n ≤ 8 → ((i : ℕ) → Fits w8 (get_or s i 0))
    → bits_of (drop at s) ≡ low_bits (8 * n) ((word_at s at + word_at s (at + 4) * 4294967296) % 2 ^ (8 * n)) ++ bits_of (drop (at + n) s)
eight-front s at n h few byte =
    let all = word_at s at + word_at s (at + 4) * 4294967296 in
    let after = bits_of (drop (at + 8) s) in
    let size : 64 ≡ 8 * n + (64 - 8 * n) = omega arith in
    let front : bits_of (drop at s) ≡ low_bits (8 * n + (64 - 8 * n)) all ++ after =
    bits-eight s at h byte ∙ ap (λ (k : ℕ). low_bits k all ++ after) size in
    let back : bits_of (drop (at + n) s) ≡ low_bits (64 - 8 * n) (all / 2 ^ (8 * n)) ++ after =
    sym (ap bits_of (drop-drop n at s))
    ∙ sym (drop-bytes n (drop at s))
    ∙ ap (drop (8 * n)) front
    ∙ low-drop (8 * n) (64 - 8 * n) all after in
    front
    ∙ ap (λ (l : List Bool). l ++ after) (low_split (8 * n) (64 - 8 * n) all)
    ∙ append_assoc (low_bits (8 * n) (all % 2 ^ (8 * n))) (low_bits (64 - 8 * n) (all / 2 ^ (8 * n))) after
    ∙ ap (λ (l : List Bool). low_bits (8 * n) (all % 2 ^ (8 * n)) ++ l) (sym back)
