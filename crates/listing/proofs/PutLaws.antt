-- Laws of text put into a buffer: one text behind another, and a text at the front.
use Rattle.std.proofs.Common.{◌≡◌, refl, sym, ap, ◌∙◌, subst, List, [], ◌∷◌, ◌++◌, append_assoc, ℕ, ◌+◌, ◌≤◌, arith, length, take, drop, set, take-append-drop, length-append, length-set}
use lib.Seq.{sets, length-sets, take-length}
use Rattle.number.proofs.StoreLaws.{sets-append, sets_is}
use Rattle.number.specs.Buffer.{over}
use Rattle.listing.specs.Put.{Put}

-- no text
pub put_none : {text : List ℕ} (out : List ℕ) (at : ℕ) → [] ≡ text → Put text out out at at
put_none out at e = rw (← e) (record { bytes = refl; same = refl; ends = omega arith })

-- the same text by another name
pub put_as : {text text' out out' : List ℕ} {at end : ℕ} → text ≡ text' → Put text out out' at end → Put text' out out' at end
put_as {text} {text'} {out} {out'} {at} {end} e p = subst (λ (t : List ℕ). Put t out out' at end) e p

-- one text behind another
module _ {xs ys out₀ out₁ out₂ : List ℕ} {a b c : ℕ} where
  pub put_then : Put xs out₀ out₁ a b → Put ys out₁ out₂ b c → Put (xs ++ ys) out₀ out₂ a c
  put_then p q =
      record {
        bytes = q.bytes ∙ rw (p.bytes, p.ends) (sets-append xs ys out₀ a);
        same = q.same ∙ p.same;
        ends = omega (arith, p.ends, q.ends, length-append xs ys);
      }

-- a byte behind a text
module _ {xs out₀ out₁ : List ℕ} {a b : ℕ} where
  pub put_byte : Put xs out₀ out₁ a b → (x : ℕ) → Put (xs ++ (x ∷ [])) out₀ (set out₁ b x) a (b + 1)
  put_byte p x =
      put_then p (record { bytes = refl; same = length-set out₁ b x; ends = refl })

-- a text that was copied
pub put_copied : (src out out' : List ℕ) (at : ℕ) → at + length src ≤ length out
    → take (at + length src) out' ≡ take at out ++ take (length src) src
    → drop (at + length src) out' ≡ drop (at + length src) out
    → Put src out out' at (at + length src)
put_copied src out out' at fits front back = record { bytes = bytes; same = ap length bytes ∙ length-sets out at src; ends = refl }
  where
    bytes : out' ≡ sets out at src
    bytes =
        sym (take-append-drop (at + length src) out')
        ∙ rw (front, back, take-length src) (append_assoc (take at out) src (drop (at + length src) out))
        ∙ sym (sets_is out at src fits)

-- a text at the front
pub put_front : {text out out' : List ℕ} {n : ℕ} → Put text out out' 0 n → length text ≤ length out → out' ≡ over text out
unfolding over
put_front {text} {out} p fits =
    let front : 0 + length text ≡ length text = omega arith in
    p.bytes ∙ rw front at (sets_is out 0 text (omega arith))
