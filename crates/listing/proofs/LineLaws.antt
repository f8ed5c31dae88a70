-- Laws of objects' lines: the line of an object from where its header stands, and the lines of one object more.
use Rattle.std.proofs.Common.{◌≡◌, refl, List, [], ◌++◌, ℕ, zero, suc, ◌+◌, ◌≤◌, ◌<◌, add-one, arith, get_or, length, length-append, Some, None, Ok, Err}
use mathlib.Core.Path.{subst⁻¹}
use mathlib.Core.Logic.{by_cases}
use native.Mathlib.Decide.{dec_lt}
use Rattle.block.specs.Tree.{Inside}
use Rattle.objects.specs.Object.{cdhd_at, cdhd_in, object_block}
use Rattle.objects.specs.declared.Cdhd.{Cdhd}
use Rattle.objects.proofs.ObjectLaws.{object_in}
use Rattle.listing.specs.Listing.{line_in, object_line, object_lines}

module _ (s : List ℕ) where
  -- every element is a byte
  abbrev pub Bytes : Type 0
  Bytes = (i : ℕ) → get_or s i 0 < 256

  -- ---- the line of object k
  module _ (k : ℕ) where
    pub line_missing : None ≡ object_block s k → [] ≡ line_in s k (object_block s k)
    line_missing e = rw (← e)

    module _ (b z : ℕ) (block : Some (b, z) ≡ object_block s k) where
      pub block_in : (b + 8 ≤ z) × (z ≤ length s)
      block_in = let i = subst⁻¹ (Inside 8 (length s)) block (object_in s k) in (i.1, i.2)

      pub line_refused : (n : ℕ) → Err n ≡ cdhd_in s b z → [] ≡ line_in s k (object_block s k)
      line_refused n e = rw (← block, ← e)

      pub line_header : (p : ℕ) (h : Cdhd) → Ok p ≡ cdhd_in s b z → h ≡ cdhd_at s p → object_line k h ≡ line_in s k (object_block s k)
      line_header p h e header = rw (← block, ← e, header)

  -- the box of a header, in strips
  pub box_bytes : Bytes → (p : ℕ) (h : Cdhd) → h ≡ cdhd_at s p → (h.x ≤ 255) × (h.y ≤ 255) × (h.width ≤ 255) × (h.height ≤ 255)
  unfolding cdhd_at
  box_bytes bytes p h e =
      rw e (omega (arith, bytes (p + 2)), omega (arith, bytes (p + 3)), omega (arith, bytes (p + 4)), omega (arith, bytes (p + 5)))

  -- ---- the lines of objects 1 to n
  pub lines_none : object_lines s 0 ≡ []
  unfolding object_lines
  lines_none = refl

  pub lines_more : (n : ℕ) → object_lines s (n + 1) ≡ object_lines s n ++ line_in s (n + 1) (object_block s (n + 1))
  unfolding object_lines
  lines_more n = rw add-one

  pub lines_grow : (n m : ℕ) → n ≤ m → length (object_lines s n) ≤ length (object_lines s m)
  lines_grow n zero h = let e : n ≡ 0 = omega arith in rw e (omega arith)
  lines_grow n (suc m) h =
      by_cases (dec_lt n (suc m)) (λ lt. grown lt (lines_grow n m (omega arith)))
      (λ ge. let e : n ≡ suc m = omega arith in rw e (omega arith))
    where
      grown : n < suc m → length (object_lines s n) ≤ length (object_lines s m) → length (object_lines s n) ≤ length (object_lines s (suc m))
      grown lt ih = rw (← add-one m, lines_more m, length-append) (omega arith)
