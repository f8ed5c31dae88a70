-- Which pictures are refused with 5 to 8: the first bad block, by its table or at its leftmost bad strip.
use Rattle.std.proofs.Common.{◌≡◌, refl, sym, ap, ap₂, ◌∙◌, subst, Bool, true, false, cond, List, ◌⊎◌, inl, inr, ◌↔◌, ℕ, zero, suc, ◌+◌, ◌≤◌, ◌<◌, arith, eqb, replicate, Option, Some, None, Result, Ok, Err}
use mathlib.Core.Logic.{by_cases}
use native.Mathlib.Decide.{ℕ_discrete}
use Rattle.strip.specs.Strip.{Strip, refused, values}
use Rattle.strip.specs.Picture as strip
use Rattle.plane.specs.Mask.{rows_of, literals}
use Rattle.table.specs.Table.{offset_at, bodiless, table_right}
use Rattle.table.specs.Body.{body_of, strip_at, rows_at}
use Rattle.table.specs.Test.{number, and_then, picture_test, rows_test, strip_test, leftmost, block_test}
use Rattle.table.proofs.BlockLaws.{not-passed, leftmost-each}
use Rattle.room.specs.Picture.{plane_in, plane_found, plane_test, smap_and_planes_test}
use Rattle.demands.specs.PictureRefusals.{UnknownCode, BytesRunOut, PassesEnd, StripFault, BlockFault, Picture, is_plane, block_at, found_test, AtStrip}
use Rattle.demands.specs.PictureRefusals.{TableWrong, AllPass}
use Rattle.demands.specs.PictureRefusals as page
use Rattle.demands.proofs.RefusalStrips as pixel
use Rattle.demands.proofs.RefusalPlanes as mask

-- ---- the first refusal of a row of tests

pub same_number : (n m : ℕ) → ◌≡◌ {A = Result (Unit {0}) ℕ} (Err n) (Err m) → n ≡ m
same_number n m e = cc

first_of : (a b : Result (Unit {0}) ℕ) (r : ℕ) → and_then a b ≡ Err r → (a ≡ Err r) ⊎ ((a ≡ Ok tt) × (b ≡ Err r))
first_of (Ok tt) b r e = inr (refl, e)
first_of (Err n) b r e = inl e

module _ (test : ℕ → Result (Unit {0}) ℕ) where
  abbrev First : (k m r : ℕ) → Type 0
  First k m r = (t : ℕ) × (k ≤ t) × (t < k + m) × ((j : ℕ) → k ≤ j → j < t → test j ≡ Ok tt) × (test t ≡ Err r)

  first_more : (k m r : ℕ) → test k ≡ Ok tt → First (k + 1) m r → First k (suc m) r
  first_more k m r here (t, le, lt, before, e) = (
    t,
    omega arith,
    omega arith,
    λ j low high. by_cases (ℕ_discrete k j) (λ same. subst (λ (i : ℕ). test i ≡ Ok tt) same here) (λ other. before j (omega (arith, other)) high),
    e,
  )

  leftmost-first : (m k r : ℕ) → leftmost test k m ≡ Err r → First k m r
  unfolding leftmost
  leftmost-first zero k r e = absurd (not-passed r (sym e))
  leftmost-first (suc m) k r e = go (first_of (test k) (leftmost test (k + 1) m) r e) (leftmost-first m (k + 1) r)
    where
      go : (test k ≡ Err r) ⊎ ((test k ≡ Ok tt) × (leftmost test (k + 1) m ≡ Err r)) → (leftmost test (k + 1) m ≡ Err r → First (k + 1) m r)
          → First k (suc m) r
      go (inl here) later = (k, omega arith, omega arith, λ j low high. absurd (omega arith), here)
      go (inr (here, there)) later = first_more k m r here (later there)

  first-leftmost : (m k r t : ℕ) → k ≤ t → t < k + m → ((j : ℕ) → k ≤ j → j < t → test j ≡ Ok tt) → test t ≡ Err r → leftmost test k m ≡ Err r
  unfolding leftmost
  first-leftmost zero k r t le lt before e = absurd (omega arith)
  first-leftmost (suc m) k r t le lt before e =
      by_cases (ℕ_discrete k t)
      (λ same. ap (λ (a : Result (Unit {0}) ℕ). and_then a (leftmost test (k + 1) m)) (subst (λ (i : ℕ). test i ≡ Err r) (sym same) e))
      (λ other.
      ap (λ (a : Result (Unit {0}) ℕ). and_then a (leftmost test (k + 1) m)) (before k (omega arith) (omega (arith, other)))
      ∙ first-leftmost m (k + 1) r t (omega (arith, other)) (omega arith) (λ j low high. before j (omega arith) high) e)

passed-all : (test : ℕ → Result (Unit {0}) ℕ) (m k : ℕ) → ((i : ℕ) → i < k + m → test i ≡ Ok tt) → leftmost test k m ≡ Ok tt
unfolding leftmost
passed-all test zero k e = refl
passed-all test (suc m) k e =
    ap (λ (a : Result (Unit {0}) ℕ). and_then a (leftmost test (k + 1) m)) (e k (omega arith)) ∙ passed-all test m (k + 1) (λ i lt. e i (omega arith))

leftmost-same : (f g : ℕ → Result (Unit {0}) ℕ) (m k : ℕ) → ((j : ℕ) → k ≤ j → f j ≡ g j) → leftmost f k m ≡ leftmost g k m
unfolding leftmost
leftmost-same f g zero k e = refl
leftmost-same f g (suc m) k e = ap₂ and_then (e k (omega arith)) (leftmost-same f g m (k + 1) (λ j le. e j (omega arith)))

-- ---- a strip

picture-number : (p : strip.Picture) (r : ℕ) → picture_test p ≡ Err r → p ≡ strip.refusal r
picture-number (strip.refusal n) r e = ap strip.refusal (same_number n r e)
picture-number (strip.picture clear xs) r e = absurd (not-passed r (sym e))

rows_number : (x : Strip) (r : ℕ) → rows_test x ≡ Err r → x ≡ refused r
rows_number (refused n) r e = ap refused (same_number n r e)
rows_number (values xs) r e = absurd (not-passed r (sym e))

rows_fault : (h : ℕ) (body : List ℕ) (r : ℕ) → mask.RowsBad h body r → StripFault true h body r
rows_fault h body r (inl bad) = inr (inl bad)
rows_fault h body r (inr bad) = inr (inr bad)

fault_rows : (h : ℕ) (body : List ℕ) (r : ℕ) → StripFault true h body r → rows_of body h (literals 0) ≡ refused r
fault_rows h body r (inl (e, none)) = absurd none
fault_rows h body r (inr (inl (e, bad))) = mask.out_refused h body bad ∙ ap refused (sym e)
fault_rows h body r (inr (inr (e, bad))) = mask.many_refused h body bad ∙ ap refused (sym e)

fault-strip : (h : ℕ) (body : List ℕ) (r : ℕ) → StripFault false h body r → strip.strip_of h body ≡ strip.refusal r
fault-strip h body r (inl (e, bad)) = pixel.unknown_refused h body bad ∙ ap strip.refusal (sym e)
fault-strip h body r (inr (inl (e, bad))) = pixel.out_refused h body bad ∙ ap strip.refusal (sym e)
fault-strip h body r (inr (inr (e, bad))) = pixel.past-refused h body bad ∙ ap strip.refusal (sym e)

module _ (n h : ℕ) (s : List ℕ) (b z k r : ℕ) where
  -- what is wrong with strip k
  abbrev Faulty : Bool → Type 0
  Faulty mask = (bodiless mask (offset_at mask s b k) ≡ false) × StripFault mask h (body_of mask n s b z k) r

  rows_bad : (none : Bool) → eqb (offset_at true s b k) 0 ≡ none
      → rows_test (cond none (values (replicate h 0)) (rows_of (body_of true n s b z k) h (literals 0)))
      ≡ Err r
      → Faulty true
  rows_bad true none e = absurd (not-passed r (sym e))
  rows_bad false none e = (
    none,
    rows_fault h (body_of true n s b z k) r (mask.bad_rows h (body_of true n s b z k) r
        (rows_number (rows_of (body_of true n s b z k) h (literals 0)) r e)),
  )

  strip-fault : (mask : Bool) → strip_test mask n h s b z k ≡ Err r → Faulty mask
  unfolding strip_test strip_at rows_at
  strip-fault false e = (refl, pixel.bad_strip h (body_of false n s b z k) r (picture-number (strip_at n h s b z k) r e))
  strip-fault true e = rows_bad (eqb (offset_at true s b k) 0) refl e

  fault-test : (mask : Bool) → Faulty mask → strip_test mask n h s b z k ≡ Err r
  unfolding strip_test strip_at rows_at
  fault-test false (none, bad) = ap picture_test (fault-strip h (body_of false n s b z k) r bad)
  fault-test true (none, bad) =
      ap (λ (q : Bool). rows_test (cond q (values (replicate h 0)) (rows_of (body_of true n s b z k) h (literals 0)))) none
      ∙ ap rows_test (fault_rows h (body_of true n s b z k) r bad)

-- ---- a block

module _ (mask : Bool) (n h : ℕ) (s : List ℕ) (b z r : ℕ) where
  abbrev Bad : Type 0
  Bad = BlockFault mask n h s b z r

  block_bad : (right : Bool) → table_right mask n s b z ≡ right → cond right (leftmost (strip_test mask n h s b z) 0 n) (Err 5) ≡ Err r → Bad
  block_bad false right e = inl (same_number r 5 (sym e), right)
  block_bad true right e =
      let found = leftmost-first (strip_test mask n h s b z) n 0 r e in
      let bad = strip-fault n h s b z found.0 r mask found.4 in
      inr (right, (found.0, omega (arith, found.2), λ j lt. found.3 j (omega arith) lt, bad.0, bad.1))

  pub block-fault : block_test mask n h s b z ≡ Err r → Bad
  unfolding block_test
  block-fault e = block_bad (table_right mask n s b z) refl e

  pub fault-block : Bad → block_test mask n h s b z ≡ Err r
  unfolding block_test
  fault-block (inl (e, wrong)) = ap (λ (q : Bool). cond q (leftmost (strip_test mask n h s b z) 0 n) (Err 5)) wrong ∙ ap Err (sym e)
  fault-block (inr (right, (k, lt, before, body, bad))) =
      ap (λ (q : Bool). cond q (leftmost (strip_test mask n h s b z) 0 n) (Err 5)) right
      ∙ first-leftmost (strip_test mask n h s b z) n 0 r k (omega arith) (omega arith) (λ j low. before j) (fault-test n h s b z k r mask (body, bad))

pub strip-refused : (mask : Bool) (n h : ℕ) (s : List ℕ) (b z k r : ℕ)
    → (strip_test mask n h s b z k ≡ Err r) ↔ ((bodiless mask (offset_at mask s b k) ≡ false) × StripFault mask h (body_of mask n s b z k) r)
strip-refused mask n h s b z k r = (strip-fault n h s b z k r mask, fault-test n h s b z k r mask)

pub block_refused : (mask : Bool) (n h : ℕ) (s : List ℕ) (b z r : ℕ) → (block_test mask n h s b z ≡ Err r) ↔ BlockFault mask n h s b z r
block_refused mask n h s b z r = (block-fault mask n h s b z r, fault-block mask n h s b z r)

-- ---- a picture

module _ (s : List ℕ) (p : Picture) where
  abbrev pub test : Result (Unit {0}) ℕ
  test = smap_and_planes_test p.planes p.width p.height s p.start p.end p.smap p.last

  plane-same : (n h : ℕ) (f : Option (ℕ × ℕ)) → plane_found n h s f ≡ found_test true n h s f
  plane-same n h (Some (b, z)) = refl
  plane-same n h None = refl

  later_same : (j : ℕ) → 1 ≤ j → plane_test p.width p.height s p.start p.end j ≡ page.picture_test s p j
  unfolding plane_test page.picture_test
  later_same zero le = absurd (omega arith)
  later_same (suc j) le = plane-same p.width p.height (plane_in s p.start p.end (suc j))

  pub in_order : test ≡ leftmost (page.picture_test s p) 0 (suc p.planes)
  unfolding smap_and_planes_test leftmost page.picture_test
  in_order =
      ap (and_then (block_test false p.width p.height s p.smap p.last))
      (leftmost-same (plane_test p.width p.height s p.start p.end) (page.picture_test s p) p.planes 1 later_same)

  -- what is wrong with a picture that is refused with r
  abbrev pub Wrong : ℕ → Type 0
  Wrong r =
      ((r ≡ 5) × TableWrong s p) ⊎ ((r ≡ 6) × AtStrip s p UnknownCode) ⊎ ((r ≡ 7) × AtStrip s p BytesRunOut) ⊎ ((r ≡ 8) × AtStrip s p PassesEnd)

  module _ (r i b z : ℕ) (few : i ≤ p.planes) (before : (j : ℕ) → j < i → page.picture_test s p j ≡ Ok tt) (at : block_at s p i ≡ Some (b, z)) where
    wrong_block : BlockFault (is_plane i) p.width p.height s b z r → Wrong r
    wrong_block (inl (e, wrong)) = inl (e, (i, b, z, few, before, at, wrong))
    wrong_block (inr (right, (k, lt, left, body, inl (e, bad)))) = inr (inl (e, (i, b, z, few, before, at, (right, (k, lt, left, body, bad)))))
    wrong_block (inr (right, (k, lt, left, body, inr (inl (e, bad))))) = inr (inr (inl (e, (i, b, z, few, before, at, (right, (k, lt, left, body, bad))))))
    wrong_block (inr (right, (k, lt, left, body, inr (inr (e, bad))))) = inr (inr (inr (e, (i, b, z, few, before, at, (right, (k, lt, left, body, bad))))))

    picture-refused : BlockFault (is_plane i) p.width p.height s b z r → test ≡ Err r
    unfolding page.picture_test
    picture-refused bad =
        in_order
        ∙ first-leftmost (page.picture_test s p) (suc p.planes) 0 r i (omega arith) (omega arith) (λ j low. before j)
        (ap (found_test (is_plane i) p.width p.height s) at ∙ fault-block (is_plane i) p.width p.height s b z r bad)

  found_wrong : (r i : ℕ) → i ≤ p.planes → ((j : ℕ) → j < i → page.picture_test s p j ≡ Ok tt) → (f : Option (ℕ × ℕ)) → block_at s p i ≡ f
      → found_test (is_plane i) p.width p.height s f ≡ Err r → Wrong r
  found_wrong r i few before (Some (b, z)) at e = wrong_block r i b z few before at (block-fault (is_plane i) p.width p.height s b z r e)
  found_wrong r i few before None at e = absurd (not-passed r (sym e))

  pub refused_wrong : (r : ℕ) → test ≡ Err r → Wrong r
  unfolding page.picture_test
  refused_wrong r e =
      let found = leftmost-first (page.picture_test s p) (suc p.planes) 0 r (sym in_order ∙ e) in
      found_wrong r found.0 (omega (arith, found.2)) (λ j lt. found.3 j (omega arith) lt) (block_at s p found.0) refl found.4

  pub wrong_refused : (r : ℕ) → Wrong r → test ≡ Err r
  wrong_refused r (inl (e, (i, b, z, few, before, at, wrong))) = picture-refused r i b z few before at (inl (e, wrong))
  wrong_refused r (inr (inl (e, (i, b, z, few, before, at, (right, (k, lt, left, body, bad)))))) =
      picture-refused r i b z few before at (inr (right, (k, lt, left, body, inl (e, bad))))
  wrong_refused r (inr (inr (inl (e, (i, b, z, few, before, at, (right, (k, lt, left, body, bad))))))) =
      picture-refused r i b z few before at (inr (right, (k, lt, left, body, inr (inl (e, bad)))))
  wrong_refused r (inr (inr (inr (e, (i, b, z, few, before, at, (right, (k, lt, left, body, bad))))))) =
      picture-refused r i b z few before at (inr (right, (k, lt, left, body, inr (inr (e, bad)))))

  pub wrong_number : (r : ℕ) → Wrong r → (5 ≤ r) × (r ≤ 8)
  wrong_number r (inl (e, w)) = (omega arith, omega arith)
  wrong_number r (inr (inl (e, w))) = (omega arith, omega arith)
  wrong_number r (inr (inr (inl (e, w)))) = (omega arith, omega arith)
  wrong_number r (inr (inr (inr (e, w)))) = (omega arith, omega arith)

  -- each number alone
  pub only-five : Wrong 5 ↔ TableWrong s p
  only-five = (go, λ w. inl (refl, w))
    where
      go : Wrong 5 → TableWrong s p
      go (inl (e, w)) = w
      go (inr (inl (e, w))) = absurd (omega arith)
      go (inr (inr (inl (e, w)))) = absurd (omega arith)
      go (inr (inr (inr (e, w)))) = absurd (omega arith)

  pub only-six : Wrong 6 ↔ AtStrip s p UnknownCode
  only-six = (go, λ w. inr (inl (refl, w)))
    where
      go : Wrong 6 → AtStrip s p UnknownCode
      go (inl (e, w)) = absurd (omega arith)
      go (inr (inl (e, w))) = w
      go (inr (inr (inl (e, w)))) = absurd (omega arith)
      go (inr (inr (inr (e, w)))) = absurd (omega arith)

  pub only-seven : Wrong 7 ↔ AtStrip s p BytesRunOut
  only-seven = (go, λ w. inr (inr (inl (refl, w))))
    where
      go : Wrong 7 → AtStrip s p BytesRunOut
      go (inl (e, w)) = absurd (omega arith)
      go (inr (inl (e, w))) = absurd (omega arith)
      go (inr (inr (inl (e, w)))) = w
      go (inr (inr (inr (e, w)))) = absurd (omega arith)

  pub only-eight : Wrong 8 ↔ AtStrip s p PassesEnd
  only-eight = (go, λ w. inr (inr (inr (refl, w))))
    where
      go : Wrong 8 → AtStrip s p PassesEnd
      go (inl (e, w)) = absurd (omega arith)
      go (inr (inl (e, w))) = absurd (omega arith)
      go (inr (inr (inl (e, w)))) = absurd (omega arith)
      go (inr (inr (inr (e, w)))) = w

  -- where all blocks pass, nothing is wrong
  pub all-passed : AllPass s p → test ≡ Ok tt
  all-passed pass = in_order ∙ passed-all (page.picture_test s p) (suc p.planes) 0 (λ i lt. pass i (omega arith))

  pub passed-each : test ≡ Ok tt → AllPass s p
  passed-each e i le = leftmost-each (page.picture_test s p) (suc p.planes) 0 (sym in_order ∙ e) i (omega arith) (omega arith)

  pub number-zero : number test ≡ 0 → AllPass s p
  number-zero e = passed-each (go test refl e)
    where
      go : (t : Result (Unit {0}) ℕ) → test ≡ t → number t ≡ 0 → test ≡ Ok tt
      go (Ok tt) is e = is
      go (Err n) is e = absurd (omega (arith, (wrong_number n (refused_wrong n is)).0))
