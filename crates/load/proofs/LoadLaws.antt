-- Laws of the load: what a room that passes says of its pictures, and one plane more.
use Rattle.std.proofs.Common.{◌≡◌, refl, sym, ap, ap₂, ◌∙◌, false, List, ℕ, ◌+◌, ◌-◌, ◌*◌, ◌/◌, ◌%◌, ◌≤◌, add-mul, one-mul, arith, length, Result, Ok}
use lib.Arith.{digits_div, digits_mod}
use Rattle.grid.specs.Grid.{upd, boxed}
use Rattle.grid.proofs.Box.{box_below}
use Rattle.table.specs.Test.{block_test}
use Rattle.room.specs.Head.{Sound}
use Rattle.room.specs.Picture.{plane_test}
use Rattle.room.specs.Test.{strips, pictures_test, room_test, with_surfaces, surfaces_test}
use Rattle.room.specs.declared.Lent.{Lent}
use Rattle.room.proofs.PictureLaws as picture
use Rattle.room.specs.declared.Room.{Room}
use Rattle.room.proofs.TestLaws.{test-passes, surfaces-long}
use Rattle.stored.specs.Layout.{session_size}
use Rattle.load.specs.Load.{mask, loaded_plane, load_test}

-- the load tests what a call on a session tests
pub load-test : (s session pixels masks : List ℕ) → load_test s session pixels masks ≡ surfaces_test session_size s session pixels masks
load-test s session pixels masks = refl

-- an accepted room, and buffers that are long enough
pub record Accepted (s session pixels masks : List ℕ) (r : Room) : Type 0 where
  pub sound : Sound s r
  pub pictures : pictures_test s r ≡ Ok tt
  pub session-long : session_size ≤ length session
  pub pixels-long : r.width * r.height ≤ length pixels
  pub masks-long : strips r * (r.planes * r.height) ≤ length masks

-- the test's answer, as the code asks for it
module _ (s session pixels masks : List ℕ) (lent : Lent) (t : Result Room ℕ)
    (is-lent : lent ≡ with_surfaces session_size (length session) (length pixels) (length masks)) (test : t ≡ room_test lent s) where
  pub answered : (u : Result Room ℕ) → t ≡ u → u ≡ load_test s session pixels masks
  answered u is = sym is ∙ test ∙ ap (λ (l : Lent). room_test l s) is-lent

  pub accepted : (r : Room) → t ≡ Ok r → Accepted s session pixels masks r
  accepted r is =
      let passes = test-passes (with_surfaces session_size (length session) (length pixels) (length masks)) s r (answered (Ok r) is) in
      let long = surfaces-long session_size (length session) (length pixels) (length masks) r passes.enough in
      record { sound = passes.sound; pictures = passes.pictures; session-long = long.0; pixels-long = long.1; masks-long = long.2 }

module _ (s : List ℕ) (r : Room) (passed : pictures_test s r ≡ Ok tt) where
  pub background-passes : block_test false (strips r) r.height s r.smap r.smap_end ≡ Ok tt
  unfolding pictures_test
  background-passes = picture.smap-passes r.planes (strips r) r.height s r.image r.image_end r.smap r.smap_end passed

  pub plane-passes : (k : ℕ) → 1 ≤ k → k ≤ r.planes → plane_test (strips r) r.height s r.image r.image_end k ≡ Ok tt
  unfolding pictures_test
  plane-passes = picture.plane-passes r.planes (strips r) r.height s r.image r.image_end r.smap r.smap_end passed

-- the rows of k - 1 planes, and those of plane k below them
abbrev pub row_of : List ℕ → Room → ℕ → ℕ → ℕ → ℕ
row_of s r k q o = mask s r (q / r.height + 1) k (q % r.height)

pub planes-more : (s : List ℕ) (r : Room) (k : ℕ) (l px qx : List ℕ) → 1 ≤ k
    → px ≡ upd (boxed (strips r) 0 0 (strips r) ((k - 1) * r.height) (row_of s r)) l
    → qx ≡ loaded_plane s r k px
    → qx ≡ upd (boxed (strips r) 0 0 (strips r) ((k + 1 - 1) * r.height) (row_of s r)) l
unfolding loaded_plane
planes-more s r k l px qx one p q =
    let back : k - 1 + 1 ≡ k = omega arith in
    let next : k + 1 - 1 ≡ k = omega arith in
    let rows : (k - 1) * r.height + r.height ≡ k * r.height =
    sym (ap (λ (n : ℕ). n * r.height) (sym back) ∙ add-mul (k - 1) 1 r.height ∙ ap (λ (n : ℕ). (k - 1) * r.height + n) (one-mul r.height)) in
    rw (next, ← rows)
    (box_below (strips r) 0 0 ((k - 1) * r.height) (strips r) ((k - 1) * r.height) r.height (row_of s r) (λ c y o. mask s r k c y) l px qx
    (omega arith)
    (λ c y o hc hy.
    sym (ap₂ (λ (a b : ℕ). mask s r a c b) (ap (λ (n : ℕ). n + 1) (digits_div (k - 1) hy) ∙ back) (digits_mod (k - 1) hy)))
    p q)
