-- What an accepted load leaves (document 01, "Sizes", "Blocks", "Sessions"): the background's pixels, planes 1 to N, and an empty session.
use Rattle.std.specs.Prelude.{ℕ, ◌+◌, ◌-◌, ◌*◌, ◌/◌, ◌%◌, List, length, Result, Ok, Err}
use Rattle.grid.specs.Grid.{upd, boxed}
use Rattle.table.specs.Body.{pixel_at}
use Rattle.room.specs.Picture.{plane_in, found_mask}
use Rattle.room.specs.Test.{strips, room_test, with_surfaces}
use Rattle.room.specs.declared.Room.{Room}
use Rattle.stored.specs.Layout.{session_size}
use Rattle.stored.specs.Bytes.{emptied}

-- the background's pixel (x, y)
unfoldable pub background : List ℕ → Room → (x y : ℕ) → ℕ
background s r x y = pixel_at (strips r) r.height s r.smap r.smap_end x y

-- a plane's mask byte in strip k, row y
unfoldable pub mask : List ℕ → Room → (plane k y : ℕ) → ℕ
mask s r plane k y = found_mask (strips r) r.height s (plane_in s r.image r.image_end plane) k y

-- pixel (x, y) stands at y × W + x
unfoldable pub loaded_pixels : List ℕ → Room → List ℕ → List ℕ
loaded_pixels s r old = upd (boxed r.width 0 0 r.width r.height (λ x y o. background s r x y)) old

-- plane p alone, from its first row on
unfoldable pub loaded_plane : List ℕ → Room → ℕ → List ℕ → List ℕ
loaded_plane s r p old = upd (boxed (strips r) 0 ((p - 1) * r.height) (strips r) r.height (λ k y o. mask s r p k y)) old

-- plane p, strip k, row y stands at ((p − 1) × H + y) × S + k: row q of all planes together is row q mod H of plane q / H + 1
unfoldable pub loaded_masks : List ℕ → Room → List ℕ → List ℕ
loaded_masks s r old = upd (boxed (strips r) 0 0 (strips r) (r.planes * r.height) (λ k q o. mask s r (q / r.height + 1) k (q % r.height))) old

-- the test that the load makes
abbrev pub load_test : (s session pixels masks : List ℕ) → Result Room ℕ
load_test s session pixels masks = room_test (with_surfaces session_size (length session) (length pixels) (length masks)) s

-- the lent bytes afterwards: a refusal changes nothing
abbrev pub pixels_after : List ℕ → Result Room ℕ → List ℕ → List ℕ
pixels_after s (Ok r) old = loaded_pixels s r old
pixels_after s (Err n) old = old

abbrev pub masks_after : List ℕ → Result Room ℕ → List ℕ → List ℕ
masks_after s (Ok r) old = loaded_masks s r old
masks_after s (Err n) old = old

abbrev pub session_after : Result Room ℕ → List ℕ → List ℕ
session_after (Ok r) old = emptied old
session_after (Err n) old = old
