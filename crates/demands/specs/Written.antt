-- A room that is right, and what a load of it must do (demand 2): the least room around a background and planes that were written, of any
-- sizes. Document 01, "Blocks".
use Rattle.std.specs.Prelude.{ℕ, zero, suc, ◌+◌, ◌*◌, ◌/◌, ◌≡◌, List, [], ◌++◌, length, take, replicate, Ok}
use Rattle.number.specs.Number.{le16_bytes, be32_bytes}
use Rattle.number.specs.Buffer.{over}
use Rattle.block.specs.Tag.{tag-ROOM, tag-RMHD, tag-RMIM, tag-RMIH, tag-IM00}
use Rattle.block_writer.specs.Call.{smap_outcome, plane_outcome, target_after}
use Rattle.room.specs.declared.Room.{Room}
use Rattle.stored.specs.Layout.{session_size}
use Rattle.play.specs.Bytes.{Lent, test_of, after_load}

-- "four tag bytes, a big-endian u32 size that counts its 8-byte header, and a payload"
unfoldable pub block : (tag : ℕ) → (payload : List ℕ) → List ℕ
block tag payload = be32_bytes tag ++ (be32_bytes (8 + length payload) ++ payload)

-- f 1 to f n, one after another
unfoldable pub concat_to : (ℕ → List ℕ) → (n : ℕ) → List ℕ
concat_to f zero = []
concat_to f (suc n) = concat_to f n ++ f (suc n)

-- RMHD with width, height and no objects; RMIM with RMIH, which has the plane count, and IM00, which has the SMAP block and those of planes 1 to n
unfoldable pub room_around : (w h n : ℕ) → (smap : List ℕ) → (planes : ℕ → List ℕ) → List ℕ
room_around w h n smap planes =
    block tag-ROOM
    (block tag-RMHD (le16_bytes w ++ (le16_bytes h ++ le16_bytes 0))
    ++ block tag-RMIM (block tag-RMIH (le16_bytes n) ++ block tag-IM00 (smap ++ concat_to planes n)))

-- the first `len` bytes of the target d after kg_write_smap, and after kg_write_plane: the block, where the call gave `len` as its length
abbrev pub smap_written : (w h : ℕ) → (rows d : List ℕ) → (len : ℕ) → List ℕ
smap_written w h rows d len = take len (target_after (smap_outcome w h rows (length d)) d)

abbrev pub plane_written : (k w h : ℕ) → (rows d : List ℕ) → (len : ℕ) → List ℕ
plane_written k w h rows d len = take len (target_after (plane_outcome k w h rows (length d)) d)

-- the room s is accepted with these sizes and loads to exactly these rows, W × H pixels and the S × H bytes of each plane; the session is empty.
-- Lent bytes past what the load fills stay
pub record Loads (w h n : ℕ) (rows : List ℕ) (planes : ℕ → List ℕ) (s : List ℕ) (b : Lent) : Type 0 where
  pub room : Room
  pub accepted : test_of s b ≡ Ok room
  pub width : room.width ≡ w
  pub height : room.height ≡ h
  pub count : room.planes ≡ n
  pub objects : room.objects ≡ 0
  pub pixels : (after_load s b).pixels ≡ over (take (w * h) rows) b.pixels
  pub masks : (after_load s b).masks ≡ over (concat_to (λ k. take (w / 8 * h) (planes k)) n) b.masks
  pub session : (after_load s b).session ≡ over (replicate session_size 0) b.session
