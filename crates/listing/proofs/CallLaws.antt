-- Laws of the two calls: the listing by what the room's test gives, and what a call answers and leaves in the lent buffer.
use Rattle.std.proofs.Common.{◌≡◌, refl, sym, List, ◌++◌, ℕ, ◌≤◌, ◌<◌, arith, lt-ltb, le-ltb, length, take, length-take-le, Ok, Err}
use Rattle.room.specs.Test.{room_test, nothing}
use Rattle.room.specs.declared.Room.{Room}
use Rattle.listing.specs.Listing.{room_line, object_lines, refused_line, listing_of, listing_size, written_count, written_over}
use Rattle.listing.specs.Put.{Put}
use Rattle.listing.proofs.PutLaws.{put_front}

module _ (s : List ℕ) where
  pub listing_right : (r : Room) → Ok r ≡ room_test nothing s → room_line r ++ object_lines s r.objects ≡ listing_of s
  unfolding listing_of
  listing_right r e = rw (← e)

  pub listing_refused : (n : ℕ) → Err n ≡ room_test nothing s → refused_line n ≡ listing_of s
  unfolding listing_of
  listing_refused n e = rw (← e)

abbrev Written : (text lent after : List ℕ) (n : ℕ) → Type 0
Written text lent after n =
    ((n ≤ length after) × (n ≡ length (take n after))) × ((n ≡ written_count text lent) × (after ≡ written_over text lent))

-- a buffer that is too short
pub written_none : (text lent : List ℕ) → length lent < listing_size → Written text lent lent 0
written_none text lent h = ((omega arith, refl), (rw (lt-ltb (length lent) listing_size h), rw (lt-ltb (length lent) listing_size h)))

-- a buffer that is long enough
pub written_all : {text lent after : List ℕ} {n : ℕ} → listing_size ≤ length lent → length text ≤ listing_size → Put text lent after 0 n
    → Written text lent after n
written_all {text} {lent} {after} {n} h fits p =
    let within : n ≤ length after = omega (arith, p.ends, p.same) in
    let whole : length text ≡ n = omega (arith, p.ends) in (
      (within, sym (length-take-le n after within)),
      (rw (le-ltb (length lent) listing_size h) (sym whole), rw (le-ltb (length lent) listing_size h) (put_front p (omega arith))),
    )
