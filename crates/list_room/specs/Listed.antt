-- What the program writes, by what it reads.
use Rattle.std.specs.Prelude.{ℕ, nat_le, List, length, if◌then◌else◌}
use Rattle.listing.specs.Listing.{listing_of, refused_line}

-- the listing of a room of at most 65,536 bytes; a longer input is `refused 1`
abbrev pub listed : List ℕ → List ℕ
listed bytes = if nat_le (length bytes) 65536 then listing_of bytes else refused_line 1
