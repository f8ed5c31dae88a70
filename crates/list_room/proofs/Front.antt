-- What a call of crate listing leaves at the front of a buffer that is long enough.
use Rattle.std.proofs.Common.{◌≡◌, ℕ, ◌≤◌, List, length, take, refl, ap, ◌∙◌}
use borrow.Author.Tests.{le-ltb}
use lib.Seq.{take_at}
use Rattle.number.specs.Buffer.{over}
use Rattle.listing.specs.Listing.{listing_size, written_count, written_over}

pub front : (text lent after : List ℕ) (n : ℕ) → listing_size ≤ length lent → n ≡ written_count text lent → after ≡ written_over text lent
    → take n after ≡ text
unfolding over
front text lent after n h counted written =
    let size : n ≡ length text = counted ∙ rw (le-ltb (length lent) listing_size h) in
    let whole : after ≡ over text lent = written ∙ rw (le-ltb (length lent) listing_size h) in
    ap (λ m. take m after) size ∙ ap (take (length text)) whole ∙ take_at text _ (length text) refl
