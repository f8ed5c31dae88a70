use Rattle.std.proofs.Common.{◌≡◌, Err, sym, ap, ◌∙◌, length, length-append, arith}
use Rattle.room.specs.Test.{room_test, nothing}
use Rattle.listing.proofs.SizeLaws.{listing_short}
use Rattle.listing.proofs.PutLaws.{put_then, put_as}
use Rattle.listing.proofs.CallLaws.{listing_right, listing_refused, written_none, written_all}
use Rattle.listing.specs.Listing.{room_line, object_lines, listing_of}
use Rattle.listing.proofs.list.Goals as goal

pub returns-then-out-lt-SIZE : goal.returns-then-out-lt-SIZE
returns-then-out-lt-SIZE c = record {
  count_fits = (written_none (listing_of c.args.room.now) c.args.out.now c.if-out-lt-SIZE.true).0;
  count = (written_none (listing_of c.args.room.now) c.args.out.now c.if-out-lt-SIZE.true).1.0;
  text_after = (written_none (listing_of c.args.room.now) c.args.out.now c.if-out-lt-SIZE.true).1.1;
}

pub room_line-at-requires : goal.room_line-at-requires
room_line-at-requires c =
    let test-room = c.test_room in
    let nothing-lent = c.nothing_lent in let if1 = c.if-out-lt-SIZE in
    let shared-slice-known = c.shared_slice_known-1 in let args = c.args in
    let s = args.room.now in
    let r = c.in-Ok.r in
    let right = sym c.in-Ok.is ∙ test-room.ensures ∙ ap (λ l. room_test l s) nothing-lent.ensures in
    let short = listing_short s (λ i. omega (arith, shared-slice-known.given i)) _ right (omega arith) in
    let parts = length-append (room_line r) (object_lines s r.objects) in
    omega (arith, ap length (listing_right s r right), if1.false)

pub object_lines-requires : goal.object_lines-requires
object_lines-requires c =
    let room-line = c.room_line-at in let test-room = c.test_room in let nothing-lent = c.nothing_lent in
    let if1 = c.if-out-lt-SIZE in
    let shared-slice-known = c.shared_slice_known-1 in let args = c.args in
    let s = args.room.now in
    let r = c.in-Ok.r in
    let right = sym c.in-Ok.is ∙ test-room.ensures ∙ ap (λ l. room_test l s) nothing-lent.ensures in
    let short = listing_short s (λ i. omega (arith, shared-slice-known.given i)) _ right (omega arith) in
    let parts = length-append (room_line r) (object_lines s r.objects) in
    omega (arith, ap length (listing_right s r right), room-line.ensures.ends, room-line.ensures.same, if1.false)

pub refused_line-requires : goal.refused_line-requires
refused_line-requires c =
    let test-room = c.test_room in let nothing-lent = c.nothing_lent in
    let if1 = c.if-out-lt-SIZE in let shared-slice-known = c.shared_slice_known-1 in let args = c.args in
    let s = args.room.now in
    let no : Err c.number.result ≡ room_test nothing s =
    ap Err c.number.ensures ∙ sym c.in-Err.is ∙ test-room.ensures ∙ ap (λ l. room_test l s) nothing-lent.ensures in
    let short = listing_short s (λ i. omega (arith, shared-slice-known.given i)) _ no (omega arith) in
    omega (arith, ap length (listing_refused s _ no), if1.false)

pub returns-in-Ok : goal.returns-in-Ok
returns-in-Ok c =
    let object-lines = c.object_lines in let room-line = c.room_line-at in let test-room = c.test_room in
    let nothing-lent = c.nothing_lent in let if1 = c.if-out-lt-SIZE in
    let shared-slice-known = c.shared_slice_known-1 in let args = c.args in
    let s = args.room.now in
    let right = sym c.in-Ok.is ∙ test-room.ensures ∙ ap (λ l. room_test l s) nothing-lent.ensures in
    let short = listing_short s (λ i. omega (arith, shared-slice-known.given i)) _ right (omega arith) in record {
      count_fits = (written_all if1.false (omega (arith, short)) (put_as (listing_right s _ right) (put_then room-line.ensures object-lines.ensures))).0;
      count = (written_all if1.false (omega (arith, short)) (put_as (listing_right s _ right) (put_then room-line.ensures object-lines.ensures))).1.0;
      text_after = (written_all if1.false (omega (arith, short)) (put_as (listing_right s _ right) (put_then room-line.ensures object-lines.ensures))).1.1;
    }

pub returns-in-Err : goal.returns-in-Err
returns-in-Err c =
    let refused-line = c.refused_line in let test-room = c.test_room in
    let nothing-lent = c.nothing_lent in let if1 = c.if-out-lt-SIZE in let shared-slice-known = c.shared_slice_known-1 in
    let args = c.args in
    let s = args.room.now in
    let no : Err c.number.result ≡ room_test nothing s =
    ap Err c.number.ensures ∙ sym c.in-Err.is ∙ test-room.ensures ∙ ap (λ l. room_test l s) nothing-lent.ensures in
    let short = listing_short s (λ i. omega (arith, shared-slice-known.given i)) _ no (omega arith) in record {
      count_fits = (written_all if1.false (omega (arith, short)) (put_as (listing_refused s _ no) refused-line.ensures)).0;
      count = (written_all if1.false (omega (arith, short)) (put_as (listing_refused s _ no) refused-line.ensures)).1.0;
      text_after = (written_all if1.false (omega (arith, short)) (put_as (listing_refused s _ no) refused-line.ensures)).1.1;
    }
