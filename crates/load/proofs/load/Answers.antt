use Rattle.std.proofs.Common.{rules}
use Rattle.load.proofs.LoadLaws.{answered, accepted}
use Rattle.load.proofs.load.Goals as goal

-- `load::load` meets its contract. Assumes nothing.

pub empty_session-requires : goal.empty_session-requires
empty_session-requires c =
    let a = c.args in
    let lent = c.surfaces_lent-lent.ensures in
    let test = c.test_room.ensures in
    (accepted a.room.now a.session.now a.pixels.now a.masks.now _ _ lent test _ c.in_ok-r.was).session-long

pub load_pixels-requires : goal.load_pixels-requires
load_pixels-requires c =
    let test-room = c.test_room in
    let surfaces-lent = c.surfaces_lent-lent in
    let a = c.args in
    let lent = surfaces-lent.ensures in
    let test = test-room.ensures in
    let is = c.in_ok-r.was in
    let room = accepted a.room.now a.session.now a.pixels.now a.masks.now _ _ lent test _ is in record {
      sound = room.sound;
      pictures_pass = room.pictures;
      pixels_fit = room.pixels-long;
    }

pub load_masks-requires : goal.load_masks-requires
load_masks-requires c =
    let a = c.args in
    let lent = c.surfaces_lent-lent.ensures in
    let test = c.test_room.ensures in
    let is = c.in_ok-r.was in
    let room = accepted a.room.now a.session.now a.pixels.now a.masks.now _ _ lent test _ is in record {
      sound = room.sound;
      pictures_pass = room.pictures;
      masks_fit = room.masks-long;
    }

pub returns : goal.returns
returns c =
    let load-masks = c.load_masks in let load-pixels = c.load_pixels in let empty-session = c.empty_session in
    let a = c.args in
    let lent = c.surfaces_lent-lent.ensures in
    let test = c.test_room.ensures in
    let is = c.in_ok-r.was in
    let right = answered a.room.now a.session.now a.pixels.now a.masks.now _ _ lent test _ is in
    let emptied = empty-session.ensures in
    let painted = load-pixels.ensures in record {
      answer = rw (← right);
      session_after = rw (← right) emptied;
      pixels_after = rw (← right) painted;
      masks_after = rw (← right) load-masks.ensures;
    }

pub returns-in_err-r : goal.returns-in_err-r
returns-in_err-r c =
    let a = c.args in
    let lent = c.surfaces_lent-lent.ensures in
    let test = c.test_room.ensures in
    let no = answered a.room.now a.session.now a.pixels.now a.masks.now _ _ lent test _ c.in_err-r.was in record {
      answer = rw (← no) (search rules);
      session_after = rw (← no);
      pixels_after = rw (← no);
      masks_after = rw (← no);
    }
