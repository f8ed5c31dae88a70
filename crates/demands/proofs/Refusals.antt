-- Document 01's table of refusals holds: each number is given exactly when.
use Rattle.std.proofs.Common.{◌/◌, refl, length}
use Rattle.room.specs.Test.{fixed_only, with_flags}
use Rattle.demands.specs.Refusals.{Refusals}
use Rattle.demands.specs.Numbers.{Numbers}
use Rattle.demands.proofs.RefusalTree as tree
use Rattle.demands.proofs.RefusalNeeds as needs
use Rattle.demands.proofs.RefusalSizes as sizes
use Rattle.demands.proofs.RefusalTables as tables
use Rattle.demands.proofs.RefusalHistory as history
use Rattle.demands.proofs.RefusalCostumes as costumes
use Rattle.demands.proofs.RefusalPictures as picture
use Rattle.demands.proofs.RefusalRooms as room
use Rattle.demands.proofs.RefusalSessions as session
use Rattle.demands.proofs.RefusalObjects as object
use Rattle.demands.proofs.RefusalOthers as other
use Rattle.demands.proofs.RefusalCompared as compared
use Rattle.demands.proofs.RefusalCast as cast

pub refusals : Refusals
refusals =
    record {
      accepted = room.accepted;
      accepted_draw = session.draw_zero;
      accepted_hide = session.hide_zero;
      accepted-take_back = session.take_back_zero;
      accepted_compare = compared.compare_zero;
      accepted_cast = cast.cast_zero;
      one = room.one;
      not-one-room = tree.not-one-room;
      two = room.two;
      needed_missing = needs.needed_missing;
      object_lacks = needs.object_lacks;
      index_lacks = needs.index_lacks;
      two_draw = session.draw_two;
      three = room.three;
      out_of_sizes = sizes.out_of_sizes;
      three_hidden = other.hidden_three;
      three_stamp = other.stamp_three;
      three_cast = cast.cast_three;
      three-smap = other.smap-three;
      three-plane = other.plane-three;
      sizes-fit = sizes.sizes-fit;
      picture-fits = sizes.picture-fits;
      sizes-allowed = sizes.sizes-allowed;
      four = room.four;
      short_fixed = room.short_fixed;
      short-surfaces = room.short-surfaces;
      short-flags = room.short-flags;
      short_rows = room.short_rows;
      four_hidden = other.hidden_four;
      four_stamp = other.stamp_four;
      four_cast = cast.cast_four;
      four-start = other.start-four;
      four_tick = other.tick_four;
      four-draws = other.draws-four;
      four-smap = other.smap-four;
      four-plane = other.plane-four;
      four_compare = compared.compare_four;
      five = room.five;
      table_bad = tables.table_bad;
      five_draw = session.draw_five;
      six = room.six;
      six_draw = session.draw_six;
      seven = room.seven;
      seven_draw = session.draw_seven;
      eight = room.eight;
      eight_draw = session.draw_eight;
      strip-refused = picture.strip-refused;
      block_refused = picture.block_refused;
      nine = session.call-nine;
      other_session = history.other_session;
      nine_point = object.point_nine;
      ten = session.step_ten;
      eleven_draw = session.draw_eleven;
      not-drawable = sizes.not-drawable;
      eleven_hide = session.hide_eleven;
      eleven_header = λ s lent k. object.header_eleven (fixed_only 16 (length lent)) s k;
      eleven_name = object.name_eleven;
      twelve = session.draw_twelve;
      not-allowed = sizes.not-allowed;
      thirteen = session.thirteen;
      fourteen = object.point_fourteen;
      fourteen_hidden = other.hidden_fourteen;
      fifteen_start = other.start_fifteen;
      fifteen_tick = other.tick_fifteen;
      fifteen_draws = other.draws_fifteen;
      numbers_wrong = costumes.numbers_wrong;
      command_wrong = costumes.command_wrong;
      place_wrong = costumes.place_wrong;
      limb_wrong = costumes.limb_wrong;
      record_wrong = costumes.record_wrong;
      sixteen = compared.compare_sixteen;
      eighteen = cast.cast_eighteen;
      test_of-load = λ s b. refl;
      test_of_record = λ s lent. refl;
      test_of-list = λ s lent rows. refl;
      test_of-call = λ s b. refl;
      room_of-call = session.room-first;
      room_of_draw = session.draw_room;
      room_of_hide = session.hide_room;
      room_of-take_back = session.take_back_room;
      room_of_point = object.point_room;
      room_of-header = λ s lent k n. object.header-room (fixed_only 16 (length lent)) s k n;
      room_of-name = object.name-room;
      rooms_of_compare = compared.compare_rooms;
      no-four = compared.no-four;
    }

pub numbers : Numbers
numbers =
    record {
      of_record = λ s lent. room.number-few (fixed_only 16 (length lent)) s;
      of_list = λ s lent rows. room.number-few (with_flags 16 (length lent) (length rows / 32)) s;
      of_load = λ s b. room.number-few (session.lent s b) s;
      of_draw = session.draw_numbers;
      of_hide = session.hide_numbers;
      of_take_back = session.take_back_numbers;
      of_object_at = object.point_numbered;
      of_header = λ s lent k. object.header_numbered (fixed_only 16 (length lent)) s k;
      of_name = object.name_numbered;
      of_hidden = other.hidden_numbers;
      of_stamp = other.stamp_numbers;
      of_cast = cast.cast_numbers;
      of_start = other.start_numbers;
      of_tick = other.tick_numbers;
      of_limb_draws = other.draws_numbers;
      of_smap = other.smap_numbers;
      of_plane = other.plane_numbers;
      of_compare = compared.compare_numbers;
    }
