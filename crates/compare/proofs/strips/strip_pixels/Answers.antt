use Rattle.std.proofs.Common.{ℕ, ◌/◌, refl, ap, ◌∙◌, arith}
use Rattle.compare.proofs.TableLaws.{strip-table, strip_read, pixels_are}
use Rattle.compare.proofs.strips.strip_pixels.Goals as goal

-- `compare::strips::strip_pixels` meets its contract. Assumes nothing.

pub read_strip-requires : goal.read_strip-requires
read_strip-requires c =
    let ok = c.args.pair.comparable in
    let sound = ok.first.sound in record {
      strip_in_block = (c.requires, omega (arith, sound.widest), omega (arith, sound.smap_in), sound.smap-last);
      table_right = strip-table _ _ _ _ ok.first refl refl;
      pixels_fit = (sound.highest, omega (arith, sound.highest));
    }

pub read_strip-requires-2 : goal.read_strip-requires-2
read_strip-requires-2 c =
    let ok = c.args.pair.comparable in
    let sound = ok.second.sound in record {
      strip_in_block = (c.requires, omega (arith, ok.first.sound.widest), omega (arith, sound.smap_in), sound.smap-last);
      table_right = strip-table _ _ _ _ ok.second (ap (λ (w : ℕ). w / 8) ok.width) ok.height;
      pixels_fit = (ok.first.sound.highest, omega (arith, ok.first.sound.highest));
    }

pub returns : goal.returns
returns c =
    let ok = c.args.pair.comparable in
    let right = c.read_strip-2 in
    let left = c.read_strip in
    c.unequal.ensures.count ∙ pixels_are _ _ _ _ _ _ _
    (strip_read _ _ _ _ ok.first refl refl _ c.requires _ _ left.result left.ensures)
    (strip_read _ _ _ _ ok.second (ap (λ (w : ℕ). w / 8) ok.width) ok.height _ c.requires _ _ right.result right.ensures)
