use Rattle.std.proofs.Common.{◌≡◌, ◌∙◌, add-one, arith}
use Rattle.compare.proofs.planes.mark_planes.Goals as goal

-- `compare::planes::mark_planes` meets its contract. Assumes nothing.

pub loop-q-init : goal.loop-q-init
loop-q-init c = c.requires.none_marked

pub mark_plane-requires : goal.mark_plane-requires
mark_plane-requires c =
    let ok = c.args.pair.comparable in record {
      in_marks = (omega (arith, ok.first.sound.few, ok.second.sound.few, c.max-q-end.ensures), omega (arith, c.requires.marks_fit));
      marked_before = c.loop-q.invariant;
    }

pub loop-q-preserved : goal.loop-q-preserved
loop-q-preserved c = rw (add-one c.loop-q.q) c.mark_plane.ensures

pub returns : goal.returns
returns c =
    let done : c.loop-q.q ≡ c.max-q-end.result = omega arith in
    rw (done ∙ c.max-q-end.ensures) at c.loop-q.invariant
