use Rattle.std.proofs.Common.{◌∙◌}
use Rattle.tt_program_faces.specs.Variations.{next_place}
use Rattle.tt_program_faces.proofs.FaceTexts.{lines-more}
use Rattle.tt_program_faces.proofs.variations.push_places.Goals as goal

pub loop-i-preserved : goal.loop-i-preserved
loop-i-preserved c =
    c.in_ok-push_place.ensures
    ∙ rw c.loop-i.invariant (lines-more (next_place c.args.fvar.now c.args.k) c.args.lines.now.items c.loop-i.i)
