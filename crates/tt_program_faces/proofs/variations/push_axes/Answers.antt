use Rattle.std.proofs.Common.{◌∙◌}
use Rattle.tt_program_faces.specs.Variations.{numbered_axis}
use Rattle.tt_program_faces.proofs.FaceTexts.{lines-more}
use Rattle.tt_program_faces.proofs.variations.push_axes.Goals as goal

pub loop-i-preserved : goal.loop-i-preserved
loop-i-preserved c =
    c.in_ok-push_axis.ensures
    ∙ rw (c.axis.ensures.exact, c.loop-i.invariant) (lines-more (numbered_axis c.args.face.now.directory c.args.fvar.now) c.args.lines.now.items c.loop-i.i)
