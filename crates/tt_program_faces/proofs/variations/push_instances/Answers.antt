use Rattle.std.proofs.Common.{◌∙◌}
use Rattle.tt_program_faces.specs.Variations.{instance_line}
use Rattle.tt_program_faces.proofs.FaceTexts.{lines-more}
use Rattle.tt_program_faces.proofs.variations.push_instances.Goals as goal

pub loop-k-preserved : goal.loop-k-preserved
loop-k-preserved c =
    c.in_ok-push_instance.ensures
    ∙ rw c.loop-k.invariant (lines-more (instance_line c.args.face.now.directory c.args.fvar.now) c.args.lines.now.items c.loop-k.k)
