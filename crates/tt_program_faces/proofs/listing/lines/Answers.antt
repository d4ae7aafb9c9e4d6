use Rattle.std.proofs.Common.{◌∙◌, ap, ◌++◌}
use Rattle.tt_program_faces.specs.FaceLines.{faces_head, lines_of_face}
use Rattle.tt_program_faces.proofs.FaceTexts.{lines-more}
use Rattle.tt_program_faces.proofs.listing.lines.Goals as goal

pub loop-n-preserved : goal.loop-n-preserved
loop-n-preserved c =
    let before = c.loop-n.lines.items in
    c.in_ok-extend_from_slice-2.ensures.items
    ∙ (ap (λ xs. before ++ xs) c.deref.ensures.value ∙ rw (c.in_ok-more.ensures, c.loop-n.invariant)
    (lines-more (lines_of_face c.args.file.now) (faces_head c.args.count) c.loop-n.n))
