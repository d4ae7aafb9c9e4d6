use Rattle.std.proofs.lemmas.Result.{err_from_is_err_and}
use Rattle.tt_render_settings.proofs.FirstFaces.{count-stands, count-whole}
use Rattle.tt_program_faces.proofs.listing.lines_by.Goals as goal

pub returns-in_err-count-clause-defects : goal.returns-in_err-count-clause-defects
returns-in_err-count-clause-defects c =
    let p = err_from_is_err_and c.from_residual.result c.from_residual.ensures.1 in
    rw (p.1, p.2) (count-stands c.args.file.now c.in_err-count.field-0.0 c.in_err-count.ensures.exact)

pub returns-clause-defects : goal.returns-clause-defects
returns-clause-defects c = count-whole c.args.file.now c.in_ok-count.count c.in_ok-count.ensures.exact
