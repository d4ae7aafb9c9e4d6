use Rattle.std.proofs.Common.{refl}
use Rattle.std.proofs.lemmas.Result.{err_from_is_err_and}
use Rattle.tt_c_calls.proofs.Answered.{font_tells}
use Rattle.tt_c_instances.proofs.MapAsked.{found_stops}
use Rattle.tt_c_instances.proofs.mapping.text_mapped.Goals as goal

pub returns-in_err-found-clause-exact : goal.returns-in_err-found-clause-exact
returns-in_err-found-clause-exact c =
    let p = err_from_is_err_and c.from_residual.result c.from_residual.ensures.1 in
    rw (p.1, p.2) (found_stops c.args.face.now c.args.text.now c.in_err-found.field-0.0 c.in_err-found.ensures.exact)

pub returns-in_err-found-clause-defects : goal.returns-in_err-found-clause-defects
returns-in_err-found-clause-defects c =
    let p = err_from_is_err_and c.from_residual.result c.from_residual.ensures.1 in
    rw (p.1, p.2) (font_tells _ c.in_err-found.field-0.0 c.in_err-found.ensures.defects)

pub returns-clause-exact : goal.returns-clause-exact
returns-clause-exact c =
    let told = rw (c.deref.ensures.value, c.cmap.ensures.exact) at c.in_ok-all_told.ensures in
    rw (c.in_ok-found.ensures.exact, told) refl
