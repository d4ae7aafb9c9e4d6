use Rattle.std.proofs.lemmas.Result.{err_from_is_err_and}
use Rattle.tt_points_iup.proofs.interpolation.iup.Goals as goal

pub returns-in_err-interpolate : goal.returns-in_err-interpolate
returns-in_err-interpolate c =
    let p = err_from_is_err_and c.from_residual.result c.from_residual.ensures.1 in
    record { exact = rw (p.1, p.2) (c.in_err-interpolate.ensures.exact) }

pub returns : goal.returns
returns c = record { exact = c.in_ok-interpolate.ensures.exact }
