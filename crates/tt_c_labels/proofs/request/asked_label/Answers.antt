use Rattle.std.proofs.lemmas.Result.{err_from_is_err_and}
use Rattle.tt_c_calls.proofs.LinesStopped.{number_defect}
use Rattle.tt_c_labels.proofs.request.asked_label.Goals as goal

pub returns-in_err-fit-clause-font : goal.returns-in_err-fit-clause-font
returns-in_err-fit-clause-font c =
    let p = err_from_is_err_and c.from_residual.result c.from_residual.ensures.1 in
    rw (p.1, p.2) (number_defect c.args.job.now.fit (λ _. ⊥) c.in_err-fit.field-0.0 c.in_err-fit.ensures.exact)
