use Rattle.std.proofs.Common.{◌∙◌, refl}
use Rattle.std.proofs.lemmas.Result.{err_from_is_err_and}
use Rattle.tt_label.proofs.Placed.{untested_stops}
use Rattle.tt_strike.specs.Strikes.{SizedFace, job_by}
use Rattle.tt_strike.proofs.Stopped.{tested_at}
use Rattle.tt_label.proofs.made.make_label.Goals as goal

pub returns-in_err-test_margin-clause-stops : goal.returns-in_err-test_margin-clause-stops
returns-in_err-test_margin-clause-stops c =
    let z : SizedFace = record { face = c.sized.inside.source.face.now; ppem = c.sized.inside.source.ppem; fit = c.sized.inside.source.fit } in
    let at = tested_at z c.args.text.now c.args.margin c.sized.inside.source.low c.sized.inside.source.high in
    let p = err_from_is_err_and c.from_residual.result c.from_residual.ensures.1 in
    let fails = at ∙ rw c.in_err-test_margin.ensures.exact refl in
    rw (p.1, p.2, ← c.sized.view_is) (untested_stops z.face (job_by z c.args.text.now c.args.margin) c.args.align c.in_err-test_margin.field-0.0 fails)

pub returns-in_err-test_text-clause-stops : goal.returns-in_err-test_text-clause-stops
returns-in_err-test_text-clause-stops c =
    let z : SizedFace = record { face = c.sized.inside.source.face.now; ppem = c.sized.inside.source.ppem; fit = c.sized.inside.source.fit } in
    let at = tested_at z c.args.text.now c.args.margin c.sized.inside.source.low c.sized.inside.source.high in
    let p = err_from_is_err_and c.from_residual-in_err-test_text.result c.from_residual-in_err-test_text.ensures.1 in
    let fails = at ∙ rw (c.in_ok-test_margin.ensures.exact, c.in_err-test_text.ensures.exact) refl in
    rw (p.1, p.2, ← c.sized.view_is) (untested_stops z.face (job_by z c.args.text.now c.args.margin) c.args.align c.in_err-test_text.field-0.0 fails)

pub make_by_steps-requires-clause-tested : goal.make_by_steps-requires-clause-tested
make_by_steps-requires-clause-tested c =
    let z : SizedFace = record { face = c.sized.inside.source.face.now; ppem = c.sized.inside.source.ppem; fit = c.sized.inside.source.fit } in
    let at = tested_at z c.args.text.now c.args.margin c.sized.inside.source.low c.sized.inside.source.high in
    rw (← c.sized.view_is) (at ∙ rw (c.in_ok-test_margin.ensures.exact, c.in_ok-test_text.ensures.exact) refl)

pub make_by_advances-requires-clause-tested : goal.make_by_advances-requires-clause-tested
make_by_advances-requires-clause-tested c =
    let z : SizedFace = record { face = c.sized.inside.source.face.now; ppem = c.sized.inside.source.ppem; fit = c.sized.inside.source.fit } in
    let at = tested_at z c.args.text.now c.args.margin c.sized.inside.source.low c.sized.inside.source.high in
    rw (← c.sized.view_is) (at ∙ rw (c.in_ok-test_margin.ensures.exact, c.in_ok-test_text.ensures.exact) refl)
