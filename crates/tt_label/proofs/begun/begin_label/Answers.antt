use Rattle.std.proofs.Common.{◌∙◌, refl}
use Rattle.std.proofs.lemmas.Result.{err_from_is_err_and}
use Rattle.tt_label.proofs.UnitsMade.{begun_stops, untested_begins}
use Rattle.tt_strike.specs.Strikes.{SizedFace, job_by}
use Rattle.tt_strike.proofs.Stopped.{tested_at}
use Rattle.tt_label.proofs.begun.begin_label.Goals as goal

pub returns-in_err-test_margin-clause-stops : goal.returns-in_err-test_margin-clause-stops
returns-in_err-test_margin-clause-stops c =
    let z : SizedFace = record { face = c.sized.inside.source.face.now; ppem = c.sized.inside.source.ppem; fit = c.sized.inside.source.fit } in
    let at = tested_at z c.args.text.now c.args.margin c.sized.inside.source.low c.sized.inside.source.high in
    let p = err_from_is_err_and c.from_residual.result c.from_residual.ensures.1 in
    let fails = at ∙ rw c.in_err-test_margin.ensures.exact refl in
    rw (p.1, p.2, ← c.sized.view_is) (untested_begins z.face (job_by z c.args.text.now c.args.margin) c.in_err-test_margin.field-0.0 fails)

pub returns-in_err-test_text-clause-stops : goal.returns-in_err-test_text-clause-stops
returns-in_err-test_text-clause-stops c =
    let z : SizedFace = record { face = c.sized.inside.source.face.now; ppem = c.sized.inside.source.ppem; fit = c.sized.inside.source.fit } in
    let at = tested_at z c.args.text.now c.args.margin c.sized.inside.source.low c.sized.inside.source.high in
    let p = err_from_is_err_and c.from_residual-in_err-test_text.result c.from_residual-in_err-test_text.ensures.1 in
    let fails = at ∙ rw (c.in_ok-test_margin.ensures.exact, c.in_err-test_text.ensures.exact) refl in
    rw (p.1, p.2, ← c.sized.view_is) (untested_begins z.face (job_by z c.args.text.now c.args.margin) c.in_err-test_text.field-0.0 fails)

pub begin_by_steps-requires-clause-tested : goal.begin_by_steps-requires-clause-tested
begin_by_steps-requires-clause-tested c =
    let z : SizedFace = record { face = c.sized.inside.source.face.now; ppem = c.sized.inside.source.ppem; fit = c.sized.inside.source.fit } in
    let at = tested_at z c.args.text.now c.args.margin c.sized.inside.source.low c.sized.inside.source.high in
    rw (← c.sized.view_is) (at ∙ rw (c.in_ok-test_margin.ensures.exact, c.in_ok-test_text.ensures.exact) refl)

pub begin_by_advances-requires-clause-tested : goal.begin_by_advances-requires-clause-tested
begin_by_advances-requires-clause-tested c =
    let z : SizedFace = record { face = c.sized.inside.source.face.now; ppem = c.sized.inside.source.ppem; fit = c.sized.inside.source.fit } in
    let at = tested_at z c.args.text.now c.args.margin c.sized.inside.source.low c.sized.inside.source.high in
    rw (← c.sized.view_is) (at ∙ rw (c.in_ok-test_margin.ensures.exact, c.in_ok-test_text.ensures.exact) refl)

pub returns-clause-stops : goal.returns-clause-stops
returns-clause-stops c =
    let z : SizedFace = record { face = c.sized.inside.source.face.now; ppem = c.sized.inside.source.ppem; fit = c.sized.inside.source.fit } in
    let at = tested_at z c.args.text.now c.args.margin c.sized.inside.source.low c.sized.inside.source.high in
    let passes = at ∙ rw (c.in_ok-test_margin.ensures.exact, c.in_ok-test_text.ensures.exact) refl in
    let stops = rw (← c.sized.view_is) at c.begin_by_advances.ensures.stops in
    rw (← c.sized.view_is) (begun_stops z.face (job_by z c.args.text.now c.args.margin) c.begin_by_advances.result passes stops)

pub returns-then-by_steps-clause-stops : goal.returns-then-by_steps-clause-stops
returns-then-by_steps-clause-stops c =
    let z : SizedFace = record { face = c.sized.inside.source.face.now; ppem = c.sized.inside.source.ppem; fit = c.sized.inside.source.fit } in
    let at = tested_at z c.args.text.now c.args.margin c.sized.inside.source.low c.sized.inside.source.high in
    let passes = at ∙ rw (c.in_ok-test_margin.ensures.exact, c.in_ok-test_text.ensures.exact) refl in
    let stops = rw (← c.sized.view_is) at c.begin_by_steps.ensures.stops in
    rw (← c.sized.view_is) (begun_stops z.face (job_by z c.args.text.now c.args.margin) c.begin_by_steps.result passes stops)
