use Rattle.std.proofs.Common.{refl}
use Rattle.std.proofs.lemmas.Result.{err_from_is_err_and}
use Rattle.tt_c_calls.specs.Refusals.{call_of_draw}
use Rattle.tt_c_calls.proofs.Answered.{draw_refused, draw_tells, drawn_too}
use Rattle.tt_c_calls.proofs.LineNeeds.{cost_of_picture, refused_too, room_of_picture}
use Rattle.tt_c_calls.proofs.StrikeLines.{line_defect, line_refused, picture_of_line, text_refused}
use Rattle.tt_c_calls.proofs.room_asking.line_need.Goals as goal

pub returns-then-is_blank-clause-exact : goal.returns-then-is_blank-clause-exact
returns-then-is_blank-clause-exact g c = let yes = rw c.is_blank.ensures at c.if-is_blank.true in rw yes refl

pub returns-then-is_blank-clause-cost : goal.returns-then-is_blank-clause-cost
returns-then-is_blank-clause-cost g c = let yes = rw c.is_blank.ensures at c.if-is_blank.true in rw yes refl

pub returns-in_err-text-clause-exact : goal.returns-in_err-text-clause-exact
returns-in_err-text-clause-exact g c =
    let p = err_from_is_err_and c.from_residual.result c.from_residual.ensures.1 in
    let j = c.args.job.now in
    let line = c.args.line.now in
    let e = c.in_err-text.field-0.0 in
    rw (p.1, p.2) (refused_too j g.font line e (rw c.is_blank.ensures at c.if-is_blank.false)
    (text_refused j g.font line c.args.strike.now e c.requires c.in_err-text.ensures.exact))

pub returns-in_err-text-clause-defects : goal.returns-in_err-text-clause-defects
returns-in_err-text-clause-defects g c =
    let p = err_from_is_err_and c.from_residual.result c.from_residual.ensures.1 in
    rw (p.1, p.2, c.in_err-text.ensures.refused) tt

pub returns-in_err-picture-clause-exact : goal.returns-in_err-picture-clause-exact
returns-in_err-picture-clause-exact g c =
    let p = err_from_is_err_and c.from_residual-in_err-picture.result c.from_residual-in_err-picture.ensures.1 in
    let j = c.args.job.now in
    let line = c.args.line.now in
    let d = c.in_err-picture.field-0.0 in
    let exact = rw c.grows.ensures at c.in_err-picture.ensures.exact in
    rw (p.1, p.2) (refused_too j g.font line (call_of_draw d) (rw c.is_blank.ensures at c.if-is_blank.false)
    (line_refused j g.font line c.in_ok-text.text.now c.args.strike.now (call_of_draw d) c.requires
    c.in_ok-text.ensures.exact (draw_refused _ d exact)))

pub returns-in_err-picture-clause-defects : goal.returns-in_err-picture-clause-defects
returns-in_err-picture-clause-defects g c =
    let p = err_from_is_err_and c.from_residual-in_err-picture.result c.from_residual-in_err-picture.ensures.1 in
    let j = c.args.job.now in
    let d = c.in_err-picture.field-0.0 in
    rw (p.1, p.2) (line_defect j g.font c.args.line.now c.in_ok-text.text.now c.args.strike.now (call_of_draw d) c.requires
    c.in_ok-text.ensures.exact (draw_tells _ d c.in_err-picture.ensures.defects))

pub returns-clause-exact : goal.returns-clause-exact
returns-clause-exact g c =
    let j = c.args.job.now in
    let made = rw c.grows.ensures at c.in_ok-picture.ensures in
    let of = picture_of_line j g.font c.args.line.now c.in_ok-text.text.now c.args.strike.now _ c.requires
    c.in_ok-text.ensures.exact (drawn_too _ _ made.exact) made.ready made.made in
    room_of_picture j g.font c.args.line.now c.in_ok-picture.picture _ (rw c.is_blank.ensures at c.if-is_blank.false) of
    (rw (c.row_bytes.ensures, c.height.ensures.exact) of.ready.rows)

pub returns-clause-cost : goal.returns-clause-cost
returns-clause-cost g c =
    let j = c.args.job.now in
    let made = rw c.grows.ensures at c.in_ok-picture.ensures in
    let of = picture_of_line j g.font c.args.line.now c.in_ok-text.text.now c.args.strike.now _ c.requires
    c.in_ok-text.ensures.exact (drawn_too _ _ made.exact) made.ready made.made in
    cost_of_picture j g.font c.args.line.now c.in_ok-picture.picture _ (rw c.is_blank.ensures at c.if-is_blank.false) of
    c.cost.ensures
