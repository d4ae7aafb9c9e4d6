use Rattle.std.proofs.Common.{◌≡◌, ◌≢◌, [], inl, arith, refl}
use Rattle.tt_c_calls.specs.Refusals.{call_of_draw}
use Rattle.tt_c_calls.proofs.Answered.{draw_refused, draw_tells, drawn_too, fails, stands, writes_none}
use Rattle.tt_c_calls.proofs.StrikeLines.{line_defect, line_refused, line_stopped, line_written, picture_of_line, room_small, text_refused}
use Rattle.tt_c_calls.proofs.line_drawing.draw_line.Goals as goal
use Rattle.tt_c_calls.proofs.line_drawing.draw_line.Goals.{then-answer-eq0, else-answer-eq0}

pub returns-then-is_blank-clause-done : goal.returns-then-is_blank-clause-done
returns-then-is_blank-clause-done g c done =
    let yes = rw c.is_blank.ensures at c.if-is_blank.true in
    rw (c.sized.ensures, c.blank_line.ensures)
    (record { bytes = []; shown = inl (yes, refl, refl, refl); rows = refl; place = refl; answer = refl })

pub returns-in-Err-clause-done : goal.returns-in-Err-clause-done
returns-in-Err-clause-done g c = rw c.answer_of.ensures (λ h. absurd (fails c.in-Err.fault h))

pub returns-in-Err-clause-bytes : goal.returns-in-Err-clause-bytes
returns-in-Err-clause-bytes g c = rw (c.answer_of.ensures, writes_none c.in-Err.fault) (omega arith)

pub returns-in-Err-make_picture-clause-done : goal.returns-in-Err-make_picture-clause-done
returns-in-Err-make_picture-clause-done g c =
    rw (c.answer_of-in-Err-make_picture.ensures, c.from.ensures)
    (λ h. absurd (fails (call_of_draw c.in-Err-make_picture.fault) h))

pub returns-in-Err-make_picture-clause-bytes : goal.returns-in-Err-make_picture-clause-bytes
returns-in-Err-make_picture-clause-bytes g c =
    rw (c.answer_of-in-Err-make_picture.ensures, c.from.ensures, writes_none (call_of_draw c.in-Err-make_picture.fault))
    (omega arith)

pub returns-in-Err-clause-stopped : goal.returns-in-Err-clause-stopped
returns-in-Err-clause-stopped g c not_done =
    let e = c.in-Err.fault in
    rw c.answer_of.ensures (line_stopped c.args.job.now g.font c.args.line.now _ e (rw c.is_blank.ensures at c.if-is_blank.false)
    (text_refused c.args.job.now g.font c.args.line.now c.args.strike.now e c.requires c.in-Err.ensures.exact))

pub returns-in-Err-clause-stands : goal.returns-in-Err-clause-stands
returns-in-Err-clause-stands g c = rw c.answer_of.ensures (stands _ c.in-Err.fault
    (rw c.in-Err.ensures.refused tt))

pub returns-in-Err-make_picture-clause-stopped : goal.returns-in-Err-make_picture-clause-stopped
returns-in-Err-make_picture-clause-stopped g c not_done =
    let d = c.in-Err-make_picture.fault in
    let exact = rw c.grows.ensures at c.in-Err-make_picture.ensures.exact in
    rw (c.answer_of-in-Err-make_picture.ensures, c.from.ensures)
    (line_stopped c.args.job.now g.font c.args.line.now _ (call_of_draw d) (rw c.is_blank.ensures at c.if-is_blank.false)
    (line_refused c.args.job.now g.font c.args.line.now c.in-Ok.text.now c.args.strike.now (call_of_draw d) c.requires
    c.in-Ok.ensures.exact (draw_refused _ d exact)))

pub returns-in-Err-make_picture-clause-stands : goal.returns-in-Err-make_picture-clause-stands
returns-in-Err-make_picture-clause-stands g c =
    let d = c.in-Err-make_picture.fault in
    rw (c.answer_of-in-Err-make_picture.ensures, c.from.ensures) (stands _ (call_of_draw d)
    (line_defect c.args.job.now g.font c.args.line.now c.in-Ok.text.now c.args.strike.now (call_of_draw d) c.requires
    c.in-Ok.ensures.exact (draw_tells _ d c.in-Err-make_picture.ensures.defects)))

pub returns-clause-done : goal.returns-clause-done
returns-clause-done g c done =
    let made = rw c.grows.ensures at c.in-Ok-make_picture.ensures in
    let of = picture_of_line c.args.job.now g.font c.args.line.now c.in-Ok.text.now c.args.strike.now _ c.requires
    c.in-Ok.ensures.exact (drawn_too _ _ made.exact) made.ready made.made in
    let told : c.if-answer-eq0.told ≡ record { picture = c.write_band-answer.new.told; at = c.args.at } =
    elim c.if-answer-eq0.branch [
      | then-answer-eq0 w ↦ w.told-is
      | else-answer-eq0 w ↦ absurd (w.if-answer-eq0.false done)
    ] in
    line_written c.args.job.now g.font c.args.line.now c.args.at _ c.in-Ok-make_picture.picture c.args.room.now _ _ _ _ _
    (rw c.is_blank.ensures at c.if-is_blank.false) of
    c.height-height.ensures.exact (c.write_band-answer.ensures.done done) told c.cost-cost.ensures

pub returns-clause-stopped : goal.returns-clause-stopped
returns-clause-stopped g c not_done =
    let made = rw c.grows.ensures at c.in-Ok-make_picture.ensures in
    room_small c.args.job.now g.font c.args.line.now c.args.room.now _ c.in-Ok-make_picture.picture _
    (rw c.is_blank.ensures at c.if-is_blank.false)
    (picture_of_line c.args.job.now g.font c.args.line.now c.in-Ok.text.now c.args.strike.now _ c.requires
    c.in-Ok.ensures.exact (drawn_too _ _ made.exact) made.ready made.made)
    c.height-height.ensures.exact (c.write_band-answer.ensures.small not_done)

pub returns-clause-stands : goal.returns-clause-stands
returns-clause-stands g c =
    λ one.
    let other : c.write_band-answer.result.status ≢ 0 = λ zero. omega (arith, one, zero) in
    let seven : c.write_band-answer.result.status ≡ 7 = rw (c.write_band-answer.ensures.small other).1 refl in
    absurd (omega (arith, one, seven))
