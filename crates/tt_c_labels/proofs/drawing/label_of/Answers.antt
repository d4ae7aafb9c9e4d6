use Rattle.std.proofs.Common.{None, Some}
use Rattle.std.proofs.lemmas.Result.{err_from_is_err_and}
use Rattle.tt_c_labels.specs.Requests.{asked_view}
use Rattle.tt_c_labels.specs.Labels.{drawn_view}
use Rattle.tt_c_labels.proofs.Wanted.{font_stops, label_is, picture_stops, request_stops}
use Rattle.tt_c_labels.proofs.drawing.label_of.Goals as goal

pub returns-in_err-asked-clause-exact : goal.returns-in_err-asked-clause-exact
returns-in_err-asked-clause-exact c =
    let p = err_from_is_err_and c.from_residual.result c.from_residual.ensures.1 in
    let r = c.args.request.now in
    rw (p.1, p.2) (request_stops r.job.now r.text.now r.font.now c.in_err-asked.field-0.0 c.in_err-asked.ensures.exact)

pub returns-in_err-face-clause-exact : goal.returns-in_err-face-clause-exact
returns-in_err-face-clause-exact c =
    let p = err_from_is_err_and c.from_residual-in_err-face.result c.from_residual-in_err-face.ensures.1 in
    let r = c.args.request.now in
    rw (p.1, p.2) (font_stops r.job.now r.text.now r.font.now (asked_view c.in_ok-asked.asked) c.in_err-face.field-0.0
    c.in_ok-asked.ensures.exact c.in_err-face.ensures.exact)

pub returns-in_err-drawn-clause-exact : goal.returns-in_err-drawn-clause-exact
returns-in_err-drawn-clause-exact c =
    let p = err_from_is_err_and c.from_residual-in_err-drawn.result c.from_residual-in_err-drawn.ensures.1 in
    let r = c.args.request.now in
    let read = c.in_ok-face.ensures.exact in
    rw (p.1, p.2) (picture_stops r.job.now r.text.now r.font.now (asked_view c.in_ok-asked.asked) c.in_ok-face.face
    c.in_err-drawn.field-0.0 c.in_ok-asked.ensures.exact read
    (rw c.in_ok-strike.ensures.exact at c.in_err-drawn.ensures.exact))

pub returns-in_default-clause-exact : goal.returns-in_default-clause-exact
returns-in_default-clause-exact c =
    let r = c.args.request.now in
    let read = c.in_ok-face.ensures.exact in
    label_is r.job.now r.text.now r.font.now (asked_view c.in_ok-asked.asked) c.in_ok-face.face None c.in_ok-asked.ensures.exact
    read (rw (c.in_ok-strike.ensures.exact, c.in_default.is) at c.in_ok-drawn.ensures.exact)

pub returns-clause-exact : goal.returns-clause-exact
returns-clause-exact c =
    let r = c.args.request.now in
    let read = c.in_ok-face.ensures.exact in
    label_is r.job.now r.text.now r.font.now (asked_view c.in_ok-asked.asked) c.in_ok-face.face
    (Some (drawn_view c.in-Some.drawn)) c.in_ok-asked.ensures.exact read
    (rw (c.in_ok-strike.ensures.exact, c.in-Some.is) at c.in_ok-drawn.ensures.exact)

pub returns-clause-label : goal.returns-clause-label
returns-clause-label c =
    let r = c.args.request.now in
    let read = c.in_ok-face.ensures.exact in
    let made = rw (c.in_ok-strike.ensures.exact, c.in-Some.is) at c.in_ok-drawn.ensures.made in
    record {
      image = label_is r.job.now r.text.now r.font.now (asked_view c.in_ok-asked.asked) c.in_ok-face.face
          (Some (drawn_view c.in-Some.drawn)) c.in_ok-asked.ensures.exact read
          (rw (c.in_ok-strike.ensures.exact, c.in-Some.is) at c.in_ok-drawn.ensures.exact);
      ready = rw c.in-Some.is at c.in_ok-drawn.ensures.ready;
      made = rw (c.in_ok-asked.ensures.exact, read) made;
    }
