use Rattle.std.proofs.Common.{◌∙◌, sym}
use Rattle.tt_deltas_inference.proofs.Passes.{contour_is_swept, unnamed_stays, no_last}
use Rattle.tt_deltas_inference.proofs.contour.infer_contour.Goals as goal

pub returns-in_default : goal.returns-in_default
returns-in_default c =
    let none = sym c.first_named.ensures.exact ∙ c.in_default.is in
    sym (unnamed_stays c.args.points.now none)

pub returns-in_default-last_named : goal.returns-in_default-last_named
returns-in_default-last_named c =
    let none = sym c.last_named.ensures.exact ∙ c.in_default-last_named.is in
    sym (unnamed_stays c.args.points.now (no_last c.args.points.now none))

pub returns : goal.returns
returns c =
    let behind = sym c.last_named.ensures.exact ∙ c.in-Some-last_named.is in
    let ahead = sym c.first_named.ensures.exact ∙ c.in-Some.is in
    c.sweep.ensures ∙ sym (contour_is_swept c.in-Some-last_named.last c.in-Some.first c.args.points.now behind ahead)
