use Rattle.std.proofs.Common.{◌∙◌, refl}
use Rattle.std.proofs.lemmas.Result.{err_from_is_err_and}
use Rattle.tt_line.specs.Outcome.{placement_of}
use Rattle.tt_picture.specs.Glyphs.{numbers_of}
use Rattle.tt_picture.proofs.Among.{all_among}
use Rattle.tt_strike.specs.Costs.{cost_by}
use Rattle.tt_strike.specs.Measures.{line_ink, line_step, measured}
use Rattle.tt_strike.specs.Report.{report_by}
use Rattle.tt_strike.specs.Strikes.{job_by}
use Rattle.tt_strike.proofs.Made.{known_made, inks_as_made, measured_as_made, reported_as_made, steps_as_made}
use Rattle.tt_strike.proofs.Placed.{placed_of}
use Rattle.tt_strike.proofs.Stopped.{measure_stops}
use Rattle.tt_strike.proofs.sized.SizedFace.measure.Goals as goal

pub returns-in_err-made-clause-exact : goal.returns-in_err-made-clause-exact
returns-in_err-made-clause-exact c =
    let p = err_from_is_err_and c.from_residual.result c.from_residual.ensures.1 in
    rw (p.1, p.2) (measure_stops c.args.self.now.face (job_by c.args.self.now c.args.text.now c.args.margin)
    c.in_err-made.field-0.0 c.in_err-made.ensures.stops)

pub measure_by-requires-clause-known : goal.measure_by-requires-clause-known
measure_by-requires-clause-known c = rw c.make_line.ensures.same c.in_ok-made.ensures.made.known

pub measure_by-requires-clause-made : goal.measure_by-requires-clause-made
measure_by-requires-clause-made c =
    rw c.make_line.ensures.same (known_made c.args.self.now.face c.in_ok-made.made.laid.line.glyphs.items
    (numbers_of c.in_ok-made.made.glyphs.made.items) c.in_ok-made.ensures.made.known c.in_ok-made.ensures.made.made.numbers)

pub measure_by-requires-clause-among : goal.measure_by-requires-clause-among
measure_by-requires-clause-among c =
    all_among c.in_ok-made.made.laid.line.glyphs.items (numbers_of c.in_ok-made.made.glyphs.made.items)
    c.in_ok-made.ensures.made.made.numbers

pub returns-clause-exact : goal.returns-clause-exact
unfolding measured
returns-clause-exact c =
    let face = c.args.self.now.face in
    let a = job_by c.args.self.now c.args.text.now c.args.margin in
    let l = placement_of c.in_ok-made.made.laid.line in
    let gs = c.in_ok-made.made.glyphs.made.items in
    let is = c.in_ok-made.ensures.made in
    let made = is.made in
    let inks = (rw c.deref.ensures.value at c.in_ok-inks.ensures.exact) ∙ inks_as_made face a l gs made in
    let by = rw (c.make_line.ensures.same, c.in_ok-made.ensures.margin) at c.in_ok-measure.ensures.exact in
    let is_measure = by (line_step face a made.setting l) (line_ink made.setting l) (steps_as_made face a l gs made) inks in
    rw (is.laid, measured_as_made face a l gs made, is_measure) refl

pub returns-clause-report : goal.returns-clause-report
unfolding report_by
returns-clause-report c =
    let face = c.args.self.now.face in
    let a = job_by c.args.self.now c.args.text.now c.args.margin in
    let l = placement_of c.in_ok-made.made.laid.line in
    let is = c.in_ok-made.ensures.made in
    rw (placed_of face a l is.laid) (reported_as_made face a l c.in_ok-made.made.glyphs.made.items
    c.in_ok-measure.measure.report.unfitted.items is.made c.in_ok-measure.ensures.unfitted).0

pub returns-clause-once : goal.returns-clause-once
returns-clause-once c =
    let face = c.args.self.now.face in
    let a = job_by c.args.self.now c.args.text.now c.args.margin in
    (reported_as_made face a (placement_of c.in_ok-made.made.laid.line) c.in_ok-made.made.glyphs.made.items
    c.in_ok-measure.measure.report.unfitted.items c.in_ok-made.ensures.made.made c.in_ok-measure.ensures.unfitted).1

pub returns-clause-cost : goal.returns-clause-cost
unfolding cost_by
returns-clause-cost c =
    let face = c.args.self.now.face in
    let a = job_by c.args.self.now c.args.text.now c.args.margin in
    let l = placement_of c.in_ok-made.made.laid.line in
    let is = c.in_ok-made.ensures.made in
    rw (placed_of face a l is.laid, c.in_ok-measure.ensures.cost) is.cost
