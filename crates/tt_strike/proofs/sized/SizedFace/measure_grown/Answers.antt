use Rattle.std.proofs.Common.{◌∙◌, ap, refl, sym}
use Rattle.std.proofs.lemmas.Result.{err_from_is_err_and}
use Rattle.tt_line.specs.Outcome.{placement_of}
use Rattle.tt_picture.specs.Distinct.{distinct}
use Rattle.tt_picture.specs.Glyphs.{numbers_of}
use Rattle.tt_picture.proofs.Among.{all_among}
use Rattle.tt_picture.proofs.Places.{ok_and}
use Rattle.tt_strike.specs.Enlarged.{IsEnlarged}
use Rattle.tt_strike.specs.Grown.{grown_measured}
use Rattle.tt_strike.specs.Measures.{line_ink, line_step}
use Rattle.tt_strike.specs.Picture.{laid_out}
use Rattle.tt_strike.specs.Report.{report_by}
use Rattle.tt_strike.specs.Strikes.{job_by}
use Rattle.tt_strike.proofs.Enlarged.{larger_made, numbers_kept, placed_as_laid}
use Rattle.tt_strike.proofs.Made.{known_made, inks_as_made, measured_as_made, reported_as_made, steps_as_made}
use Rattle.tt_strike.proofs.Placed.{placed_of}
use Rattle.tt_strike.proofs.Stopped.{grown_measure_stops}
use Rattle.tt_strike.proofs.sized.SizedFace.measure_grown.Goals as goal

pub returns-in_err-enlarged-clause-exact : goal.returns-in_err-enlarged-clause-exact
returns-in_err-enlarged-clause-exact c =
    let p = err_from_is_err_and c.from_residual.result c.from_residual.ensures.1 in
    rw (p.1, p.2) (grown_measure_stops c.args.self.now.face (job_by c.args.self.now c.args.text.now c.args.margin)
    c.in_err-enlarged.field-0.0 c.in_err-enlarged.ensures.stops)

pub measure_by-requires-clause-known : goal.measure_by-requires-clause-known
measure_by-requires-clause-known c =
    let face = c.args.self.now.face in
    let a = job_by c.args.self.now c.args.text.now c.args.margin in
    let its = ok_and (laid_out face a) (λ l. IsEnlarged face a l (placement_of c.in_ok-enlarged.enlarged.laid.line)
    c.in_ok-enlarged.enlarged.inked.glyphs.made.items) c.in_ok-enlarged.ensures.enlarged in
    rw c.enlarge.ensures.same its.2.known

pub measure_by-requires-clause-made : goal.measure_by-requires-clause-made
measure_by-requires-clause-made c =
    let face = c.args.self.now.face in
    let a = job_by c.args.self.now c.args.text.now c.args.margin in
    let its = ok_and (laid_out face a) (λ l. IsEnlarged face a l (placement_of c.in_ok-enlarged.enlarged.laid.line)
    c.in_ok-enlarged.enlarged.inked.glyphs.made.items) c.in_ok-enlarged.ensures.enlarged in
    rw c.enlarge.ensures.same (known_made face c.in_ok-enlarged.enlarged.laid.line.glyphs.items
    (numbers_of c.in_ok-enlarged.enlarged.inked.glyphs.made.items) its.2.known
    (its.2.made.numbers ∙ ap distinct (sym (numbers_kept its.2))))

pub measure_by-requires-clause-among : goal.measure_by-requires-clause-among
measure_by-requires-clause-among c =
    let face = c.args.self.now.face in
    let a = job_by c.args.self.now c.args.text.now c.args.margin in
    let its = ok_and (laid_out face a) (λ l. IsEnlarged face a l (placement_of c.in_ok-enlarged.enlarged.laid.line)
    c.in_ok-enlarged.enlarged.inked.glyphs.made.items) c.in_ok-enlarged.ensures.enlarged in
    all_among c.in_ok-enlarged.enlarged.laid.line.glyphs.items (numbers_of c.in_ok-enlarged.enlarged.inked.glyphs.made.items)
    (its.2.made.numbers ∙ ap distinct (sym (numbers_kept its.2)))

pub returns-clause-exact : goal.returns-clause-exact
unfolding grown_measured
returns-clause-exact c =
    let face = c.args.self.now.face in
    let a = job_by c.args.self.now c.args.text.now c.args.margin in
    let its = ok_and (laid_out face a) (λ l. IsEnlarged face a l (placement_of c.in_ok-enlarged.enlarged.laid.line)
    c.in_ok-enlarged.enlarged.inked.glyphs.made.items) c.in_ok-enlarged.ensures.enlarged in
    let l = its.0 in
    let larger = placement_of c.in_ok-enlarged.enlarged.laid.line in
    let inked = c.in_ok-enlarged.enlarged.inked in
    let gs = inked.glyphs.made.items in
    let e = its.2 in
    let made = larger_made face a l larger e.left gs e.made e.moved in
    let inks = inked.inked ∙ inks_as_made face a larger gs made in
    let by = rw (c.enlarge.ensures.same, c.in_ok-enlarged.ensures.margin) at c.in_ok-measure.ensures.exact in
    let measured = by (line_step face a made.setting larger) (line_ink made.setting larger) (steps_as_made face a larger gs made) inks in
    rw (placed_as_laid face a l its.1, e.exact, measured_as_made face a larger gs made, measured) refl

pub returns-clause-report : goal.returns-clause-report
unfolding report_by
returns-clause-report c =
    let face = c.args.self.now.face in
    let a = job_by c.args.self.now c.args.text.now c.args.margin in
    let its = ok_and (laid_out face a) (λ l. IsEnlarged face a l (placement_of c.in_ok-enlarged.enlarged.laid.line)
    c.in_ok-enlarged.enlarged.inked.glyphs.made.items) c.in_ok-enlarged.ensures.enlarged in
    rw (placed_of face a its.0 its.1) (reported_as_made face a its.0 c.in_ok-enlarged.enlarged.inked.glyphs.made.items
    c.in_ok-measure.measure.report.unfitted.items its.2.made c.in_ok-measure.ensures.unfitted).0

pub returns-clause-once : goal.returns-clause-once
returns-clause-once c =
    let face = c.args.self.now.face in
    let a = job_by c.args.self.now c.args.text.now c.args.margin in
    let its = ok_and (laid_out face a) (λ l. IsEnlarged face a l (placement_of c.in_ok-enlarged.enlarged.laid.line)
    c.in_ok-enlarged.enlarged.inked.glyphs.made.items) c.in_ok-enlarged.ensures.enlarged in
    (reported_as_made face a its.0 c.in_ok-enlarged.enlarged.inked.glyphs.made.items
    c.in_ok-measure.measure.report.unfitted.items its.2.made c.in_ok-measure.ensures.unfitted).1

pub returns-clause-cost : goal.returns-clause-cost
returns-clause-cost c = rw c.in_ok-measure.ensures.cost c.in_ok-enlarged.ensures.cost
