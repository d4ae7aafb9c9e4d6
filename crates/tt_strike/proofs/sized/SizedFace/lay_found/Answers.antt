use Rattle.std.proofs.Common.{◌≡◌, ◌∙◌, ◌<◌, ap, ℕ, Ok, List, map, refl, sym}
use Rattle.std.proofs.lemmas.Result.{err_from_is_err_and}
use Rattle.tt_advances.specs.Found.{advances_tested}
use Rattle.tt_advances.specs.Lines.{advance_line, advance_steps}
use Rattle.tt_line.specs.Layout.{text_glyphs}
use Rattle.tt_metrics.specs.Metrics.{glyphs_of}
use Rattle.tt_picture.proofs.Among.{of_same_glyphs}
use Rattle.tt_strike.specs.Picture.{placed_by_units}
use Rattle.tt_strike.specs.Strikes.{job_by}
use Rattle.tt_strike.proofs.Stopped.{font_tells, test_passes, units_stop}
use Rattle.tt_strike.proofs.sized.SizedFace.lay_found.Goals.{In_ok-steps}
use Rattle.tt_strike.proofs.sized.SizedFace.lay_found.Goals as goal

-- the advances are found, and the steps are theirs
steps_then : (c : In_ok-steps)
    → (advances_tested c.args.self.now.face (text_glyphs c.args.self.now.face.cmap c.args.text.now) ≡ Ok tt)
    × (c.in_ok-steps.steps.items ≡ advance_line c.args.self.now.face c.args.self.now.ppem (text_glyphs c.args.self.now.face.cmap c.args.text.now))
steps_then c =
    let z = c.args.self.now in
    let gs = text_glyphs z.face.cmap c.args.text.now in
    test_passes (advances_tested z.face gs) (advance_line z.face z.ppem gs) c.in_ok-steps.steps.items c.in_ok-steps.ensures.exact

numbers_then : (c : In_ok-steps) → map (λ (g : ℕ × ℕ). g.1) c.in_ok-steps.steps.items
    ≡ advance_steps c.args.self.now.face c.args.self.now.ppem (text_glyphs c.args.self.now.face.cmap c.args.text.now)
numbers_then c = ap (λ (line : List (ℕ × ℕ)). map (λ (g : ℕ × ℕ). g.1) line) (steps_then c).1

pub returns-in_err-steps-clause-exact : goal.returns-in_err-steps-clause-exact
returns-in_err-steps-clause-exact c =
    let z = c.args.self.now in
    let gs = text_glyphs z.face.cmap c.args.text.now in
    let p = err_from_is_err_and c.from_residual.result c.from_residual.ensures.1 in
    rw (p.1, p.2) (units_stop z.face (job_by z c.args.text.now c.args.margin) c.in_err-steps.field-0.0 (advance_line z.face z.ppem gs)
    c.in_err-steps.ensures.exact)

pub returns-in_err-steps-clause-defects : goal.returns-in_err-steps-clause-defects
returns-in_err-steps-clause-defects c =
    let p = err_from_is_err_and c.from_residual.result c.from_residual.ensures.1 in
    rw (p.1, p.2) (font_tells _ c.in_err-steps.field-0.0 c.in_err-steps.ensures.defects)

pub returns-in_err-line-clause-exact : goal.returns-in_err-line-clause-exact
unfolding placed_by_units
returns-in_err-line-clause-exact c =
    let all = goal.at.returns-in_err-line-clause-exact c in
    let p = err_from_is_err_and c.from_residual-in_err-line.result c.from_residual-in_err-line.ensures.1 in
    let refused = rw (c.metrics.ensures, c.face-face.ensures, c.ppem-ppem.ensures.exact, c.in_ok-steps.ensures.glyphs, numbers_then all.In_ok-steps) at c.in_err-line.ensures.exact in
    rw (p.1, p.2, (steps_then all.In_ok-steps).0, refused) refl

pub returns-in_err-line-clause-job : goal.returns-in_err-line-clause-job
returns-in_err-line-clause-job c =
    let all = goal.at.returns-in_err-line-clause-job c in
    let p = err_from_is_err_and c.from_residual-in_err-line.result c.from_residual-in_err-line.ensures.1 in
    let fault = rw (c.metrics.ensures, c.face-face.ensures, c.ppem-ppem.ensures.exact, numbers_then all.In_ok-steps) at c.in_err-line.ensures.fault in
    rw (p.1, p.2, (steps_then all.In_ok-steps).0) fault

pub returns-clause-exact : goal.returns-clause-exact
unfolding placed_by_units
returns-clause-exact c =
    let all = goal.at.returns-clause-exact c in
    let laid = rw (c.metrics.ensures, c.face-face.ensures, c.ppem-ppem.ensures.exact, c.in_ok-steps.ensures.glyphs, numbers_then all.In_ok-steps) at c.in_ok-line.ensures.exact in
    rw ((steps_then all.In_ok-steps).0, laid) refl

pub returns-clause-glyphs : goal.returns-clause-glyphs
returns-clause-glyphs c = c.in_ok-line.ensures.glyphs ∙ c.in_ok-steps.ensures.glyphs

pub returns-clause-known : goal.returns-clause-known
returns-clause-known c =
    of_same_glyphs (λ n. n < glyphs_of c.args.self.now.face.metrics) c.in_ok-steps.steps.items c.in_ok-line.line.glyphs.items
    c.in_ok-line.ensures.glyphs c.in_ok-steps.ensures.known

pub returns-clause-defects : goal.returns-clause-defects
returns-clause-defects c = c.in_ok-steps.ensures.defects
