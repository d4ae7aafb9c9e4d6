use Rattle.std.proofs.Common.{◌≡◌, ◌∙◌, ap, ℕ, List, map, ◌<◌, refl, sym, subst, Ok}
use Rattle.std.proofs.lemmas.Result.{err_from_is_err_and}
use Rattle.tt_fit.specs.Fitting.{Fitter}
use Rattle.tt_line.proofs.Stepped.{firsts}
use Rattle.tt_line.specs.Layout.{Placement, laid_at, text_glyphs}
use Rattle.tt_line.specs.Outcome.{placement_of}
use Rattle.tt_metrics.specs.Metrics.{glyphs_of}
use Rattle.tt_picture.proofs.Among.{of_same_glyphs}
use Rattle.tt_picture.specs.Steps.{step_by}
use Rattle.tt_strike.specs.Fitted.{AreFittedUnits}
use Rattle.tt_strike.specs.Job.{tested}
use Rattle.tt_strike.specs.Picture.{advance_with, laid_out, outlines_tested, steps_in}
use Rattle.tt_strike.specs.Strikes.{job_by}
use Rattle.tt_strike.proofs.Fitted.{points_tell_refusal, units_tell_refusal}
use Rattle.tt_strike.proofs.Placed.{placed_of}
use Rattle.tt_strike.proofs.Stepped.{extent_by_steps_tells, extent_stops_text, laid_out_by_steps, outlines_pass, units_stop_text}
use Rattle.tt_strike.proofs.Stopped.{no_defect_told, shapes_stop, tested_at}
use Rattle.tt_strike.proofs.Telling.{made_sound, made_tells}
use Rattle.tt_strike.proofs.Textless.{cost_textless, made_textless, shapes_textless}
use Rattle.tt_strike.proofs.sized.SizedFace.make_by_steps.Goals.{In_ok-fitted, In_ok-line, In_ok-test_text}
use Rattle.tt_strike.proofs.sized.SizedFace.make_by_steps.Goals as goal

-- the text and its margin are tested
passed : (c : In_ok-test_text) → tested (job_by c.args.self.now c.args.text.now c.args.margin) ≡ Ok tt
passed c =
    tested_at c.args.self.now c.args.text.now c.args.margin (rw c.ppem-ppem.ensures.exact at c.ppem-ppem.ensures.some) (rw c.ppem-ppem.ensures.exact at c.ppem-ppem.ensures.limit)
    ∙ rw (c.in_ok-test_margin.ensures.exact, c.in_ok-test_text.ensures.exact) refl

pub returns-in_err-test_margin-clause-stops : goal.returns-in_err-test_margin-clause-stops
returns-in_err-test_margin-clause-stops c =
    let p = err_from_is_err_and c.from_residual.result c.from_residual.ensures.1 in
    let at = tested_at c.args.self.now c.args.text.now c.args.margin (rw c.ppem-ppem.ensures.exact at c.ppem-ppem.ensures.some) (rw c.ppem-ppem.ensures.exact at c.ppem-ppem.ensures.limit) in
    rw (p.1, p.2, at, c.in_err-test_margin.ensures.exact) refl

pub returns-in_err-test_margin-clause-defects : goal.returns-in_err-test_margin-clause-defects
returns-in_err-test_margin-clause-defects c =
    let p = err_from_is_err_and c.from_residual.result c.from_residual.ensures.1 in
    rw (p.1, p.2) tt

pub returns-in_err-test_margin-clause-job : goal.returns-in_err-test_margin-clause-job
returns-in_err-test_margin-clause-job c =
    let p = err_from_is_err_and c.from_residual.result c.from_residual.ensures.1 in
    let refused = c.in_err-test_margin.ensures.refused in
    rw (p.1, p.2, refused.0) refused.1

pub returns-in_err-test_text-clause-stops : goal.returns-in_err-test_text-clause-stops
returns-in_err-test_text-clause-stops c =
    let p = err_from_is_err_and c.from_residual-in_err-test_text.result c.from_residual-in_err-test_text.ensures.1 in
    let at = tested_at c.args.self.now c.args.text.now c.args.margin (rw c.ppem-ppem.ensures.exact at c.ppem-ppem.ensures.some) (rw c.ppem-ppem.ensures.exact at c.ppem-ppem.ensures.limit) in
    rw (p.1, p.2, at, c.in_ok-test_margin.ensures.exact, c.in_err-test_text.ensures.exact) refl

pub returns-in_err-test_text-clause-defects : goal.returns-in_err-test_text-clause-defects
returns-in_err-test_text-clause-defects c =
    let p = err_from_is_err_and c.from_residual-in_err-test_text.result c.from_residual-in_err-test_text.ensures.1 in
    rw (p.1, p.2) tt

pub returns-in_err-test_text-clause-job : goal.returns-in_err-test_text-clause-job
returns-in_err-test_text-clause-job c =
    let p = err_from_is_err_and c.from_residual-in_err-test_text.result c.from_residual-in_err-test_text.ensures.1 in
    let refused = c.in_err-test_text.ensures.refused in
    rw (p.1, p.2, refused.0) refused.1

pub returns-in_err-fitted-clause-stops : goal.returns-in_err-fitted-clause-stops
returns-in_err-fitted-clause-stops c =
    let p = err_from_is_err_and c.from_residual-in_err-fitted.result c.from_residual-in_err-fitted.ensures.1 in
    rw (p.1, p.2) (units_stop_text c.args.self.now.face (job_by c.args.self.now c.args.text.now c.args.margin) c.in_err-fitted.field-0.0
    (passed (goal.at.returns-in_err-fitted-clause-stops c).In_ok-test_text) c.requires.bounded c.in_err-fitted.ensures.stops)

pub returns-in_err-fitted-clause-defects : goal.returns-in_err-fitted-clause-defects
returns-in_err-fitted-clause-defects c =
    let p = err_from_is_err_and c.from_residual-in_err-fitted.result c.from_residual-in_err-fitted.ensures.1 in
    let z = c.args.self.now in
    rw (p.1, p.2) (made_tells z.face (job_by z c.args.text.now c.args.margin) (text_glyphs z.face.cmap c.args.text.now) c.in_err-fitted.field-0.0
    c.in_err-fitted.ensures.defects)

pub returns-in_err-fitted-clause-job : goal.returns-in_err-fitted-clause-job
returns-in_err-fitted-clause-job c =
    let p = err_from_is_err_and c.from_residual-in_err-fitted.result c.from_residual-in_err-fitted.ensures.1 in
    rw (p.1, p.2) (points_tell_refusal c.args.self.now.face (job_by c.args.self.now c.args.text.now c.args.margin) c.in_err-fitted.field-0.0
    c.in_err-fitted.ensures.stops)

-- the glyphs of the steps, and the steps
glyphs_then : (c : In_ok-fitted) → map (λ (g : ℕ × ℕ). g.0) c.in_ok-fitted.fitted.steps.items ≡ text_glyphs c.args.self.now.face.cmap c.args.text.now
glyphs_then c =
    let o = c.in_ok-fitted.ensures.fitted in
    let gs = text_glyphs c.args.self.now.face.cmap c.args.text.now in
    let m = c.args.self.now.face.metrics in
    ap (λ (line : List (ℕ × ℕ)). map (λ (g : ℕ × ℕ). g.0) line) o.2 ∙ firsts m (step_by m c.args.self.now.ppem (advance_with o.0 gs)) gs

steps_then : (c : In_ok-fitted) → map (λ (g : ℕ × ℕ). g.1) c.in_ok-fitted.fitted.steps.items
    ≡ steps_in c.args.self.now.face.metrics c.args.self.now.ppem c.in_ok-fitted.ensures.fitted.0 (text_glyphs c.args.self.now.face.cmap c.args.text.now)
steps_then c = ap (λ (line : List (ℕ × ℕ)). map (λ (g : ℕ × ℕ). g.1) line) c.in_ok-fitted.ensures.fitted.2

pub returns-in_err-line-clause-stops : goal.returns-in_err-line-clause-stops
returns-in_err-line-clause-stops c =
    let z = c.args.self.now in
    let a = job_by z c.args.text.now c.args.margin in
    let all = goal.at.returns-in_err-line-clause-stops c in
    let o = c.in_ok-fitted.ensures.fitted in
    let refused = rw (c.metrics.ensures, c.face-face.ensures, c.ppem-ppem.ensures.exact, glyphs_then all.In_ok-fitted, steps_then all.In_ok-fitted) at c.in_err-line.ensures.exact in
    let p = err_from_is_err_and c.from_residual-in_err-line.result c.from_residual-in_err-line.ensures.1 in
    rw (p.1, p.2) (extent_stops_text z.face a o.0 o.1.outlines.0 c.in_err-line.field-0.0 (passed all.In_ok-test_text) c.requires.bounded
    o.1.setting.exact (outlines_pass o.0 a (text_glyphs z.face.cmap c.args.text.now) o.1.outlines.0 o.1.points o.1.outlines.1) refused)

pub returns-in_err-line-clause-defects : goal.returns-in_err-line-clause-defects
returns-in_err-line-clause-defects c =
    let p = err_from_is_err_and c.from_residual-in_err-line.result c.from_residual-in_err-line.ensures.1 in
    rw (p.1, p.2) tt

pub returns-in_err-line-clause-job : goal.returns-in_err-line-clause-job
returns-in_err-line-clause-job c =
    let z = c.args.self.now in
    let a = job_by z c.args.text.now c.args.margin in
    let all = goal.at.returns-in_err-line-clause-job c in
    let o = c.in_ok-fitted.ensures.fitted in
    let refused = rw (c.metrics.ensures, c.face-face.ensures, c.ppem-ppem.ensures.exact, steps_then all.In_ok-fitted) at c.in_err-line.ensures.fault in
    let p = err_from_is_err_and c.from_residual-in_err-line.result c.from_residual-in_err-line.ensures.1 in
    rw (p.1, p.2) (extent_by_steps_tells z.face a o.0 o.1.outlines.0 c.in_err-line.field-0.0 c.requires.bounded o.1.setting.exact o.1.outlines.1 refused)

-- the line is laid out by its steps, and its units are fitted
laid_then : (c : In_ok-line) → (tested (job_by c.args.self.now c.args.text.now c.args.margin) ≡ Ok tt)
    → map (λ (g : ℕ × ℕ). g.0) c.in_ok-fitted.fitted.steps.items ≡ text_glyphs c.args.self.now.face.cmap c.args.text.now
    → map (λ (g : ℕ × ℕ). g.1) c.in_ok-fitted.fitted.steps.items
    ≡ steps_in c.args.self.now.face.metrics c.args.self.now.ppem c.in_ok-fitted.ensures.fitted.0 (text_glyphs c.args.self.now.face.cmap c.args.text.now)
    → laid_out c.args.self.now.face (job_by c.args.self.now c.args.text.now c.args.margin) ≡ Ok (placement_of c.in_ok-line.line)
laid_then c passes glyphs steps =
    let z = c.args.self.now in
    let a = job_by z c.args.text.now c.args.margin in
    let o = c.in_ok-fitted.ensures.fitted in
    let laid = rw (c.metrics.ensures, c.face-face.ensures, c.ppem-ppem.ensures.exact, glyphs, steps) at c.in_ok-line.ensures.exact in
    laid_out_by_steps z.face a o.0 o.1.outlines.0 (placement_of c.in_ok-line.line) passes c.requires.bounded o.1.setting.exact
    (outlines_pass o.0 a (text_glyphs z.face.cmap c.args.text.now) o.1.outlines.0 o.1.points o.1.outlines.1) laid

units_then : (c : In_ok-line) → map (λ (g : ℕ × ℕ). g.0) c.in_ok-fitted.fitted.steps.items ≡ text_glyphs c.args.self.now.face.cmap c.args.text.now
    → AreFittedUnits c.args.self.now.face c.args.self.now.ppem c.args.self.now.fit (map (λ (g : ℕ × ℕ). g.0) c.in_ok-line.line.glyphs.items)
    c.in_ok-fitted.fitted.units c.in_ok-fitted.ensures.fitted.0
units_then c glyphs =
    let P : List ℕ → Type 0 = λ gs. AreFittedUnits c.args.self.now.face c.args.self.now.ppem c.args.self.now.fit gs c.in_ok-fitted.fitted.units c.in_ok-fitted.ensures.fitted.0 in
    subst P (sym (c.in_ok-line.ensures.glyphs ∙ glyphs)) c.in_ok-fitted.ensures.fitted.1

pub drawn_units-requires-clause-bounded : goal.drawn_units-requires-clause-bounded
drawn_units-requires-clause-bounded c = rw c.fitted_text.ensures.same c.requires.bounded

pub drawn_units-requires-clause-cache : goal.drawn_units-requires-clause-cache
drawn_units-requires-clause-cache c = rw c.fitted_text.ensures.same c.requires.cache

pub drawn_units-requires-clause-fitted : goal.drawn_units-requires-clause-fitted
drawn_units-requires-clause-fitted c =
    let all = goal.at.drawn_units-requires-clause-fitted c in
    rw c.fitted_text.ensures.same (c.in_ok-fitted.ensures.fitted.0, units_then all.In_ok-line (glyphs_then all.In_ok-fitted))

pub returns-in_err-glyphs-clause-stops : goal.returns-in_err-glyphs-clause-stops
returns-in_err-glyphs-clause-stops c =
    let z = c.args.self.now in
    let a = job_by z c.args.text.now c.args.margin in
    let l = placement_of c.in_ok-line.line in
    let all = goal.at.returns-in_err-glyphs-clause-stops c in
    let laid = laid_then all.In_ok-line (passed all.In_ok-test_text) (glyphs_then all.In_ok-fitted) (steps_then all.In_ok-fitted) in
    let p = err_from_is_err_and c.from_residual-in_err-glyphs.result c.from_residual-in_err-glyphs.ensures.1 in
    rw (p.1, p.2) (shapes_stop z.face a l c.in_err-glyphs.field-0.0 laid (rw (c.fitted_text.ensures.same) at c.in_err-glyphs.ensures.stops))

pub returns-in_err-glyphs-clause-defects : goal.returns-in_err-glyphs-clause-defects
returns-in_err-glyphs-clause-defects c =
    let p = err_from_is_err_and c.from_residual-in_err-glyphs.result c.from_residual-in_err-glyphs.ensures.1 in
    rw (p.1, p.2) (no_defect_told _ c.in_err-glyphs.field-0.0 c.in_err-glyphs.ensures.font)

pub returns-in_err-glyphs-clause-job : goal.returns-in_err-glyphs-clause-job
returns-in_err-glyphs-clause-job c =
    let z = c.args.self.now in
    let a = job_by z c.args.text.now c.args.margin in
    let l = placement_of c.in_ok-line.line in
    let all = goal.at.returns-in_err-glyphs-clause-job c in
    let glyphs = glyphs_then all.In_ok-fitted in
    let laid = laid_then all.In_ok-line (passed all.In_ok-test_text) glyphs (steps_then all.In_ok-fitted) in
    let p = err_from_is_err_and c.from_residual-in_err-glyphs.result c.from_residual-in_err-glyphs.ensures.1 in
    rw (p.1, p.2) (units_tell_refusal z.face a l c.in_ok-fitted.fitted.units c.in_ok-fitted.ensures.fitted.0 c.in_err-glyphs.field-0.0
    (units_then all.In_ok-line glyphs) (placed_of z.face a l laid) (rw c.fitted_text.ensures.same at c.in_err-glyphs.ensures.stops))

pub returns-in_err-glyphs-clause-cache : goal.returns-in_err-glyphs-clause-cache
returns-in_err-glyphs-clause-cache c = rw c.fitted_text.ensures.same at c.drawn_units.ensures.cache

pub returns-clause-made : goal.returns-clause-made
returns-clause-made c =
    let z = c.args.self.now in
    let a = job_by z c.args.text.now c.args.margin in
    let l = placement_of c.in_ok-line.line in
    let all = goal.at.returns-clause-made c in
    let glyphs = glyphs_then all.In_ok-fitted in
    let made = rw c.fitted_text.ensures.same at c.in_ok-glyphs.ensures.made in
    let cost = rw c.fitted_text.ensures.same at c.in_ok-glyphs.ensures.cost in
    record {
      laid = laid_then all.In_ok-line (passed all.In_ok-test_text) glyphs (steps_then all.In_ok-fitted);
      glyphs = c.in_ok-line.ensures.glyphs ∙ glyphs;
      known = of_same_glyphs (λ n. n < glyphs_of z.face.metrics) c.in_ok-fitted.fitted.steps.items l.glyphs
          c.in_ok-line.ensures.glyphs c.in_ok-fitted.ensures.known;
      made = made_textless z c.args.text.now c.args.margin l made;
      cost = cost_textless z c.args.text.now c.args.margin l ∙ cost;
    }

pub returns-clause-defects : goal.returns-clause-defects
returns-clause-defects c =
    let z = c.args.self.now in
    made_sound z.face (job_by z c.args.text.now c.args.margin) (text_glyphs z.face.cmap c.args.text.now) c.requires.bounded
    c.in_ok-fitted.ensures.defects

pub returns-clause-cache : goal.returns-clause-cache
returns-clause-cache c = rw c.fitted_text.ensures.same at c.drawn_units.ensures.cache
