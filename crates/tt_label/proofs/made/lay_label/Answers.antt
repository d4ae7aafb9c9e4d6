use Rattle.std.proofs.Common.{◌∙◌, ◌<◌, ℕ, Vec, Global, map, refl}
use Rattle.std.proofs.lemmas.Result.{err_from_is_err_and}
use Rattle.tt_advances.specs.Defects.{IsAdvanceDefect}
use Rattle.tt_advances.specs.Found.{advances_tested}
use Rattle.tt_core.specs.Limits.{text_limit}
use Rattle.tt_label.specs.Label.{label_glyphs, label_placed}
use Rattle.tt_label.specs.Views.{placements_of}
use Rattle.tt_label.proofs.Joined.{all_flat, each_short}
use Rattle.tt_label.proofs.ByAdvances.{units_ready_label, units_stop_label}
use Rattle.tt_advances.proofs.Finding.{before_value}
use Rattle.tt_label.proofs.ByStep.{size_tells_no_defect}
use Rattle.tt_label.proofs.Placed.{laid_by, refused_as_job}
use Rattle.tt_line.specs.declared.line.Line.{Line}
use Rattle.tt_line.specs.Labels.{label_placement}
use Rattle.tt_line.specs.Outcome.{placement_of}
use Rattle.tt_metrics.specs.Metrics.{glyphs_of}
use Rattle.tt_strike.specs.declared.laid.Laid.{Laid}
use Rattle.tt_strike.specs.Strikes.{job_by}
use Rattle.tt_strike.proofs.Stopped.{font_tells}
use Rattle.tt_label.proofs.made.lay_label.Goals as goal

pub lay_lines-requires-clause-few : goal.lay_lines-requires-clause-few
lay_lines-requires-clause-few c =
    each_short (λ (v : Vec (ℕ × ℕ) Global). v.items) c.in_ok-steps.steps.items text_limit c.in_ok-steps.ensures.few

pub returns-in_err-steps-clause-exact : goal.returns-in_err-steps-clause-exact
returns-in_err-steps-clause-exact c =
    let z = c.args.sized.now in
    let p = err_from_is_err_and c.from_residual.result c.from_residual.ensures.1 in
    rw (p.1, p.2) (units_stop_label z.face (job_by z c.args.text.now c.args.margin) c.args.align c.in_err-steps.field-0.0 c.requires.tested
    c.requires.unbounded (before_value (advances_tested z.face (label_glyphs z.face.cmap c.args.text.now)) _ c.in_err-steps.field-0.0 c.in_err-steps.ensures.exact))

pub returns-in_err-steps-clause-defects : goal.returns-in_err-steps-clause-defects
returns-in_err-steps-clause-defects c =
    let z = c.args.sized.now in
    let p = err_from_is_err_and c.from_residual.result c.from_residual.ensures.1 in
    rw (p.1, p.2) (font_tells (IsAdvanceDefect z.face (label_glyphs z.face.cmap c.args.text.now)) c.in_err-steps.field-0.0 c.in_err-steps.ensures.defects)

pub returns-in_err-laid-clause-defects : goal.returns-in_err-laid-clause-defects
returns-in_err-laid-clause-defects c =
    let p = err_from_is_err_and c.from_residual-in_err-laid.result c.from_residual-in_err-laid.ensures.1 in
    rw (p.1, p.2) (size_tells_no_defect (λ (v : Vec Line Global). map placement_of v.items) _ _ c.in_err-laid.field-0.0 c.in_err-laid.ensures)

pub returns-in_err-laid-clause-exact : goal.returns-in_err-laid-clause-exact
returns-in_err-laid-clause-exact c =
    let z = c.args.sized.now in
    let a = job_by z c.args.text.now c.args.margin in
    let gives = rw (c.metrics.ensures, c.face-face.ensures, c.ppem-ppem.ensures.exact) at c.in_err-laid.ensures in
    let p = err_from_is_err_and c.from_residual-in_err-laid.result c.from_residual-in_err-laid.ensures.1 in
    rw (p.1, p.2) (refused_as_job (λ (v : Vec Line Global). map placement_of v.items) (λ (v : Vec Laid Global). placements_of v.items)
    (label_placement z.face.metrics a.ppem a.margin c.args.align (map (λ (v : Vec (ℕ × ℕ) Global). v.items) c.in_ok-steps.steps.items))
    (label_placed z.face a c.args.align) c.in_err-laid.field-0.0 gives
    (λ j fails. units_ready_label z.face a c.args.align (map (λ (v : Vec (ℕ × ℕ) Global). v.items) c.in_ok-steps.steps.items) c.requires.tested
    c.requires.unbounded c.in_ok-steps.ensures.exact ∙ rw fails refl))

pub returns-clause-exact : goal.returns-clause-exact
returns-clause-exact c =
    let z = c.args.sized.now in
    let a = job_by z c.args.text.now c.args.margin in
    let laid = rw (c.metrics.ensures, c.face-face.ensures, c.ppem-ppem.ensures.exact) at c.in_ok-laid.ensures in
    rw c.in_ok-with_margin.ensures.lines
    (units_ready_label z.face a c.args.align (map (λ (v : Vec (ℕ × ℕ) Global). v.items) c.in_ok-steps.steps.items) c.requires.tested
    c.requires.unbounded c.in_ok-steps.ensures.exact ∙ rw laid refl)

pub returns-clause-laid : goal.returns-clause-laid
returns-clause-laid c =
    let z = c.args.sized.now in
    let laid = rw (c.metrics.ensures, c.face-face.ensures, c.ppem-ppem.ensures.exact, ← c.in_ok-with_margin.ensures.lines) at c.in_ok-laid.ensures in
    laid_by z.face z.ppem c.args.margin c.args.align c.in_ok-steps.steps.items c.in_ok-with_margin.field-0.items c.requires.margin
    c.in_ok-steps.ensures.some c.in_ok-steps.ensures.few
    (all_flat (λ (g : ℕ × ℕ). g.0 < glyphs_of z.face.metrics) (λ (v : Vec (ℕ × ℕ) Global). v.items) c.in_ok-steps.steps.items c.in_ok-steps.ensures.known)
    c.in_ok-with_margin.ensures.margin laid
