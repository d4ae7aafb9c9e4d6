use Rattle.std.proofs.Common.{◌≡◌, ◌∙◌, ℕ, Global, List, Vec, map, sum, Result, Ok, Err, refl}
use Rattle.std.proofs.lemmas.Result.{err_from_is_err_and}
use Rattle.tt_core.specs.declared.draw_fault.DrawFault.{DrawFault}
use Rattle.tt_face.specs.Faces.{Face}
use Rattle.tt_fit.specs.declared.programs.Fit.{Fit}
use Rattle.tt_line.specs.Layout.{text_glyphs}
use Rattle.tt_strike.specs.declared.layouts.TextPens.{TextPens}
use Rattle.tt_strike.specs.Job.{Job, tested}
use Rattle.tt_strike.specs.Layouts.{HasLayoutDefect, steps_outcome}
use Rattle.tt_strike.specs.Strikes.{SizedFace, job_by}
use Rattle.tt_strike.proofs.TextSteps.{at_margin, layout_is, no_defect_of_job, pens_are, size_stops_pens, sound_on, steps_fit, steps_stop_pens, test_stops_pens, told_on}
use Rattle.tt_strike.proofs.Stopped.{tested_at}
use Rattle.tt_strike.proofs.sized.SizedFace.pens.Goals.{In_ok-test_text}
use Rattle.tt_strike.proofs.sized.SizedFace.pens.Goals as goal

-- the job of a text at this place
abbrev job_here : Face → ℕ → Fit → List ℕ → ℕ → Job
job_here face ppem how text margin = job_by (record { face = face; ppem = ppem; fit = how }) text margin

-- the text and its margin are tested
passed : (c : In_ok-test_text) → tested (job_here c.self.inside.source.face.now c.self.inside.source.ppem c.self.inside.source.fit
    c.args.text.now c.args.margin) ≡ Ok tt
passed c =
    let z : SizedFace = record { face = c.self.inside.source.face.now; ppem = c.self.inside.source.ppem; fit = c.self.inside.source.fit } in
    tested_at z c.args.text.now c.args.margin c.self.inside.source.low c.self.inside.source.high
    ∙ rw (c.in_ok-test_margin.ensures.exact, c.in_ok-test_text.ensures.exact) refl

pub returns-in_err-test_margin-clause-exact : goal.returns-in_err-test_margin-clause-exact
returns-in_err-test_margin-clause-exact c =
    let z : SizedFace = record { face = c.self.inside.source.face.now; ppem = c.self.inside.source.ppem; fit = c.self.inside.source.fit } in
    let p = err_from_is_err_and c.from_residual.result c.from_residual.ensures.1 in
    let at = tested_at z c.args.text.now c.args.margin c.self.inside.source.low c.self.inside.source.high in
    rw (p.1, p.2, ← c.self.view_is) (test_stops_pens z.face (job_by z c.args.text.now c.args.margin)
    c.in_err-test_margin.field-0.0 (at ∙ rw c.in_err-test_margin.ensures.exact refl))

pub returns-in_err-test_margin-clause-defects : goal.returns-in_err-test_margin-clause-defects
returns-in_err-test_margin-clause-defects c =
    let p = err_from_is_err_and c.from_residual.result c.from_residual.ensures.1 in
    no_defect_of_job c.args.self.now c.args.text.now c.args.margin c.from_residual.result
    c.in_err-test_margin.field-0.0 (rw (p.1, p.2) refl)

pub returns-in_err-test_text-clause-exact : goal.returns-in_err-test_text-clause-exact
returns-in_err-test_text-clause-exact c =
    let z : SizedFace = record { face = c.self.inside.source.face.now; ppem = c.self.inside.source.ppem; fit = c.self.inside.source.fit } in
    let p = err_from_is_err_and c.from_residual-in_err-test_text.result c.from_residual-in_err-test_text.ensures.1 in
    let at = tested_at z c.args.text.now c.args.margin c.self.inside.source.low c.self.inside.source.high in
    rw (p.1, p.2, ← c.self.view_is) (test_stops_pens z.face (job_by z c.args.text.now c.args.margin)
    c.in_err-test_text.field-0.0 (at ∙ rw (c.in_ok-test_margin.ensures.exact, c.in_err-test_text.ensures.exact) refl))

pub returns-in_err-test_text-clause-defects : goal.returns-in_err-test_text-clause-defects
returns-in_err-test_text-clause-defects c =
    let p = err_from_is_err_and c.from_residual-in_err-test_text.result c.from_residual-in_err-test_text.ensures.1 in
    no_defect_of_job c.args.self.now c.args.text.now c.args.margin c.from_residual-in_err-test_text.result
    c.in_err-test_text.field-0.0 (rw (p.1, p.2) refl)

pub returns-in_err-steps-clause-exact : goal.returns-in_err-steps-clause-exact
unfolding steps_outcome
returns-in_err-steps-clause-exact c =
    let z : SizedFace = record { face = c.self.inside.source.face.now; ppem = c.self.inside.source.ppem; fit = c.self.inside.source.fit } in
    let a = job_by z c.args.text.now c.args.margin in
    let p = err_from_is_err_and c.from_residual-in_err-steps.result c.from_residual-in_err-steps.ensures.1 in
    let stopped = rw (← c.self.view_is) at c.in_err-steps.ensures.exact in
    rw (p.1, p.2, ← c.self.view_is) (steps_stop_pens z.face a c.in_err-steps.field-0.0
    (passed (goal.at.returns-in_err-steps-clause-exact c).In_ok-test_text) stopped)

pub returns-in_err-steps-clause-defects : goal.returns-in_err-steps-clause-defects
returns-in_err-steps-clause-defects c =
    let p = err_from_is_err_and c.from_residual-in_err-steps.result c.from_residual-in_err-steps.ensures.1 in
    let z = c.args.self.now in
    let IsOne = HasLayoutDefect z.face (job_by z c.args.text.now c.args.margin) (text_glyphs z.face.cmap c.args.text.now) in
    let r : Result (Vec (ℕ × ℕ) Global) DrawFault = Err c.in_err-steps.field-0.0 in
    told_on IsOne r c.from_residual-in_err-steps.result c.in_err-steps.field-0.0 refl
    (rw (p.1, p.2) refl) (at_margin z c.args.text.now 0 c.args.margin (text_glyphs z.face.cmap c.args.text.now) r c.in_err-steps.ensures.defects)

pub returns-in_err-size-clause-exact : goal.returns-in_err-size-clause-exact
unfolding steps_outcome
returns-in_err-size-clause-exact c =
    let z : SizedFace = record { face = c.self.inside.source.face.now; ppem = c.self.inside.source.ppem; fit = c.self.inside.source.fit } in
    let a = job_by z c.args.text.now c.args.margin in
    let p = err_from_is_err_and c.from_residual-in_err-size.result c.from_residual-in_err-size.ensures.1 in
    let made = rw (← c.self.view_is) at c.in_ok-steps.ensures.exact in
    let refused = rw (c.metrics.ensures, c.deref.ensures.value) at c.in_err-size.ensures.exact in
    rw (p.1, p.2, ← c.self.view_is) (size_stops_pens z.face a c.in_ok-steps.steps.items c.in_err-size.field-0.0
    (passed (goal.at.returns-in_err-size-clause-exact c).In_ok-test_text) made refused)

pub returns-in_err-size-clause-defects : goal.returns-in_err-size-clause-defects
returns-in_err-size-clause-defects c =
    let p = err_from_is_err_and c.from_residual-in_err-size.result c.from_residual-in_err-size.ensures.1 in
    no_defect_of_job c.args.self.now c.args.text.now c.args.margin c.from_residual-in_err-size.result
    c.in_err-size.field-0.0 (rw (p.1, p.2) refl)

pub pens_at-requires-clause-fits : goal.pens_at-requires-clause-fits
pens_at-requires-clause-fits c =
    let source = c.self.inside.source in
    let sized = rw (c.metrics.ensures, c.deref.ensures.value) at c.in_ok-size.ensures.exact in
    rw c.deref-2.ensures.value (steps_fit source.face.now.metrics source.ppem c.args.margin
    (sum (map (λ (g : ℕ × ℕ). g.1) c.in_ok-steps.steps.items)) c.in_ok-size.size sized c.in_ok-size.ensures.width)

pub returns-clause-exact : goal.returns-clause-exact
unfolding steps_outcome
returns-clause-exact c =
    let z : SizedFace = record { face = c.self.inside.source.face.now; ppem = c.self.inside.source.ppem; fit = c.self.inside.source.fit } in
    let a = job_by z c.args.text.now c.args.margin in
    let made = rw (← c.self.view_is) at c.in_ok-steps.ensures.exact in
    let sized = rw (c.metrics.ensures, c.deref.ensures.value) at c.in_ok-size.ensures.exact in
    let pens = rw (c.cmap-cmap.ensures.exact, c.deref-2.ensures.value) at c.in_ok-pens.ensures in
    rw (← c.self.view_is) (pens_are z.face a c.in_ok-steps.steps.items c.in_ok-size.size
    (passed (goal.at.returns-clause-exact c).In_ok-test_text) made sized ∙ rw pens refl)

pub returns-clause-layout : goal.returns-clause-layout
unfolding steps_outcome
returns-clause-layout c =
    let z : SizedFace = record { face = c.self.inside.source.face.now; ppem = c.self.inside.source.ppem; fit = c.self.inside.source.fit } in
    let a = job_by z c.args.text.now c.args.margin in
    let made = rw (← c.self.view_is) at c.in_ok-steps.ensures.exact in
    let sized = rw (c.metrics.ensures, c.deref.ensures.value) at c.in_ok-size.ensures.exact in
    rw (← c.self.view_is, c.layout_by-layout.ensures, c.cmap-cmap.ensures.exact)
    (layout_is z.face a c.in_ok-steps.steps.items c.in_ok-size.size
    (passed (goal.at.returns-clause-layout c).In_ok-test_text) made sized)

pub returns-clause-defects : goal.returns-clause-defects
returns-clause-defects c =
    let z = c.args.self.now in
    let IsOne = HasLayoutDefect z.face (job_by z c.args.text.now c.args.margin) (text_glyphs z.face.cmap c.args.text.now) in
    let r : Result (Vec (ℕ × ℕ) Global) DrawFault = Ok c.in_ok-steps.steps in
    let made : TextPens = record { layout = c.layout_by-layout.result; pens = c.in_ok-pens.pens } in
    let q : Result TextPens DrawFault = Ok made in
    sound_on IsOne r q c.in_ok-steps.steps made refl refl
    (at_margin z c.args.text.now 0 c.args.margin (text_glyphs z.face.cmap c.args.text.now) r c.in_ok-steps.ensures.defects)
