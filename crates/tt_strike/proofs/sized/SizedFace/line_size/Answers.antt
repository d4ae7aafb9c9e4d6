use Rattle.std.proofs.Common.{◌≡◌, ◌∙◌, ℕ, Bool, true, false, ◌||◌, Global, List, Vec, Result, Ok, Err, refl}
use Rattle.std.proofs.lemmas.Result.{err_from_is_err_and}
use Rattle.tt_advances.proofs.Advances.{plain_sound}
use Rattle.tt_core.specs.declared.draw_fault.DrawFault.{DrawFault}
use Rattle.tt_face.specs.Faces.{Face, finds_advances}
use Rattle.tt_line.specs.Layout.{text_glyphs}
use Rattle.tt_fit.specs.declared.programs.Fit.{Fit}
use Rattle.tt_strike.specs.Job.{Job, tested}
use Rattle.tt_strike.specs.Layouts.{steps_outcome}
use Rattle.tt_strike.specs.Strikes.{SizedFace, job_by}
use Rattle.tt_strike.specs.Work.{is_bounded}
use Rattle.tt_strike.proofs.TextSteps.{at_margin, no_defect_of_job, size_by_its_advances, size_is, steps_stop_size, test_stops_size}
use Rattle.tt_strike.proofs.Stopped.{tested_at}
use Rattle.tt_strike.proofs.sized.SizedFace.line_size.Goals.{In_ok-test_text}
use Rattle.tt_strike.proofs.sized.SizedFace.line_size.Goals as goal

-- the job of a text at this place
abbrev job_here : Face → ℕ → Fit → List ℕ → ℕ → Job
job_here face ppem how text margin = job_by (record { face = face; ppem = ppem; fit = how }) text margin

-- the text and its margin are tested
passed : (c : In_ok-test_text) → tested (job_here c.self.inside.source.face.now c.self.inside.source.ppem c.self.inside.source.fit
    c.args.text.now c.args.margin) ≡ Ok tt
passed c =
    let z : SizedFace = record { face = c.self.inside.source.face.now; ppem = c.self.inside.source.ppem; fit = c.self.inside.source.fit } in
    tested_at z c.args.text.now c.args.margin c.self.inside.source.low c.self.inside.source.high
    ∙ rw (c.in_ok-test_margin.ensures.exact, c.in_ok-test_text.ensures.exact) refl

pub returns-in_err-test_margin-clause-exact : goal.returns-in_err-test_margin-clause-exact
returns-in_err-test_margin-clause-exact c =
    let z : SizedFace = record { face = c.self.inside.source.face.now; ppem = c.self.inside.source.ppem; fit = c.self.inside.source.fit } in
    let p = err_from_is_err_and c.from_residual.result c.from_residual.ensures.1 in
    let at = tested_at z c.args.text.now c.args.margin c.self.inside.source.low c.self.inside.source.high in
    rw (p.1, p.2, ← c.self.view_is) (test_stops_size z.face (job_by z c.args.text.now c.args.margin)
    c.in_err-test_margin.field-0.0 (at ∙ rw c.in_err-test_margin.ensures.exact refl))

pub returns-in_err-test_margin-clause-defects : goal.returns-in_err-test_margin-clause-defects
returns-in_err-test_margin-clause-defects c =
    let p = err_from_is_err_and c.from_residual.result c.from_residual.ensures.1 in
    no_defect_of_job c.args.self.now c.args.text.now c.args.margin c.from_residual.result
    c.in_err-test_margin.field-0.0 (rw (p.1, p.2) refl)

pub returns-in_err-test_text-clause-exact : goal.returns-in_err-test_text-clause-exact
returns-in_err-test_text-clause-exact c =
    let z : SizedFace = record { face = c.self.inside.source.face.now; ppem = c.self.inside.source.ppem; fit = c.self.inside.source.fit } in
    let p = err_from_is_err_and c.from_residual-in_err-test_text.result c.from_residual-in_err-test_text.ensures.1 in
    let at = tested_at z c.args.text.now c.args.margin c.self.inside.source.low c.self.inside.source.high in
    rw (p.1, p.2, ← c.self.view_is) (test_stops_size z.face (job_by z c.args.text.now c.args.margin)
    c.in_err-test_text.field-0.0 (at ∙ rw (c.in_ok-test_margin.ensures.exact, c.in_err-test_text.ensures.exact) refl))

pub returns-in_err-test_text-clause-defects : goal.returns-in_err-test_text-clause-defects
returns-in_err-test_text-clause-defects c =
    let p = err_from_is_err_and c.from_residual-in_err-test_text.result c.from_residual-in_err-test_text.ensures.1 in
    no_defect_of_job c.args.self.now c.args.text.now c.args.margin c.from_residual-in_err-test_text.result
    c.in_err-test_text.field-0.0 (rw (p.1, p.2) refl)

-- neither best nor an instance without HVAR
neither : (bounded finds : Bool) → bounded || finds ≡ false → (bounded ≡ false) × (finds ≡ false)
neither false false is = (refl, refl)
neither false true is = absurd cc
neither true finds is = absurd cc

never : (bounded finds : Bool) → bounded || finds ≡ true → bounded ≡ false → finds ≡ false → ⊥
never false false is other off = absurd cc
never true finds is other off = absurd cc
never false true is other off = absurd cc

pub returns-in_err-steps-clause-exact : goal.returns-in_err-steps-clause-exact
unfolding steps_outcome
returns-in_err-steps-clause-exact c =
    let z : SizedFace = record { face = c.self.inside.source.face.now; ppem = c.self.inside.source.ppem; fit = c.self.inside.source.fit } in
    let a = job_by z c.args.text.now c.args.margin in
    let p = err_from_is_err_and c.from_residual-in_err-steps.result c.from_residual-in_err-steps.ensures.1 in
    let stopped = rw (← c.self.view_is) at c.in_err-steps.ensures.exact in
    rw (p.1, p.2, ← c.self.view_is) (steps_stop_size z.face a c.in_err-steps.field-0.0
    (passed (goal.at.returns-in_err-steps-clause-exact c).In_ok-test_text) stopped)

pub returns-in_err-steps-clause-memory : goal.returns-in_err-steps-clause-memory
returns-in_err-steps-clause-memory c =
    let some = rw (c.reads_glyphs.ensures, ← c.self.view_is) at c.if-reads_glyphs.true in
    rw (← c.self.view_is) (λ none. absurd (never _ _ some none.0 none.1))

pub returns-in_err-steps-clause-defects : goal.returns-in_err-steps-clause-defects
returns-in_err-steps-clause-defects c =
    let p = err_from_is_err_and c.from_residual-in_err-steps.result c.from_residual-in_err-steps.ensures.1 in
    let z : SizedFace = record { face = c.self.inside.source.face.now; ppem = c.self.inside.source.ppem; fit = c.self.inside.source.fit } in
    let r : Result (Vec (ℕ × ℕ) Global) DrawFault = Err c.in_err-steps.field-0.0 in
    rw (p.1, p.2, ← c.self.view_is) (at_margin z c.args.text.now 0 c.args.margin (text_glyphs z.face.cmap c.args.text.now) r
    (rw (← c.self.view_is) at c.in_err-steps.ensures.defects))

pub returns-in_err-size_by_steps-clause-exact : goal.returns-in_err-size_by_steps-clause-exact
unfolding steps_outcome
returns-in_err-size_by_steps-clause-exact c =
    let z : SizedFace = record { face = c.self.inside.source.face.now; ppem = c.self.inside.source.ppem; fit = c.self.inside.source.fit } in
    let a = job_by z c.args.text.now c.args.margin in
    let p = err_from_is_err_and c.from_residual-in_err-size_by_steps.result c.from_residual-in_err-size_by_steps.ensures.1 in
    let made = rw (← c.self.view_is) at c.in_ok-steps.ensures.exact in
    let refused = rw (c.metrics.ensures, c.deref.ensures.value) at c.in_err-size_by_steps.ensures.exact in
    rw (p.1, p.2, ← c.self.view_is) (size_is z.face a c.in_ok-steps.steps.items
    (passed (goal.at.returns-in_err-size_by_steps-clause-exact c).In_ok-test_text) made ∙ rw refused refl)

pub returns-in_err-size_by_steps-clause-defects : goal.returns-in_err-size_by_steps-clause-defects
returns-in_err-size_by_steps-clause-defects c =
    let p = err_from_is_err_and c.from_residual-in_err-size_by_steps.result c.from_residual-in_err-size_by_steps.ensures.1 in
    no_defect_of_job c.args.self.now c.args.text.now c.args.margin c.from_residual-in_err-size_by_steps.result
    c.in_err-size_by_steps.field-0.0 (rw (p.1, p.2) refl)

pub returns-then-reads_glyphs-clause-exact : goal.returns-then-reads_glyphs-clause-exact
unfolding steps_outcome
returns-then-reads_glyphs-clause-exact c =
    let z : SizedFace = record { face = c.self.inside.source.face.now; ppem = c.self.inside.source.ppem; fit = c.self.inside.source.fit } in
    let a = job_by z c.args.text.now c.args.margin in
    let made = rw (← c.self.view_is) at c.in_ok-steps.ensures.exact in
    let sized = rw (c.metrics.ensures, c.deref.ensures.value) at c.in_ok-size_by_steps.ensures.exact in
    rw (← c.self.view_is) (size_is z.face a c.in_ok-steps.steps.items
    (passed (goal.at.returns-then-reads_glyphs-clause-exact c).In_ok-test_text) made ∙ rw sized refl)

pub returns-then-reads_glyphs-clause-defects : goal.returns-then-reads_glyphs-clause-defects
returns-then-reads_glyphs-clause-defects c =
    let z : SizedFace = record { face = c.self.inside.source.face.now; ppem = c.self.inside.source.ppem; fit = c.self.inside.source.fit } in
    let r : Result (Vec (ℕ × ℕ) Global) DrawFault = Ok c.in_ok-steps.steps in
    rw (← c.self.view_is) (at_margin z c.args.text.now 0 c.args.margin (text_glyphs z.face.cmap c.args.text.now) r
    (rw (← c.self.view_is) at c.in_ok-steps.ensures.defects))

pub returns-in_err-size_by_advances-clause-exact : goal.returns-in_err-size_by_advances-clause-exact
returns-in_err-size_by_advances-clause-exact c =
    let z : SizedFace = record { face = c.self.inside.source.face.now; ppem = c.self.inside.source.ppem; fit = c.self.inside.source.fit } in
    let a = job_by z c.args.text.now c.args.margin in
    let p = err_from_is_err_and c.from_residual-in_err-size_by_advances.result c.from_residual-in_err-size_by_advances.ensures.1 in
    let none = neither (is_bounded z.fit) (finds_advances z.face) (rw (c.reads_glyphs.ensures, ← c.self.view_is) at c.if-reads_glyphs.false) in
    let refused = rw c.self.invariant.1 at c.in_err-size_by_advances.ensures.exact in
    rw (p.1, p.2, ← c.self.view_is) (size_by_its_advances z.face a
    (passed (goal.at.returns-in_err-size_by_advances-clause-exact c).In_ok-test_text) none.0 none.1 ∙ rw refused refl)

pub returns-in_err-size_by_advances-clause-defects : goal.returns-in_err-size_by_advances-clause-defects
returns-in_err-size_by_advances-clause-defects c =
    let p = err_from_is_err_and c.from_residual-in_err-size_by_advances.result c.from_residual-in_err-size_by_advances.ensures.1 in
    no_defect_of_job c.args.self.now c.args.text.now c.args.margin c.from_residual-in_err-size_by_advances.result
    c.in_err-size_by_advances.field-0.0 (rw (p.1, p.2) refl)

pub returns-clause-exact : goal.returns-clause-exact
returns-clause-exact c =
    let z : SizedFace = record { face = c.self.inside.source.face.now; ppem = c.self.inside.source.ppem; fit = c.self.inside.source.fit } in
    let a = job_by z c.args.text.now c.args.margin in
    let none = neither (is_bounded z.fit) (finds_advances z.face) (rw (c.reads_glyphs.ensures, ← c.self.view_is) at c.if-reads_glyphs.false) in
    let sized = rw c.self.invariant.1 at c.in_ok-size_by_advances.ensures.exact in
    rw (← c.self.view_is) (size_by_its_advances z.face a
    (passed (goal.at.returns-clause-exact c).In_ok-test_text) none.0 none.1 ∙ rw sized refl)

pub returns-clause-defects : goal.returns-clause-defects
returns-clause-defects c =
    let z : SizedFace = record { face = c.self.inside.source.face.now; ppem = c.self.inside.source.ppem; fit = c.self.inside.source.fit } in
    let none = neither (is_bounded z.fit) (finds_advances z.face) (rw (c.reads_glyphs.ensures, ← c.self.view_is) at c.if-reads_glyphs.false) in
    rw (← c.self.view_is, none.0) (plain_sound z.face (text_glyphs z.face.cmap c.args.text.now) none.1)
