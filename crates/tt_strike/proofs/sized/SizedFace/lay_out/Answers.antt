use Rattle.std.proofs.Common.{◌≡◌, ◌∙◌, Ok, Err, refl}
use Rattle.std.proofs.lemmas.Result.{err_from_is_err_and}
use Rattle.tt_advances.proofs.Advances.{plain_sound}
use Rattle.tt_line.specs.Layout.{text_glyphs}
use Rattle.tt_line.specs.Outcome.{placement_of}
use Rattle.tt_strike.specs.declared.laid.Laid.{Laid}
use Rattle.tt_strike.specs.Job.{tested}
use Rattle.tt_strike.specs.Strikes.{job_by}
use Rattle.tt_strike.proofs.Placed.{placed_by_advances}
use Rattle.tt_strike.proofs.Stopped.{found_as_placed, found_tells, laid_as_placed, laying_tells, laying_tells_no_defect, tested_at}
use Rattle.tt_strike.proofs.sized.SizedFace.lay_out.Goals.{In_ok-test_text}
use Rattle.tt_strike.proofs.sized.SizedFace.lay_out.Goals as goal

-- the text and its margin are tested
passed : (c : In_ok-test_text) → tested (job_by c.args.self.now c.args.text.now c.args.margin) ≡ Ok tt
passed c =
    tested_at c.args.self.now c.args.text.now c.args.margin (rw c.ppem-ppem.ensures.exact at c.ppem-ppem.ensures.some) (rw c.ppem-ppem.ensures.exact at c.ppem-ppem.ensures.limit)
    ∙ rw (c.in_ok-test_margin.ensures.exact, c.in_ok-test_text.ensures.exact) refl

pub returns-in_err-test_margin-clause-exact : goal.returns-in_err-test_margin-clause-exact
returns-in_err-test_margin-clause-exact c =
    let p = err_from_is_err_and c.from_residual.result c.from_residual.ensures.1 in
    let at = tested_at c.args.self.now c.args.text.now c.args.margin (rw c.ppem-ppem.ensures.exact at c.ppem-ppem.ensures.some) (rw c.ppem-ppem.ensures.exact at c.ppem-ppem.ensures.limit) in
    rw (p.1, p.2, at, c.in_err-test_margin.ensures.exact) refl

pub returns-in_err-test_margin-clause-defects : goal.returns-in_err-test_margin-clause-defects
returns-in_err-test_margin-clause-defects c =
    let p = err_from_is_err_and c.from_residual.result c.from_residual.ensures.1 in
    rw (p.1, p.2) tt

pub returns-in_err-test_margin-clause-job : goal.returns-in_err-test_margin-clause-job
returns-in_err-test_margin-clause-job c =
    let p = err_from_is_err_and c.from_residual.result c.from_residual.ensures.1 in
    let refused = c.in_err-test_margin.ensures.refused in
    rw (p.1, p.2, refused.0) refused.1

pub returns-in_err-test_text-clause-exact : goal.returns-in_err-test_text-clause-exact
returns-in_err-test_text-clause-exact c =
    let p = err_from_is_err_and c.from_residual-in_err-test_text.result c.from_residual-in_err-test_text.ensures.1 in
    let at = tested_at c.args.self.now c.args.text.now c.args.margin (rw c.ppem-ppem.ensures.exact at c.ppem-ppem.ensures.some) (rw c.ppem-ppem.ensures.exact at c.ppem-ppem.ensures.limit) in
    rw (p.1, p.2, at, c.in_ok-test_margin.ensures.exact, c.in_err-test_text.ensures.exact) refl

pub returns-in_err-test_text-clause-defects : goal.returns-in_err-test_text-clause-defects
returns-in_err-test_text-clause-defects c =
    let p = err_from_is_err_and c.from_residual-in_err-test_text.result c.from_residual-in_err-test_text.ensures.1 in
    rw (p.1, p.2) tt

pub returns-in_err-test_text-clause-job : goal.returns-in_err-test_text-clause-job
returns-in_err-test_text-clause-job c =
    let p = err_from_is_err_and c.from_residual-in_err-test_text.result c.from_residual-in_err-test_text.ensures.1 in
    let refused = c.in_err-test_text.ensures.refused in
    rw (p.1, p.2, refused.0) refused.1

-- at an instance without HVAR
pub returns-then-finds_advances-clause-exact : goal.returns-then-finds_advances-clause-exact
returns-then-finds_advances-clause-exact c =
    let z = c.args.self.now in
    found_as_placed (λ (l : Laid). placement_of l.line) (job_by z c.args.text.now c.args.margin) z.face c.lay_found.result
    (passed (goal.at.returns-then-finds_advances-clause-exact c).In_ok-test_text) c.requires.unbounded c.lay_found.ensures.exact

pub returns-then-finds_advances-clause-job : goal.returns-then-finds_advances-clause-job
returns-then-finds_advances-clause-job c =
    let z = c.args.self.now in
    found_tells (job_by z c.args.text.now c.args.margin) z.face c.lay_found.result c.requires.unbounded c.lay_found.ensures.job

-- and elsewhere
pub returns-in_err-line-clause-exact : goal.returns-in_err-line-clause-exact
returns-in_err-line-clause-exact c =
    let z = c.args.self.now in
    let off = rw c.finds_advances.ensures at c.if-finds_advances.false in
    let p = err_from_is_err_and c.from_residual-in_err-line.result c.from_residual-in_err-line.ensures.1 in
    rw (p.1, p.2) (laid_as_placed (job_by z c.args.text.now c.args.margin) z.face (Err c.in_err-line.field-0.0)
    (passed (goal.at.returns-in_err-line-clause-exact c).In_ok-test_text) c.requires.unbounded off c.in_err-line.ensures.exact)

pub returns-in_err-line-clause-defects : goal.returns-in_err-line-clause-defects
returns-in_err-line-clause-defects c =
    let p = err_from_is_err_and c.from_residual-in_err-line.result c.from_residual-in_err-line.ensures.1 in
    rw (p.1, p.2) (laying_tells_no_defect _ (Err c.in_err-line.field-0.0) _ c.in_err-line.ensures.exact)

pub returns-in_err-line-clause-job : goal.returns-in_err-line-clause-job
returns-in_err-line-clause-job c =
    let z = c.args.self.now in
    let off = rw c.finds_advances.ensures at c.if-finds_advances.false in
    let p = err_from_is_err_and c.from_residual-in_err-line.result c.from_residual-in_err-line.ensures.1 in
    rw (p.1, p.2) (laying_tells (job_by z c.args.text.now c.args.margin) z.face (Err c.in_err-line.field-0.0) c.requires.unbounded off
    c.in_err-line.ensures.fault)

pub returns-clause-exact : goal.returns-clause-exact
returns-clause-exact c =
    let z = c.args.self.now in
    let off = rw c.finds_advances.ensures at c.if-finds_advances.false in
    rw (
      passed (goal.at.returns-clause-exact c).In_ok-test_text,
      placed_by_advances z.face (job_by z c.args.text.now c.args.margin) c.requires.unbounded off,
      c.in_ok-line.ensures.exact,
    ) refl

pub returns-clause-defects : goal.returns-clause-defects
returns-clause-defects c =
    let z = c.args.self.now in
    let off = rw c.finds_advances.ensures at c.if-finds_advances.false in
    plain_sound z.face (text_glyphs z.face.cmap c.args.text.now) off
