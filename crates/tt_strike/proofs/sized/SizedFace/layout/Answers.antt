use Rattle.std.proofs.Common.{Result, Ok, Err, refl}
use Rattle.std.proofs.lemmas.Result.{err_from_is_err_and}
use Rattle.tt_core.specs.declared.draw_fault.DrawFault.{DrawFault}
use Rattle.tt_line.specs.declared.measured.LineSize.{LineSize}
use Rattle.tt_line.specs.Layout.{text_glyphs}
use Rattle.tt_strike.specs.declared.layouts.Layout.{Layout}
use Rattle.tt_strike.specs.Layouts.{HasLayoutDefect, layout_outcome, size_outcome}
use Rattle.tt_strike.specs.Strikes.{job_by}
use Rattle.tt_strike.proofs.Stopped.{stops}
use Rattle.tt_strike.proofs.TextSteps.{sound_on, told_on}
use Rattle.tt_strike.proofs.sized.SizedFace.layout.Goals as goal

pub returns-in_err-size-clause-exact : goal.returns-in_err-size-clause-exact
unfolding layout_outcome
returns-in_err-size-clause-exact c =
    let p = err_from_is_err_and c.from_residual.result c.from_residual.ensures.1 in
    let face = c.args.self.now.face in
    let a = job_by c.args.self.now c.args.text.now c.args.margin in
    rw (p.1, p.2) (stops c.in_err-size.field-0.0 (size_outcome face a) (layout_outcome face a) (λ r fails. rw fails refl)
    c.in_err-size.ensures.exact)

pub returns-in_err-size-clause-memory : goal.returns-in_err-size-clause-memory
returns-in_err-size-clause-memory c =
    let p = err_from_is_err_and c.from_residual.result c.from_residual.ensures.1 in
    rw (p.1, p.2) c.in_err-size.ensures.memory

pub returns-in_err-size-clause-defects : goal.returns-in_err-size-clause-defects
returns-in_err-size-clause-defects c =
    let p = err_from_is_err_and c.from_residual.result c.from_residual.ensures.1 in
    let z = c.args.self.now in
    let IsOne = HasLayoutDefect z.face (job_by z c.args.text.now c.args.margin) (text_glyphs z.face.cmap c.args.text.now) in
    let r : Result LineSize DrawFault = Err c.in_err-size.field-0.0 in
    told_on IsOne r c.from_residual.result c.in_err-size.field-0.0 refl (rw (p.1, p.2) refl)
    c.in_err-size.ensures.defects

pub returns-clause-exact : goal.returns-clause-exact
unfolding layout_outcome
returns-clause-exact c =
    rw (c.in_ok-size.ensures.exact, c.layout_by.ensures, c.cmap.ensures.exact, c.face-face.ensures) refl

pub returns-clause-defects : goal.returns-clause-defects
returns-clause-defects c =
    let z = c.args.self.now in
    let IsOne = HasLayoutDefect z.face (job_by z c.args.text.now c.args.margin) (text_glyphs z.face.cmap c.args.text.now) in
    let r : Result LineSize DrawFault = Ok c.in_ok-size.size in
    let q : Result Layout DrawFault = Ok c.layout_by.result in
    sound_on IsOne r q c.in_ok-size.size c.layout_by.result refl refl c.in_ok-size.ensures.defects
