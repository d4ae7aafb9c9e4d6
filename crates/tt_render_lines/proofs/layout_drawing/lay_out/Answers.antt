use Rattle.std.proofs.Common.{ap, inl, refl}
use Rattle.std.proofs.lemmas.Result.{err_from_is_err_and}
use Rattle.tt_core.specs.declared.draw_fault.DrawFault.TheVariants as draw
use Rattle.tt_strike.specs.Refusals.{as_job}
use Rattle.tt_render_lines.specs.declared.layout_answers.ReadyLayout.{ReadyLayout}
use Rattle.tt_render_lines.specs.LayoutTexts.{layout_answer}
use Rattle.tt_render_settings.specs.Settings.{asked_in, job_by, strike_by, strike_of}
use Rattle.tt_render_settings.proofs.FontLines.{face_file, font_opened, font_refused}
use Rattle.tt_render_lines.proofs.LayoutCalls.{layout_tells, none_by_layout}
use Rattle.tt_render_settings.proofs.OneText.{strike_stops, text_stops}
use Rattle.tt_render_lines.proofs.layout_drawing.lay_out.Goals as goal

pub returns-in_err-face-clause-outcome : goal.returns-in_err-face-clause-outcome
returns-in_err-face-clause-outcome c =
    let p = err_from_is_err_and c.from_residual.result c.from_residual.ensures.1 in
    let refused = font_refused c.args.setting.now c.args.file.now c.in_err-face.field-0.0 c.requires.size
    c.in_err-face.ensures.exact in
    rw (p.1, p.2) (inl (c.in_err-face.field-0.0, refl, refused))

pub returns-in_err-sized-clause-outcome : goal.returns-in_err-sized-clause-outcome
returns-in_err-sized-clause-outcome c =
    let a = c.args.setting.now in
    let text = c.args.text.now in
    let p = err_from_is_err_and c.from_residual-in_err-sized.result c.from_residual-in_err-sized.ensures.1 in
    rw (p.1, p.2) (strike_stops (λ t. layout_answer a t text) (strike_of a c.args.file.now) (job_by a text)
    (draw.Job c.in_err-sized.field-0.0) c.requires.tested (ap as_job c.in_err-sized.ensures.tested))

pub returns-in-Ok-clause-outcome : goal.returns-in-Ok-clause-outcome
returns-in-Ok-clause-outcome c =
    let a = c.args.setting.now in
    let face = c.in_ok-face.face in
    let opened = font_opened a c.args.file.now face c.requires.size c.in_ok-face.ensures.exact in
    let answers = rw c.in_ok-sized.ensures.exact at c.in-Ok.ensures.exact in
    (strike_by a face, opened, answers)

pub returns-clause-outcome : goal.returns-clause-outcome
returns-clause-outcome c =
    let a = c.args.setting.now in
    let text = c.args.text.now in
    let s = strike_by a c.in_ok-face.face in
    let refused = rw c.in_ok-sized.ensures.exact at c.in-Err.ensures.exact in
    rw c.texts_fault.ensures (text_stops ReadyLayout (λ t. layout_answer a t text) (strike_of a c.args.file.now) s
    c.in-Err.fault.refusal
    (font_opened a c.args.file.now c.in_ok-face.face c.requires.size c.in_ok-face.ensures.exact) refused
    c.in-Err.ensures.serves)

pub returns-in_err-face-clause-defects : goal.returns-in_err-face-clause-defects
returns-in_err-face-clause-defects c =
    let p = err_from_is_err_and c.from_residual.result c.from_residual.ensures.1 in
    rw (p.1, p.2) (inl c.in_err-face.ensures.fault)

pub returns-in_err-sized-clause-defects : goal.returns-in_err-sized-clause-defects
returns-in_err-sized-clause-defects c =
    let p = err_from_is_err_and c.from_residual-in_err-sized.result c.from_residual-in_err-sized.ensures.1 in
    rw (p.1, p.2) tt

pub returns-clause-defects : goal.returns-clause-defects
returns-clause-defects c =
    let stands = rw c.in_ok-sized.ensures.exact at c.in-Err.ensures.defects in
    rw c.texts_fault.ensures (layout_tells ReadyLayout c.args.setting.now c.args.text.now c.args.file.now
    c.in_ok-face.face c.in-Err.fault.refusal c.in_ok-face.ensures.exact stands c.in-Err.ensures.serves)

pub returns-in-Ok-clause-defects : goal.returns-in-Ok-clause-defects
returns-in-Ok-clause-defects c =
    let none = rw c.in_ok-sized.ensures.exact at c.in-Ok.ensures.defects in
    none_by_layout c.args.setting.now c.args.text.now c.args.file.now c.in_ok-face.face c.in_ok-face.ensures.exact
    c.in_ok-face.ensures.sound none

pub answer_layout-requires : goal.answer_layout-requires
answer_layout-requires c = record {
  file = rw c.in_ok-sized.ensures.exact
      (face_file c.args.file.now c.args.setting.now.opening (asked_in c.args.setting.now) c.in_ok-face.face c.in_ok-face.ensures.exact);
}
