use Rattle.std.proofs.Common.{◌∙◌, inl, refl}
use Rattle.std.proofs.lemmas.Result.{err_from_is_err_and}
use Rattle.tt_line.specs.Layout.{text_glyphs}
use Rattle.tt_render_lines.specs.declared.text_answers.ReadyText.{ReadyText}
use Rattle.tt_render_settings.specs.LinesDefects.{IsTextDefect}
use Rattle.tt_render_settings.specs.Settings.{asked_in, job_by, strike_by, strike_of}
use Rattle.tt_render_settings.specs.Texts.{text_answer}
use Rattle.tt_render_settings.proofs.FontLines.{face_file, font_opened, font_refused}
use Rattle.tt_render_settings.proofs.OneText.{most_aside, none_in_file, strike_stops, strike_tells, text_stops, text_tells}
use Rattle.tt_render_lines.proofs.drawing.draw.Goals as goal

pub returns-in_err-face-clause-outcome : goal.returns-in_err-face-clause-outcome
returns-in_err-face-clause-outcome c =
    let p = err_from_is_err_and c.from_residual.result c.from_residual.ensures.1 in
    let refused = font_refused c.args.setting.now c.args.file.now c.in_err-face.field-0.0 c.requires.size
    c.in_err-face.ensures.exact in
    rw (p.1, p.2) (inl (c.in_err-face.field-0.0, refl, refused))

pub returns-in_err-strike-clause-outcome : goal.returns-in_err-strike-clause-outcome
returns-in_err-strike-clause-outcome c =
    let a = c.args.setting.now in
    let text = c.args.text.now in
    let p = err_from_is_err_and c.from_residual-in_err-strike.result c.from_residual-in_err-strike.ensures.1 in
    rw (p.1, p.2) (strike_stops (λ t. text_answer a t text) (strike_of a c.args.file.now) (job_by a text)
    c.in_err-strike.field-0.0 c.requires.tested c.in_err-strike.ensures.tested)

pub returns-in-Ok-clause-outcome : goal.returns-in-Ok-clause-outcome
returns-in-Ok-clause-outcome c =
    let a = c.args.setting.now in
    let face = c.in_ok-face.face in
    let s = strike_by a face in
    let opened = font_opened a c.args.file.now face c.requires.size c.in_ok-face.ensures.exact in
    let answers = rw c.in_ok-strike.ensures.exact at c.in-Ok.ensures.exact in
    (s, opened, most_aside a s 0 c.args.text.now ∙ answers)

pub returns-clause-outcome : goal.returns-clause-outcome
returns-clause-outcome c =
    let a = c.args.setting.now in
    let text = c.args.text.now in
    let s = strike_by a c.in_ok-face.face in
    let refused = rw (c.in_ok-strike.ensures.exact, ← most_aside a s 0 text) at c.in-Err.ensures.exact
    in
    rw c.texts_fault.ensures (text_stops ReadyText (λ t. text_answer a t text) (strike_of a c.args.file.now) s c.in-Err.fault.refusal
    (font_opened a c.args.file.now c.in_ok-face.face c.requires.size c.in_ok-face.ensures.exact) refused
    c.in-Err.ensures.serves)

pub returns-in_err-face-clause-defects : goal.returns-in_err-face-clause-defects
returns-in_err-face-clause-defects c =
    let p = err_from_is_err_and c.from_residual.result c.from_residual.ensures.1 in
    rw (p.1, p.2) (inl c.in_err-face.ensures.fault)

pub returns-in_err-strike-clause-defects : goal.returns-in_err-strike-clause-defects
returns-in_err-strike-clause-defects c =
    let p = err_from_is_err_and c.from_residual-in_err-strike.result c.from_residual-in_err-strike.ensures.1 in
    rw (p.1, p.2) (strike_tells ReadyText (IsTextDefect text_glyphs c.args.setting.now c.args.text.now c.args.file.now)
    c.in_err-strike.field-0.0 c.in_err-strike.ensures.font)

pub returns-in-Ok-clause-defects : goal.returns-in-Ok-clause-defects
returns-in-Ok-clause-defects c =
    let none = rw c.in_ok-strike.ensures.exact at c.in-Ok.ensures.defects in
    none_in_file text_glyphs c.args.setting.now c.args.text.now c.args.file.now c.in_ok-face.face c.in_ok-face.ensures.exact
    c.in_ok-face.ensures.sound none

pub returns-clause-defects : goal.returns-clause-defects
returns-clause-defects c =
    let stands = rw c.in_ok-strike.ensures.exact at c.in-Err.ensures.defects in
    rw c.texts_fault.ensures (text_tells ReadyText text_glyphs c.args.setting.now c.args.text.now c.args.file.now
    c.in_ok-face.face c.in-Err.fault.refusal c.in_ok-face.ensures.exact stands c.in-Err.ensures.serves)

pub answer_text-requires : goal.answer_text-requires
answer_text-requires c = record {
  file = rw c.in_ok-strike.ensures.exact
      (face_file c.args.file.now c.args.setting.now.opening (asked_in c.args.setting.now) c.in_ok-face.face c.in_ok-face.ensures.exact);
}
