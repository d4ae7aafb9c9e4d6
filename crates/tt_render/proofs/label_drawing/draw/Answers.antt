use Rattle.std.proofs.Common.{◌∙◌, ap, inl, refl}
use Rattle.std.proofs.lemmas.Result.{err_from_is_err_and}
use Rattle.tt_render.specs.Labels.{composed_glyphs}
use Rattle.tt_render.specs.declared.label_answers.ReadyLabel.{ReadyLabel}
use Rattle.tt_render.specs.Labels.{label_answer, label_notes}
use Rattle.tt_render_settings.specs.LinesDefects.{IsTextDefect}
use Rattle.tt_render_settings.specs.Settings.{asked_in, job_by, strike_by, strike_of}
use Rattle.tt_render_settings.proofs.FontLines.{face_file, font_opened, font_refused}
use Rattle.tt_render_settings.proofs.OneText.{none_in_file, strike_stops, strike_tells, text_stops, text_tells}
use Rattle.tt_render.proofs.LabelLines.{most_aside}
use Rattle.tt_render.proofs.label_drawing.draw.Goals as goal

pub returns-in_err-face-clause-outcome : goal.returns-in_err-face-clause-outcome
returns-in_err-face-clause-outcome c =
    let p = err_from_is_err_and c.from_residual.result c.from_residual.ensures.1 in
    let refused = font_refused c.args.asked.now.setting c.args.file.now c.in_err-face.field-0.0 c.requires.size
    c.in_err-face.ensures.exact in
    rw (p.1, p.2) (inl (c.in_err-face.field-0.0, refl, refused))

pub returns-in_err-strike-clause-outcome : goal.returns-in_err-strike-clause-outcome
returns-in_err-strike-clause-outcome c =
    let l = c.args.asked.now in
    let text = c.args.text.now in
    let p = err_from_is_err_and c.from_residual-in_err-strike.result c.from_residual-in_err-strike.ensures.1 in
    rw (p.1, p.2) (strike_stops (λ t. label_answer l t text) (strike_of l.setting c.args.file.now) (job_by l.setting text)
    c.in_err-strike.field-0.0 c.requires.tested c.in_err-strike.ensures.tested)

pub returns-in-Ok-clause-outcome : goal.returns-in-Ok-clause-outcome
returns-in-Ok-clause-outcome c =
    let l = c.args.asked.now in
    let face = c.in_ok-face.face in
    let s = strike_by l.setting face in
    let opened = font_opened l.setting c.args.file.now face c.requires.size c.in_ok-face.ensures.exact in
    let answers = rw c.in_ok-strike.ensures.exact at c.in-Ok.ensures.exact in
    (s, opened, most_aside l s 0 c.args.text.now ∙ answers)

pub returns-clause-outcome : goal.returns-clause-outcome
returns-clause-outcome c =
    let l = c.args.asked.now in
    let text = c.args.text.now in
    let s = strike_by l.setting c.in_ok-face.face in
    let refused = rw (c.in_ok-strike.ensures.exact, ← most_aside l s 0 text) at c.in-Err.ensures.exact in
    rw c.texts_fault.ensures (text_stops ReadyLabel (λ t. label_answer l t text) (strike_of l.setting c.args.file.now) s
    c.in-Err.fault.refusal
    (font_opened l.setting c.args.file.now c.in_ok-face.face c.requires.size c.in_ok-face.ensures.exact) refused
    c.in-Err.ensures.serves)

pub returns-in_err-face-clause-defects : goal.returns-in_err-face-clause-defects
returns-in_err-face-clause-defects c = λ sized.
    let p = err_from_is_err_and c.from_residual.result c.from_residual.ensures.1 in
    rw (p.1, p.2) (inl c.in_err-face.ensures.fault)

pub returns-in_err-strike-clause-defects : goal.returns-in_err-strike-clause-defects
returns-in_err-strike-clause-defects c = λ sized.
    let p = err_from_is_err_and c.from_residual-in_err-strike.result c.from_residual-in_err-strike.ensures.1 in
    rw (p.1, p.2) (strike_tells ReadyLabel (IsTextDefect composed_glyphs c.args.asked.now.setting c.args.text.now c.args.file.now)
    c.in_err-strike.field-0.0 c.in_err-strike.ensures.font)

pub returns-in-Ok-clause-defects : goal.returns-in-Ok-clause-defects
returns-in-Ok-clause-defects c = λ sized.
    let none = rw c.in_ok-strike.ensures.exact at (c.in-Ok.ensures.defects sized) in
    none_in_file composed_glyphs c.args.asked.now.setting c.args.text.now c.args.file.now c.in_ok-face.face
    c.in_ok-face.ensures.exact c.in_ok-face.ensures.sound none

pub returns-clause-defects : goal.returns-clause-defects
returns-clause-defects c = λ sized.
    let stands = rw c.in_ok-strike.ensures.exact at (c.in-Err.ensures.defects sized) in
    rw c.texts_fault.ensures (text_tells ReadyLabel composed_glyphs c.args.asked.now.setting c.args.text.now c.args.file.now
    c.in_ok-face.face c.in-Err.fault.refusal c.in_ok-face.ensures.exact stands c.in-Err.ensures.serves)

pub answer_label-requires : goal.answer_label-requires
answer_label-requires c =
    let l = c.args.asked.now in
    let file = face_file c.args.file.now l.setting.opening (asked_in l.setting) c.in_ok-face.face c.in_ok-face.ensures.exact in
    record { notes = rw c.in_ok-strike.ensures.exact (c.requires.notes ∙ ap (λ bytes. label_notes l bytes) file) }
