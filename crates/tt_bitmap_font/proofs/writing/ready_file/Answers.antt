use Rattle.std.proofs.Common.{inl, refl}
use Rattle.std.proofs.lemmas.Result.{err_from_is_err_and}
use Rattle.tt_render_settings.proofs.FontLines.{face_file, font_opened, font_refused}
use Rattle.tt_render_settings.proofs.OneText.{none_in_file, text_stops, text_tells}
use Rattle.tt_render_settings.specs.Settings.{asked_in, strike_by, strike_of}
use Rattle.tt_bitmap_font.specs.Characters.{file_glyphs}
use Rattle.tt_bitmap_font.specs.declared.answers.ReadyFile.{ReadyFile}
use Rattle.tt_bitmap_font.specs.FontFiles.{bdf_outcome, setting_of}
use Rattle.tt_bitmap_font.proofs.writing.ready_file.Goals as goal

pub answer_file-requires-clause-file : goal.answer_file-requires-clause-file
answer_file-requires-clause-file c =
    face_file c.args.file.now c.opening.result (asked_in (setting_of c.args.asked.now)) c.in_ok-face.face c.in_ok-face.ensures.exact

pub returns-in_err-face-clause-outcome : goal.returns-in_err-face-clause-outcome
returns-in_err-face-clause-outcome c =
    let p = err_from_is_err_and c.from_residual.result c.from_residual.ensures.1 in
    let refused = font_refused (setting_of c.args.asked.now) c.args.file.now c.in_err-face.field-0.0 c.requires.font
    (rw c.opening.ensures at c.in_err-face.ensures.exact) in
    rw (p.1, p.2) (inl (c.in_err-face.field-0.0, refl, refused))

pub returns-in-Ok-clause-outcome : goal.returns-in-Ok-clause-outcome
returns-in-Ok-clause-outcome c =
    let a = setting_of c.args.asked.now in
    let face = c.in_ok-face.face in
    let opened = font_opened a c.args.file.now face c.requires.font (rw c.opening.ensures at c.in_ok-face.ensures.exact) in
    (strike_by a face, opened, c.in-Ok.ensures.exact)

pub returns-in-Err-clause-outcome : goal.returns-in-Err-clause-outcome
returns-in-Err-clause-outcome c =
    let a = setting_of c.args.asked.now in
    let face = c.in_ok-face.face in
    text_stops ReadyFile (λ t. bdf_outcome c.args.asked.now t.face) (strike_of a c.args.file.now) (strike_by a face)
    c.in-Err.fault.refusal (font_opened a c.args.file.now face c.requires.font (rw c.opening.ensures at c.in_ok-face.ensures.exact)) c.in-Err.ensures.exact
    c.in-Err.ensures.serves

pub returns-in_err-face-clause-defects : goal.returns-in_err-face-clause-defects
returns-in_err-face-clause-defects c =
    let p = err_from_is_err_and c.from_residual.result c.from_residual.ensures.1 in
    rw (p.1, p.2) (inl (rw c.opening.ensures at c.in_err-face.ensures.fault))

pub returns-in-Ok-clause-defects : goal.returns-in-Ok-clause-defects
returns-in-Ok-clause-defects c =
    none_in_file (file_glyphs c.args.asked.now.ranges.now) (setting_of c.args.asked.now) c.args.asked.now.text.now
    c.args.file.now c.in_ok-face.face (rw c.opening.ensures at c.in_ok-face.ensures.exact) (rw c.opening.ensures at c.in_ok-face.ensures.sound) c.in-Ok.ensures.defects

pub returns-in-Err-clause-defects : goal.returns-in-Err-clause-defects
returns-in-Err-clause-defects c =
    text_tells ReadyFile (file_glyphs c.args.asked.now.ranges.now) (setting_of c.args.asked.now) c.args.asked.now.text.now
    c.args.file.now c.in_ok-face.face c.in-Err.fault.refusal (rw c.opening.ensures at c.in_ok-face.ensures.exact) c.in-Err.ensures.defects
    c.in-Err.ensures.serves
