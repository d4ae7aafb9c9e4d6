use Rattle.std.proofs.lemmas.Result.{err_from_is_err_and}
use Rattle.tt_render_settings.proofs.OneText.{output_serves, output_tells}
use Rattle.tt_bitmap_font.specs.declared.answers.ReadyFile.{ReadyFile}
use Rattle.tt_bitmap_font.specs.FontFiles.{IsGlyphsDefect}
use Rattle.tt_bitmap_font.proofs.Files.{answer_made, bitmaps_stop}
use Rattle.tt_bitmap_font.proofs.answers.answer_file.Goals as goal

pub returns-in_err-bitmaps-clause-exact : goal.returns-in_err-bitmaps-clause-exact
returns-in_err-bitmaps-clause-exact c =
    let p = err_from_is_err_and c.from_residual.result c.from_residual.ensures.1 in
    rw (p.1, p.2) (bitmaps_stop c.args.asked.now c.args.face.now c.in_err-bitmaps.field-0.0 c.in_err-bitmaps.ensures.exact)

pub returns-in_err-bitmaps-clause-serves : goal.returns-in_err-bitmaps-clause-serves
returns-in_err-bitmaps-clause-serves c =
    let p = err_from_is_err_and c.from_residual.result c.from_residual.ensures.1 in
    rw (p.1, p.2) (output_serves ReadyFile c.in_err-bitmaps.field-0.0)

pub returns-in_err-bitmaps-clause-defects : goal.returns-in_err-bitmaps-clause-defects
returns-in_err-bitmaps-clause-defects c =
    let p = err_from_is_err_and c.from_residual.result c.from_residual.ensures.1 in
    rw (p.1, p.2) (output_tells (IsGlyphsDefect c.args.asked.now c.args.face.now) c.in_err-bitmaps.field-0.0 c.in_err-bitmaps.ensures.defects)

pub returns-clause-exact : goal.returns-clause-exact
returns-clause-exact c =
    let is = answer_made c.args.asked.now c.args.face.now _ c.in_ok-bitmaps.ensures.exact in
    rw (c.in_ok-made.ensures.text, c.in_ok-made.ensures.unfitted, c.deref.ensures.value, c.in_ok-lacking.ensures, c.cmap.ensures.exact, c.in_ok-notes.ensures, c.requires.file) is
