use Rattle.std.proofs.Common.{ℕ, List, ap, inl, inr, subst}
use Rattle.std.proofs.lemmas.Result.{err_from_is_err_and}
use Rattle.tt_line.specs.Layout.{text_glyphs}
use Rattle.tt_render_settings.specs.LinesDefects.{LinesTellDefects}
use Rattle.tt_render_streams.specs.Reading.{FontIsRead, FontIsUnread, font_reader_of}
use Rattle.tt_render_settings.specs.Settings.{IsOpeningDefect, asked_in, strike_by, strike_of}
use Rattle.tt_render_streams.proofs.Known.{known_of}
use Rattle.tt_render_settings.proofs.DrawnLines.{kept_within}
use Rattle.tt_render_settings.proofs.DefectLines.{lines_tell, reading_tells, setting_tells, strike_tells}
use Rattle.tt_render_settings.proofs.FontLines.{face_file, font_opened, font_refused, idle, reading_stops, strike_stops}
use Rattle.tt_render_texts.proofs.Printed.{keeps_itself}
use Rattle.tt_render_lines.specs.declared.drawing.LinesDrawn.{LinesDrawn}
use Rattle.tt_render_lines.proofs.drawing.draw_lines.Goals as goal
use Rattle.tt_strike.specs.Strikes.{Strike}

pub returns-in_err-test_setting-clause-outcome : goal.returns-in_err-test_setting-clause-outcome
returns-in_err-test_setting-clause-outcome g c =
    let p = err_from_is_err_and c.from_residual.result c.from_residual.ensures.1 in
    let rest = idle (g.R.Source.left c.args.lines.now) (g.W.Sink.written c.args.out.now)
    (g.E.Sink.written c.args.error.now) (g.R.Source.has_failed c.args.lines.now)
    (g.W.Sink.has_failed c.args.out.now) (g.E.Sink.has_failed c.args.error.now) c.requires.lines c.requires.out
    c.requires.error in
    let unread : FontIsUnread (font_reader_of g.F.Source.left g.F.Source.has_failed c.args.font.now c.args.font.now) =
    (keeps_itself (g.F.Source.left c.args.font.now), c.requires.font) in
    rw (p.1, p.2) (inl ((c.in_err-test_setting.ensures, unread), rest))

pub returns-in_err-file-clause-outcome : goal.returns-in_err-file-clause-outcome
returns-in_err-file-clause-outcome g c =
    let left = g.F.Source.left in
    let p = err_from_is_err_and c.from_residual-in_err-file.result c.from_residual-in_err-file.ensures.1 in
    let rest = idle (g.R.Source.left c.args.lines.now) (g.W.Sink.written c.args.out.now)
    (g.E.Sink.written c.args.error.now) (g.R.Source.has_failed c.args.lines.now)
    (g.W.Sink.has_failed c.args.out.now) (g.E.Sink.has_failed c.args.error.now) c.requires.lines c.requires.out
    c.requires.error in
    let stops = reading_stops LinesDrawn _ (strike_of c.args.setting.now) c.in_err-file.field-0.0 (left c.args.font.now)
    (left c.read_font.new.font) (g.F.Source.has_failed c.read_font.new.font) c.in_ok-test_setting.ensures
    c.in_err-file.ensures in
    rw (p.1, p.2) (inl (stops, rest))

pub returns-in_err-face-clause-outcome : goal.returns-in_err-face-clause-outcome
returns-in_err-face-clause-outcome g c =
    let file = c.in_ok-file in
    let p = err_from_is_err_and c.from_residual-in_err-face.result c.from_residual-in_err-face.ensures.1 in
    let rest = idle (g.R.Source.left c.args.lines.now) (g.W.Sink.written c.args.out.now)
    (g.E.Sink.written c.args.error.now) (g.R.Source.has_failed c.args.lines.now)
    (g.W.Sink.has_failed c.args.out.now) (g.E.Sink.has_failed c.args.error.now) c.requires.lines c.requires.out
    c.requires.error in
    let there = rw c.deref.ensures.value at c.in_err-face.ensures.exact in
    let refused = font_refused c.args.setting.now file.file.items c.in_err-face.field-0.0 file.ensures.2 there in
    let f = font_reader_of g.F.Source.left g.F.Source.has_failed c.args.font.now c.read_font.new.font in
    let read : FontIsRead f file.file.items = (file.ensures.0, file.ensures.1, file.ensures.3) in
    rw (p.1, p.2) (inl ((c.in_ok-test_setting.ensures, file.file.items, read, refused), rest))

pub returns-in_err-strike-clause-outcome : goal.returns-in_err-strike-clause-outcome
returns-in_err-strike-clause-outcome g c =
    let file = c.in_ok-file in
    let p = err_from_is_err_and c.from_residual-in_err-strike.result c.from_residual-in_err-strike.ensures.1 in
    let rest = idle (g.R.Source.left c.args.lines.now) (g.W.Sink.written c.args.out.now)
    (g.E.Sink.written c.args.error.now) (g.R.Source.has_failed c.args.lines.now)
    (g.W.Sink.has_failed c.args.out.now) (g.E.Sink.has_failed c.args.error.now) c.requires.lines c.requires.out
    c.requires.error in
    let f = font_reader_of g.F.Source.left g.F.Source.has_failed c.args.font.now c.read_font.new.font in
    let stops = strike_stops LinesDrawn c.args.setting.now (strike_of c.args.setting.now) c.in_err-strike.field-0.0 f
    file.file.items c.in_ok-test_setting.ensures (file.ensures.0, file.ensures.1, file.ensures.3)
    c.in_err-strike.ensures.tested in
    rw (p.1, p.2) (inl (stops, rest))

pub returns-clause-outcome : goal.returns-clause-outcome
returns-clause-outcome g c =
    let a = c.args.setting.now in
    let file = c.in_ok-file in
    let there = rw c.deref.ensures.value at c.in_ok-face.ensures.exact in
    let opened = font_opened a file.file.items c.in_ok-face.face file.ensures.2 there in
    let f = font_reader_of g.F.Source.left g.F.Source.has_failed c.args.font.now c.read_font.new.font in
    let read : FontIsRead f file.file.items = (file.ensures.0, file.ensures.1, file.ensures.3) in
    let gives = rw c.in_ok-strike.ensures.exact at c.draw_lines_by.ensures.outcome in
    inr (c.in_ok-test_setting.ensures, file.file.items, read, strike_by a c.in_ok-face.face, opened, gives)

pub returns-in_err-test_setting-clause-defects : goal.returns-in_err-test_setting-clause-defects
returns-in_err-test_setting-clause-defects g c =
    let p = err_from_is_err_and c.from_residual.result c.from_residual.ensures.1 in
    rw (p.1, p.2) (setting_tells LinesDrawn text_glyphs (g.F.Source.left c.args.font.now) c.args.setting.now
    (g.R.Source.left c.args.lines.now) c.in_err-test_setting.field-0.0)

pub returns-in_err-file-clause-defects : goal.returns-in_err-file-clause-defects
returns-in_err-file-clause-defects g c =
    let left = g.F.Source.left in
    let p = err_from_is_err_and c.from_residual-in_err-file.result c.from_residual-in_err-file.ensures.1 in
    rw (p.1, p.2) (reading_tells LinesDrawn text_glyphs c.in_err-file.field-0.0 (left c.args.font.now) (left c.read_font.new.font)
    (g.F.Source.has_failed c.read_font.new.font) c.args.setting.now (g.R.Source.left c.args.lines.now)
    c.in_err-file.ensures)

pub returns-in_err-face-clause-defects : goal.returns-in_err-face-clause-defects
returns-in_err-face-clause-defects g c =
    let left = g.F.Source.left in
    let file = c.in_ok-file in
    let fault = c.in_err-face.field-0.0 in
    let p = err_from_is_err_and c.from_residual-in_err-face.result c.from_residual-in_err-face.ensures.1 in
    let Tells : List ℕ → Type 0 = λ bytes. IsOpeningDefect c.args.setting.now bytes fault in
    rw (p.1, p.2) (known_of (left c.args.font.now) (left c.read_font.new.font) file.file.items Tells file.ensures.0
    file.ensures.1 (subst Tells c.deref.ensures.value c.in_err-face.ensures.fault))

pub returns-in_err-strike-clause-defects : goal.returns-in_err-strike-clause-defects
returns-in_err-strike-clause-defects g c =
    let p = err_from_is_err_and c.from_residual-in_err-strike.result c.from_residual-in_err-strike.ensures.1 in
    rw (p.1, p.2) (strike_tells LinesDrawn text_glyphs (g.F.Source.left c.args.font.now) c.args.setting.now
    (g.R.Source.left c.args.lines.now) c.in_err-strike.field-0.0 c.in_err-strike.ensures.font)

pub returns-clause-defects : goal.returns-clause-defects
returns-clause-defects g c =
    let a = c.args.setting.now in
    let left = g.F.Source.left in
    let text = g.R.Source.left c.args.lines.now in
    let file = c.in_ok-file in
    let there = rw c.deref.ensures.value at c.in_ok-face.ensures.exact in
    let tells = rw c.in_ok-strike.ensures.exact at c.draw_lines_by.ensures.defects in
    known_of (left c.args.font.now) (left c.read_font.new.font) file.file.items
    (LinesTellDefects text_glyphs a text c.draw_lines_by.result) file.ensures.0 file.ensures.1
    (lines_tell text_glyphs a file.file.items c.in_ok-face.face text c.draw_lines_by.result there tells)

pub returns-clause-kept : goal.returns-clause-kept
returns-clause-kept g c =
    kept_within (λ drawn. drawn.kept) c.draw_lines_by.result c.in_ok-strike.strike.most c.args.setting.now.most
    (ap (λ (s : Strike). s.most) c.in_ok-strike.ensures.exact) c.draw_lines_by.ensures.kept

pub draw_lines_by-requires-clause-file : goal.draw_lines_by-requires-clause-file
draw_lines_by-requires-clause-file g c =
    rw (c.deref-2.ensures.value, c.in_ok-strike.ensures.exact)
    (face_file c.in_ok-file.file.items c.args.setting.now.opening (asked_in c.args.setting.now) c.in_ok-face.face
    (rw c.deref.ensures.value at c.in_ok-face.ensures.exact))
