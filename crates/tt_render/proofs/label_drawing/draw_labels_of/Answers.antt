use Rattle.std.proofs.Common.{Option, Some, ap, inl, inr}
use Rattle.tt_render_texts.specs.declared.refusal.TextsFault.{TextsFault}
use Rattle.std.proofs.lemmas.Result.{err_from_is_err_and}
use Rattle.tt_render.specs.Labels.{composed_glyphs}
use Rattle.tt_render.specs.Labels.{label_notes}
use Rattle.tt_render_settings.specs.Settings.{asked_in, strike_by, strike_of}
use Rattle.tt_render_settings.proofs.DefectLines.{lines_tell, strike_tells}
use Rattle.tt_render_settings.proofs.FontLines.{face_file, font_opened, font_refused, idle}
use Rattle.tt_render.proofs.LabelCalls.{strike_unopened}
use Rattle.tt_render.proofs.label_drawing.draw_labels_of.Goals as goal

pub returns-in_err-face-clause-outcome : goal.returns-in_err-face-clause-outcome
returns-in_err-face-clause-outcome g c =
    let p = err_from_is_err_and c.from_residual.result c.from_residual.ensures.1 in
    let rest = idle (g.R.Source.left c.args.lines.now) (g.P.Pictures.written c.args.out.now)
    (g.E.Sink.written c.args.error.now) (g.R.Source.has_failed c.args.lines.now)
    (g.P.Pictures.has_failed c.args.out.now) (g.E.Sink.has_failed c.args.error.now) c.requires.lines c.requires.out
    c.requires.error in
    let refused = font_refused c.args.asked.now.setting c.args.file.now c.in_err-face.field-0.0 c.requires.size
    c.in_err-face.ensures.exact in
    rw (p.1, p.2) (inl (refused, rest))

pub returns-in_err-strike-clause-outcome : goal.returns-in_err-strike-clause-outcome
returns-in_err-strike-clause-outcome g c =
    let p = err_from_is_err_and c.from_residual-in_err-strike.result c.from_residual-in_err-strike.ensures.1 in
    let a = c.args.asked.now.setting in
    let rest = idle (g.R.Source.left c.args.lines.now) (g.P.Pictures.written c.args.out.now)
    (g.E.Sink.written c.args.error.now) (g.R.Source.has_failed c.args.lines.now)
    (g.P.Pictures.has_failed c.args.out.now) (g.E.Sink.has_failed c.args.error.now) c.requires.lines c.requires.out
    c.requires.error in
    rw (p.1, p.2) (inl (
      strike_unopened (Option TextsFault) a (strike_of a c.args.file.now) c.in_err-strike.field-0.0 c.requires.tested
          c.in_err-strike.ensures.tested,
      rest,
    ))

pub returns-in_err-notes-clause-outcome : goal.returns-in_err-notes-clause-outcome
returns-in_err-notes-clause-outcome g c =
    let p = err_from_is_err_and c.from_residual-in_err-notes.result c.from_residual-in_err-notes.ensures.1 in
    let rest = idle (g.R.Source.left c.args.lines.now) (g.P.Pictures.written c.args.out.now)
    (g.E.Sink.written c.args.error.now) (g.R.Source.has_failed c.args.lines.now)
    (g.P.Pictures.has_failed c.args.out.now) (g.E.Sink.has_failed c.args.error.now) c.requires.lines c.requires.out
    c.requires.error in
    rw (p.1, p.2) (inl (tt, rest))

pub returns-clause-outcome : goal.returns-clause-outcome
returns-clause-outcome g c =
    let a = c.args.asked.now.setting in
    let face = c.in_ok-face.face in
    let opened = font_opened a c.args.file.now face c.requires.size c.in_ok-face.ensures.exact in
    let gives = rw c.in_ok-strike.ensures.exact at c.draw_labels_by.ensures.outcome in
    inr (strike_by a face, opened, gives)

pub draw_labels_by-requires-clause-notes : goal.draw_labels_by-requires-clause-notes
draw_labels_by-requires-clause-notes g c =
    let l = c.args.asked.now in
    let file = face_file c.args.file.now l.setting.opening (asked_in l.setting) c.in_ok-face.face c.in_ok-face.ensures.exact in
    rw (c.deref.ensures, c.in_ok-notes.ensures, c.in_ok-strike.ensures.exact) (ap (λ bytes. label_notes l bytes) file)

pub returns-in_err-face-clause-defects : goal.returns-in_err-face-clause-defects
returns-in_err-face-clause-defects g c = λ sized.
    let p = err_from_is_err_and c.from_residual.result c.from_residual.ensures.1 in
    rw (p.1, p.2) c.in_err-face.ensures.fault

pub returns-in_err-strike-clause-defects : goal.returns-in_err-strike-clause-defects
returns-in_err-strike-clause-defects g c = λ sized.
    let p = err_from_is_err_and c.from_residual-in_err-strike.result c.from_residual-in_err-strike.ensures.1 in
    rw (p.1, p.2) (strike_tells (Option TextsFault) composed_glyphs (Some c.args.file.now) c.args.asked.now.setting
    (g.R.Source.left c.args.lines.now) c.in_err-strike.field-0.0 c.in_err-strike.ensures.font)

pub returns-in_err-notes-clause-defects : goal.returns-in_err-notes-clause-defects
returns-in_err-notes-clause-defects g c = λ sized.
    let p = err_from_is_err_and c.from_residual-in_err-notes.result c.from_residual-in_err-notes.ensures.1 in
    rw (p.1, p.2) tt

pub returns-clause-defects : goal.returns-clause-defects
returns-clause-defects g c = λ sized.
    let tells = rw c.in_ok-strike.ensures.exact at (c.draw_labels_by.ensures.defects sized) in
    lines_tell composed_glyphs c.args.asked.now.setting c.args.file.now c.in_ok-face.face (g.R.Source.left c.args.lines.now)
    c.draw_labels_by.result c.in_ok-face.ensures.exact tells
