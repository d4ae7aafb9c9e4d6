use Rattle.std.proofs.Common.{refl, List, Option, Ok, Err, inl, inr, subst, sym}
use Rattle.tt_render_settings.specs.Lines.{places}
use Rattle.tt_render_texts.specs.declared.refusal.TextsFault.{TextsFault}
use Rattle.tt_render.specs.Labels.{composed_glyphs}
use Rattle.tt_render.specs.Labels.{FileLabelsGive, HintsBy}
use Rattle.tt_render_settings.specs.LinesDefects.{LinesTellDefects}
use Rattle.tt_render_streams.specs.Traffic.{traffic_of}
use Rattle.tt_render_texts.specs.Printing.{errors_of}
use Rattle.tt_render_streams.specs.Reading.{FontIsRead, FontIsUnread, font_reader_of}
use Rattle.tt_render_settings.specs.Settings.{strike_of}
use Rattle.tt_render_streams.proofs.Known.{known_of}
use Rattle.tt_render_settings.proofs.DefectLines.{reading_tells, setting_tells}
use Rattle.tt_render_settings.proofs.FontLines.{idle, reading_stops}
use Rattle.tt_render.proofs.LabelCalls.{by_reader, if_some_all, reading_hints}
use Rattle.tt_render_texts.proofs.Printed.{keeps_itself}
use Rattle.tt_render.proofs.label_drawing.draw_labels.Goals as goal

pub returns-in-Err-clause-outcome : goal.returns-in-Err-clause-outcome
returns-in-Err-clause-outcome g c =
    let rest = idle (g.R.Source.left c.args.lines.now) (g.P.Pictures.written c.args.out.now)
    (g.E.Sink.written c.args.error.now) (g.R.Source.has_failed c.args.lines.now)
    (g.P.Pictures.has_failed c.args.out.now) (g.E.Sink.has_failed c.args.error.now) c.requires.lines c.requires.out
    c.requires.error in
    let unread : FontIsUnread (font_reader_of g.F.Source.left g.F.Source.has_failed c.args.font.now c.args.font.now) =
    (keeps_itself (g.F.Source.left c.args.font.now), c.requires.font) in
    rw c.unhinted-in-Err.ensures (inr (sym c.in_default.ensures, inl ((c.in-Err.ensures, unread), rest)))

pub returns-in-Err-read_font-clause-outcome : goal.returns-in-Err-read_font-clause-outcome
returns-in-Err-read_font-clause-outcome g c =
    let left = g.F.Source.left in
    let rest = idle (g.R.Source.left c.args.lines.now) (g.P.Pictures.written c.args.out.now)
    (g.E.Sink.written c.args.error.now) (g.R.Source.has_failed c.args.lines.now)
    (g.P.Pictures.has_failed c.args.out.now) (g.E.Sink.has_failed c.args.error.now) c.requires.lines c.requires.out
    c.requires.error in
    let stops = reading_stops (Option TextsFault) _ (strike_of c.args.asked.now.setting) c.in-Err-read_font.fault
    (left c.args.font.now) (left c.read_font.new.font) (g.F.Source.has_failed c.read_font.new.font) c.in_default-test_setting.ensures
    c.in-Err-read_font.ensures in
    rw (c.unhinted-in-Err-read_font.ensures, c.refusal_of_run.ensures) (inr (sym c.in_default.ensures, inl (stops, rest)))

pub returns-in-Ok-draw_labels_of-clause-outcome : goal.returns-in-Ok-draw_labels_of-clause-outcome
returns-in-Ok-draw_labels_of-clause-outcome g c =
    let l = c.args.asked.now in
    let file = c.in-Ok in
    let f = font_reader_of g.F.Source.left g.F.Source.has_failed c.args.font.now c.read_font.new.font in
    let read : FontIsRead f file.file.items = (file.ensures.0, file.ensures.1, file.ensures.3) in
    let t = traffic_of g.R.Source.left g.R.Source.has_failed g.P.Pictures.written g.P.Pictures.has_failed c.args.lines.now
    c.draw_labels_of.new.lines c.args.out.now c.draw_labels_of.new.out in
    let e = errors_of g.E.Sink.written g.E.Sink.has_failed c.args.error.now c.draw_labels_of.new.error in
    rw c.done.ensures (inr (
      sym c.in_default.ensures,
      by_reader (places g.P.Pictures.shown) l file.file.items (Ok c.in-Ok-draw_labels_of.first) f t e c.in_default-test_setting.ensures read
          (rw c.deref.ensures.value at c.in-Ok-draw_labels_of.ensures.outcome),
    ))

pub returns-clause-outcome : goal.returns-clause-outcome
returns-clause-outcome g c =
    let l = c.args.asked.now in
    let file = c.in-Ok in
    let f = font_reader_of g.F.Source.left g.F.Source.has_failed c.args.font.now c.read_font.new.font in
    let read : FontIsRead f file.file.items = (file.ensures.0, file.ensures.1, file.ensures.3) in
    let t = traffic_of g.R.Source.left g.R.Source.has_failed g.P.Pictures.written g.P.Pictures.has_failed c.args.lines.now
    c.draw_labels_of.new.lines c.args.out.now c.draw_labels_of.new.out in
    let e = errors_of g.E.Sink.written g.E.Sink.has_failed c.args.error.now c.draw_labels_of.new.error in
    let fault = c.in-Err-draw_labels_of.fault in
    let Gives : List _ → Type 0 = λ bytes. FileLabelsGive (places g.P.Pictures.shown) l bytes (Err fault) t e in
    rw c.hinted.ensures (inr (
      sym c.in_default.ensures,
      by_reader (places g.P.Pictures.shown) l file.file.items (Err fault) f t e c.in_default-test_setting.ensures read
          (subst Gives c.deref.ensures.value c.in-Err-draw_labels_of.ensures.outcome),
    ))

pub returns-in-Err-clause-hint : goal.returns-in-Err-clause-hint
returns-in-Err-clause-hint g c =
    rw c.unhinted-in-Err.ensures (if_some_all (g.F.Source.left c.args.font.now) _ (λ file. refl))

pub returns-in-Err-read_font-clause-hint : goal.returns-in-Err-read_font-clause-hint
returns-in-Err-read_font-clause-hint g c =
    let left = g.F.Source.left in
    let font = c.read_font.new.font in
    rw (c.unhinted-in-Err-read_font.ensures, c.refusal_of_run.ensures)
    (if_some_all (left c.args.font.now) _ (λ file. reading_hints c.in-Err-read_font.fault (left c.args.font.now) (left font)
    (g.F.Source.has_failed font) file c.args.asked.now.setting c.in-Err-read_font.ensures))

pub returns-in-Ok-draw_labels_of-clause-hint : goal.returns-in-Ok-draw_labels_of-clause-hint
returns-in-Ok-draw_labels_of-clause-hint g c =
    rw c.done.ensures (if_some_all (g.F.Source.left c.args.font.now) _ (λ file. refl))

pub returns-clause-hint : goal.returns-clause-hint
returns-clause-hint g c =
    let left = g.F.Source.left in
    let file = c.in-Ok in
    known_of (left c.args.font.now) (left c.read_font.new.font) file.file.items (HintsBy c.args.asked.now c.hinted.result)
    file.ensures.0 file.ensures.1 (rw (c.hinted.ensures, c.deref-in-Err-draw_labels_of.ensures.value) refl)

pub returns-in-Err-clause-defects : goal.returns-in-Err-clause-defects
returns-in-Err-clause-defects g c = λ sized.
    rw c.unhinted-in-Err.ensures (setting_tells (Option TextsFault) composed_glyphs (g.F.Source.left c.args.font.now)
    c.args.asked.now.setting (g.R.Source.left c.args.lines.now) c.in-Err.fault)

pub returns-in-Err-read_font-clause-defects : goal.returns-in-Err-read_font-clause-defects
returns-in-Err-read_font-clause-defects g c = λ sized.
    let left = g.F.Source.left in
    let font = c.read_font.new.font in
    rw (c.unhinted-in-Err-read_font.ensures, c.refusal_of_run.ensures)
    (reading_tells (Option TextsFault) composed_glyphs c.in-Err-read_font.fault (left c.args.font.now) (left font)
    (g.F.Source.has_failed font) c.args.asked.now.setting (g.R.Source.left c.args.lines.now) c.in-Err-read_font.ensures)

pub returns-in-Ok-draw_labels_of-clause-defects : goal.returns-in-Ok-draw_labels_of-clause-defects
returns-in-Ok-draw_labels_of-clause-defects g c = λ sized.
    rw c.done.ensures (if_some_all (g.F.Source.left c.args.font.now) _ (λ file. tt))

pub returns-clause-defects : goal.returns-clause-defects
returns-clause-defects g c = λ sized.
    let left = g.F.Source.left in
    let file = c.in-Ok in
    let fault = c.in-Err-draw_labels_of.fault in
    let Tells : List _ → Type 0 = λ bytes. LinesTellDefects {V = Option TextsFault} composed_glyphs c.args.asked.now.setting
    (g.R.Source.left c.args.lines.now) (Err fault) bytes in
    let tells = subst Tells c.deref.ensures.value (c.in-Err-draw_labels_of.ensures.defects sized) in
    rw c.hinted.ensures
    (known_of (left c.args.font.now) (left c.read_font.new.font) file.file.items Tells file.ensures.0 file.ensures.1 tells)
