use Rattle.std.proofs.Common.{◌≡◌, refl, ℕ, List, Option, None, Ok, Err, inl, inr, subst, sym}
use Rattle.tt_render_texts.specs.declared.refusal.Refusal.TheVariants as reason
use Rattle.tt_render.specs.Labels.{HintsBy, LabelReadies, hint_for, label_answer, label_view}
use Rattle.tt_render.specs.Labels.{composed_glyphs}
use Rattle.tt_render_settings.specs.Lines.{places}
use Rattle.tt_render_texts.specs.declared.refusal.TextsFault.{TextsFault}
use Rattle.tt_render.proofs.SentLabels.{not_put, put_hints, put_tells}
use Rattle.tt_render_settings.specs.LinesDefects.{IsTextDefect}
use Rattle.tt_render_streams.specs.Traffic.{traffic_of}
use Rattle.tt_render_texts.specs.Printing.{errors_of}
use Rattle.tt_render_streams.specs.Reading.{font_reader_of}
use Rattle.tt_render_settings.specs.Settings.{job_by, strike_of}
use Rattle.tt_render_settings.specs.TextsOutcome.{StopsAtFont, TellsFor, TextTellsDefects}
use Rattle.tt_render_texts.specs.Views.{before_lines, refusal_of_put}
use Rattle.tt_strike.specs.Job.{Job, tested}
use Rattle.tt_render_streams.proofs.Known.{known_of}
use Rattle.tt_render_settings.proofs.FontLines.{reading_stops}
use Rattle.tt_render.proofs.LabelCalls.{if_some_all, reading_hints}
use Rattle.tt_render_settings.proofs.OneText.{job_tells, reading_tells, silent, text_fails, text_written}
use Rattle.tt_render_texts.proofs.Printed.{keeps_itself}
use Rattle.tt_render.proofs.label_drawing.draw_label.Goals as goal

pub returns-in-Err-clause-outcome : goal.returns-in-Err-clause-outcome
returns-in-Err-clause-outcome g c =
    let left = g.R.Source.left c.args.font.now in
    let a = c.args.asked.now.setting in
    let j = c.in-Err.fault in
    let stops : StopsAtFont {V = Option TextsFault} (tested (job_by a c.args.text.now)) (strike_of a)
    (Err (before_lines (reason.Job j)))
    (font_reader_of g.R.Source.left g.R.Source.has_failed c.args.font.now c.args.font.now)
    = (subst (λ (k : Job). tested k ≡ Err j) c.job.ensures.exact c.in-Err.ensures.exact, (keeps_itself left, c.requires.font)) in
    rw c.unhinted-in-Err.ensures (inr (
      sym c.in_default.ensures,
      inl (
        stops,
        silent left left (g.P.Pictures.written c.args.out.now) (g.E.Sink.written c.args.error.now)
            (g.R.Source.has_failed c.args.font.now) _ _ c.requires.out c.requires.error,
      ),
    ))

pub returns-in-Err-read_font-clause-outcome : goal.returns-in-Err-read_font-clause-outcome
returns-in-Err-read_font-clause-outcome g c =
    let a = c.args.asked.now.setting in
    let left = g.R.Source.left in
    let font = c.read_font.new.font in
    let failed = g.R.Source.has_failed font in
    let good = subst (λ (k : Job). tested k ≡ Ok tt) c.job.ensures.exact c.in_default-test_job.ensures.exact in
    let stops = reading_stops (Option TextsFault) (tested (job_by a c.args.text.now)) (strike_of a) c.in-Err-read_font.fault
    (left c.args.font.now) (left font) failed good c.in-Err-read_font.ensures in
    rw (c.unhinted-in-Err-read_font.ensures, c.refusal_of_run.ensures) (inr (
      sym c.in_default.ensures,
      inl (
        stops,
        silent (left c.args.font.now) (left font) (g.P.Pictures.written c.args.out.now)
            (g.E.Sink.written c.args.error.now) failed _ _ c.requires.out c.requires.error,
      ),
    ))

pub returns-in-Err-notes_of-clause-outcome : goal.returns-in-Err-notes_of-clause-outcome
returns-in-Err-notes_of-clause-outcome g c =
    let left = g.R.Source.left in
    let font = c.read_font.new.font in
    let failed = g.R.Source.has_failed font in
    let file = c.in-Ok in
    let l = c.args.asked.now in
    let text = c.args.text.now in
    let good = subst (λ (k : Job). tested k ≡ Ok tt) c.job.ensures.exact c.in_default-test_job.ensures.exact in
    rw c.unhinted-in-Err-notes_of.ensures (inr (
      sym c.in_default.ensures,
      text_fails (Option TextsFault) (places g.P.Pictures.shown) l.setting (λ t. label_answer l t text) text file.file.items (before_lines reason.Memory)
          (traffic_of left g.R.Source.has_failed g.P.Pictures.written g.P.Pictures.has_failed c.args.font.now font c.args.out.now
          c.args.out.now) (errors_of g.E.Sink.written g.E.Sink.has_failed c.args.error.now c.args.error.now)
          good (file.ensures.0, file.ensures.1, file.ensures.3) tt
          (silent (left c.args.font.now) (left font) (g.P.Pictures.written c.args.out.now) (g.E.Sink.written c.args.error.now)
          failed _ _ c.requires.out c.requires.error),
    ))

pub returns-in-Err-draw-clause-outcome : goal.returns-in-Err-draw-clause-outcome
returns-in-Err-draw-clause-outcome g c =
    let left = g.R.Source.left in
    let font = c.read_font.new.font in
    let failed = g.R.Source.has_failed font in
    let file = c.in-Ok in
    let l = c.args.asked.now in
    let text = c.args.text.now in
    let fault = c.in-Err-draw.fault in
    let good = subst (λ (k : Job). tested k ≡ Ok tt) c.job.ensures.exact c.in_default-test_job.ensures.exact in
    let P : List ℕ → Type 0 = λ bytes. LabelReadies (λ t. label_answer l t text) (strike_of l.setting bytes) (Err fault) in
    let why = subst P c.deref-2.ensures.value c.in-Err-draw.ensures.outcome in
    rw c.hinted.ensures (inr (
      sym c.in_default.ensures,
      text_fails (Option TextsFault) (places g.P.Pictures.shown) l.setting (λ t. label_answer l t text) text file.file.items fault
          (traffic_of left g.R.Source.has_failed g.P.Pictures.written g.P.Pictures.has_failed c.args.font.now font c.args.out.now
          c.args.out.now) (errors_of g.E.Sink.written g.E.Sink.has_failed c.args.error.now c.args.error.now)
          good (file.ensures.0, file.ensures.1, file.ensures.3) why
          (silent (left c.args.font.now) (left font) (g.P.Pictures.written c.args.out.now) (g.E.Sink.written c.args.error.now)
          failed _ _ c.requires.out c.requires.error),
    ))

pub returns-in-Ok-put-clause-outcome : goal.returns-in-Ok-put-clause-outcome
returns-in-Ok-put-clause-outcome g c =
    let file = c.in-Ok in
    let ready = c.in-Ok-draw in
    let l = c.args.asked.now in
    let good = subst (λ (k : Job). tested k ≡ Ok tt) c.job.ensures.exact c.in_default-test_job.ensures.exact in
    let made = rw c.deref-2.ensures.value at ready.ensures.outcome in
    let printed = rw (c.requires.error, c.deref-in-Ok-put.ensures, ready.ensures.report) at c.print_text.ensures in
    rw c.done.ensures (inr (
      sym c.in_default.ensures,
      text_written (Option TextsFault) None (places g.P.Pictures.shown) l.setting (λ t. label_answer l t c.args.text.now) c.args.text.now file.file.items made.0
          (label_view ready.ready)
          (traffic_of g.R.Source.left g.R.Source.has_failed g.P.Pictures.written g.P.Pictures.has_failed c.args.font.now
          c.read_font.new.font c.args.out.now c.put.new.self)
          (errors_of g.E.Sink.written g.E.Sink.has_failed c.args.error.now c.print_text.new.error)
          good (file.ensures.0, file.ensures.1, file.ensures.3) made.1 made.2
          c.in-Ok-put.ensures.all c.in-Ok-put.ensures.failure printed,
    ))

pub returns-clause-outcome : goal.returns-clause-outcome
returns-clause-outcome g c =
    let file = c.in-Ok in
    let ready = c.in-Ok-draw in
    let l = c.args.asked.now in
    let good = subst (λ (k : Job). tested k ≡ Ok tt) c.job.ensures.exact c.in_default-test_job.ensures.exact in
    let made = rw c.deref-2.ensures.value at ready.ensures.outcome in
    let t = traffic_of g.R.Source.left g.R.Source.has_failed g.P.Pictures.written g.P.Pictures.has_failed c.args.font.now
    c.read_font.new.font c.args.out.now c.put.new.self in
    let e = errors_of g.E.Sink.written g.E.Sink.has_failed c.args.error.now c.args.error.now in
    rw (c.unhinted-in-Err-put.ensures, c.refusal_of_put.ensures) (inr (
      sym c.in_default.ensures,
      not_put (places g.P.Pictures.shown) l.setting (λ t. label_answer l t c.args.text.now) c.args.text.now file.file.items made.0
          (label_view ready.ready) t e c.in-Err-put.fault refl good (file.ensures.0, file.ensures.1, file.ensures.3) made.1 made.2
          c.in-Err-put.ensures.part c.in-Err-put.ensures.failure
          (keeps_itself (g.E.Sink.written c.args.error.now), c.requires.error),
    ))

pub returns-in-Err-clause-hint : goal.returns-in-Err-clause-hint
returns-in-Err-clause-hint g c =
    rw c.unhinted-in-Err.ensures (if_some_all (g.R.Source.left c.args.font.now) _ (λ file. refl))

pub returns-in-Err-read_font-clause-hint : goal.returns-in-Err-read_font-clause-hint
returns-in-Err-read_font-clause-hint g c =
    let left = g.R.Source.left in
    let font = c.read_font.new.font in
    rw (c.unhinted-in-Err-read_font.ensures, c.refusal_of_run.ensures)
    (if_some_all (left c.args.font.now) _ (λ file. reading_hints c.in-Err-read_font.fault (left c.args.font.now) (left font)
    (g.R.Source.has_failed font) file c.args.asked.now.setting c.in-Err-read_font.ensures))

pub returns-in-Err-notes_of-clause-hint : goal.returns-in-Err-notes_of-clause-hint
returns-in-Err-notes_of-clause-hint g c =
    rw c.unhinted-in-Err-notes_of.ensures (if_some_all (g.R.Source.left c.args.font.now) _ (λ file. refl))

pub returns-in-Err-draw-clause-hint : goal.returns-in-Err-draw-clause-hint
returns-in-Err-draw-clause-hint g c =
    let left = g.R.Source.left in
    let file = c.in-Ok in
    known_of (left c.args.font.now) (left c.read_font.new.font) file.file.items (HintsBy c.args.asked.now c.hinted.result)
    file.ensures.0 file.ensures.1
    (rw (c.hinted.ensures, c.deref-in-Err-draw.ensures.value) (refl {a = hint_for c.in-Err-draw.fault.refusal file.file.items
    c.args.asked.now.setting}))

pub returns-in-Ok-put-clause-hint : goal.returns-in-Ok-put-clause-hint
returns-in-Ok-put-clause-hint g c =
    rw c.done.ensures (if_some_all (g.R.Source.left c.args.font.now) _ (λ file. refl))

pub returns-clause-hint : goal.returns-clause-hint
returns-clause-hint g c =
    rw (c.unhinted-in-Err-put.ensures, c.refusal_of_put.ensures)
    (if_some_all (g.R.Source.left c.args.font.now) _
    (λ file. put_hints c.in-Err-put.fault file c.args.asked.now.setting))

pub returns-in-Err-clause-defects : goal.returns-in-Err-clause-defects
returns-in-Err-clause-defects g c = λ sized.
    rw c.unhinted-in-Err.ensures (job_tells (g.R.Source.left c.args.font.now)
    (IsTextDefect composed_glyphs c.args.asked.now.setting c.args.text.now) c.in-Err.fault)

pub returns-in-Err-read_font-clause-defects : goal.returns-in-Err-read_font-clause-defects
returns-in-Err-read_font-clause-defects g c = λ sized.
    let left = g.R.Source.left in
    let font = c.read_font.new.font in
    rw (c.unhinted-in-Err-read_font.ensures, c.refusal_of_run.ensures)
    (reading_tells c.in-Err-read_font.fault (left c.args.font.now) (left font) (g.R.Source.has_failed font)
    (IsTextDefect composed_glyphs c.args.asked.now.setting c.args.text.now) c.in-Err-read_font.ensures)

pub returns-in-Err-notes_of-clause-defects : goal.returns-in-Err-notes_of-clause-defects
returns-in-Err-notes_of-clause-defects g c = λ sized.
    rw c.unhinted-in-Err-notes_of.ensures (if_some_all (g.R.Source.left c.args.font.now) _ (λ file. tt))

pub draw-requires-clause-notes : goal.draw-requires-clause-notes
draw-requires-clause-notes g c =
    rw (c.deref-3.ensures, c.in-Ok-notes_of.ensures, c.deref.ensures.value, c.deref-2.ensures.value) refl

pub returns-in-Err-draw-clause-defects : goal.returns-in-Err-draw-clause-defects
returns-in-Err-draw-clause-defects g c = λ sized.
    let left = g.R.Source.left in
    let file = c.in-Ok in
    let P : List ℕ → Type 0 = λ bytes. TextTellsDefects {V = Option TextsFault}
    (IsTextDefect composed_glyphs c.args.asked.now.setting c.args.text.now bytes) (Err c.in-Err-draw.fault) in
    let tells = subst P c.deref-2.ensures.value (c.in-Err-draw.ensures.defects sized) in
    rw c.hinted.ensures
    (known_of (left c.args.font.now) (left c.read_font.new.font) file.file.items P file.ensures.0 file.ensures.1 tells)

pub returns-in-Ok-put-clause-defects : goal.returns-in-Ok-put-clause-defects
returns-in-Ok-put-clause-defects g c = λ sized.
    let left = g.R.Source.left in
    let file = c.in-Ok in
    let tells = rw c.deref-2.ensures.value at (c.in-Ok-draw.ensures.defects sized) in
    rw c.done.ensures
    (known_of (left c.args.font.now) (left c.read_font.new.font) file.file.items _ file.ensures.0 file.ensures.1 tells)

pub returns-clause-defects : goal.returns-clause-defects
returns-clause-defects g c = λ sized.
    let left = g.R.Source.left in
    let file = c.in-Ok in
    let none = rw c.deref-2.ensures.value at (c.in-Ok-draw.ensures.defects sized) in
    let P : List ℕ → Type 0 = λ bytes. TellsFor (IsTextDefect composed_glyphs c.args.asked.now.setting c.args.text.now bytes)
    (refusal_of_put c.in-Err-put.fault) in
    rw (c.unhinted-in-Err-put.ensures, c.refusal_of_put.ensures)
    (known_of (left c.args.font.now) (left c.read_font.new.font) file.file.items P file.ensures.0 file.ensures.1
    (put_tells (IsTextDefect composed_glyphs c.args.asked.now.setting c.args.text.now file.file.items) c.in-Err-put.fault none))
