use Rattle.std.proofs.Common.{◌≡◌, ℕ, List, Ok, Err, inl, subst}
use Rattle.std.proofs.lemmas.Result.{err_from_is_err_and}
use Rattle.tt_render_texts.specs.declared.refusal.Refusal.TheVariants as reason
use Rattle.tt_line.specs.Layout.{text_glyphs}
use Rattle.tt_render_settings.specs.LinesDefects.{IsTextDefect}
use Rattle.tt_render_streams.specs.Traffic.{traffic_of}
use Rattle.tt_render_texts.specs.Printing.{errors_of}
use Rattle.tt_render_streams.specs.Reading.{font_reader_of}
use Rattle.tt_render_settings.specs.Settings.{job_by, strike_of}
use Rattle.tt_render_settings.specs.Texts.{text_answer}
use Rattle.tt_render_lines.specs.Outputs.{ReadiesText, answer_view}
use Rattle.tt_render_settings.specs.TextsOutcome.{StopsAtFont, TextTellsDefects}
use Rattle.tt_render_texts.specs.Views.{before_lines}
use Rattle.tt_strike.specs.Job.{Job, tested}
use Rattle.tt_render_streams.proofs.Known.{known_of}
use Rattle.tt_render_settings.proofs.FontLines.{reading_stops}
use Rattle.tt_render_settings.specs.Lines.{stream}
use Rattle.tt_render_settings.proofs.OneText.{job_tells, reading_tells, silent, text_cut, text_fails, text_written}
use Rattle.tt_render_texts.proofs.Printed.{keeps_itself}
use Rattle.tt_render_lines.proofs.drawing.draw_text.Goals as goal

pub returns-in_err-test_job-clause-outcome : goal.returns-in_err-test_job-clause-outcome
returns-in_err-test_job-clause-outcome g c =
    let p = err_from_is_err_and c.from_residual.result c.from_residual.ensures.1 in
    let left = g.R.Source.left c.args.font.now in
    let stops : StopsAtFont {V = Unit {0}} (tested (job_by c.args.setting.now c.args.text.now))
    (strike_of c.args.setting.now) (Err (before_lines (reason.Job c.in_err-test_job.field-0.0)))
    (font_reader_of g.R.Source.left g.R.Source.has_failed c.args.font.now c.args.font.now)
    = (subst (λ (j : Job). tested j ≡ Err c.in_err-test_job.field-0.0) c.job.ensures.exact c.in_err-test_job.ensures.exact, (keeps_itself left, c.requires.font)) in
    rw (p.1, p.2)
    (inl (
      stops,
      silent left left (g.W.Sink.written c.args.out.now) (g.E.Sink.written c.args.error.now)
          (g.R.Source.has_failed c.args.font.now) _ _ c.requires.out c.requires.error,
    ))

pub returns-in_err-file-clause-outcome : goal.returns-in_err-file-clause-outcome
returns-in_err-file-clause-outcome g c =
    let a = c.args.setting.now in
    let left = g.R.Source.left in
    let font = c.read_font.new.font in
    let failed = g.R.Source.has_failed font in
    let p = err_from_is_err_and c.from_residual-in_err-file.result c.from_residual-in_err-file.ensures.1 in
    let stops = reading_stops (Unit {0}) (tested (job_by a c.args.text.now)) (strike_of a) c.in_err-file.field-0.0
    (left c.args.font.now) (left font) failed (subst (λ (j : Job). tested j ≡ Ok tt) c.job.ensures.exact c.in_ok-test_job.ensures.exact) c.in_err-file.ensures in
    rw (p.1, p.2)
    (inl (
      stops,
      silent (left c.args.font.now) (left font) (g.W.Sink.written c.args.out.now)
          (g.E.Sink.written c.args.error.now) failed _ _ c.requires.out c.requires.error,
    ))

pub returns-in_err-ready-clause-outcome : goal.returns-in_err-ready-clause-outcome
returns-in_err-ready-clause-outcome g c =
    let left = g.R.Source.left in
    let font = c.read_font.new.font in
    let failed = g.R.Source.has_failed font in
    let file = c.in_ok-file in
    let p = err_from_is_err_and c.from_residual-in_err-ready.result c.from_residual-in_err-ready.ensures.1 in
    let a = c.args.setting.now in
    let text = c.args.text.now in
    let fault = c.in_err-ready.field-0.0 in
    let P : List ℕ → Type 0 = λ bytes. ReadiesText (λ t. text_answer a t text) (strike_of a bytes) (Err fault) in
    let why = subst P c.deref.ensures.value c.in_err-ready.ensures.outcome in
    rw (p.1, p.2)
    (text_fails (Unit {0}) stream a (λ t. text_answer a t text) text file.file.items fault
    (traffic_of left g.R.Source.has_failed g.W.Sink.written g.W.Sink.has_failed c.args.font.now font c.args.out.now
    c.args.out.now) (errors_of g.E.Sink.written g.E.Sink.has_failed c.args.error.now c.args.error.now)
    (subst (λ (j : Job). tested j ≡ Ok tt) c.job.ensures.exact c.in_ok-test_job.ensures.exact) (file.ensures.0, file.ensures.1, file.ensures.3) why
    (silent (left c.args.font.now) (left font) (g.W.Sink.written c.args.out.now) (g.E.Sink.written c.args.error.now)
    failed _ _ c.requires.out c.requires.error))

pub returns-in-Ok-clause-outcome : goal.returns-in-Ok-clause-outcome
returns-in-Ok-clause-outcome g c =
    let file = c.in_ok-file in
    let ready = c.in_ok-ready in
    let made = rw c.deref.ensures.value at ready.ensures.outcome in
    let printed = rw (c.requires.error, c.deref-in-Ok.ensures, ready.ensures.report) at c.print_text.ensures in
    text_written (Unit {0}) tt stream c.args.setting.now (λ t. text_answer c.args.setting.now t c.args.text.now) c.args.text.now file.file.items made.0 (answer_view ready.ready)
    (traffic_of g.R.Source.left g.R.Source.has_failed g.W.Sink.written g.W.Sink.has_failed c.args.font.now
    c.read_font.new.font c.args.out.now c.write_output.new.out)
    (errors_of g.E.Sink.written g.E.Sink.has_failed c.args.error.now c.print_text.new.error)
    (subst (λ (j : Job). tested j ≡ Ok tt) c.job.ensures.exact c.in_ok-test_job.ensures.exact) (file.ensures.0, file.ensures.1, file.ensures.3) made.1 made.2 c.in-Ok.ensures.all
    c.in-Ok.ensures.failure printed

pub returns-clause-outcome : goal.returns-clause-outcome
returns-clause-outcome g c =
    let file = c.in_ok-file in
    let ready = c.in_ok-ready in
    let made = rw c.deref.ensures.value at ready.ensures.outcome in
    let cut = c.in-Err.ensures in
    text_cut (Unit {0}) stream c.args.setting.now (λ t. text_answer c.args.setting.now t c.args.text.now) c.args.text.now file.file.items made.0 (answer_view ready.ready)
    c.in-Err.cut.sent
    (traffic_of g.R.Source.left g.R.Source.has_failed g.W.Sink.written g.W.Sink.has_failed c.args.font.now
    c.read_font.new.font c.args.out.now c.write_output.new.out)
    (errors_of g.E.Sink.written g.E.Sink.has_failed c.args.error.now c.args.error.now)
    (subst (λ (j : Job). tested j ≡ Ok tt) c.job.ensures.exact c.in_ok-test_job.ensures.exact) (file.ensures.0, file.ensures.1, file.ensures.3) made.1 made.2
    cut.within cut.part cut.failure (keeps_itself (g.E.Sink.written c.args.error.now), c.requires.error)

pub returns-in_err-test_job-clause-defects : goal.returns-in_err-test_job-clause-defects
returns-in_err-test_job-clause-defects g c =
    let p = err_from_is_err_and c.from_residual.result c.from_residual.ensures.1 in
    rw (p.1, p.2) (job_tells (g.R.Source.left c.args.font.now)
    (IsTextDefect text_glyphs c.args.setting.now c.args.text.now) c.in_err-test_job.field-0.0)

pub returns-in_err-file-clause-defects : goal.returns-in_err-file-clause-defects
returns-in_err-file-clause-defects g c =
    let left = g.R.Source.left in
    let font = c.read_font.new.font in
    let p = err_from_is_err_and c.from_residual-in_err-file.result c.from_residual-in_err-file.ensures.1 in
    rw (p.1, p.2) (reading_tells c.in_err-file.field-0.0 (left c.args.font.now) (left font)
    (g.R.Source.has_failed font) (IsTextDefect text_glyphs c.args.setting.now c.args.text.now) c.in_err-file.ensures)

pub returns-in_err-ready-clause-defects : goal.returns-in_err-ready-clause-defects
returns-in_err-ready-clause-defects g c =
    let left = g.R.Source.left in
    let file = c.in_ok-file in
    let fault = c.in_err-ready.field-0.0 in
    let p = err_from_is_err_and c.from_residual-in_err-ready.result c.from_residual-in_err-ready.ensures.1 in
    let P : List ℕ → Type 0 = λ bytes. TextTellsDefects {V = Unit {0}} (IsTextDefect text_glyphs c.args.setting.now c.args.text.now bytes) (Err fault) in
    let tells = subst P c.deref.ensures.value c.in_err-ready.ensures.defects in
    rw (p.1, p.2)
    (known_of (left c.args.font.now) (left c.read_font.new.font) file.file.items P file.ensures.0 file.ensures.1 tells)

pub returns-in-Ok-clause-defects : goal.returns-in-Ok-clause-defects
returns-in-Ok-clause-defects g c =
    let left = g.R.Source.left in
    let file = c.in_ok-file in
    let tells = rw c.deref.ensures.value at c.in_ok-ready.ensures.defects in
    known_of (left c.args.font.now) (left c.read_font.new.font) file.file.items _ file.ensures.0 file.ensures.1 tells

pub returns-clause-defects : goal.returns-clause-defects
returns-clause-defects g c =
    let left = g.R.Source.left in
    let file = c.in_ok-file in
    let tells = rw c.deref.ensures.value at c.in_ok-ready.ensures.defects in
    known_of (left c.args.font.now) (left c.read_font.new.font) file.file.items _ file.ensures.0 file.ensures.1 tells
