use Rattle.std.proofs.Common.{ℕ, List, Err, inl, subst}
use Rattle.tt_render_settings.proofs.FontLines.{reading_stops}
use Rattle.tt_render_settings.specs.Lines.{stream}
use Rattle.tt_render_settings.proofs.OneText.{job_tells, reading_tells, silent, text_cut, text_fails, text_written}
use Rattle.tt_render_texts.proofs.Printed.{keeps_itself}
use Rattle.tt_render_texts.specs.declared.refusal.Refusal.TheVariants as reason
use Rattle.tt_render_texts.specs.Printing.{errors_of}
use Rattle.tt_render_settings.specs.Settings.{job_by, strike_of}
use Rattle.tt_render_settings.specs.TextsOutcome.{StopsAtFont, TextTellsDefects}
use Rattle.tt_render_texts.specs.Views.{before_lines}
use Rattle.tt_render_streams.proofs.Known.{known_of}
use Rattle.tt_render_streams.specs.Traffic.{traffic_of}
use Rattle.tt_render_streams.specs.Reading.{font_reader_of}
use Rattle.tt_strike.specs.Job.{tested}
use Rattle.tt_bitmap_font.specs.FontFiles.{FileReadies, HintsBy, IsFileDefect, bdf_outcome, file_view, setting_of}
use Rattle.tt_bitmap_font.proofs.Hints.{at_once, behind, cut, unread, written}
use Rattle.tt_bitmap_font.proofs.writing.write_bdf.Goals as goal

pub ready_file-requires-clause-size : goal.ready_file-requires-clause-size
ready_file-requires-clause-size g c = c.in_default.ensures.small

pub ready_file-requires-clause-font : goal.ready_file-requires-clause-font
ready_file-requires-clause-font g c = rw c.deref.ensures.value c.in-Ok.ensures.2

pub returns-in-Err-clause-outcome : goal.returns-in-Err-clause-outcome
returns-in-Err-clause-outcome g c =
    let left = g.R.Source.left c.args.font.now in
    let a = setting_of c.args.asked.now in
    let text = c.args.asked.now.text.now in
    let stops : StopsAtFont {V = Unit {0}} (tested (job_by a text)) (strike_of a)
    (Err (before_lines (reason.Job c.in-Err.fault)))
    (font_reader_of g.R.Source.left g.R.Source.has_failed c.args.font.now c.args.font.now)
    = (c.in-Err.ensures.exact, (keeps_itself left, c.requires.font)) in
    rw c.unhinted.ensures
    (inl (
      stops,
      silent left left (g.W.Sink.written c.args.out.now) (g.E.Sink.written c.args.error.now)
          (g.R.Source.has_failed c.args.font.now) _ _ c.requires.out c.requires.error,
    ))

pub returns-in-Err-read_font-clause-outcome : goal.returns-in-Err-read_font-clause-outcome
returns-in-Err-read_font-clause-outcome g c =
    let a = setting_of c.args.asked.now in
    let text = c.args.asked.now.text.now in
    let left = g.R.Source.left in
    let font = c.read_font.new.font in
    let failed = g.R.Source.has_failed font in
    let stops = reading_stops (Unit {0}) (tested (job_by a text)) (strike_of a) c.in-Err-read_font.fault
    (left c.args.font.now) (left font) failed c.in_default.ensures.exact c.in-Err-read_font.ensures in
    rw c.unread.ensures
    (inl (
      stops,
      silent (left c.args.font.now) (left font) (g.W.Sink.written c.args.out.now)
          (g.E.Sink.written c.args.error.now) failed _ _ c.requires.out c.requires.error,
    ))

pub returns-in-Err-ready_file-clause-outcome : goal.returns-in-Err-ready_file-clause-outcome
returns-in-Err-ready_file-clause-outcome g c =
    let left = g.R.Source.left in
    let font = c.read_font.new.font in
    let failed = g.R.Source.has_failed font in
    let file = c.in-Ok in
    let asked = c.args.asked.now in
    let a = setting_of asked in
    let text = asked.text.now in
    let fault = c.in-Err-ready_file.fault in
    let P : List ℕ → Type 0 = λ bytes. FileReadies (λ t. bdf_outcome asked t.face) (strike_of a bytes) (Err fault) in
    let why = subst P c.deref.ensures.value c.in-Err-ready_file.ensures.outcome in
    rw c.hinted.ensures
    (text_fails (Unit {0}) stream a (λ t. bdf_outcome asked t.face) text file.file.items fault
    (traffic_of left g.R.Source.has_failed g.W.Sink.written g.W.Sink.has_failed c.args.font.now font c.args.out.now
    c.args.out.now) (errors_of g.E.Sink.written g.E.Sink.has_failed c.args.error.now c.args.error.now)
    c.in_default.ensures.exact (file.ensures.0, file.ensures.1, file.ensures.3) why
    (silent (left c.args.font.now) (left font) (g.W.Sink.written c.args.out.now) (g.E.Sink.written c.args.error.now)
    failed _ _ c.requires.out c.requires.error))

pub returns-in-Ok-write_all_of-clause-outcome : goal.returns-in-Ok-write_all_of-clause-outcome
returns-in-Ok-write_all_of-clause-outcome g c =
    let file = c.in-Ok in
    let ready = c.in-Ok-ready_file in
    let asked = c.args.asked.now in
    let made = rw c.deref.ensures.value at ready.ensures.outcome in
    let printed = rw (c.requires.error, c.deref-in-Ok-write_all_of.ensures, ready.ensures.report) at c.print_text.ensures in
    let sent = rw c.deref-2.ensures.value at c.in-Ok-write_all_of.ensures.all in
    rw c.done.ensures
    (text_written (Unit {0}) tt stream (setting_of asked) (λ t. bdf_outcome asked t.face) asked.text.now file.file.items made.0
    (file_view ready.ready)
    (traffic_of g.R.Source.left g.R.Source.has_failed g.W.Sink.written g.W.Sink.has_failed c.args.font.now
    c.read_font.new.font c.args.out.now c.write_all_of.new.out)
    (errors_of g.E.Sink.written g.E.Sink.has_failed c.args.error.now c.print_text.new.error)
    c.in_default.ensures.exact (file.ensures.0, file.ensures.1, file.ensures.3) made.1 made.2 sent
    c.in-Ok-write_all_of.ensures.failure printed)

pub returns-clause-outcome : goal.returns-clause-outcome
returns-clause-outcome g c =
    let file = c.in-Ok in
    let ready = c.in-Ok-ready_file in
    let asked = c.args.asked.now in
    let made = rw c.deref.ensures.value at ready.ensures.outcome in
    let cut_off = c.in-Err-write_all_of.ensures in
    rw c.unhinted-in-Err-write_all_of.ensures
    (text_cut (Unit {0}) stream (setting_of asked) (λ t. bdf_outcome asked t.face) asked.text.now file.file.items made.0
    (file_view ready.ready) c.in-Err-write_all_of.cut.sent
    (traffic_of g.R.Source.left g.R.Source.has_failed g.W.Sink.written g.W.Sink.has_failed c.args.font.now
    c.read_font.new.font c.args.out.now c.write_all_of.new.out)
    (errors_of g.E.Sink.written g.E.Sink.has_failed c.args.error.now c.args.error.now)
    c.in_default.ensures.exact (file.ensures.0, file.ensures.1, file.ensures.3) made.1 made.2
    (rw c.deref-2.ensures.value at cut_off.within) (rw c.deref-2.ensures.value at cut_off.part) cut_off.failure
    (keeps_itself (g.E.Sink.written c.args.error.now), c.requires.error))

pub returns-in-Err-clause-hint : goal.returns-in-Err-clause-hint
returns-in-Err-clause-hint g c =
    rw c.unhinted.ensures
    (at_once c.args.asked.now c.in-Err.fault (g.R.Source.left c.args.font.now) c.in-Err.ensures.exact)

pub returns-in-Err-read_font-clause-hint : goal.returns-in-Err-read_font-clause-hint
returns-in-Err-read_font-clause-hint g c =
    let left = g.R.Source.left in
    let font = c.read_font.new.font in
    rw c.unread.ensures
    (unread c.args.asked.now c.in-Err-read_font.fault (left c.args.font.now) (left font) (g.R.Source.has_failed font)
    c.in_default.ensures.exact c.in-Err-read_font.ensures)

pub returns-in-Err-ready_file-clause-hint : goal.returns-in-Err-ready_file-clause-hint
returns-in-Err-ready_file-clause-hint g c =
    let left = g.R.Source.left in
    let file = c.in-Ok in
    known_of (left c.args.font.now) (left c.read_font.new.font) file.file.items (HintsBy c.args.asked.now c.hinted.result)
    file.ensures.0 file.ensures.1
    (rw (c.hinted.ensures, c.deref-in-Err-ready_file.ensures.value)
    (behind c.args.asked.now c.in-Err-ready_file.fault file.file.items c.in_default.ensures.exact))

pub returns-in-Ok-write_all_of-clause-hint : goal.returns-in-Ok-write_all_of-clause-hint
returns-in-Ok-write_all_of-clause-hint g c =
    rw c.done.ensures (written c.args.asked.now (g.R.Source.left c.args.font.now))

pub returns-clause-hint : goal.returns-clause-hint
returns-clause-hint g c =
    rw c.unhinted-in-Err-write_all_of.ensures
    (cut c.args.asked.now c.in-Err-write_all_of.cut.sent (g.R.Source.left c.args.font.now) c.in_default.ensures.exact)

pub returns-in-Err-clause-defects : goal.returns-in-Err-clause-defects
returns-in-Err-clause-defects g c =
    rw c.unhinted.ensures (job_tells (g.R.Source.left c.args.font.now) (IsFileDefect c.args.asked.now) c.in-Err.fault)

pub returns-in-Err-read_font-clause-defects : goal.returns-in-Err-read_font-clause-defects
returns-in-Err-read_font-clause-defects g c =
    let left = g.R.Source.left in
    let font = c.read_font.new.font in
    rw c.unread.ensures
    (reading_tells c.in-Err-read_font.fault (left c.args.font.now) (left font) (g.R.Source.has_failed font)
    (IsFileDefect c.args.asked.now) c.in-Err-read_font.ensures)

pub returns-in-Err-ready_file-clause-defects : goal.returns-in-Err-ready_file-clause-defects
returns-in-Err-ready_file-clause-defects g c =
    let left = g.R.Source.left in
    let file = c.in-Ok in
    let P : List ℕ → Type 0 = λ bytes. TextTellsDefects {V = Unit {0}}
    (IsFileDefect c.args.asked.now bytes) (Err c.in-Err-ready_file.fault) in
    let tells = subst P c.deref.ensures.value c.in-Err-ready_file.ensures.defects in
    rw c.hinted.ensures
    (known_of (left c.args.font.now) (left c.read_font.new.font) file.file.items P file.ensures.0 file.ensures.1 tells)

pub returns-in-Ok-write_all_of-clause-defects : goal.returns-in-Ok-write_all_of-clause-defects
returns-in-Ok-write_all_of-clause-defects g c =
    let left = g.R.Source.left in
    let file = c.in-Ok in
    let tells = rw c.deref.ensures.value at c.in-Ok-ready_file.ensures.defects in
    rw c.done.ensures
    (known_of (left c.args.font.now) (left c.read_font.new.font) file.file.items _ file.ensures.0 file.ensures.1 tells)

pub returns-clause-defects : goal.returns-clause-defects
returns-clause-defects g c =
    let left = g.R.Source.left in
    let file = c.in-Ok in
    let tells = rw c.deref.ensures.value at c.in-Ok-ready_file.ensures.defects in
    rw c.unhinted-in-Err-write_all_of.ensures
    (known_of (left c.args.font.now) (left c.read_font.new.font) file.file.items _ file.ensures.0 file.ensures.1 tells)
