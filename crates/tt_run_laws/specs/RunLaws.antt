-- Laws of texts and lines: the picture of each is what `run` gives for that text alone.
use Rattle.std.specs.Prelude.{◌≡◌, refl, ℕ, ◌≤◌, true, List, [], length, codes, None, Result, Ok, Err}
use Rattle.std.specs.Str.{is_utf8}
use Rattle.tt_core.specs.declared.fault.JobFault.TheVariants as fault
use Rattle.tt_core.specs.Outcomes.{◌>>=◌}
use Rattle.tt_picture.specs.Unfitted.{ListsOnce}
use Rattle.tt_strike.specs.Job.{tested}
use Rattle.tt_strike.specs.Refusals.{as_job, job}
use Rattle.tt_strike.specs.Report.{report_of}
use Rattle.tt_strike.specs.Strikes.{Strike}
use Rattle.tt_render_texts.specs.declared.refusal.TextsFault.{TextsFault}
use Rattle.tt_render_settings.specs.declared.setting.Missing.TheVariants as how
use Rattle.tt_render_settings.specs.declared.setting.Setting.{Setting}
use Rattle.tt_render_settings.specs.Lines.{line_drawn}
use Rattle.tt_render_texts.specs.Lines.{line_limit}
use Rattle.tt_render_texts.specs.Printing.{Errors}
use Rattle.tt_render_streams.specs.declared.fault.RunFault.{RunFault}
use Rattle.tt_render_run.specs.Outcome.{CallFails, CallGives, Wanted}
use Rattle.tt_render_streams.specs.Traffic.{Traffic}
use Rattle.tt_render_run.specs.Run.{run_outcome, run_wanted}
use Rattle.tt_render_settings.specs.Settings.{DrawsAsItIs, IsPlain, asked_in, job_by, strike_of}
use Rattle.tt_render_texts.specs.Answers.{TextAnswer}
use Rattle.tt_render_settings.specs.Texts.{TextRefusal, as_text, missing, missing_tested, refused, text_answer}
use Rattle.tt_render_settings.specs.TextsOutcome.{FontTextGives}
use Rattle.tt_render_texts.specs.Views.{before_lines, refusal_of_run}

-- the bytes of an answer, or its refusal
abbrev pub bytes_of : Result TextAnswer TextRefusal → Result (List ℕ) TextRefusal
bytes_of answer = answer >>= λ t. Ok t.bytes

-- what `run` gives for a text and a font file; a missing character may refuse the text after that
abbrev pub run_for : Setting → Strike → List ℕ → List ℕ → Result (List ℕ) TextRefusal
run_for a s file text =
    as_text (run_outcome a.opening (asked_in a) (job_by a text) file) >>= λ bytes.
    missing_tested s.face.cmap a.missing text >>= λ lacking.
    Ok bytes

-- the picture of a text is what `run` gives for it, and the text is refused for the same reason
abbrev pub TextsAreRuns : Type 0
TextsAreRuns = (a : Setting) (file text : List ℕ) (s : Strike) → DrawsAsItIs a → strike_of a file ≡ Ok s
    → bytes_of (text_answer a s text) ≡ run_for a s file text

-- the picture of each line is what `run` gives for that line alone
abbrev pub LinesAreRuns : Type 0
LinesAreRuns = (a : Setting) (file line : List ℕ) (s : Strike) (t : TextAnswer) → DrawsAsItIs a
    → strike_of a file ≡ Ok s → line_drawn a s line ≡ Ok t → run_outcome a.opening (asked_in a) (job_by a line) file ≡ Ok t.bytes

-- a line of at most 16,384 bytes of UTF-8 has the answer of a text, whatever the product
abbrev pub LinesAreTexts : Type 0
LinesAreTexts = (a : Setting) (line : List ℕ) (s : Strike) → length line ≤ line_limit → is_utf8 line ≡ true
    → line_drawn a s line ≡ text_answer a s line

-- the definition of `draw_text` for a text and a font file: first the tests of its job, then those of the font's tables
abbrev pub drawn_text : Setting → List ℕ → List ℕ → Result TextAnswer TextRefusal
drawn_text a text file =
    as_text (as_job (tested (job_by a text))) >>= λ u.
    as_text (strike_of a file) >>= λ s.
    text_answer a s text

-- by a plain setting a text has the bytes of `run` for its job, or the same refusal
abbrev pub PlainTextsAreRuns : Type 0
PlainTextsAreRuns = (a : Setting) (text file : List ℕ) → IsPlain a
    → bytes_of (drawn_text a text file) ≡ as_text (run_outcome a.opening (asked_in a) (job_by a text) file)

-- it has the report of `run` too, which lists no glyph twice, and with `Missing::Draw` no character is reported
abbrev pub PlainReportsAreRuns : Type 0
PlainReportsAreRuns = (a : Setting) (text file : List ℕ) (t : TextAnswer) → IsPlain a → drawn_text a text file ≡ Ok t
    → (report_of a.opening (asked_in a) (job_by a text) file ≡ Ok t.unfitted) × ListsOnce t.unfitted × (a.missing ≡ how.Draw → t.lacking ≡ [])

-- a call met the outcome of `run`, for these bytes; its fault is the one of `run`
abbrev pub GivesAsRun : {V : Type 0} → Result V TextsFault → Traffic → Wanted → Type 0
GivesAsRun {V} (Ok v) t w = CallGives {V = V} (Ok v) t w
GivesAsRun (Err fault) t w = (f : RunFault) × (fault ≡ before_lines (refusal_of_run f)) × CallFails f t w

-- a call that met the outcome of `draw_text` by such a setting met that of `run` for its job
abbrev pub PlainCallsAreRuns : Type 0
PlainCallsAreRuns = (a : Setting) (text : List ℕ) (r : Result (Unit {0}) TextsFault) (t : Traffic) (e : Errors)
    → IsPlain a → FontTextGives a text r t e → GivesAsRun r t (run_wanted a.opening (asked_in a) (job_by a text))

-- worked values: the bytes of a drawn text, and of a refused one
drawn_bytes : bytes_of (Ok (record { bytes = codes "P4"; unfitted = []; lacking = codes "A"; cost = 12; label = None })) ≡ Ok (codes "P4")
drawn_bytes = refl

no_bytes : bytes_of (Err (missing 67)) ≡ Err (missing 67)
no_bytes = refl

refused_alike : as_text {X = List ℕ} (Err (job fault.TextLong)) ≡ Err (refused (job fault.TextLong))
refused_alike = refl
