-- What `draw_text` gives by a plain setting is what `run` gives for the setting's job.
use Rattle.std.proofs.Common.{◌≡◌, ◌≢◌, ◌∙◌, refl, ap, sym, subst, ℕ, ◌<◌, nat_lt, Bool, true, false, if◌then◌else◌, List, [], length, map, chars, Option, Some, None, IfSome, Result, Ok, Err, inl, inr, arith}
use Rattle.std.proofs.lemmas.Bool.Decides.{nat_tests}
use Rattle.tt_cmap.specs.Lacking.{lacking_of}
use Rattle.tt_cmap.specs.Maps.{CharacterMap}
use Rattle.tt_core.specs.declared.fault.JobFault.{JobFault}
use Rattle.tt_core.specs.Chains.{came-through, passed-on}
use Rattle.tt_core.specs.Limits.{font_limit}
use Rattle.tt_core.specs.Outcomes.{◌>>=◌}
use Rattle.tt_picture.specs.declared.report.Unfitted.{Unfitted}
use Rattle.tt_picture.specs.Pictures.{Image}
use Rattle.tt_picture.specs.Unfitted.{ListsOnce}
use Rattle.tt_picture.proofs.Listing.{lists_once}
use Rattle.tt_strike.specs.Job.{Job, tested}
use Rattle.tt_strike.specs.Picture.{line_shapes, pictured, pictured_by, setting_in, text_placed}
use Rattle.tt_strike.specs.Refusals.{Refused, as_font, as_job, font, job, large}
use Rattle.tt_strike.specs.Report.{line_report, report_by, report_of}
use Rattle.tt_strike.specs.Strikes.{Strike, job_of}
use Rattle.tt_face.specs.Faces.{Face}
use Rattle.tt_strike.specs.Work.{line_fitter}
use Rattle.tt_render_streams.specs.declared.fault.RunFault.TheVariants as run
use Rattle.tt_render_streams.specs.File.{as_file}
use Rattle.tt_render_run.specs.File.{file_pictured}
use Rattle.tt_render_streams.specs.Traffic.{SendsAll, SendsFirst, Traffic}
use Rattle.tt_render_run.specs.Outcome.{WithBytes, of_font}
use Rattle.tt_render_streams.specs.Reading.{FontIsRead}
use Rattle.tt_render_run.specs.Run.{run_outcome, run_wanted}
use Rattle.tt_render_streams.proofs.Known.{known_of}
use Rattle.tt_render_run.proofs.Calls.{run_refused}
use Rattle.tt_render_texts.specs.declared.refusal.Refusal.{Refusal}
use Rattle.tt_render_texts.specs.declared.refusal.Refusal.TheVariants as reason
use Rattle.tt_render_texts.specs.declared.refusal.TextsFault.{TextsFault}
use Rattle.tt_render_settings.specs.declared.setting.Missing.{Missing}
use Rattle.tt_render_settings.specs.declared.setting.Missing.TheVariants as how
use Rattle.tt_render_settings.specs.declared.setting.Setting.{Setting}
use Rattle.tt_render_texts.specs.Printing.{Errors}
use Rattle.tt_run_laws.specs.RunLaws.{GivesAsRun, PlainCallsAreRuns, PlainReportsAreRuns, PlainTextsAreRuns, bytes_of}
use Rattle.tt_render_settings.specs.Settings.{IsPlain, asked_in, face_asked, job_by, strike_by, strike_of}
use Rattle.tt_render_texts.specs.Answers.{TextAnswer}
use Rattle.tt_render_settings.specs.Texts.{TextRefusal, answer_of, as_text, misfit, missing, missing_tested, not_utf8, refused, text_answer}
use Rattle.tt_render_settings.specs.Lines.{stream}
use Rattle.tt_render_settings.specs.TextsOutcome.{IsSilent, StopsAtFont, StopsFor, TextFails, TextGives, reader_in, told}
use Rattle.tt_render_settings.proofs.DefectLines.{if_some_more}
use Rattle.tt_run_laws.proofs.JobRefusals.{run_late, tested_early}
use Rattle.tt_run_laws.proofs.Runs.{ok_same, texts_are_runs}

-- no text is refused for a character without a glyph
none_refused : (m : CharacterMap) (asked : Missing) (text : List ℕ) → asked ≢ how.Refuse
    → (cs : List ℕ) × (missing_tested m asked text ≡ Ok cs)
unfolding missing_tested
none_refused m how.Draw text other = ([], refl)
none_refused m how.Tell text other = (lacking_of m (chars text), refl)
none_refused m how.Refuse text other = absurd (other refl)

none_told : (m : CharacterMap) (asked : Missing) (text cs : List ℕ) → asked ≡ how.Draw → missing_tested m asked text ≡ Ok cs
    → cs ≡ []
unfolding missing_tested
none_told m how.Draw text cs is tells = cc
none_told m how.Tell text cs is tells = absurd cc
none_told m how.Refuse text cs is tells = absurd cc

kept_as_run : (ran : Result (List ℕ) Refused) (lacking : Result (List ℕ) TextRefusal) (cs : List ℕ)
    → lacking ≡ Ok cs → (as_text ran >>= λ bytes. lacking >>= λ cs. Ok bytes) ≡ as_text ran
kept_as_run (Ok bytes) lacking cs is = rw is refl
kept_as_run (Err why) lacking cs is = refl

-- the answer by an opened font
of_strike : (a : Setting) (text file : List ℕ) (s : Strike) → IsPlain a → strike_of a file ≡ Ok s
    → bytes_of (text_answer a s text) ≡ as_text (run_outcome a.opening (asked_in a) (job_by a text) file)
of_strike a text file s plain opened =
    let none = none_refused s.face.cmap a.missing text plain.drawn in
    texts_are_runs a file text s plain.as_it_is opened
    ∙ kept_as_run (run_outcome a.opening (asked_in a) (job_by a text) file) (missing_tested s.face.cmap a.missing text) none.0 none.1

-- a font that is refused is refused alike
alike : (big : Bool) (r : Result Face Refused) (f : Face → Strike) (g : Face → Result Image Refused) (why : Refused)
    → (if big then Err large else (r >>= λ face. Ok (f face))) ≡ Err why
    → (if big then Err large else as_file (r >>= g)) ≡ Err why
alike true r f g why was = let same : large ≡ why = cc in ap Err same
alike false (Ok face) f g why was = absurd cc
alike false (Err e) f g why was = let same : e ≡ why = cc in ap Err same

of_no_strike : (a : Setting) (text file : List ℕ) (why : Refused) → tested (job_by a text) ≡ Ok tt
    → strike_of a file ≡ Err why → run_outcome a.opening (asked_in a) (job_by a text) file ≡ Err why
unfolding strike_of run_outcome pictured
of_no_strike a text file why good stops =
    let j = job_by a text in
    ap (λ (r : Result (Unit {0}) JobFault). as_job r >>= λ u. of_font (file_pictured a.opening (asked_in a) j) file) good
    ∙ alike (nat_lt font_limit (length file)) (as_font (face_asked a file)) (strike_by a) (λ face. pictured_by face j) why stops

by_strike : (a : Setting) (text file : List ℕ) (o : Result Strike Refused) → IsPlain a
    → tested (job_by a text) ≡ Ok tt → strike_of a file ≡ o
    → bytes_of (as_text o >>= λ s. text_answer a s text) ≡ as_text (run_outcome a.opening (asked_in a) (job_by a text) file)
by_strike a text file (Ok s) plain good opened = of_strike a text file s plain opened
by_strike a text file (Err why) plain good opened =
    sym (ap (λ (r : Result (List ℕ) Refused). as_text r) (of_no_strike a text file why good opened))

by_test : (a : Setting) (text file : List ℕ) (r : Result (Unit {0}) JobFault) → IsPlain a → tested (job_by a text) ≡ r
    → bytes_of (as_text (as_job r) >>= λ u. as_text (strike_of a file) >>= λ s. text_answer a s text)
    ≡ as_text (run_outcome a.opening (asked_in a) (job_by a text) file)
by_test a text file (Ok u) plain is = by_strike a text file (strike_of a file) plain is refl
by_test a text file (Err j) plain is =
    sym (ap (λ (r : Result (List ℕ) Refused). as_text r) (run_refused a.opening (asked_in a) (job_by a text) j is file))

pub plain_texts_are_runs : PlainTextsAreRuns
plain_texts_are_runs a text file plain = by_test a text file (tested (job_by a text)) plain refl

-- the parts of an answer
with_parts : (product : Result (List ℕ) Refused) (report : Result (List Unfitted) Refused)
    (lacking : Result (List ℕ) TextRefusal) (taken : Result ℕ Refused) (t : TextAnswer)
    → answer_of product report lacking taken ≡ Ok t → (report ≡ Ok t.unfitted) × (lacking ≡ Ok t.lacking)
with_parts (Err why) report lacking taken t is = absurd cc
with_parts (Ok bytes) (Err why) lacking taken t is = absurd cc
with_parts (Ok bytes) (Ok entries) (Err why) taken t is = absurd cc
with_parts (Ok bytes) (Ok entries) (Ok cs) (Err why) t is = absurd cc
with_parts (Ok bytes) (Ok entries) (Ok cs) (Ok n) t is =
    let same : record { bytes = bytes; unfitted = entries; lacking = cs; cost = n; label = None } ≡ t = cc in
    (ap (λ (t : TextAnswer). Ok t.unfitted) same, ap (λ (t : TextAnswer). Ok t.lacking) same)

parts_of : (a : Setting) (s : Strike) (text : List ℕ) (t : TextAnswer) → text_answer a s text ≡ Ok t
    → (report_by s.face (job_of s text a.margin) ≡ Ok t.unfitted)
    × (missing_tested s.face.cmap a.missing text ≡ Ok t.lacking)
unfolding text_answer
parts_of a s text t is = with_parts _ _ _ _ t is

report_of_file : (a : Setting) (text file : List ℕ) (s : Strike) → strike_of a file ≡ Ok s
    → report_of a.opening (asked_in a) (job_by a text) file ≡ report_by s.face (job_of s text a.margin)
unfolding strike_of report_of
report_of_file a text file s opened =
    let fits = passed-on (nat_lt font_limit (length file)) large
    (as_font (face_asked a file) >>= λ face. Ok (strike_by a face)) s opened in
    let by_face = came-through (as_font (face_asked a file)) _ s fits.1 in
    let same = ok_same (strike_by a by_face.value) s by_face.rest in
    ap (λ (r : Result Face Refused). r >>= λ face. report_by face (job_by a text)) by_face.first
    ∙ ap (λ (t : Strike). report_by t.face (job_of t text a.margin)) same

-- no glyph is listed twice
listed_once : (face : Face) (a : Job) (entries : List Unfitted) → report_by face a ≡ Ok entries → ListsOnce entries
unfolding report_by line_report
listed_once face a entries is =
    let by_line = came-through (text_placed face a) _ entries is in
    let by_setting = came-through (as_font (setting_in face a)) _ entries by_line.rest in
    let by_shapes = came-through (line_shapes by_setting.value a by_line.value) _ entries by_setting.rest in
    let numbers = map (λ (g : ℕ × ℕ). g.0) by_line.value.glyphs in
    subst ListsOnce (ok_same _ entries by_shapes.rest) (lists_once (line_fitter by_setting.value numbers) numbers)

text_alone : {X : Type 0} (r : Result X Refused) (x : X) → as_text r ≡ Ok x → r ≡ Ok x
text_alone (Ok y) x is = let same : y ≡ x = cc in ap Ok same
text_alone (Err why) x is = absurd cc

pub plain_reports_are_runs : PlainReportsAreRuns
plain_reports_are_runs a text file t plain drawn =
    let by_tests = came-through (as_text (as_job (tested (job_by a text)))) _ t drawn in
    let by_font = came-through (as_text (strike_of a file)) _ t by_tests.rest in
    let s = by_font.value in
    let parts = parts_of a s text t by_font.rest in (
      report_of_file a text file s (text_alone (strike_of a file) s by_font.first) ∙ parts.0,
      listed_once s.face (job_of s text a.margin) t.unfitted parts.0,
      λ asked. none_told s.face.cmap a.missing text t.lacking asked parts.1,
    )

-- the answer of `run` by that of the text
ran_to : (a : Setting) (text file : List ℕ) (s : Strike) (t : TextAnswer) → IsPlain a → strike_of a file ≡ Ok s
    → text_answer a s text ≡ Ok t → run_outcome a.opening (asked_in a) (job_by a text) file ≡ Ok t.bytes
ran_to a text file s t plain opened is =
    text_alone (run_outcome a.opening (asked_in a) (job_by a text) file) t.bytes (sym (of_strike a text file s plain opened) ∙ ap bytes_of is)

refused_alone : (r : Result (List ℕ) Refused) (why : Refused)
    → as_text r ≡ Err (refused why) → r ≡ Err why
refused_alone (Ok x) why is = absurd cc
refused_alone (Err e) why is = let same : e ≡ why = cc in ap Err same

ran_into : (a : Setting) (text file : List ℕ) (s : Strike) (why : TextRefusal) → IsPlain a → strike_of a file ≡ Ok s
    → text_answer a s text ≡ Err why → as_text (run_outcome a.opening (asked_in a) (job_by a text) file) ≡ Err why
ran_into a text file s why plain opened is = sym (of_strike a text file s plain opened) ∙ ap bytes_of is

-- `run` refuses a text by its reason alone
not_told : (r : Result (List ℕ) Refused) (why : TextRefusal) → ((e : Refused) → why ≢ refused e)
    → as_text r ≡ Err why → ⊥
not_told (Ok x) why other is = cc
not_told (Err e) why other is = other e cc

told_once : (why : Refusal) (r e : TextRefusal) → told why ≡ Some e → told why ≡ Some r → r ≡ e
told_once why r e is tells = cc

-- a file that is too large
run_of_large : (a : Setting) (text file : List ℕ) → tested (job_by a text) ≡ Ok tt → font_limit < length file
    → run_outcome a.opening (asked_in a) (job_by a text) file ≡ Err large
unfolding run_outcome
run_of_large a text file good big =
    let is_big : nat_lt font_limit (length file) ≡ true = grind (arith, nat_tests) in
    ap (λ (r : Result (Unit {0}) JobFault). as_job r >>= λ u. of_font (file_pictured a.opening (asked_in a) (job_by a text)) file) good
    ∙ ap (λ (b : Bool). if b then Err large else file_pictured a.opening (asked_in a) (job_by a text) file) is_big

-- a call that stopped before the text was drawn
before_text : (a : Setting) (text : List ℕ) (why : Refusal) (line : Option ℕ) (t : Traffic) (e : Errors)
    → StopsFor (tested (job_by a text)) (strike_of a) why line (reader_in t) → IsSilent t e
    → GivesAsRun {V = Unit {0}} (Err (record { line = line; refusal = why })) t (run_wanted a.opening (asked_in a) (job_by a text))
before_text a text (reason.Job j) None t e (bad, unread) silent =
    (run.Job j, refl, rw (tested_early (job_by a text) j bad) ((bad, run_refused a.opening (asked_in a) (job_by a text) j bad), unread, silent.0))
before_text a text reason.FontRead None t e (good, fails) silent = (run.Read, refl, (good, fails, silent.0))
before_text a text reason.FontLarge None t e (good, big, begun) silent =
    let refuses = if_some_more t.left_before (λ file. font_limit < length file)
    (λ file. run_outcome a.opening (asked_in a) (job_by a text) file ≡ Err large) (λ file is. run_of_large a text file good is) big in
    (run.FontLarge, refl, (good, refuses, begun, silent.0))
before_text a text (reason.Font f) None t e (good, file, read, bad) silent =
    let refuses = known_of t.left_before t.left_after file (λ all. run_outcome a.opening (asked_in a) (job_by a text) all ≡ Err (font f))
    read.0 read.1 (of_no_strike a text file (font f) good bad) in
    (run.Font f, refl, (good, refuses, (read.1, read.2), silent.0))
before_text a text reason.Memory None t e (good, begun) silent = (run.Memory, refl, (good, begun, silent.0))
before_text a text reason.NotUtf8 None t e stops silent = absurd stops
before_text a text (reason.Space wrong) None t e stops silent = absurd stops
before_text a text (reason.Missing c) None t e stops silent = absurd stops
before_text a text reason.Read None t e stops silent = absurd stops
before_text a text reason.Create None t e stops silent = absurd stops
before_text a text (reason.Write sent) None t e stops silent = absurd stops
before_text a text reason.Many None t e stops silent = absurd stops
before_text a text (reason.Job j) (Some n) t e stops silent = absurd stops
before_text a text reason.FontRead (Some n) t e stops silent = absurd stops
before_text a text reason.FontLarge (Some n) t e stops silent = absurd stops
before_text a text (reason.Font f) (Some n) t e stops silent = absurd stops
before_text a text reason.Memory (Some n) t e stops silent = absurd stops
before_text a text reason.NotUtf8 (Some n) t e stops silent = absurd stops
before_text a text (reason.Space wrong) (Some n) t e stops silent = absurd stops
before_text a text (reason.Missing c) (Some n) t e stops silent = absurd stops
before_text a text reason.Read (Some n) t e stops silent = absurd stops
before_text a text reason.Create (Some n) t e stops silent = absurd stops
before_text a text (reason.Write sent) (Some n) t e stops silent = absurd stops
before_text a text reason.Many (Some n) t e stops silent = absurd stops

-- a call that drew the text by an opened font, and failed
record IsOpened (a : Setting) (text file : List ℕ) (s : Strike) (t : Traffic) : Type 0 where
  plain : IsPlain a
  good : tested (job_by a text) ≡ Ok tt
  read : FontIsRead (reader_in t) file
  opened : strike_of a file ≡ Ok s

with_run : (a : Setting) (text file : List ℕ) (s : Strike) (t : Traffic) (answer : TextAnswer) (Q : List ℕ → Type 0)
    → IsOpened a text file s t → text_answer a s text ≡ Ok answer → Q answer.bytes
    → IfSome t.left_before (WithBytes (run_outcome a.opening (asked_in a) (job_by a text)) Q)
with_run a text file s t answer Q by is holds =
    known_of t.left_before t.left_after file (WithBytes (run_outcome a.opening (asked_in a) (job_by a text)) Q) by.read.0 by.read.1
    (answer.bytes, ran_to a text file s answer by.plain by.opened is, holds)

refused_run : (a : Setting) (text file : List ℕ) (s : Strike) (t : Traffic) (why : Refused)
    → IsOpened a text file s t → text_answer a s text ≡ Err (refused why)
    → run_outcome a.opening (asked_in a) (job_by a text) file ≡ Err why
refused_run a text file s t why by is =
    refused_alone (run_outcome a.opening (asked_in a) (job_by a text) file) why (ran_into a text file s (refused why) by.plain by.opened is)

never : (a : Setting) (text file : List ℕ) (s : Strike) (t : Traffic) (why : TextRefusal) → IsOpened a text file s t
    → ((e : Refused) → why ≢ refused e) → text_answer a s text ≡ Err why → ⊥
never a text file s t why by other is =
    not_told (run_outcome a.opening (asked_in a) (job_by a text) file) why other (ran_into a text file s why by.plain by.opened is)

at_text : (a : Setting) (text file : List ℕ) (s : Strike) (why : Refusal) (line : Option ℕ) (t : Traffic) (e : Errors)
    → IsOpened a text file s t → TextFails stream (text_answer a s text) why line t e
    → GivesAsRun {V = Unit {0}} (Err (record { line = line; refusal = why })) t (run_wanted a.opening (asked_in a) (job_by a text))
at_text a text file s reason.Create None t e by (creates, answer, is, kept, fails, silent) = absurd cc
at_text a text file s (reason.Write sent) None t e by (answer, is, few, first, fails, silent) =
    (run.Write sent, refl, (by.good, with_run a text file s t answer (SendsFirst sent t) by is (few, first), (by.read.1, by.read.2), fails))
at_text a text file s (reason.Font f) None t e by (r, tells, is, silent) =
    let same = told_once (reason.Font f) r (refused (font f)) refl tells in
    let ran = refused_run a text file s t (font f) by (rw (← same) is) in
    let refuses = known_of t.left_before t.left_after file (λ all. run_outcome a.opening (asked_in a) (job_by a text) all ≡ Err (font f))
    by.read.0 by.read.1 ran in
    (run.Font f, refl, (by.good, refuses, (by.read.1, by.read.2), silent.0))
at_text a text file s (reason.Job j) None t e by (r, tells, is, silent) =
    let same = told_once (reason.Job j) r (refused (job j)) refl tells in
    let ran = refused_run a text file s t (job j) by (rw (← same) is) in
    let refuses = known_of t.left_before t.left_after file (λ all. run_outcome a.opening (asked_in a) (job_by a text) all ≡ Err (job j))
    by.read.0 by.read.1 ran in
    (run.Job j, refl, rw (run_late a.opening (asked_in a) (job_by a text) file j by.good ran) (by.good, refuses, (by.read.1, by.read.2), silent.0))
at_text a text file s reason.NotUtf8 None t e by (r, tells, is, silent) =
    let same = told_once reason.NotUtf8 r not_utf8 refl tells in
    absurd (never a text file s t not_utf8 by (λ e. λ same. cc) (rw (← same) is))
at_text a text file s (reason.Space wrong) None t e by (r, tells, is, silent) =
    let same = told_once (reason.Space wrong) r (misfit wrong) refl tells in
    absurd (never a text file s t (misfit wrong) by (λ e. λ same. cc) (rw (← same) is))
at_text a text file s (reason.Missing c) None t e by (r, tells, is, silent) =
    let same = told_once (reason.Missing c) r (missing c) refl tells in
    absurd (never a text file s t (missing c) by (λ e. λ same. cc) (rw (← same) is))
at_text a text file s reason.FontRead None t e by (r, tells, is, silent) = absurd cc
at_text a text file s reason.FontLarge None t e by (r, tells, is, silent) = absurd cc
at_text a text file s reason.Read None t e by (r, tells, is, silent) = absurd cc
at_text a text file s reason.Many None t e by (r, tells, is, silent) = absurd cc
at_text a text file s reason.Memory None t e by (r, tells, is, silent) = absurd cc
at_text a text file s reason.Create (Some n) t e by fails = absurd fails
at_text a text file s (reason.Write sent) (Some n) t e by fails = absurd fails
at_text a text file s (reason.Font f) (Some n) t e by fails = absurd fails
at_text a text file s (reason.Job j) (Some n) t e by fails = absurd fails
at_text a text file s reason.NotUtf8 (Some n) t e by fails = absurd fails
at_text a text file s (reason.Space wrong) (Some n) t e by fails = absurd fails
at_text a text file s (reason.Missing c) (Some n) t e by fails = absurd fails
at_text a text file s reason.FontRead (Some n) t e by fails = absurd fails
at_text a text file s reason.FontLarge (Some n) t e by fails = absurd fails
at_text a text file s reason.Read (Some n) t e by fails = absurd fails
at_text a text file s reason.Many (Some n) t e by fails = absurd fails
at_text a text file s reason.Memory (Some n) t e by fails = absurd fails

stopped : (a : Setting) (text : List ℕ) (r : Result (Unit {0}) TextsFault) (t : Traffic) (e : Errors)
    → StopsAtFont (tested (job_by a text)) (strike_of a) r (reader_in t) → IsSilent t e
    → GivesAsRun r t (run_wanted a.opening (asked_in a) (job_by a text))
stopped a text (Ok v) t e stops silent = absurd stops
stopped a text (Err fault) t e stops silent = before_text a text fault.refusal fault.line t e stops silent

drew : (a : Setting) (text file : List ℕ) (s : Strike) (r : Result (Unit {0}) TextsFault) (t : Traffic) (e : Errors)
    → IsOpened a text file s t → TextGives stream (text_answer a s text) r t e → GivesAsRun r t (run_wanted a.opening (asked_in a) (job_by a text))
drew a text file s (Ok v) t e by (answer, is, sent, serves, printed) =
    (by.good, with_run a text file s t answer (SendsAll t) by is sent, (by.read.1, by.read.2), serves)
drew a text file s (Err fault) t e by fails = at_text a text file s fault.refusal fault.line t e by fails

pub plain_calls_are_runs : PlainCallsAreRuns
plain_calls_are_runs a text r t e plain (inl (stops, silent)) = stopped a text r t e stops silent
plain_calls_are_runs a text r t e plain (inr (good, file, read, s, opened, gives)) =
    drew a text file s r t e (record { plain = plain; good = good; read = read; opened = opened }) gives
