-- The picture of a text, and of a line, is what `run` gives for it.
use Rattle.std.proofs.Common.{◌≡◌, ◌∙◌, refl, ap, sym, ℕ, nat_lt, Bool, true, false, if◌then◌else◌, List, length, map, Option, Result, Ok, Err, arith}
use Rattle.std.proofs.lemmas.Bool.Decides.{nat_tests}
use Rattle.std.specs.Str.{is_utf8}
use Rattle.tt_face.specs.declared.rules.Opening.{Opening}
use Rattle.tt_core.specs.declared.fault.JobFault.TheVariants as fault
use Rattle.tt_core.specs.Chains.{came-through, passed-on}
use Rattle.tt_core.specs.Limits.{font_limit}
use Rattle.tt_core.specs.Outcomes.{◌>>=◌}
use Rattle.tt_fit.specs.Fitting.{Fitter}
use Rattle.tt_line.specs.Layout.{Placement}
use Rattle.tt_strike.specs.Costs.{cost_by, line_cost}
use Rattle.tt_picture.specs.declared.report.Unfitted.{Unfitted}
use Rattle.tt_picture.specs.Distinct.{distinct}
use Rattle.tt_picture.specs.Pictures.{Image}
use Rattle.tt_strike.specs.Work.{line_fitter}
use Rattle.tt_strike.specs.Job.{Job, tested}
use Rattle.tt_strike.specs.Picture.{drawn, line_outcome, line_shapes, pictured, pictured_by, setting_in, text_placed}
use Rattle.tt_picture.specs.Pixels.{Shape}
use Rattle.tt_strike.specs.Refusals.{Refused, as_font, as_job, job, large}
use Rattle.tt_picture.specs.Unfitted.{unfitted_among}
use Rattle.tt_strike.specs.Report.{line_report, report_by}
use Rattle.tt_strike.specs.Strikes.{Strike, job_of}
use Rattle.tt_face.specs.Faces.{Face}
use Rattle.tt_face.specs.Instance.{Asked, face_at_instance}
use Rattle.tt_render_settings.specs.declared.setting.Setting.{Setting}
use Rattle.tt_render_settings.specs.Lines.{line_drawn}
use Rattle.tt_render_texts.specs.Lines.{line_limit}
use Rattle.tt_render_run.specs.Outcome.{of_font}
use Rattle.tt_render_run.specs.Run.{run_outcome}
use Rattle.tt_render_streams.specs.File.{as_file}
use Rattle.tt_render_run.specs.File.{file_pictured}
use Rattle.tt_render_run.proofs.Files.{file_made}
use Rattle.tt_run_laws.specs.RunLaws.{LinesAreRuns, LinesAreTexts, TextsAreRuns, bytes_of}
use Rattle.tt_render_settings.specs.Settings.{DrawsAsItIs, asked_in, face_asked, job_by, strike_by, strike_of}
use Rattle.tt_render_settings.specs.Products.{picture_by, product_of}
use Rattle.tt_render_texts.specs.Answers.{TextAnswer}
use Rattle.tt_render_settings.specs.Texts.{TextRefusal, answer_of, as_text, missing_tested, not_utf8, refused, text_answer}

-- a text with a picture has a report
report_is : (face : Face) (a : Job) (line : Placement) (s : Fitter) (shapes : List Shape)
    → text_placed face a ≡ Ok line
    → as_font (setting_in face a) ≡ Ok s → line_shapes s a line ≡ Ok shapes
    → report_by face a ≡ Ok (unfitted_among (line_fitter s (map (λ g. g.0) line.glyphs)) (distinct (map (λ g. g.0) line.glyphs)))
unfolding report_by line_report
report_is face a line s shapes laid made drawn = rw (laid, made, drawn) refl

has_report : (face : Face) (a : Job) (i : Image) → line_outcome face a ≡ Ok i
    → (entries : List Unfitted) × (report_by face a ≡ Ok entries)
unfolding line_outcome pictured_by drawn
has_report face a i was =
    let by_tests = came-through (as_job (tested a)) _ i was in
    let by_line = came-through (text_placed face a) _ i by_tests.rest in
    let by_setting = came-through (as_font (setting_in face a)) _ i by_line.rest in
    let by_shapes = came-through (line_shapes by_setting.value a by_line.value) _ i by_setting.rest in
    let numbers = map (λ (g : ℕ × ℕ). g.0) by_line.value.glyphs in (
      unfitted_among (line_fitter by_setting.value numbers) (distinct numbers),
      report_is face a by_line.value by_setting.value by_shapes.value by_line.first by_setting.first by_shapes.first,
    )

-- a text with a picture has a cost
goes_on : {X : Type 0} (r : Result X Refused) (x : X) (f : X → Result ℕ Refused) → r ≡ Ok x
    → (n : ℕ) × (f x ≡ Ok n) → (n : ℕ) × ((r >>= f) ≡ Ok n)
goes_on r x f is (n, last) = (n, rw is last)

cost_is : (face : Face) (a : Job) (line : Placement) (s : Fitter) (shapes : List Shape)
    → text_placed face a ≡ Ok line
    → as_font (setting_in face a) ≡ Ok s → line_shapes s a line ≡ Ok shapes → (n : ℕ) × (cost_by face a ≡ Ok n)
unfolding cost_by line_cost
cost_is face a line s shapes laid made drawn = goes_on _ line _ laid (goes_on _ s _ made (goes_on _ shapes _ drawn (_, refl)))

has_cost : (face : Face) (a : Job) (i : Image) → line_outcome face a ≡ Ok i
    → (n : ℕ) × (cost_by face a ≡ Ok n)
unfolding line_outcome pictured_by drawn
has_cost face a i was =
    let by_tests = came-through (as_job (tested a)) _ i was in
    let by_line = came-through (text_placed face a) _ i by_tests.rest in
    let by_setting = came-through (as_font (setting_in face a)) _ i by_line.rest in
    let by_shapes = came-through (line_shapes by_setting.value a by_line.value) _ i by_setting.rest in
    cost_is face a by_line.value by_setting.value by_shapes.value by_line.first by_setting.first by_shapes.first

-- the bytes of an answer by its parts, where a picture has a report and a cost
drawn_unless : (bytes : List ℕ) (entries : List Unfitted) (lacking : Result (List ℕ) TextRefusal) (cost : ℕ)
    → bytes_of (answer_of (Ok bytes) (Ok entries) lacking (Ok cost)) ≡ (lacking >>= λ cs. Ok bytes)
drawn_unless bytes entries (Ok cs) cost = refl
drawn_unless bytes entries (Err why) cost = refl

bytes_by_parts : (picture : Result (List ℕ) Refused) (report : Result (List Unfitted) Refused)
    (lacking : Result (List ℕ) TextRefusal) (taken : Result ℕ Refused)
    → ((bytes : List ℕ) → picture ≡ Ok bytes → (entries : List Unfitted) × (report ≡ Ok entries))
    → ((bytes : List ℕ) → picture ≡ Ok bytes → (n : ℕ) × (taken ≡ Ok n))
    → bytes_of (answer_of picture report lacking taken) ≡ (as_text picture >>= λ bytes. lacking >>= λ cs. Ok bytes)
bytes_by_parts (Ok bytes) report lacking taken reported costed =
    let there = reported bytes refl in
    let cost = costed bytes refl in
    ap (λ (r : Result (List Unfitted) Refused). bytes_of (answer_of (Ok bytes) r lacking taken)) there.1
    ∙ ap (λ (r : Result ℕ Refused). bytes_of (answer_of (Ok bytes) (Ok there.0) lacking r)) cost.1
    ∙ drawn_unless bytes there.0 lacking cost.0
bytes_by_parts (Err why) report lacking taken reported costed = refl

pub ok_same : {X E : Type 0} (x y : X) → ◌≡◌ {A = Result X E} (Ok x) (Ok y) → x ≡ y
ok_same x y is = cc

by_file : (r : Opening) (i : Option Asked) (j : Job) (file : List ℕ) (face : Face) → nat_lt font_limit (length file) ≡ false
    → as_font (face_at_instance file r i) ≡ Ok face → as_file (pictured_by face j) ≡ of_font (file_pictured r i j) file
unfolding pictured
by_file r i j file face small read = rw (small, read) refl

file_after : (t : Result (Unit {0}) Refused) (r : Result Image Refused)
    → as_file (t >>= λ u. r) ≡ (t >>= λ u. as_file r)
file_after (Ok u) r = refl
file_after (Err why) r = refl

-- a strike that is opened by a file draws the picture of `run` for that file
is_run : (a : Setting) (file text : List ℕ) (s : Strike) → strike_of a file ≡ Ok s
    → as_file (line_outcome s.face (job_of s text a.margin)) ≡ run_outcome a.opening (asked_in a) (job_by a text) file
unfolding strike_of line_outcome run_outcome
is_run a file text s opened =
    let fits = passed-on (nat_lt font_limit (length file)) large
    (as_font (face_asked a file) >>= λ face. Ok (strike_by a face)) s opened in
    let by_face = came-through (as_font (face_asked a file)) _ s fits.1 in
    let face = by_face.value in
    let j = job_by a text in
    let same = ok_same (strike_by a face) s by_face.rest in
    let made = by_file a.opening (asked_in a) j file face fits.0 by_face.first in
    ap (λ (t : Strike). as_file (line_outcome t.face (job_of t text a.margin))) (sym same)
    ∙ file_after (as_job (tested j)) (pictured_by face j)
    ∙ ap (λ (r : Result (List ℕ) Refused). as_job (tested j) >>= λ u. r) made

picture_of : (a : Setting) (s : Strike) (text : List ℕ) → DrawsAsItIs a
    → product_of a s text ≡ as_file (line_outcome s.face (job_of s text a.margin))
unfolding product_of picture_by
picture_of a s text is = rw (is.picture, is.whole) refl

pub texts_are_runs : TextsAreRuns
unfolding text_answer
texts_are_runs a file text s is opened =
    let drawn = picture_of a s text is in
    let picture = drawn ∙ is_run a file text s opened in
    let j = job_of s text a.margin in
    let lacking = missing_tested s.face.cmap a.missing text in
    bytes_by_parts (product_of a s text) (report_by s.face j) lacking (cost_by s.face j)
    (λ bytes was. let made = file_made (line_outcome s.face j) bytes (sym drawn ∙ was) in has_report s.face j made.0 made.1)
    (λ bytes was. let made = file_made (line_outcome s.face j) bytes (sym drawn ∙ was) in has_cost s.face j made.0 made.1)
    ∙ ap (λ (r : Result (List ℕ) Refused). as_text r >>= λ bytes. lacking >>= λ cs. Ok bytes) picture

-- what is drawn by a strike was given by `run`
was_run : (ran : Result (List ℕ) Refused) (lacking : Result (List ℕ) TextRefusal) (bytes : List ℕ)
    → (as_text ran >>= λ made. lacking >>= λ cs. Ok made) ≡ Ok bytes → ran ≡ Ok bytes
was_run (Ok made) (Ok cs) bytes is = let same : made ≡ bytes = cc in ap Ok same
was_run (Ok made) (Err why) bytes is = absurd cc
was_run (Err why) lacking bytes is = absurd cc

-- a drawn line passed its tests
utf8_answer : (whole : Bool) (answer : Result TextAnswer TextRefusal) (t : TextAnswer)
    → (if whole then answer else Err not_utf8) ≡ Ok t → answer ≡ Ok t
utf8_answer true answer t was = was
utf8_answer false answer t was = absurd cc

line_passes : (a : Setting) (line : List ℕ) (s : Strike) (t : TextAnswer) → line_drawn a s line ≡ Ok t
    → text_answer a s line ≡ Ok t
unfolding line_drawn
line_passes a line s t was =
    let short = passed-on (nat_lt line_limit (length line)) (refused (job fault.TextLong)) _ t was in
    utf8_answer (is_utf8 line) (text_answer a s line) t short.1

pub lines_are_runs : LinesAreRuns
lines_are_runs a file line s t is opened was =
    let drawn : text_answer a s line ≡ Ok t = line_passes a line s t was in
    was_run (run_outcome a.opening (asked_in a) (job_by a line) file) (missing_tested s.face.cmap a.missing line) t.bytes
    (sym (texts_are_runs a file line s is opened) ∙ ap bytes_of drawn)

pub lines_are_texts : LinesAreTexts
unfolding line_drawn
lines_are_texts a line s short whole =
    let passes : nat_lt line_limit (length line) ≡ false = grind (arith, nat_tests) in
    rw (passes, whole) refl
