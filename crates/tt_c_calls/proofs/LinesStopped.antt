-- A call that draws lines, and stops before the first line.
use Rattle.std.proofs.Common.{◌≡◌, ◌≢◌, ◌∙◌, ◌<◌, ap, refl, ℕ, List, [], length, IfSome, Result, Ok, Err, inl, inr, arith, subst, sym}
use Rattle.std.specs.Prelude.{◌==◌}
use Rattle.tt_core.specs.Chains.{came-through}
use Rattle.tt_face.specs.declared.rules.Opening.{Opening}
use Rattle.tt_core.specs.declared.fault.JobFault.{JobFault}
use Rattle.tt_core.specs.Faults.{Fault}
use Rattle.tt_core.specs.Outcomes.{◌>>=◌}
use Rattle.tt_face.specs.Faces.{Face}
use Rattle.tt_fit.specs.declared.programs.Fit.{Fit}
use Rattle.tt_render_settings.specs.declared.setting.Setting.{Setting}
use Rattle.tt_render_settings.specs.Settings.{job_by, plain_setting}
use Rattle.tt_core.specs.declared.draw_fault.DrawFault.{DrawFault}
use Rattle.tt_core.specs.declared.draw_fault.DrawFault.TheVariants as draw
use Rattle.tt_strike.specs.Job.{Job, size_tested, tested}
use Rattle.tt_strike.specs.Refusals.{as_job, font, job, large, refusal}
use Rattle.tt_strike.specs.Strikes.{Strike}
use Rattle.tt_c_calls.specs.Fonts.{job_opened}
use Rattle.tt_c_calls.specs.declared.answer.CAnswer.{CAnswer}
use Rattle.tt_c_calls.specs.declared.asked.CJob.{CJob}
use Rattle.tt_c_calls.specs.declared.fault.CallFault.{CallFault}
use Rattle.tt_c_calls.specs.declared.fault.CallFault.TheVariants as call
use Rattle.tt_c_calls.specs.declared.line_drawing.CLine.{CLine}
use Rattle.tt_c_calls.specs.Answers.{call_answer, room_answer}
use Rattle.tt_c_calls.specs.Asked.{fit_asked, job_fit, job_instance, job_opening}
use Rattle.tt_c_calls.specs.Lines.{AnswersInOrder, DrawsLines, EndsWith, IsStrikeFor, LineDefectStands, lines_wanted}
use Rattle.tt_c_calls.specs.Refusals.{Refusal, as_call, axes_many, box_range, box_small, call_font_fault, call_of_draw, call_refusal, line_ends, not_utf8, refused, unknown_align, unknown_fit, width_range}
use Rattle.tt_c_calls.proofs.Answered.{by_opening}
use Rattle.tt_c_calls.proofs.AskedTables.{fit_by_itself, job_face_opened, no_fit}
use Rattle.tt_c_calls.proofs.OpenedAt.{file_opened}
use Rattle.tt_c_calls.proofs.StrikeLines.{if_some_more, not_done}

-- no line was drawn
none_drawn : (j : CJob) (file texts ends room : List ℕ) (told : List CLine)
    → DrawsLines j file texts ends room room told told 0 0
none_drawn j file texts ends room told =
    record {
      few = omega arith;
      within = tt;
      drawn = tt;
      affordable = λ i less. absurd (omega (arith, less));
      bytes = refl;
      rest = refl;
      others = refl;
    }

-- the reason why no line was drawn
abbrev IsDrawnNone : CJob → List ℕ → List ℕ → List ℕ → List ℕ → List CLine → CallFault → Type 0
IsDrawnNone j file texts ends room told e = (used : ℕ)
    × DrawsLines j file texts ends room room told told used (call_answer e).count
    × EndsWith j file texts ends (length room) used (call_answer e)

pub lines_refused : (j : CJob) (file texts ends room : List ℕ) (told : List CLine) (e : CallFault)
    → IfSome (call_refusal e) (λ why. lines_wanted j file ≡ Err why) → IsDrawnNone j file texts ends room told e
lines_refused j file texts ends room told (call.Font f) h =
    (0, none_drawn j file texts ends room told, inr (not_done (call.Font f), inl (refused (font f), h, refl)))
lines_refused j file texts ends room told (call.Job why) h =
    (0, none_drawn j file texts ends room told, inr (not_done (call.Job why), inl (refused (job why), h, refl)))
lines_refused j file texts ends room told call.FontLarge h =
    (0, none_drawn j file texts ends room told, inr (not_done call.FontLarge, inl (refused large, h, refl)))
lines_refused j file texts ends room told call.UnknownFit h =
    (0, none_drawn j file texts ends room told, inr (not_done call.UnknownFit, inl (unknown_fit, h, refl)))
lines_refused j file texts ends room told call.LineEnds h =
    (0, none_drawn j file texts ends room told, inr (not_done call.LineEnds, inl (line_ends, h, refl)))
lines_refused j file texts ends room told call.UnknownAlign h =
    (0, none_drawn j file texts ends room told, inr (not_done call.UnknownAlign, inl (unknown_align, h, refl)))
lines_refused j file texts ends room told call.AxesMany h =
    (0, none_drawn j file texts ends room told, inr (not_done call.AxesMany, inl (axes_many, h, refl)))
lines_refused j file texts ends room told call.WidthRange h =
    (0, none_drawn j file texts ends room told, inr (not_done call.WidthRange, inl (width_range, h, refl)))
lines_refused j file texts ends room told call.BoxRange h =
    (0, none_drawn j file texts ends room told, inr (not_done call.BoxRange, inl (box_range, h, refl)))
lines_refused j file texts ends room told call.BoxSmall h =
    (0, none_drawn j file texts ends room told, inr (not_done call.BoxSmall, inl (box_small, h, refl)))
lines_refused j file texts ends room told call.NotUtf8 h =
    (0, none_drawn j file texts ends room told, inr (not_done call.NotUtf8, inl (not_utf8, h, refl)))
lines_refused j file texts ends room told call.Memory h =
    (0, none_drawn j file texts ends room told, inr (not_done call.Memory, inr (inl refl)))

-- the answer before any line is drawn
pub refused_first : (wanted : Result Face Refusal) (room lines : ℕ) (e : CallFault) → e ≢ call.Memory
    → IfSome (call_refusal e) (λ why. wanted ≡ Err why) → AnswersInOrder wanted room lines (call_answer e)
refused_first wanted room lines (call.Font f) other h = rw h refl
refused_first wanted room lines (call.Job why) other h = rw h refl
refused_first wanted room lines call.FontLarge other h = rw h refl
refused_first wanted room lines call.UnknownFit other h = rw h refl
refused_first wanted room lines call.LineEnds other h = rw h refl
refused_first wanted room lines call.UnknownAlign other h = rw h refl
refused_first wanted room lines call.AxesMany other h = rw h refl
refused_first wanted room lines call.WidthRange other h = rw h refl
refused_first wanted room lines call.BoxRange other h = rw h refl
refused_first wanted room lines call.BoxSmall other h = rw h refl
refused_first wanted room lines call.NotUtf8 other h = rw h refl
refused_first wanted room lines call.Memory other h = absurd (other refl)

pub job_first : (wanted : Result Face Refusal) (room lines : ℕ) (why : JobFault) → wanted ≡ Err (refused (job why))
    → AnswersInOrder wanted room lines (call_answer (call.Job why))
job_first wanted room lines why h = rw h refl

pub opened_first : (wanted : Result Face Refusal) (face : Face) (room lines : ℕ) (a : CAnswer) → wanted ≡ Ok face
    → (room < lines → a ≡ room_answer 0 lines) → AnswersInOrder wanted room lines a
opened_first wanted face room lines a h small = rw h small

-- too small a room for the lines names no defect
pub room_names_none : (IsOne : Fault → Type 0) (bytes count : ℕ) → LineDefectStands IsOne (room_answer bytes count)
room_names_none IsOne bytes count is = absurd (omega arith)

-- the way to fit is refused
pub fit_refused : (j : CJob) (file : List ℕ) (e : CallFault)
    → IfSome (call_refusal e) (λ why. job_fit j ≡ Err why)
    → IfSome (call_refusal e) (λ why. lines_wanted j file ≡ Err why)
unfolding lines_wanted
fit_refused j file e = if_some_more (call_refusal e) _ _ (λ why h. rw h refl)

pub number_defect : (n : ℕ) (IsOne : Fault → Type 0) (e : CallFault)
    → IfSome (call_refusal e) (λ why. fit_asked n ≡ Err why) → IfSome (call_font_fault e) IsOne
unfolding fit_asked
number_defect n IsOne (call.Font f) is = absurd (no_fit (n == 0) (n == 1) (n == 2) (n == 3) (font f) is)
number_defect n IsOne (call.Job j) is = tt
number_defect n IsOne call.FontLarge is = tt
number_defect n IsOne call.UnknownFit is = tt
number_defect n IsOne call.LineEnds is = tt
number_defect n IsOne call.UnknownAlign is = tt
number_defect n IsOne call.AxesMany is = tt
number_defect n IsOne call.WidthRange is = tt
number_defect n IsOne call.BoxRange is = tt
number_defect n IsOne call.BoxSmall is = tt
number_defect n IsOne call.NotUtf8 is = tt
number_defect n IsOne call.Memory is = tt

pub fit_defect : (j : CJob) (IsOne : Fault → Type 0) (e : CallFault)
    → IfSome (call_refusal e) (λ why. job_fit j ≡ Err why) → IfSome (call_font_fault e) IsOne
fit_defect j IsOne (call.Font f) is = absurd (fit_by_itself j (font f) is)
fit_defect j IsOne (call.Job why) is = tt
fit_defect j IsOne call.FontLarge is = tt
fit_defect j IsOne call.UnknownFit is = tt
fit_defect j IsOne call.LineEnds is = tt
fit_defect j IsOne call.UnknownAlign is = tt
fit_defect j IsOne call.AxesMany is = tt
fit_defect j IsOne call.WidthRange is = tt
fit_defect j IsOne call.BoxRange is = tt
fit_defect j IsOne call.BoxSmall is = tt
fit_defect j IsOne call.NotUtf8 is = tt
fit_defect j IsOne call.Memory is = tt

-- the defect that an answer reports
pub lines_defect_told : (IsOne : Fault → Type 0) (e : CallFault) → IfSome (call_font_fault e) IsOne
    → LineDefectStands IsOne (call_answer e)
lines_defect_told IsOne (call.Font f) stands is = (f, refl, stands)
lines_defect_told IsOne (call.Job j) stands is = absurd (omega arith)
lines_defect_told IsOne call.FontLarge stands is = absurd (omega arith)
lines_defect_told IsOne call.UnknownFit stands is = absurd (omega arith)
lines_defect_told IsOne call.LineEnds stands is = absurd (omega arith)
lines_defect_told IsOne call.UnknownAlign stands is = absurd (omega arith)
lines_defect_told IsOne call.AxesMany stands is = absurd (omega arith)
lines_defect_told IsOne call.WidthRange stands is = absurd (omega arith)
lines_defect_told IsOne call.BoxRange stands is = absurd (omega arith)
lines_defect_told IsOne call.BoxSmall stands is = absurd (omega arith)
lines_defect_told IsOne call.NotUtf8 stands is = absurd (omega arith)
lines_defect_told IsOne call.Memory stands is = absurd (omega arith)

-- the size or the margin is refused
abbrev of_no_text : CJob → Fit → Job
of_no_text j how = record { text = []; ppem = j.size; margin = j.margin; fit = how }

-- a setting's job of no text
pub of_setting : (j : CJob) (how : Fit) (by : Opening) (s : Setting) (a : Job) (r : Result (Unit {0}) JobFault)
    → a ≡ job_by s [] → s ≡ plain_setting j.size j.margin how by → tested a ≡ r → tested (of_no_text j how) ≡ r
of_setting j how by s a r is of test =
    subst (λ (b : Job). tested b ≡ r) (is ∙ ap (λ (t : Setting). job_by t []) of) test

pub job_refused : (j : CJob) (file : List ℕ) (how : Fit) (why : JobFault) → job_fit j ≡ Ok how
    → tested (of_no_text j how) ≡ Err why → lines_wanted j file ≡ Err (refused (job why))
unfolding lines_wanted
job_refused j file how why fits test = rw (fits, test) refl

-- the font is refused
all_faces : (r : Result Face Refusal) → (r >>= λ face. as_call {X = Face} (Ok face)) ≡ r
all_faces (Ok face) = refl
all_faces (Err why) = refl

lines_of_font : (j : CJob) (file : List ℕ) (how : Fit) → job_fit j ≡ Ok how → tested (of_no_text j how) ≡ Ok tt
    → lines_wanted j file ≡ job_opened j how file
unfolding lines_wanted
lines_of_font j file how fits test =
    rw fits (by_opening (tested (of_no_text j how)) (λ face. Ok face) (job_opening j how) (job_instance j) file test
    ∙ all_faces (job_opened j how file))

pub lines_opened : (j : CJob) (file : List ℕ) (how : Fit) (face : Face) → job_fit j ≡ Ok how
    → tested (of_no_text j how) ≡ Ok tt → job_opened j how file ≡ Ok face
    → lines_wanted j file ≡ Ok face
lines_opened j file how face fits test found = lines_of_font j file how fits test ∙ found

pub face_refused : (j : CJob) (file : List ℕ) (how : Fit) (e : CallFault) → job_fit j ≡ Ok how
    → tested (of_no_text j how) ≡ Ok tt
    → IfSome (call_refusal e) (λ why. job_opened j how file ≡ Err why)
    → IfSome (call_refusal e) (λ why. lines_wanted j file ≡ Err why)
face_refused j file how e fits test = if_some_more (call_refusal e) _ _
    (λ why h. lines_of_font j file how fits test ∙ h)

-- the strike is refused where memory ran out, and nowhere else
size_passed : (j : CJob) (how : Fit) → tested (of_no_text j how) ≡ Ok tt → size_tested j.size ≡ Ok tt
unfolding tested
size_passed j how test = (came-through (size_tested j.size) _ tt test).first

no_memory : (d : DrawFault) (t : Result (Unit {0}) JobFault) → t ≡ Ok tt
    → IfSome (refusal d) (λ why. as_job t ≡ Err why) → call_of_draw d ≡ call.Memory
no_memory (draw.Font f) t passed h = let never = rw passed at h in absurd cc
no_memory (draw.Job j) t passed h = let never = rw passed at h in absurd cc
no_memory draw.Memory t passed h = refl

pub strike_refused : (j : CJob) (how : Fit) (d : DrawFault) → tested (of_no_text j how) ≡ Ok tt
    → IfSome (refusal d) (λ why. as_job (size_tested j.size) ≡ Err why) → call_of_draw d ≡ call.Memory
strike_refused j how d test h = no_memory d (size_tested j.size) (size_passed j how test) h

-- a strike whose cached glyphs alone have changed
pub for_kept : (j : CJob) (file : List ℕ) (s t : Strike) → t ≡ record s { kept = t.kept } → IsStrikeFor j file s
    → IsStrikeFor j file t
for_kept j file s t alone for =
    let P : Strike → Type 0 = λ x. IsStrikeFor j file x in
    subst P (sym alone) (record { face = for.face; fit = for.fit; size = for.size })

pub kept_alone : (r s t : Strike) → s ≡ record r { kept = s.kept } → t ≡ record s { kept = t.kept }
    → t ≡ record r { kept = t.kept }
kept_alone r s t first second = second ∙ ap (λ (x : Strike). record x { kept = t.kept }) first

-- the font of a strike
pub file_is : (j : CJob) (how : Fit) (file : List ℕ) (face : Face) → job_opened j how file ≡ Ok face → face.directory.file ≡ file
file_is j how file face is =
    sym (file_opened file (job_opening j how) (job_instance j) face (job_face_opened j how file face is))

pub strike_for : (j : CJob) (file : List ℕ) (how : Fit) (face : Face) (s : Strike) (most : ℕ) → job_fit j ≡ Ok how
    → tested (of_no_text j how) ≡ Ok tt → job_opened j how file ≡ Ok face
    → s ≡ record { face = face; ppem = j.size; fit = how; most = most; kept = [] } → IsStrikeFor j s.face.directory.file s
strike_for j file how face s most fits test found is =
    let for : IsStrikeFor j file s =
    rw is (record { face = lines_opened j file how face fits test found; fit = fits; size = refl }) in
    let same : s.face.directory.file ≡ file = rw is (file_is j how file face found) in
    let P : List ℕ → Type 0 = λ l. IsStrikeFor j l s in subst P (sym same) for
