-- The bitmaps of a list are those of the font's tables, and its entries tell the defects of their glyphs.
use Rattle.std.proofs.Common.{◌≡◌, ◌∙◌, ℕ, List, [], Option, Some, None, Result, Ok, Err, ap, arith, get_or, inl, inr, refl, subst, sym}
use Rattle.std.specs.Prelude.{All, IfSome, IsOkAnd}
use Rattle.std.proofs.lemmas.Str.{chars-nil}
use Rattle.tt_core.specs.Chains.{came-through}
use Rattle.tt_core.specs.declared.draw_fault.DrawFault.{DrawFault}
use Rattle.tt_core.specs.declared.fault.JobFault.{JobFault}
use Rattle.tt_core.specs.Faults.{Fault}
use Rattle.tt_core.specs.Outcomes.{◌>>=◌, draw_font_fault}
use Rattle.tt_face.specs.Faces.{Face}
use Rattle.tt_face.specs.declared.rules.Opening.{Opening}
use Rattle.tt_fit.specs.declared.programs.Fit.{Fit}
use Rattle.tt_fit.specs.Defects.{IsOutlineDefect}
use Rattle.tt_fit.specs.Fitting.{Fitter}
use Rattle.tt_glyphs.specs.declared.told.GlyphEntry.{GlyphEntry}
use Rattle.tt_glyphs.specs.declared.told.MadeBitmap.{MadeBitmap}
use Rattle.tt_glyphs.specs.declared.told.Told.{Told}
use Rattle.tt_glyphs.specs.declared.told.Told.TheVariants as told
use Rattle.tt_glyphs.specs.Defects.{TellGlyphDefects, TellsDefectsOf}
use Rattle.tt_glyphs.specs.Entries.{known}
use Rattle.tt_glyphs.specs.Requests.{GlyphJob, bitmaps_in, bitmaps_outcome, count_tested, job_for, limits_tested, request_tested}
use Rattle.tt_render_settings.specs.declared.setting.Setting.{Setting}
use Rattle.tt_render_settings.specs.Settings.{job_by, plain_setting}
use Rattle.tt_strike.specs.Defects.{IsSettingDefect}
use Rattle.tt_strike.specs.Job.{Job, margin_tested, size_tested, tested, text_tested}
use Rattle.tt_strike.specs.Makers.{job_at}
use Rattle.tt_strike.specs.Picture.{setting}
use Rattle.tt_strike.specs.Refusals.{job}
use Rattle.tt_strike.specs.Work.{line_fitter}
use Rattle.tt_c_calls.specs.declared.asked.CJob.{CJob}
use Rattle.tt_c_calls.specs.declared.fault.CallFault.{CallFault}
use Rattle.tt_c_calls.specs.Asked.{IsPlainFaceDefect, job_fit, job_instance, plain_of}
use Rattle.tt_c_calls.specs.Bitmaps.{EntryStands, IsListDefect, IsListGlyphDefect, bitmap_by, bitmap_told, bitmaps_wanted}
use Rattle.tt_c_calls.specs.Fonts.{plain_opened}
use Rattle.tt_c_calls.specs.Refusals.{as_call, call_font_fault, call_of_draw, call_refusal, refused}
use Rattle.tt_c_calls.proofs.Answered.{by_opening, by_test, draw_tells, first_stops}
use Rattle.tt_c_calls.proofs.AskedTables.{plain_face_opened}
use Rattle.tt_c_calls.proofs.StrikeLines.{if_some_more}

-- the job by which the size of a list is tested: no text, and no margin
abbrev pub of_size : ℕ → Fit → Job
of_size size how = record { text = []; ppem = size; margin = 0; fit = how }

pub of_plain : (size : ℕ) (how : Fit) (by : Opening) (s : Setting) (a : Job) (r : Result (Unit {0}) JobFault)
    → a ≡ job_by s [] → s ≡ plain_setting size 0 how by → tested a ≡ r → tested (of_size size how) ≡ r
of_plain size how by s a r is of test =
    subst (λ (b : Job). tested b ≡ r) (is ∙ ap (λ (t : Setting). job_by t []) of) test

pub size_passed : (size : ℕ) (how : Fit) → tested (of_size size how) ≡ Ok tt → size_tested size ≡ Ok tt
unfolding tested
size_passed size how test = (came-through (size_tested size) _ tt test).first

first_fails : (r rest : Result (Unit {0}) JobFault) (j : JobFault) → rest ≡ Ok tt → (r >>= λ u. rest) ≡ Err j → r ≡ Err j
first_fails (Ok u) rest j passes is = let never = rw passes at is in absurd cc
first_fails (Err e) rest j passes is = is

rest_passes : (margin_tested 0 >>= λ u. text_tested []) ≡ Ok tt
unfolding margin_tested text_tested
rest_passes = rw chars-nil refl

pub size_failed : (size : ℕ) (how : Fit) (j : JobFault) → tested (of_size size how) ≡ Err j → size_tested size ≡ Err j
unfolding tested
size_failed size how j test = first_fails (size_tested size) (margin_tested 0 >>= λ u. text_tested []) j rest_passes test

pub size_refuses : (gs : List ℕ) (size : ℕ) (j : JobFault) → size_tested size ≡ Err j → limits_tested gs size ≡ Err j
size_refuses gs size j fails = rw fails refl

pub count_tells : (gs : List ℕ) (size : ℕ) (r : Result (Unit {0}) JobFault) → size_tested size ≡ Ok tt
    → count_tested gs ≡ r → limits_tested gs size ≡ r
count_tells gs size r passes counted = rw passes counted

-- the request is refused before the font is looked at
pub fit_refuses : (j : CJob) (gs font : List ℕ) (e : CallFault)
    → IfSome (call_refusal e) (λ why. job_fit j ≡ Err why)
    → IfSome (call_refusal e) (λ why. bitmaps_wanted j gs font ≡ Err why)
unfolding bitmaps_wanted
fit_refuses j gs font e is = first_stops (job_fit j) _ e is

pub list_refused : (j : CJob) (gs font : List ℕ) (how : Fit) (why : JobFault) → job_fit j ≡ Ok how
    → limits_tested gs j.size ≡ Err why → bitmaps_wanted j gs font ≡ Err (refused (job why))
unfolding bitmaps_wanted
list_refused j gs font how why fits fails = rw fits (by_test (limits_tested gs j.size) _ why fails)

of_tables : (j : CJob) (gs font : List ℕ) (how : Fit) → job_fit j ≡ Ok how → limits_tested gs j.size ≡ Ok tt
    → bitmaps_wanted j gs font
    ≡ (plain_opened j how font >>= λ face. as_call (bitmaps_in face (job_for gs j.size how)))
unfolding bitmaps_wanted
of_tables j gs font how fits passes =
    rw fits (by_opening (limits_tested gs j.size) (λ face. bitmaps_in face (job_for gs j.size how)) (plain_of j how)
    (job_instance j) font passes)

pub face_refuses : (j : CJob) (gs font : List ℕ) (how : Fit) (e : CallFault) → job_fit j ≡ Ok how
    → limits_tested gs j.size ≡ Ok tt → IfSome (call_refusal e) (λ why. plain_opened j how font ≡ Err why)
    → IfSome (call_refusal e) (λ why. bitmaps_wanted j gs font ≡ Err why)
face_refuses j gs font how e fits passes is =
    rw (of_tables j gs font how fits passes) (first_stops (plain_opened j how font) _ e is)

outcome_is : (face : Face) (a : GlyphJob) → request_tested a ≡ Ok tt → bitmaps_outcome face a ≡ bitmaps_in face a
unfolding bitmaps_outcome
outcome_is face a passes = rw passes refl

pub by_opened : (j : CJob) (gs font : List ℕ) (how : Fit) (face : Face) → job_fit j ≡ Ok how
    → limits_tested gs j.size ≡ Ok tt → plain_opened j how font ≡ Ok face
    → bitmaps_wanted j gs font ≡ as_call (bitmaps_outcome face (job_for gs j.size how))
by_opened j gs font how face fits passes read =
    of_tables j gs font how fits passes ∙ rw read (ap as_call (sym (outcome_is face (job_for gs j.size how) passes)))

-- a defect of the font's tables, or of the tables and programs that every glyph needs
pub face_stands : (j : CJob) (font : List ℕ) (how : Fit) (e : CallFault) → job_fit j ≡ Ok how
    → IfSome (call_font_fault e) (IsPlainFaceDefect j how font) → IfSome (call_font_fault e) (IsListDefect j font)
face_stands j font how e fits = if_some_more (call_font_fault e) _ _ (λ f h. rw fits (inl h))

pub setting_stands : (j : CJob) (font : List ℕ) (how : Fit) (face : Face) (d : DrawFault) → job_fit j ≡ Ok how
    → plain_opened j how font ≡ Ok face
    → IfSome (draw_font_fault d) (IsSettingDefect face (job_at j.size how))
    → IfSome (call_font_fault (call_of_draw d)) (IsListDefect j font)
setting_stands j font how face d fits read is =
    if_some_more (call_font_fault (call_of_draw d)) (IsSettingDefect face (job_at j.size how)) (IsListDefect j font)
    (λ f h. rw (fits, plain_face_opened j how font face read) (inr h)) (draw_tells _ d is)

-- an entry that refuses its glyph for a defect names the defect of its report
entry_stands : (P : ℕ → Fault → Type 0) (e : GlyphEntry) (t : Told) → ((f : Fault) → t ≡ told.Broken f → P e.glyph f)
    → EntryStands P (bitmap_by e t)
entry_stands P e told.Unknown is = λ one. absurd (omega (arith, one))
entry_stands P e (told.Broken f) is = λ one. (f, refl, is f refl)
entry_stands P e told.Large is = λ one. absurd (omega (arith, one))
entry_stands P e (told.Made m) is = made m m.unfitted refl
  where
    made : (m : MadeBitmap) (u : Option Fault) → m.unfitted ≡ u → EntryStands P (bitmap_by e (told.Made m))
    made m None none = rw none (λ one. absurd (omega (arith, one)))
    made m (Some f) some = rw some (λ one. absurd (omega (arith, one)))

broken_stands : (s : Fitter) (g : ℕ) (t : Told) → TellsDefectsOf s g t → (f : Fault) → t ≡ told.Broken f
    → IsOutlineDefect s g f
broken_stands s g t tells f is = rw is at tells

all_stand : (P : ℕ → Fault → Type 0) (s : Fitter) (gs : List ℕ) (es : List GlyphEntry)
    → ((g : ℕ) (f : Fault) → IsOutlineDefect (line_fitter s (known s gs) g) g f → P g f) → TellGlyphDefects s gs es
    → All (λ (e : GlyphEntry). EntryStands P (bitmap_told e)) es
all_stand P s gs es more tells = λ k d within.
    let e = get_or es k d in
    entry_stands P e e.told (λ f is. more e.glyph f
    (broken_stands (line_fitter s (known s gs) e.glyph) e.glyph e.told (tells k d within) f is))

by_setting : (P : ℕ → Fault → Type 0) (r : Result Fitter Fault) (gs : List ℕ) (es : List GlyphEntry)
    → ((g : ℕ) (f : Fault) → IsOkAnd r (λ s. IsOutlineDefect (line_fitter s (known s gs) g) g f) → P g f)
    → IsOkAnd r (λ s. TellGlyphDefects s gs es) → All (λ (e : GlyphEntry). EntryStands P (bitmap_told e)) es
by_setting P (Ok s) gs es more tells = all_stand P s gs es more tells
by_setting P (Err f) gs es more tells = absurd tells

pub glyphs_stand : (j : CJob) (gs font : List ℕ) (how : Fit) (face : Face) (es : List GlyphEntry)
    → job_fit j ≡ Ok how → plain_opened j how font ≡ Ok face
    → IsOkAnd (setting face j.size how) (λ s. TellGlyphDefects s gs es)
    → All (λ (e : GlyphEntry). EntryStands (IsListGlyphDefect j gs font) (bitmap_told e)) es
glyphs_stand j gs font how face es fits read tells =
    by_setting (IsListGlyphDefect j gs font) (setting face j.size how) gs es
    (λ g f is. rw (fits, plain_face_opened j how font face read) is) tells
