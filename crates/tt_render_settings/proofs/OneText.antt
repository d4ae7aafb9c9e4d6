-- The steps of a call that draws one text, joined.
use Rattle.std.proofs.Common.{◌≡◌, ℕ, ◌<◌, Bool, true, false, length, take, List, Option, Some, None, Result, Ok, Err, inl, inr, refl}
use Rattle.std.specs.Io.KnownBytes.{Keeps}
use Rattle.std.specs.Prelude.{IfSome}
use Rattle.tt_core.specs.declared.fault.JobFault.{JobFault}
use Rattle.tt_core.specs.Directory.{HasNo}
use Rattle.tt_core.specs.Faults.{Fault}
use Rattle.tt_render_texts.specs.streams.declared.fault.RunFault.{RunFault}
use Rattle.tt_render_texts.specs.streams.declared.fault.RunFault.TheVariants as run
use Rattle.tt_render_settings.specs.declared.setting.Setting.{Setting}
use Rattle.tt_render_texts.specs.declared.refusal.Refusal.{Refusal}
use Rattle.tt_render_texts.specs.declared.refusal.Refusal.TheVariants as reason
use Rattle.tt_render_texts.specs.declared.refusal.TextsFault.{TextsFault}
use Rattle.tt_render_texts.specs.streams.Traffic.{SendsAll, Traffic, WriterFails, WriterServes}
use Rattle.tt_render_settings.specs.LinesDefects.{GlyphsOf, IsTextDefect}
use Rattle.tt_render_texts.specs.Printing.{Errors, Prints, PrintsNothing}
use Rattle.tt_render_texts.specs.streams.Reading.{FontIsRead, ReadFails}
use Rattle.tt_render_texts.specs.Reports.{told_of}
use Rattle.tt_render_settings.specs.Lines.{Outlet}
use Rattle.tt_render_settings.specs.Settings.{IsOpeningDefect, face_asked, job_by, strike_of}
use Rattle.tt_render_settings.specs.TextsOutcome.{FontAnswers, IsNotReady, IsOfText, IsAtFont, IsAtText, IsSilent, TextTellsDefects, TextTellsDefectsOf, reader_in, refusal_font_fault, told}
use Rattle.tt_render_settings.specs.Products.{product_of}
use Rattle.tt_render_texts.specs.Answers.{TextAnswer}
use Rattle.tt_render_settings.specs.Texts.{TextRefusal, text_answer}
use Rattle.tt_render_texts.specs.Views.{before_lines, refusal_of_draw, refusal_of_run}
use Rattle.tt_render_settings.proofs.FontLines.{size_passes}
use Rattle.tt_render_texts.proofs.Printed.{keeps_itself}
use Rattle.tt_core.specs.declared.draw_fault.DrawFault.{DrawFault}
use Rattle.tt_core.specs.declared.draw_fault.DrawFault.TheVariants as draw
use Rattle.tt_core.specs.Outcomes.{draw_font_fault}
use Rattle.tt_strike.specs.Defects.{IsLineDefect}
use Rattle.tt_strike.specs.Job.{Job, size_tested, tested}
use Rattle.tt_strike.specs.Refusals.{Refused, as_job}
use Rattle.tt_strike.specs.Refusals as drawing
use Rattle.tt_strike.specs.Strikes.{Strike}
use Rattle.tt_face.specs.Faces.{Face}

-- the answer of a text does not depend on the cache's limit
pub most_aside : (a : Setting) (s : Strike) (most : ℕ) (text : List ℕ)
    → text_answer a s text ≡ text_answer a (record s { most = most }) text
unfolding text_answer product_of
most_aside a s most text = refl

-- a strike of a tested size is made, unless memory runs out
pub strike_stops : (answer : Strike → Result TextAnswer TextRefusal) (opened : Result Strike Refused) (a : Job)
    (d : DrawFault) → tested a ≡ Ok tt → IfSome (drawing.refusal d) (λ r. as_job (size_tested a.ppem) ≡ Err r)
    → IsNotReady answer opened (refusal_of_draw d) None
unfolding tested
strike_stops answer opened a (draw.Font f) good refused =
    absurd (size_passes (size_tested a.ppem) _ _ good refused)
strike_stops answer opened a (draw.Job j) good refused =
    absurd (size_passes (size_tested a.ppem) _ _ good refused)
strike_stops answer opened a draw.Memory good refused = tt

-- a refusal of the text stops the call
pub text_stops : (V : Type 0) (answer : Strike → Result TextAnswer TextRefusal) (opened : Result Strike Refused) (s : Strike)
    (why : Refusal) → opened ≡ Ok s → IfSome (told why) (λ e. answer s ≡ Err e)
    → IsOfText {V = V} (Err why) → IsNotReady answer opened why None
text_stops V answer opened s (reason.Font f) is refused serves = inr (s, _, is, refl, refused)
text_stops V answer opened s (reason.Job j) is refused serves = inr (s, _, is, refl, refused)
text_stops V answer opened s reason.NotUtf8 is refused serves = inr (s, _, is, refl, refused)
text_stops V answer opened s (reason.Space wrong) is refused serves = inr (s, _, is, refl, refused)
text_stops V answer opened s (reason.Missing c) is refused serves = inr (s, _, is, refl, refused)
text_stops V answer opened s reason.FontRead is refused serves = absurd serves
text_stops V answer opened s reason.FontLarge is refused serves = absurd serves
text_stops V answer opened s reason.Read is refused serves = absurd serves
text_stops V answer opened s reason.Create is refused serves = absurd serves
text_stops V answer opened s (reason.Write sent) is refused serves = absurd serves
text_stops V answer opened s reason.Many is refused serves = absurd serves
text_stops V answer opened s reason.Memory is refused serves = tt

-- a text that is refused by its font's tables, or by its own answer
at_font : (V : Type 0) (to : Outlet) (a : Setting) (answer : Strike → Result TextAnswer TextRefusal) (text file : List ℕ) (why : Refusal) (t : Traffic) (errors : Errors)
    → tested (job_by a text) ≡ Ok tt → FontIsRead (reader_in t) file → IsAtFont (strike_of a file) why
    → IsSilent t errors → FontAnswers {V = V} to a answer text (Err (before_lines why)) t errors
at_font V to a answer text file why t errors good read (f, is, opened) silent = rw is (inl ((good, file, read, opened), silent))

at_text : (V : Type 0) (to : Outlet) (a : Setting) (answer : Strike → Result TextAnswer TextRefusal) (text file : List ℕ) (f : Fault) (t : Traffic) (errors : Errors) → tested (job_by a text) ≡ Ok tt
    → FontIsRead (reader_in t) file → IsAtText answer (strike_of a file) (reason.Font f)
    → IsSilent t errors → FontAnswers {V = V} to a answer text (Err (before_lines (reason.Font f))) t errors
at_text V to a answer text file f t errors good read (s, r, opened, tells, answers) silent =
    inr (good, file, read, s, opened, (r, tells, answers, silent))

-- so it stops the call
pub text_fails : (V : Type 0) (to : Outlet) (a : Setting) (answer : Strike → Result TextAnswer TextRefusal) (text file : List ℕ) (e : TextsFault) (t : Traffic) (errors : Errors)
    → tested (job_by a text) ≡ Ok tt → FontIsRead (reader_in t) file
    → IsNotReady answer (strike_of a file) e.refusal e.line → IsSilent t errors
    → FontAnswers {V = V} to a answer text (Err e) t errors
text_fails V to a answer text file e t errors good read why silent = by e.refusal e.line why
  where
    by : (r : Refusal) (line : Option ℕ) → IsNotReady answer (strike_of a file) r line
        → FontAnswers {V = V} to a answer text (Err (record { line = line; refusal = r })) t errors
    by (reason.Font f) None (inl font) = at_font V to a answer text file (reason.Font f) t errors good read font silent
    by (reason.Font f) None (inr refused) = at_text V to a answer text file f t errors good read refused silent
    by (reason.Job j) None (inl (f, is, opened)) = absurd cc
    by (reason.Job j) None (inr (s, r, opened, tells, answers)) =
        inr (good, file, read, s, opened, (r, tells, answers, silent))
    by reason.NotUtf8 None (inl (f, is, opened)) = absurd cc
    by (reason.Space wrong) None (inl (f, is, opened)) = absurd cc
    by reason.NotUtf8 None (inr (s, r, opened, tells, answers)) =
        inr (good, file, read, s, opened, (r, tells, answers, silent))
    by (reason.Space wrong) None (inr (s, r, opened, tells, answers)) =
        inr (good, file, read, s, opened, (r, tells, answers, silent))
    by (reason.Missing c) None (inl (f, is, opened)) = absurd cc
    by (reason.Missing c) None (inr (s, r, opened, tells, answers)) =
        inr (good, file, read, s, opened, (r, tells, answers, silent))
    by reason.FontRead None (inl (f, is, opened)) = absurd cc
    by reason.FontRead None (inr (s, r, opened, tells, answers)) = absurd cc
    by reason.FontLarge None (inl (f, is, opened)) = absurd cc
    by reason.FontLarge None (inr (s, r, opened, tells, answers)) = absurd cc
    by reason.Read None (inl (f, is, opened)) = absurd cc
    by reason.Read None (inr (s, r, opened, tells, answers)) = absurd cc
    by reason.Create None (inl (f, is, opened)) = absurd cc
    by reason.Create None (inr (s, r, opened, tells, answers)) = absurd cc
    by (reason.Write sent) None (inl (f, is, opened)) = absurd cc
    by (reason.Write sent) None (inr (s, r, opened, tells, answers)) = absurd cc
    by reason.Many None (inl (f, is, opened)) = absurd cc
    by reason.Many None (inr (s, r, opened, tells, answers)) = absurd cc
    by reason.Memory None why = inl ((good, ((file, read.0), read.2)), silent)
    by (reason.Font f) (Some n) why = absurd why
    by (reason.Job j) (Some n) why = absurd why
    by reason.NotUtf8 (Some n) why = absurd why
    by (reason.Space wrong) (Some n) why = absurd why
    by (reason.Missing c) (Some n) why = absurd why
    by reason.FontRead (Some n) why = absurd why
    by reason.FontLarge (Some n) why = absurd why
    by reason.Read (Some n) why = absurd why
    by reason.Create (Some n) why = absurd why
    by (reason.Write sent) (Some n) why = absurd why
    by reason.Many (Some n) why = absurd why
    by reason.Memory (Some n) why = absurd why

-- an unused writer and device
pub silent : (left rest out error : Option (List ℕ)) (read write failed : Bool) → write ≡ false → failed ≡ false
    → IsSilent
    (record { left_before = left; left_after = rest; read_failed = read; out_before = out; out_after = out; write_failed = write })
    (record { before = error; after = error; failed = failed })
silent left rest out error read write failed serves prints =
    ((keeps_itself out, serves), (keeps_itself error, prints))

-- the output of a text was written, and its report printed
pub text_written : (V : Type 0) (v : V) (to : Outlet) (a : Setting) (answers : Strike → Result TextAnswer TextRefusal) (text file : List ℕ) (s : Strike)
    (answer : TextAnswer) (t : Traffic) (e : Errors)
    → tested (job_by a text) ≡ Ok tt → FontIsRead (reader_in t) file → strike_of a file ≡ Ok s
    → answers s ≡ Ok answer → SendsAll t (to.shown None answer.bytes) → WriterServes t → Prints e (told_of None answer)
    → FontAnswers {V = V} to a answers text (Ok v) t e
text_written V v to a answers text file s answer t e good read opened made sent serves printed =
    inr (good, file, read, s, opened, (answer, made, sent, serves, printed))

-- a front of it was written, and no report
pub text_cut : (V : Type 0) (to : Outlet) (a : Setting) (answers : Strike → Result TextAnswer TextRefusal) (text file : List ℕ) (s : Strike)
    (answer : TextAnswer) (sent : ℕ) (t : Traffic)
    (e : Errors) → tested (job_by a text) ≡ Ok tt → FontIsRead (reader_in t) file → strike_of a file ≡ Ok s
    → answers s ≡ Ok answer → sent < length answer.bytes → SendsAll t (to.shown None (take sent answer.bytes)) → WriterFails t
    → PrintsNothing e → FontAnswers {V = V} to a answers text (Err (before_lines (reason.Write sent))) t e
text_cut V to a answers text file s answer sent t e good read opened made few first fails silent =
    inr (good, file, read, s, opened, (answer, made, few, first, fails, silent))

-- no place was made for it
pub text_unplaced : (V : Type 0) (to : Outlet) (a : Setting) (answers : Strike → Result TextAnswer TextRefusal) (text file : List ℕ) (s : Strike)
    (answer : TextAnswer) (t : Traffic) (e : Errors) → tested (job_by a text) ≡ Ok tt → FontIsRead (reader_in t) file
    → strike_of a file ≡ Ok s → answers s ≡ Ok answer → to.creates ≡ true → Keeps t.out_before t.out_after → WriterFails t
    → PrintsNothing e → FontAnswers {V = V} to a answers text (Err (before_lines reason.Create)) t e
text_unplaced V to a answers text file s answer t e good read opened made creates kept fails silent =
    inr (good, file, read, s, opened, (creates, answer, made, kept, fails, silent))

-- a failure to make a strike names no defect
pub strike_tells : (V : Type 0) (IsOne : Fault → Type 0) (d : DrawFault) → IfSome (draw_font_fault d) (λ _. ⊥)
    → TextTellsDefects {V = V} IsOne (Err (before_lines (refusal_of_draw d)))
strike_tells V IsOne (draw.Font f) none = absurd none
strike_tells V IsOne (draw.Job j) none = tt
strike_tells V IsOne draw.Memory none = tt

-- a defect of a text by a font's tables is one by the font's file
pub text_tells : (V : Type 0) (glyphs : GlyphsOf) (a : Setting) (text file : List ℕ) (face : Face) (why : Refusal)
    → face_asked a file ≡ Ok face
    → IfSome (refusal_font_fault why) (IsLineDefect face (job_by a text) (glyphs face.cmap text))
    → IsOfText {V = V} (Err why)
    → TextTellsDefects {V = V} (IsTextDefect glyphs a text file) (Err (before_lines why))
text_tells V glyphs a text file face (reason.Font f) there stands serves = inr (rw there stands)
text_tells V glyphs a text file face (reason.Job j) there stands serves = tt
text_tells V glyphs a text file face reason.NotUtf8 there stands serves = tt
text_tells V glyphs a text file face (reason.Space wrong) there stands serves = tt
text_tells V glyphs a text file face (reason.Missing c) there stands serves = tt
text_tells V glyphs a text file face reason.FontRead there stands serves = tt
text_tells V glyphs a text file face reason.FontLarge there stands serves = tt
text_tells V glyphs a text file face reason.Read there stands serves = tt
text_tells V glyphs a text file face reason.Create there stands serves = absurd serves
text_tells V glyphs a text file face (reason.Write sent) there stands serves = absurd serves
text_tells V glyphs a text file face reason.Many there stands serves = tt
text_tells V glyphs a text file face reason.Memory there stands serves = tt

-- so the file has no defect of a text where the tables have none
pub none_in_file : (glyphs : GlyphsOf) (a : Setting) (text file : List ℕ) (face : Face) → face_asked a file ≡ Ok face
    → HasNo (IsOpeningDefect a file) → HasNo (IsLineDefect face (job_by a text) (glyphs face.cmap text))
    → HasNo (IsTextDefect glyphs a text file)
none_in_file glyphs a text file face there none line = λ fault defect. elim defect [
  | inl tables ↦ none fault tables
  | inr of_text ↦ line fault (rw there at of_text)
]

-- a job that is refused at once names no defect
pub job_tells : (before : Option (List ℕ)) (IsOne : List ℕ → Fault → Type 0) (j : JobFault)
    → TextTellsDefectsOf {V = Unit {0}} before IsOne (Err (before_lines (reason.Job j)))
job_tells None IsOne j = tt
job_tells (Some file) IsOne j = tt

-- nor does a font that could not be read
pub reading_tells : (e : RunFault) (before after : Option (List ℕ)) (failed : Bool) (IsOne : List ℕ → Fault → Type 0)
    → ReadFails e before after failed → TextTellsDefectsOf {V = Unit {0}} before IsOne (Err (before_lines (refusal_of_run e)))
reading_tells e None after failed IsOne fails = tt
reading_tells (run.Font f) (Some file) after failed IsOne fails = absurd fails
reading_tells (run.Job j) (Some file) after failed IsOne fails = tt
reading_tells run.Read (Some file) after failed IsOne fails = tt
reading_tells run.FontLarge (Some file) after failed IsOne fails = tt
reading_tells (run.Write sent) (Some file) after failed IsOne fails = absurd fails
reading_tells run.Memory (Some file) after failed IsOne fails = tt

-- an output that is not made stops its text
pub output_stops : (a : Setting) (s : Strike) (text : List ℕ) (d : DrawFault)
    → IfSome (drawing.refusal d) (λ why. product_of a s text ≡ Err why)
    → IfSome (told (refusal_of_draw d)) (λ why. text_answer a s text ≡ Err why)
unfolding text_answer
output_stops a s text (draw.Font f) is = rw is refl
output_stops a s text (draw.Job j) is = rw is refl
output_stops a s text draw.Memory is = tt

pub output_tells : (P : Fault → Type 0) (d : DrawFault) → IfSome (draw_font_fault d) P
    → IfSome (refusal_font_fault (refusal_of_draw d)) P
output_tells P (draw.Font f) stands = stands
output_tells P (draw.Job j) stands = tt
output_tells P draw.Memory stands = tt

pub output_serves : (V : Type 0) (d : DrawFault) → IsOfText {V = V} (Err (refusal_of_draw d))
output_serves V (draw.Font f) = tt
output_serves V (draw.Job j) = tt
output_serves V draw.Memory = tt
