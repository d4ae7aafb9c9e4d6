-- A font's fault that stops the drawing of lines is a defect of the font.
use Rattle.std.proofs.Common.{◌≡◌, ℕ, ◌+◌, ◌-◌, Bool, List, [], ◌∷◌, ◌++◌, length, get_or, Option, Some, None, IfSome, Result, Ok, Err, ap, ◌∙◌, arith}
use Rattle.std.proofs.lemmas.List.{get_or_at}
use Rattle.tt_core.specs.declared.fault.JobFault.{JobFault}
use Rattle.tt_core.specs.Faults.{Fault}
use Rattle.tt_core.specs.Outcomes.{IfTold, draw_font_fault}
use Rattle.tt_render_texts.specs.streams.declared.fault.RunFault.{RunFault}
use Rattle.tt_render_texts.specs.streams.declared.fault.RunFault.TheVariants as run
use Rattle.tt_render_settings.specs.declared.setting.Setting.{Setting}
use Rattle.tt_render_texts.specs.declared.lines.LineReader.{LineReader}
use Rattle.tt_render_texts.specs.declared.refusal.Refusal.{Refusal}
use Rattle.tt_render_texts.specs.declared.refusal.Refusal.TheVariants as reason
use Rattle.tt_render_texts.specs.declared.refusal.TextsFault.{TextsFault}
use Rattle.tt_render_texts.specs.LineReading.{LosesLine}
use Rattle.tt_render_texts.specs.Lines.{lines_of}
use Rattle.tt_render_settings.specs.Lines.{Drawing}
use Rattle.tt_render_settings.specs.LinesDefects.{BeginsDefective, GlyphsOf, IsDefectBy, IsDefectIn, LineTells, LineTellsDefect, LinesTell, LinesTellDefects, LinesTellDefectsOf, line_numbered}
use Rattle.tt_render_texts.specs.Printing.{Errors}
use Rattle.tt_render_texts.specs.streams.Reading.{ReadFails}
use Rattle.tt_render_settings.specs.Settings.{face_asked, strike_by}
use Rattle.tt_render_settings.specs.TextsOutcome.{FindsLine, refusal_font_fault}
use Rattle.tt_render_texts.specs.Views.{before_lines, refusal_of_draw, refusal_of_run}
use Rattle.tt_render_settings.proofs.DrawnLines.{SoFar}
use Rattle.tt_strike.specs.Defects.{TellsDefects}
use Rattle.tt_core.specs.declared.draw_fault.DrawFault.{DrawFault}
use Rattle.tt_core.specs.declared.draw_fault.DrawFault.TheVariants as draw
use Rattle.tt_face.specs.Faces.{Face}

pub if_some_more : {X : Type 0} (o : Option X) (P Q : X → Type 0) → ((x : X) → P x → Q x) → IfSome o P → IfSome o Q
if_some_more None P Q more h = tt
if_some_more (Some x) P Q more h = more x h

-- a text's claims about defects include the one about its fault
pub told_of_text : {V : Type 0} (IsOne : Fault → Type 0) (r : Result V Refusal) → TellsDefects refusal_font_fault IsOne r
    → IfTold refusal_font_fault r IsOne
told_of_text IsOne (Ok v) tells = tt
told_of_text IsOne (Err e) tells = tells

-- a defect of the next line, whose text loses it
begins : (IsOne : List ℕ → Fault → Type 0) (before after : Option (List ℕ)) (line : List ℕ) (f : Fault)
    → LosesLine before after line → IsOne line f → IfSome before (BeginsDefective IsOne f)
begins IsOne None after line f loses is = tt
begins IsOne (Some text) None line f loses is = absurd loses
begins IsOne (Some text) (Some rest) line f loses is = (line, lines_of rest, loses, is)

pub next_tells : (IsOne : List ℕ → Fault → Type 0) (before after : Option (List ℕ)) (line : List ℕ) (why : Refusal)
    → LosesLine before after line → IfSome (refusal_font_fault why) (IsOne line)
    → IfSome (refusal_font_fault why) (λ f. IfSome before (BeginsDefective IsOne f))
next_tells IsOne before after line why loses =
    if_some_more (refusal_font_fault why) _ _ (λ f is. begins IsOne before after line f loses is)

-- it is a defect of the line with this number
numbered : (IsOne : List ℕ → Fault → Type 0) (d : Drawing) (text left out written : Option (List ℕ)) (e : Errors)
    (before used : ℕ) (first : Option TextsFault) (f : Fault) → SoFar d text left out written e before used first → IfSome left (BeginsDefective IsOne f)
    → IfSome text (λ all. IsOne (line_numbered all (before + 1)) f)
numbered IsOne d None left out written e before used first f so_far is = tt
numbered IsOne d (Some text) None out written e before used first f so_far is = absurd so_far
numbered IsOne d (Some text) (Some rest) out written e before used first f so_far is =
    let parts : lines_of text ≡ so_far.0 ++ is.0 ∷ is.1 = so_far.1 ∙ ap (λ ls. so_far.0 ++ ls) is.2 in
    let at : length so_far.0 ≡ before + 1 - 1 = omega (arith, so_far.2) in
    let same : line_numbered text (before + 1) ≡ is.0 =
    ap (λ ls. get_or ls (before + 1 - 1) []) parts ∙ get_or_at so_far.0 is.0 is.1 [] (before + 1 - 1) at in
    rw same is.3

pub stop_tells : (IsOne : List ℕ → Fault → Type 0) (d : Drawing) (text left out written : Option (List ℕ)) (e : Errors)
    (before used : ℕ) (first : Option TextsFault) (why : Refusal) → SoFar d text left out written e before used first
    → IfSome (refusal_font_fault why) (λ f. IfSome left (BeginsDefective IsOne f))
    → LineTells IsOne text why (Some (before + 1))
stop_tells IsOne d text left out written e before used first (reason.Font f) so_far is =
    numbered IsOne d text left out written e before used first f so_far is
stop_tells IsOne d text left out written e before used first (reason.Job j) so_far is = tt
stop_tells IsOne d text left out written e before used first reason.NotUtf8 so_far is = tt
stop_tells IsOne d text left out written e before used first (reason.Space wrong) so_far is = tt
stop_tells IsOne d text left out written e before used first (reason.Missing c) so_far is = tt
stop_tells IsOne d text left out written e before used first reason.FontRead so_far is = tt
stop_tells IsOne d text left out written e before used first reason.FontLarge so_far is = tt
stop_tells IsOne d text left out written e before used first reason.Read so_far is = tt
stop_tells IsOne d text left out written e before used first reason.Create so_far is = tt
stop_tells IsOne d text left out written e before used first (reason.Write sent) so_far is = tt
stop_tells IsOne d text left out written e before used first reason.Many so_far is = tt
stop_tells IsOne d text left out written e before used first reason.Memory so_far is = tt

-- a line that is not found names no defect
pub begun_tells : (IsOne : List ℕ → Fault → Type 0) (text left after : Option (List ℕ)) (r : LineReader) (keeps : Bool)
    (before used : ℕ) (why : Refusal) → FindsLine r keeps before used (Err why) left after
    → LineTells IsOne text why (Some (before + 1))
begun_tells IsOne text left after r keeps before used reason.Read found = tt
begun_tells IsOne text left after r keeps before used reason.Many found = tt
begun_tells IsOne text left after r keeps before used (reason.Font f) found = absurd found
begun_tells IsOne text left after r keeps before used (reason.Job j) found = absurd found
begun_tells IsOne text left after r keeps before used reason.NotUtf8 found = absurd found
begun_tells IsOne text left after r keeps before used (reason.Space wrong) found = absurd found
begun_tells IsOne text left after r keeps before used (reason.Missing c) found = absurd found
begun_tells IsOne text left after r keeps before used reason.FontRead found = absurd found
begun_tells IsOne text left after r keeps before used reason.FontLarge found = absurd found
begun_tells IsOne text left after r keeps before used reason.Create found = absurd found
begun_tells IsOne text left after r keeps before used (reason.Write sent) found = absurd found
begun_tells IsOne text left after r keeps before used reason.Memory found = absurd found

-- nor does a line that is not begun
pub unbegun_tells : (IsOne : List ℕ → Fault → Type 0) (text : Option (List ℕ)) (j : JobFault) (line : Option ℕ)
    → LineTells IsOne text (reason.Job j) line
unbegun_tells IsOne text j line = tt

-- a defect of a line by a font's tables is one by the font's file
line_tells : (glyphs : GlyphsOf) (a : Setting) (file : List ℕ) (face : Face) (text : Option (List ℕ)) (why : Refusal)
    (line : Option ℕ) → face_asked a file ≡ Ok face → LineTells (IsDefectBy glyphs a (strike_by a face)) text why line
    → LineTellsDefect glyphs a text why line file
line_tells glyphs a file face text (reason.Font f) None there tells = absurd tells
line_tells glyphs a file face text (reason.Font f) (Some n) there tells =
    if_some_more text _ (λ all. IsDefectIn glyphs a file (line_numbered all n) f) (λ all is. rw there is) tells
line_tells glyphs a file face text (reason.Job j) line there tells = tt
line_tells glyphs a file face text reason.NotUtf8 line there tells = tt
line_tells glyphs a file face text (reason.Space wrong) line there tells = tt
line_tells glyphs a file face text (reason.Missing c) line there tells = tt
line_tells glyphs a file face text reason.FontRead line there tells = tt
line_tells glyphs a file face text reason.FontLarge line there tells = tt
line_tells glyphs a file face text reason.Read line there tells = tt
line_tells glyphs a file face text reason.Create line there tells = tt
line_tells glyphs a file face text (reason.Write sent) line there tells = tt
line_tells glyphs a file face text reason.Many line there tells = tt
line_tells glyphs a file face text reason.Memory line there tells = tt

pub lines_tell : {V : Type 0} (glyphs : GlyphsOf) (a : Setting) (file : List ℕ) (face : Face) (text : Option (List ℕ))
    (r : Result V TextsFault) → face_asked a file ≡ Ok face
    → LinesTell (IsDefectBy glyphs a (strike_by a face)) text r → LinesTellDefects glyphs a text r file
lines_tell glyphs a file face text (Ok v) there tells = tt
lines_tell glyphs a file face text (Err fault) there tells =
    line_tells glyphs a file face text fault.refusal fault.line there tells

-- a setting that is refused names no defect
pub setting_tells : (V : Type 0) (glyphs : GlyphsOf) (font : Option (List ℕ)) (a : Setting) (text : Option (List ℕ))
    (j : JobFault) → LinesTellDefectsOf {V = V} glyphs font a text (Err (before_lines (reason.Job j)))
setting_tells V glyphs None a text j = tt
setting_tells V glyphs (Some file) a text j = tt

-- nor does a font that could not be read
pub reading_tells : (V : Type 0) (glyphs : GlyphsOf) (e : RunFault) (before after : Option (List ℕ)) (failed : Bool)
    (a : Setting) (text : Option (List ℕ)) → ReadFails e before after failed
    → LinesTellDefectsOf {V = V} glyphs before a text (Err (before_lines (refusal_of_run e)))
reading_tells V glyphs e None after failed a text fails = tt
reading_tells V glyphs (run.Font f) (Some file) after failed a text fails = absurd fails
reading_tells V glyphs (run.Job j) (Some file) after failed a text fails = tt
reading_tells V glyphs run.Read (Some file) after failed a text fails = tt
reading_tells V glyphs run.FontLarge (Some file) after failed a text fails = tt
reading_tells V glyphs (run.Write sent) (Some file) after failed a text fails = absurd fails
reading_tells V glyphs run.Memory (Some file) after failed a text fails = tt

-- nor does a strike that was not made
pub strike_tells : (V : Type 0) (glyphs : GlyphsOf) (font : Option (List ℕ)) (a : Setting) (text : Option (List ℕ))
    (d : DrawFault) → IfSome (draw_font_fault d) (λ _. ⊥)
    → LinesTellDefectsOf {V = V} glyphs font a text (Err (before_lines (refusal_of_draw d)))
strike_tells V glyphs None a text d none = tt
strike_tells V glyphs (Some file) a text (draw.Font f) none = absurd none
strike_tells V glyphs (Some file) a text (draw.Job j) none = tt
strike_tells V glyphs (Some file) a text draw.Memory none = tt
