-- The promises of drawing one text, or the lines of a text: the answer and the devices.
use Rattle.std.specs.Prelude.{◌≡◌, ◌⊎◌, ℕ, ◌+◌, ◌<◌, ◌≤◌, Bool, true, false, ◌&&◌, if◌then◌else◌, List, [], ◌∷◌, ◌++◌, codes, length, take, Option, Some, None, is_some, IfSome, Result, Ok, Err, ⊤}
use Rattle.std.specs.Io.KnownBytes.{Appends, IsAtEnd, Keeps}
use Rattle.tt_core.specs.declared.fault.JobFault.{JobFault}
use Rattle.tt_core.specs.declared.fault.JobFault.TheVariants as job_fault
use Rattle.tt_core.specs.Directory.{HasNo}
use Rattle.tt_core.specs.Faults.{Fault}
use Rattle.tt_core.specs.Limits.{font_limit}
use Rattle.tt_render_settings.specs.declared.setting.Setting.{Setting}
use Rattle.tt_render_texts.specs.declared.refusal.Refusal.{Refusal}
use Rattle.tt_render_texts.specs.declared.refusal.Refusal.TheVariants as reason
use Rattle.tt_render_texts.specs.declared.refusal.TextsFault.{TextsFault}
use Rattle.tt_render_settings.specs.declared.budget.Found.{Found}
use Rattle.tt_render_settings.specs.declared.budget.Found.TheVariants as found
use Rattle.tt_render_texts.specs.declared.lines.LineReader.{LineReader}
use Rattle.tt_render_texts.specs.LineReading.{BeginsLong, LosesFirst, LosesLine, line_at}
use Rattle.tt_render_settings.specs.Lines.{Drawing, Outlet, cost_refused, drawn_from, line_drawn, lines_budget, lines_limit, stream, text_drawn, tried}
use Rattle.tt_render_texts.specs.Lines.{line_limit, lines_of}
use Rattle.tt_render_texts.specs.streams.Traffic.{Traffic, SendsAll, ReadsNothing, ReadsToEnd, WritesNothing, WriterServes, WriterFails}
use Rattle.tt_render_texts.specs.Printing.{Errors, Prints, PrintsNothing}
use Rattle.tt_render_texts.specs.streams.Reading.{FontReader, FontFails, FontIsBegun, FontIsRead, FontIsUnread}
use Rattle.tt_render_texts.specs.Reports.{told_of}
use Rattle.tt_render_texts.specs.TextsMessages.{texts_line_of}
use Rattle.tt_render_settings.specs.Settings.{job_by, setting_tested, strike_of}
use Rattle.tt_render_texts.specs.Answers.{TextAnswer}
use Rattle.tt_render_settings.specs.Texts.{TextRefusal, misfit, missing, not_utf8, refused, text_answer}
use Rattle.tt_render_texts.specs.Views.{before_lines}
use Rattle.tt_strike.specs.Job.{tested}
use Rattle.tt_strike.specs.Refusals.{Refused, font, job, large}
use Rattle.tt_strike.specs.Strikes.{Strike}

-- the refusal of a text; none for what its definition does not know: a device that failed, and memory
abbrev pub told : Refusal → Option TextRefusal
told (reason.Font f) = Some (refused (font f))
told (reason.Job j) = Some (refused (job j))
told (reason.Space f) = Some (misfit f)
told reason.NotUtf8 = Some not_utf8
told (reason.Missing c) = Some (missing c)
told why = None

-- what a line with this refusal takes of the budget
abbrev pub cost_told : Option TextRefusal → ℕ
cost_told None = 0
cost_told (Some why) = cost_refused why

abbrev pub refused_cost : Refusal → ℕ
refused_cost why = cost_told (told why)

-- the refusal of a call, for that of a text
abbrev pub refusal_by : TextRefusal → Refusal
refusal_by (refused (font f)) = reason.Font f
refusal_by (refused (job j)) = reason.Job j
refusal_by (refused large) = reason.FontLarge
refusal_by (misfit f) = reason.Space f
refusal_by not_utf8 = reason.NotUtf8
refusal_by (missing c) = reason.Missing c

-- the fault of a line with this number
abbrev pub line_fault : ℕ → TextRefusal → TextsFault
line_fault number why = record { line = Some number; refusal = refusal_by why }

-- a refusal of a line alone
abbrev pub is_passed : Refusal → Bool
is_passed (reason.Job j) = true
is_passed (reason.Space f) = true
is_passed reason.NotUtf8 = true
is_passed (reason.Missing c) = true
is_passed why = false

-- whether the lines behind a line with this refusal are drawn
abbrev pub goes_on : Bool → Refusal → Bool
goes_on keeps why = keeps && is_passed why

-- a refused line stops the call, or memory ran out before the report of the line
abbrev pub StopsPassing : Bool → TextsFault → TextsFault → Type 0
StopsPassing keeps fault e = ((goes_on keeps fault.refusal ≡ false) × (e ≡ fault)) ⊎ (e ≡ before_lines reason.Memory)

-- the report of a refused line, where later lines are drawn
abbrev pub telling : Bool → (ℕ → TextRefusal → List ℕ) → Option (ℕ → TextRefusal → List ℕ)
telling keeps tell = if keeps then Some tell else None

-- the first of two
abbrev pub earlier : {X : Type 0} → Option X → Option X → Option X
earlier (Some x) later = Some x
earlier None later = later

-- this is the first line that was refused and passed over
abbrev pub IsFirst : Option TextsFault → Option (ℕ × TextRefusal) → Type 0
IsFirst None None = ⊤
IsFirst None (Some first) = ⊥
IsFirst (Some fault) None = ⊥
IsFirst (Some fault) (Some (number, why)) = (fault.line ≡ Some number) × (told fault.refusal ≡ Some why)

-- a result with the refusal alone; the line is known above
abbrev pub without_line : {V : Type 0} → Result V TextsFault → Result V Refusal
without_line (Ok v) = Ok v
without_line (Err fault) = Err fault.refusal

-- the fault of the font that stopped a text
abbrev pub refusal_font_fault : Refusal → Option Fault
refusal_font_fault (reason.Font f) = Some f
refusal_font_fault why = None

-- a text was refused, or memory ran out; no device stopped it
abbrev pub IsOfText : {V : Type 0} → Result V Refusal → Type 0
IsOfText (Err reason.FontRead) = ⊥
IsOfText (Err reason.FontLarge) = ⊥
IsOfText (Err reason.Read) = ⊥
IsOfText (Err reason.Create) = ⊥
IsOfText (Err (reason.Write sent)) = ⊥
IsOfText (Err reason.Many) = ⊥
IsOfText r = ⊤

-- lines begin with one that is not too long
abbrev pub HasLine : List (List ℕ) → Type 0
HasLine [] = ⊥
HasLine (line ∷ rest) = length line ≤ line_limit

-- why the next line is not drawn: it is too long; or the lines before it took `used`, and this is more than the budget
-- of their number
abbrev pub IsNotBegun : ℕ → ℕ → JobFault → Option (List ℕ) → Type 0
IsNotBegun drawn used why before =
    ((why ≡ job_fault.TextLong) × IfSome before BeginsLong)
    ⊎ ((why ≡ job_fault.WorkLarge) × (lines_budget drawn < used)
    × IfSome before (λ text. HasLine (lines_of text)))

-- the remaining text after finding the next line, behind drawn lines that took `used` of the budget. Where the lines
-- behind a refused one are drawn, the text loses that line too
abbrev pub FindsLine : LineReader → Bool → ℕ → ℕ → Result Found Refusal → Option (List ℕ) → Option (List ℕ) → Type 0
FindsLine r keeps drawn used (Ok (found.Line place)) before after =
    LosesLine before after (line_at r place) × (length (line_at r place) ≤ line_limit)
    × (used ≤ lines_budget drawn)
FindsLine r keeps drawn used (Ok (found.Refused why)) before after =
    IsNotBegun drawn used why before × (keeps ≡ true → LosesFirst before after)
FindsLine r keeps drawn used (Ok found.End) before after = IfSome before (λ text. lines_of text ≡ []) × IsAtEnd after
FindsLine r keeps drawn used (Err reason.Read) before after = ⊤
FindsLine r keeps drawn used (Err reason.Many) before after = keeps ≡ true
FindsLine r keeps drawn used (Err why) before after = ⊥

-- why a line that is too long is not passed over
abbrev pub IsPassFault : Bool → Refusal → Type 0
IsPassFault keeps reason.Read = keeps ≡ true
IsPassFault keeps reason.Many = keeps ≡ true
IsPassFault keeps why = ⊥

-- the reader failed exactly where it stopped the line
abbrev pub FailsByStop : Bool → Result Found Refusal → Type 0
FailsByStop failed (Err reason.Read) = failed ≡ true
FailsByStop failed r = failed ≡ false

-- none of these lines, from line 1, stops the drawing; their outputs stand there, and then these bytes; their
-- reports were printed
abbrev pub SendsLines : Drawing → Option (List ℕ) → Option (List ℕ) → Errors → List (List ℕ) → List ℕ → Type 0
SendsLines d out_before out_after e lines more =
    ((drawn_from d 0 0 lines).stop ≡ None)
    × Appends out_before out_after ((drawn_from d 0 0 lines).bytes ++ more)
    × Prints e (drawn_from d 0 0 lines).told

-- the outputs of this many first lines of a text stand there, and then these bytes; a fact of what these lines took, and
-- of the lines after them
abbrev pub SendsFirstLines : Drawing → Traffic → Errors → ℕ → List ℕ → (ℕ → List (List ℕ) → Type 0) → List ℕ → Type 0
SendsFirstLines d t e number more P text =
    (first : List (List ℕ)) × (rest : List (List ℕ)) × (lines_of text ≡ first ++ rest) × (length first ≡ number)
    × SendsLines d t.out_before t.out_after e first more × P (drawn_from d 0 0 first).used rest

-- the first of these lines has an output, a fact of which holds
abbrev pub BeginsDrawn : Drawing → ℕ → (TextAnswer → Type 0) → ℕ → List (List ℕ) → Type 0
BeginsDrawn d before P used [] = ⊥
BeginsDrawn d before P used (line ∷ rest) = (a : TextAnswer) × (tried d before used line ≡ Ok a) × P a

-- this part of an output with this number is that of its first bytes
abbrev pub IsCut : Drawing → ℕ → ℕ → List ℕ → TextAnswer → Type 0
IsCut d number sent part a =
    (sent < length a.bytes) × (part ≡ d.to.shown (Some number) (take sent a.bytes))

-- the outputs and the reports of some lines were written
abbrev pub SendsSome : Drawing → Traffic → Errors → List ℕ → Type 0
SendsSome d t e text = (number : ℕ) × SendsFirstLines d t e number [] (λ used rest. ⊤) text

-- the drawing of the lines was written, with the reports, and stopped by this refusal, if any
abbrev pub SendsDrawn : Drawing → Traffic → Errors → Option (ℕ × TextRefusal) → List ℕ → Type 0
SendsDrawn d t e why text =
    ((text_drawn d text).stop ≡ why) × SendsAll t (text_drawn d text).bytes × Prints e (text_drawn d text).told

-- the line with this number stopped the drawing by this refusal
abbrev pub StopsAtLine : Drawing → Traffic → Errors → ℕ → Refusal → List ℕ → Type 0
StopsAtLine d t e number why text =
    (r : TextRefusal) × (told why ≡ Some r) × SendsDrawn d t e (Some (number, r)) text

-- a front of the output of the line with this number was written; or no place was made for the output
abbrev pub SendsFront : Drawing → Traffic → Errors → ℕ → ℕ → List ℕ → Type 0
SendsFront d t e number sent text =
    (before : ℕ) × (part : List ℕ) × (before + 1 ≡ number)
    × SendsFirstLines d t e before part (BeginsDrawn d before (IsCut d number sent part)) text

abbrev pub MakesNoPlace : Drawing → Traffic → Errors → ℕ → List ℕ → Type 0
MakesNoPlace d t e number text =
    (before : ℕ) × (before + 1 ≡ number) × SendsFirstLines d t e before [] (BeginsDrawn d before (λ a. ⊤)) text

abbrev pub ReaderServes : Traffic → Type 0
ReaderServes t = t.read_failed ≡ false

-- a call that draws lines by an opened font failed with this refusal, at a line
abbrev pub LinesFail : Drawing → Refusal → Option ℕ → Traffic → Errors → Type 0
LinesFail d reason.Memory line t e = IfSome t.left_before (SendsSome d t e) × ReaderServes t × WriterServes t
LinesFail d reason.Read (Some number) t e =
    IfSome t.left_before (SendsSome d t e) × (t.read_failed ≡ true) × WriterServes t
LinesFail d reason.Create (Some number) t e =
    (d.to.creates ≡ true) × IfSome t.left_before (MakesNoPlace d t e number) × ReaderServes t × WriterFails t
LinesFail d (reason.Write sent) (Some number) t e =
    IfSome t.left_before (SendsFront d t e number sent) × ReaderServes t × WriterFails t
LinesFail d reason.Many None t e =
    IfSome t.left_before (SendsFirstLines d t e lines_limit [] (λ used rest. ⊤)) × ReaderServes t × WriterServes t
LinesFail d reason.Many (Some number) t e =
    (is_some d.tells ≡ true) × IfSome t.left_before (SendsSome d t e) × ReaderServes t × WriterServes t
LinesFail d reason.FontRead line t e = ⊥
LinesFail d reason.FontLarge line t e = ⊥
LinesFail d why (Some number) t e =
    IfSome t.left_before (StopsAtLine d t e number why) × ReaderServes t × WriterServes t
LinesFail d why None t e = ⊥

-- no line was passed over, unless refused lines are
abbrev pub PassesAsAsked : Drawing → Option TextsFault → Type 0
PassesAsAsked d first = is_some d.tells ≡ false → first ≡ None

-- the call drew all lines, and this is the first that was refused and passed over; or the call failed with its fault
abbrev pub LinesGive : {V : Type 0} → (V → Option TextsFault) → Drawing → Result V TextsFault → Traffic → Errors → Type 0
LinesGive first d (Ok v) t e =
    IfSome t.left_before (λ text. SendsDrawn d t e None text × IsFirst (first v) (text_drawn d text).first)
    × PassesAsAsked d (first v) × ReadsToEnd t × WriterServes t
LinesGive first d (Err fault) t e = LinesFail d fault.refusal fault.line t e

-- the drawing of lines to a stream, with the report of a refused line where such a line stops no other
abbrev pub line_told : ℕ → TextRefusal → List ℕ
line_told number why = texts_line_of (line_fault number why) ++ codes "\n"

abbrev pub lines_drawing : Setting → Strike → Drawing
lines_drawing a s = record { to = stream; answer = line_drawn a s; tells = telling a.keep_going line_told }

-- a call stopped with this refusal by these tests, by the reader or the size of its font, or by the font's tables; or
-- memory ran out by then
abbrev pub StopsFor : {S : Type 0} → Result (Unit {0}) JobFault → (List ℕ → Result S Refused) → Refusal → Option ℕ
    → FontReader → Type 0
StopsFor tests opened (reason.Job j) None f = (tests ≡ Err j) × FontIsUnread f
StopsFor tests opened reason.FontRead None f = (tests ≡ Ok tt) × FontFails f
StopsFor tests opened reason.FontLarge None f =
    (tests ≡ Ok tt) × IfSome f.before (λ file. font_limit < length file) × FontIsBegun f
StopsFor tests opened (reason.Font fault) None f =
    (tests ≡ Ok tt) × (file : List ℕ) × FontIsRead f file × (opened file ≡ Err (font fault))
StopsFor tests opened reason.Memory None f = (tests ≡ Ok tt) × FontIsBegun f
StopsFor tests opened why line f = ⊥

abbrev pub StopsAtFont : {V S : Type 0} → Result (Unit {0}) JobFault → (List ℕ → Result S Refused) → Result V TextsFault
    → FontReader → Type 0
StopsAtFont tests opened (Ok v) f = ⊥
StopsAtFont tests opened (Err fault) f = StopsFor tests opened fault.refusal fault.line f

-- the tests passed, the font was read to its end, and a fact of its opened form
abbrev pub OpensFont : {S : Type 0} → Result (Unit {0}) JobFault → (List ℕ → Result S Refused) → FontReader
    → (S → Type 0) → Type 0
OpensFont {S} tests opened f P =
    (tests ≡ Ok tt) × (file : List ℕ) × FontIsRead f file × (s : S) × (opened file ≡ Ok s) × P s

-- no line was read, nothing was written, nothing was printed
abbrev pub IsIdle : Traffic → Errors → Type 0
IsIdle t e = ReadsNothing t × WritesNothing t × PrintsNothing e

-- a call stopped before it read a line, or drew the lines of a text by a font
abbrev pub FontLinesGive : {V : Type 0} → (V → Option TextsFault) → Setting → Result V TextsFault → FontReader → Traffic
    → Errors → Type 0
FontLinesGive first a r f t e =
    (StopsAtFont (setting_tested a) (strike_of a) r f × IsIdle t e)
    ⊎ OpensFont (setting_tested a) (strike_of a) f (λ s. LinesGive first (lines_drawing a s) r t e)

-- one text was refused by the font's tables, or by its own answer
abbrev pub IsAtFont : Result Strike Refused → Refusal → Type 0
IsAtFont opened why = (f : Fault) × (why ≡ reason.Font f) × (opened ≡ Err (font f))

abbrev pub IsAtText : (Strike → Result TextAnswer TextRefusal) → Result Strike Refused → Refusal → Type 0
IsAtText answer opened why =
    (s : Strike) × (r : TextRefusal) × (opened ≡ Ok s) × (told why ≡ Some r) × (answer s ≡ Err r)

-- one text has no output, for this refusal
abbrev pub IsNotReady : (Strike → Result TextAnswer TextRefusal) → Result Strike Refused → Refusal → Option ℕ → Type 0
IsNotReady answer opened reason.Memory None = ⊤
IsNotReady answer opened why None = IsAtFont opened why ⊎ IsAtText answer opened why
IsNotReady answer opened why (Some number) = ⊥

-- the reader of a traffic
abbrev pub reader_in : Traffic → FontReader
reader_in t = record { before = t.left_before; after = t.left_after; failed = t.read_failed }

-- nothing was written, nothing was printed
abbrev pub IsSilent : Traffic → Errors → Type 0
IsSilent t e = WritesNothing t × PrintsNothing e

-- a call that draws one text with this answer by an opened font failed with this refusal
abbrev pub TextFails : Outlet → Result TextAnswer TextRefusal → Refusal → Option ℕ → Traffic → Errors → Type 0
TextFails to answer reason.Create None t e =
    (to.creates ≡ true) × (a : TextAnswer) × (answer ≡ Ok a) × Keeps t.out_before t.out_after × WriterFails t
    × PrintsNothing e
TextFails to answer (reason.Write sent) None t e =
    (a : TextAnswer) × (answer ≡ Ok a) × (sent < length a.bytes) × SendsAll t (to.shown None (take sent a.bytes))
    × WriterFails t × PrintsNothing e
TextFails to answer why None t e = (r : TextRefusal) × (told why ≡ Some r) × (answer ≡ Err r) × IsSilent t e
TextFails to answer why (Some number) t e = ⊥

-- the call wrote the text's output and printed its report, or failed with its fault
abbrev pub TextGives : {V : Type 0} → Outlet → Result TextAnswer TextRefusal → Result V TextsFault → Traffic → Errors → Type 0
TextGives to answer (Ok v) t e =
    (a : TextAnswer) × (answer ≡ Ok a) × SendsAll t (to.shown None a.bytes) × WriterServes t × Prints e (told_of None a)
TextGives to answer (Err fault) t e = TextFails to answer fault.refusal fault.line t e

-- a call stopped before it drew the text, or memory ran out by then; or it drew the text by a font, with this answer by
-- the opened font
abbrev pub FontAnswers : {V : Type 0} → Outlet → Setting → (Strike → Result TextAnswer TextRefusal) → List ℕ
    → Result V TextsFault → Traffic → Errors → Type 0
FontAnswers to a answer text r t e =
    (StopsAtFont (tested (job_by a text)) (strike_of a) r (reader_in t) × IsSilent t e)
    ⊎ OpensFont (tested (job_by a text)) (strike_of a) (reader_in t) (λ s. TextGives to (answer s) r t e)

abbrev pub FontTextGives : {V : Type 0} → Setting → List ℕ → Result V TextsFault → Traffic → Errors → Type 0
FontTextGives a text r t e = FontAnswers stream a (λ s. text_answer a s text) text r t e

-- a call that ends with Ok, Create or Write found no defect, and a font fault in its error is one
abbrev pub TellsFor : (Fault → Type 0) → Refusal → Type 0
TellsFor IsOne (reason.Font f) = IsOne f
TellsFor IsOne reason.Create = HasNo IsOne
TellsFor IsOne (reason.Write sent) = HasNo IsOne
TellsFor IsOne why = ⊤

abbrev pub TextTellsDefects : {V : Type 0} → (Fault → Type 0) → Result V TextsFault → Type 0
TextTellsDefects IsOne (Ok v) = HasNo IsOne
TextTellsDefects IsOne (Err fault) = TellsFor IsOne fault.refusal

-- these claims for the bytes of a reader, where they are known
abbrev pub TextTellsDefectsOf : {V : Type 0} → Option (List ℕ) → (List ℕ → Fault → Type 0) → Result V TextsFault
    → Type 0
TextTellsDefectsOf {V} left IsOne result = IfSome left (λ file. TextTellsDefects {V = V} (IsOne file) result)
