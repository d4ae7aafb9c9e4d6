-- No part of the standard: lines drawn one after the other by a call of C (profile).
use Rattle.std.specs.Prelude.{◌≡◌, ◌≢◌, refl, ℕ, ◌+◌, ◌-◌, ◌*◌, ◌<◌, ◌≤◌, ◌==◌, Bool, true, false, not, ◌&&◌, if◌then◌else◌, pos, List, [], ◌∷◌, length, take, drop, get_or, Result, Ok, Err, ◌⊎◌, ⊤}
use Rattle.std.specs.List.{sum_by}
use Rattle.tt_core.specs.declared.fault.JobFault.TheVariants as fault
use Rattle.tt_core.specs.Faults.{Fault, job_number}
use Rattle.tt_core.specs.Outcomes.{◌>>=◌}
use Rattle.tt_render_settings.specs.Lines.{lines_budget}
use Rattle.tt_strike.specs.Costs.{cost_by}
use Rattle.tt_picture.specs.Pictures.{Picture}
use Rattle.tt_strike.specs.Job.{by_face}
use Rattle.tt_strike.specs.Strikes.{Strike}
use Rattle.tt_strike_kept.specs.Kept.{bytes_in}
use Rattle.tt_face.specs.Faces.{Face}
use Rattle.tt_c_calls.specs.declared.answer.CAnswer.{CAnswer}
use Rattle.tt_c_calls.specs.declared.asked.CJob.{CJob}
use Rattle.tt_c_calls.specs.declared.line_drawing.CLine.{CLine}
use Rattle.tt_c_calls.specs.declared.pictures.CPicture.{CPicture}
use Rattle.tt_c_calls.specs.Answers.{done_answer, fault_answer, job_answer, memory_answer, plain_answer, refusal_answer, room_answer}
use Rattle.tt_c_calls.specs.Asked.{IsAskedDefect, IsAskedFaceDefect, asked, job_fit, job_instance, job_opening}
use Rattle.tt_c_calls.specs.Pictures.{IsPictureOf, IsWritten, made_for, picture_told, picture_wanted}
use Rattle.tt_c_calls.specs.Refusals.{Refusal, as_call, line_ends, unknown_fit}

-- a line of texts, from one place up to another
abbrev pub line_between : List ℕ → ℕ → ℕ → List ℕ
line_between texts from end = take (end - from) (drop from texts)

-- the lines of texts, by the start of the first and the end of each
abbrev pub lines_by : List ℕ → ℕ → List ℕ → List (List ℕ)
lines_by texts from [] = []
lines_by texts from (end ∷ ends) = line_between texts from end ∷ lines_by texts end ends

-- each line ends where it begins or later, and within `bytes` bytes
abbrev pub AreEnds : ℕ → ℕ → List ℕ → Type 0
AreEnds bytes from [] = ⊤
AreEnds bytes from (end ∷ ends) = (from ≤ end) × (end ≤ bytes) × AreEnds bytes end ends

-- a line is blank: the job says so, and the line has no byte
abbrev pub is_blank : CJob → List ℕ → Bool
is_blank j line = not (j.blank == 0) && (length line == 0)

-- the picture of a blank line has no column and no row
abbrev pub blank_picture : CPicture
blank_picture = record { width = 0; height = 0; row_bytes = 0; baseline = pos 0; unfitted = 0 }

abbrev pub blank_line : ℕ → CLine
blank_line at = record { picture = blank_picture; at = at }

-- what a line takes of the budget of a call
abbrev pub cost_asked : CJob → List ℕ → List ℕ → Result ℕ Refusal
cost_asked j font line = asked j line >>= λ a. as_call (by_face cost_by (job_opening j a.fit) (job_instance j) a font)

-- a refused line takes nothing
abbrev pub cost_taken : Result ℕ Refusal → ℕ
cost_taken (Ok n) = n
cost_taken (Err why) = 0

-- nor does a blank one
abbrev pub line_taken : CJob → List ℕ → List ℕ → ℕ
line_taken j font line = if is_blank j line then 0 else cost_taken (cost_asked j font line)

-- what some lines take together
abbrev pub lines_taken : CJob → List ℕ → List (List ℕ) → ℕ
lines_taken j font lines = sum_by (λ line. line_taken j font line) lines

-- before each of these lines, the lines before it took no more than the budget
abbrev pub AreAffordable : CJob → List ℕ → List (List ℕ) → Type 0
AreAffordable j font lines = (i : ℕ) → i < length lines → lines_taken j font (take i lines) ≤ lines_budget i

-- what the first lines of some texts take
abbrev pub first_taken : CJob → List ℕ → List ℕ → List ℕ → ℕ → ℕ
first_taken j font texts ends count = lines_taken j font (lines_by texts 0 (take count ends))

-- where line i begins
abbrev pub start_of : List ℕ → ℕ → ℕ
start_of ends i = get_or (0 ∷ ends) i 0

-- the picture of a line for C, its rows, and what the line takes of the budget: of a blank line, or of the wanted
-- picture
abbrev pub IsShown : CJob → List ℕ → List ℕ → CPicture → List ℕ → ℕ → Type 0
IsShown j font line told rows cost =
    ((is_blank j line ≡ true) × (told ≡ blank_picture) × (rows ≡ []) × (cost ≡ 0))
    ⊎ ((is_blank j line ≡ false) × ((p : Picture) × IsPictureOf j line font p × (told ≡ picture_told p) × (rows ≡ p.rows)
    × (cost ≡ p.cost)))

-- the bytes of a line's rows
abbrev pub line_bytes : CLine → ℕ
line_bytes l = l.picture.row_bytes * l.picture.height

abbrev pub lines_bytes : List CLine → ℕ
lines_bytes [] = 0
lines_bytes (l ∷ ls) = line_bytes l + lines_bytes ls

-- a line was drawn at a place of a room
abbrev pub IsLineDrawn : CJob → List ℕ → List ℕ → ℕ → List ℕ → CLine → Type 0
IsLineDrawn j font room at line told =
    (rows : List ℕ) × (cost : ℕ) × IsShown j font line told.picture rows cost × (told.at ≡ at)
    × (take (length rows) (drop at room) ≡ rows)

-- a line was written at the front of a room, which is at place `at` of the caller's room, and takes this much of the
-- budget
pub record IsLineWritten (j : CJob) (font line : List ℕ) (at : ℕ) (old new : List ℕ) (told : CLine) (a : CAnswer)
    (cost : ℕ) : Type 0 where
  pub bytes : List ℕ
  pub shown : IsShown j font line told.picture bytes cost
  pub rows : IsWritten bytes old new
  pub place : told.at ≡ at
  pub answer : a ≡ done_answer (length bytes) told.picture.height

-- lines were drawn one after the other, the first at place `at`
abbrev pub AreLinesDrawn : CJob → List ℕ → List ℕ → ℕ → List (List ℕ) → List CLine → Type 0
AreLinesDrawn j font room at [] [] = ⊤
AreLinesDrawn j font room at (line ∷ lines) (told ∷ others) =
    IsLineDrawn j font room at line told × AreLinesDrawn j font room (at + line_bytes told) lines others
AreLinesDrawn j font room at lines told = ⊥

-- the first `count` lines were drawn in `used` bytes, the budget serves for them, and all else of the caller's is
-- unchanged
pub record DrawsLines (j : CJob) (font texts ends room_before room : List ℕ) (told_before told : List CLine)
    (used count : ℕ) : Type 0 where
  pub few : count ≤ length ends
  pub within : AreEnds (length texts) 0 (take count ends)
  pub drawn : AreLinesDrawn j font room 0 (lines_by texts 0 (take count ends)) (take count told)
  pub affordable : AreAffordable j font (lines_by texts 0 (take count ends))
  pub bytes : used ≡ lines_bytes (take count told)
  pub rest : drop used room ≡ drop used room_before
  pub others : drop count told ≡ drop count told_before

-- the answer of a line that stopped a call, after `count` lines that were drawn in `used` bytes
abbrev pub stopped_answer : CAnswer → ℕ → ℕ → CAnswer
stopped_answer a used count = record a { bytes = used + a.bytes; count = count }

-- the reason why a line stopped a call, and the line's own answer, where `left` bytes of room remained. The line is not
-- blank, and memory was refused; or the line is refused; or the room is too small
abbrev pub IsTextStopped : CJob → List ℕ → List ℕ → ℕ → CAnswer → Type 0
IsTextStopped j font line left a = (is_blank j line ≡ false) × ((a ≡ memory_answer)
    ⊎ ((why : Refusal) × (picture_wanted j line font ≡ Err why) × (a ≡ refusal_answer why))
    ⊎ ((p : Picture) × IsPictureOf j line font p × (left < length p.rows)
    × (a ≡ room_answer (length p.rows) p.frame.height)))

-- the reason why the line between two places stopped a call: there are no such ends; or the line itself
abbrev pub IsLineStopped : CJob → List ℕ → List ℕ → ℕ → ℕ → ℕ → CAnswer → Type 0
IsLineStopped j font texts from end left a =
    ((a ≡ refusal_answer line_ends) × ((end < from) ⊎ (length texts < end)))
    ⊎ ((from ≤ end) × (end ≤ length texts) × IsTextStopped j font (line_between texts from end) left a)

-- the tables of a font for lines: the way to fit and the number of values of axes are tested first, then the size and the
-- margin, and then the font
unfoldable pub lines_wanted : CJob → List ℕ → Result Face Refusal
lines_wanted j font =
    job_fit j >>= λ f.
    as_call (made_for (λ face. Ok face) j (record { text = []; ppem = j.size; margin = j.margin; fit = f }) font)

-- the answer before any line is drawn: a refused way to fit, size, margin or font comes first, and then too small a room
-- for the lines
abbrev pub AnswersInOrder : Result Face Refusal → ℕ → ℕ → CAnswer → Type 0
AnswersInOrder (Err why) room lines a = a ≡ refusal_answer why
AnswersInOrder (Ok face) room lines a = room < lines → a ≡ room_answer 0 lines

-- line i ends where it begins or later, and within the texts
abbrev pub IsLine : List ℕ → List ℕ → ℕ → Type 0
IsLine texts ends i = (start_of ends i ≤ get_or ends i 0) × (get_or ends i 0 ≤ length texts)

-- the reason why a call drew no more than the first lines: the font or the job is refused, and no line is drawn; memory
-- was refused; the next line, which the budget covers, stopped it, or its ends are refused; or there is a next line,
-- and the lines before it took more than the budget
abbrev pub IsStopped : CJob → List ℕ → List ℕ → List ℕ → ℕ → ℕ → CAnswer → Type 0
IsStopped j font texts ends room used a =
    ((why : Refusal) × (lines_wanted j font ≡ Err why) × (a ≡ refusal_answer why))
    ⊎ (a ≡ memory_answer)
    ⊎ ((own : CAnswer) × (a.count < length ends) × (a ≡ stopped_answer own used a.count)
    × IsLineStopped j font texts (start_of ends a.count) (get_or ends a.count 0) (room - used) own
    × ((own ≡ refusal_answer line_ends) ⊎ (first_taken j font texts ends a.count ≤ lines_budget a.count)))
    ⊎ ((a.count < length ends) × IsLine texts ends a.count
    × (lines_budget a.count < first_taken j font texts ends a.count)
    × (a ≡ stopped_answer (job_answer fault.WorkLarge) used a.count))

-- a font at a job's size and with its way to fit, for lines
pub record IsStrikeFor (j : CJob) (font : List ℕ) (s : Strike) : Type 0 where
  pub face : lines_wanted j font ≡ Ok s.face
  pub fit : job_fit j ≡ Ok s.fit
  pub size : s.ppem ≡ j.size

-- the bytes of the cached glyphs at the end of a call: 0 where no strike was made, else those of one with this limit
abbrev pub IsCachedAtEnd : CJob → List ℕ → ℕ → ℕ → Type 0
IsCachedAtEnd j font keep bytes =
    (bytes ≡ 0) ⊎ ((s : Strike) × IsStrikeFor j font s × (s.most ≡ keep) × (bytes ≡ bytes_in s.kept))

-- the font and the job are accepted and all lines were drawn, in `used` bytes; or the reason why not
abbrev pub EndsWith : CJob → List ℕ → List ℕ → List ℕ → ℕ → ℕ → CAnswer → Type 0
EndsWith j font texts ends room used a =
    ((face : Face) × (lines_wanted j font ≡ Ok face) × (a ≡ done_answer used (length ends)))
    ⊎ ((a.status ≢ 0) × IsStopped j font texts ends room used a)

-- a defect of the font: of the tables that every text needs, or of the data that line `i` is drawn from
abbrev pub IsLinesDefect : CJob → List ℕ → List ℕ → List ℕ → ℕ → Fault → Type 0
IsLinesDefect j font texts ends i f =
    IsAskedFaceDefect j font f ⊎ IsAskedDefect j (line_between texts (start_of ends i) (get_or ends i 0)) font f

-- if an answer reports a defect of the font, also after lines that were drawn, the defect has a property
abbrev pub LineDefectStands : (Fault → Type 0) → CAnswer → Type 0
LineDefectStands IsOne a = a.status ≡ 1 → (f : Fault)
    × (a ≡ record (fault_answer f) { bytes = a.bytes; count = a.count }) × IsOne f

-- a call drew lines, or says which line stopped it, or why there is none
pub record DrawsTexts (j : CJob) (font texts ends rows_before rows : List ℕ) (lines_before lines : List CLine)
    (a : CAnswer) : Type 0 where
  pub order : AnswersInOrder (lines_wanted j font) (length lines_before) (length ends) a
  pub kept : length lines_before < length ends → (rows ≡ rows_before) × (lines ≡ lines_before)
  pub drawn : length ends ≤ length lines_before → (used : ℕ)
      × DrawsLines j font texts ends rows_before rows lines_before lines used a.count
      × EndsWith j font texts ends (length rows_before) used a
  pub stands : LineDefectStands (IsLinesDefect j font texts ends a.count) a

-- worked values
an_unknown_fit_comes_before_the_room : AnswersInOrder (Err unknown_fit) 0 1 (plain_answer 2 66)
an_unknown_fit_comes_before_the_room = refl

room_for_two_of_three_lines : (face : Face) → AnswersInOrder (Ok face) 2 3 (room_answer 0 3)
room_for_two_of_three_lines face few = refl

no_line_takes_anything : (j : CJob) (font : List ℕ) → lines_taken j font [] ≡ 0
no_line_takes_anything j font = refl

a_line_that_the_budget_stops : stopped_answer (job_answer fault.WorkLarge) 96 1
    ≡ record (plain_answer 2 65) { bytes = 96; count = 1 }
unfolding job_number
a_line_that_the_budget_stops = refl
