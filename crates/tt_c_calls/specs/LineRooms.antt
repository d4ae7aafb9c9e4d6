-- No part of the standard: the room that the rows of lines need, by a call of C (profile).
use Rattle.std.specs.Prelude.{◌≡◌, ◌≢◌, refl, ℕ, ◌^◌, ◌<◌, ◌≤◌, if◌then◌else◌, min, List, [], ◌∷◌, length, replicate, take, get_or, Result, Ok, Err, ◌⊎◌}
use Rattle.std.specs.List.{sum_by}
use Rattle.tt_core.specs.declared.fault.JobFault.TheVariants as fault
use Rattle.tt_core.specs.Faults.{job_number}
use Rattle.tt_core.specs.Outcomes.{◌>>=◌}
use Rattle.tt_face.specs.Faces.{Face}
use Rattle.tt_render_settings.specs.Lines.{lines_budget}
use Rattle.tt_strike.specs.Refusals.{job}
use Rattle.tt_c_calls.specs.declared.answer.CAnswer.{CAnswer}
use Rattle.tt_c_calls.specs.declared.asked.CJob.{CJob}
use Rattle.tt_c_calls.specs.declared.line_drawing.CLine.{CLine}
use Rattle.tt_c_calls.specs.Answers.{done_answer, job_answer, memory_answer, plain_answer, refusal_answer}
use Rattle.tt_c_calls.specs.Lines.{DrawsTexts, IsLine, IsLinesDefect, LineDefectStands, cost_taken, first_taken, is_blank, line_between, lines_by, lines_wanted, start_of}
use Rattle.tt_c_calls.specs.Pictures.{picture_wanted}
use Rattle.tt_c_calls.specs.Refusals.{Refusal, line_ends, refused}
use Rattle.tt_c_calls.specs.Variations.{no_axis}

-- line i of some texts
abbrev pub line_at : List ℕ → List ℕ → ℕ → List ℕ
line_at texts ends i = line_between texts (start_of ends i) (get_or ends i 0)

-- the bytes of a line's rows: none of a blank line, else those of the wanted picture
abbrev pub line_room : CJob → List ℕ → List ℕ → Result ℕ Refusal
line_room j font line =
    if is_blank j line then Ok 0 else (picture_wanted j line font >>= λ image. Ok (length image.rows))

-- the bytes of the rows of some lines; a refused line has none
abbrev pub lines_room : CJob → List ℕ → List (List ℕ) → ℕ
lines_room j font lines = sum_by (λ line. cost_taken (line_room j font line)) lines

-- the bytes of the rows of the first lines of some texts
abbrev pub first_room : CJob → List ℕ → List ℕ → List ℕ → ℕ → ℕ
first_room j font texts ends count = lines_room j font (lines_by texts 0 (take count ends))

-- line i has rows: it ends where it begins or later, and within the texts; the budget serves for it; and its picture is
-- accepted
pub record IsLineAccepted (j : CJob) (font texts ends : List ℕ) (i : ℕ) : Type 0 where
  pub line : IsLine texts ends i
  pub budget : first_taken j font texts ends i ≤ lines_budget i
  pub picture : (bytes : ℕ) × (line_room j font (line_at texts ends i) ≡ Ok bytes)

-- line i is refused: for its ends; for the work of the lines before it; or for its own picture
abbrev pub IsLineRefused : CJob → List ℕ → List ℕ → List ℕ → ℕ → Refusal → Type 0
IsLineRefused j font texts ends i why =
    ((why ≡ line_ends) × ((get_or ends i 0 < start_of ends i) ⊎ (length texts < get_or ends i 0)))
    ⊎ (IsLine texts ends i × (why ≡ refused (job fault.WorkLarge))
    × (lines_budget i < first_taken j font texts ends i))
    ⊎ (IsLine texts ends i × (first_taken j font texts ends i ≤ lines_budget i)
    × (line_room j font (line_at texts ends i) ≡ Err why))

-- the most bytes that an answer reports
abbrev pub most_bytes : ℕ
most_bytes = 18446744073709551615

-- an answer counts lines that all have rows, and the bytes of these rows
pub record CountsRoom (j : CJob) (font texts ends : List ℕ) (a : CAnswer) : Type 0 where
  pub few : a.count ≤ length ends
  pub accepted : (i : ℕ) → i < a.count → IsLineAccepted j font texts ends i
  pub bytes : a.bytes ≡ min (first_room j font texts ends a.count) most_bytes

-- an answer with the bytes and the count of another one
abbrev pub counted_as : CAnswer → CAnswer → CAnswer
counted_as own a = record own { bytes = a.bytes; count = a.count }

-- the font and the job are accepted, and all lines have rows; or the reason why not: the font or the job is refused;
-- memory was refused; or the next line is refused
abbrev pub EndsRoom : CJob → List ℕ → List ℕ → List ℕ → CAnswer → Type 0
EndsRoom j font texts ends a =
    ((face : Face) × (lines_wanted j font ≡ Ok face) × (a ≡ done_answer a.bytes (length ends)))
    ⊎ ((why : Refusal) × (lines_wanted j font ≡ Err why) × (a ≡ refusal_answer why))
    ⊎ (a ≡ counted_as memory_answer a)
    ⊎ ((why : Refusal) × (a.count < length ends) × IsLineRefused j font texts ends a.count why
    × (a ≡ counted_as (refusal_answer why) a))

-- a call reports the room that the rows of lines need, or the line that has none, or why there is no line
pub record TellsRoom (j : CJob) (font texts ends : List ℕ) (a : CAnswer) : Type 0 where
  pub counted : CountsRoom j font texts ends a
  pub end : EndsRoom j font texts ends a
  pub stands : LineDefectStands (IsLinesDefect j font texts ends a.count) a

-- a call that draws lines into a room of this size
pub record DrawsInto (j : CJob) (font texts ends : List ℕ) (room : ℕ) (a : CAnswer) : Type 0 where
  pub rows_before : List ℕ
  pub rows : List ℕ
  pub lines_before : List CLine
  pub lines : List CLine
  pub draws : DrawsTexts j font texts ends rows_before rows lines_before lines a
  pub entries : length ends ≤ length lines_before
  pub before : length rows_before ≡ room
  pub after : length rows ≡ room
  pub memory : a.status ≢ 5

-- a room of the stated bytes is enough for the lines, unless memory is refused
abbrev pub AskedRoomIsEnough : Type 0
AskedRoomIsEnough = (j : CJob) (font texts ends : List ℕ) (asked a : CAnswer) (room : ℕ) → room < 2 ^ 63
    → TellsRoom j font texts ends asked → asked.status ≡ 0 → DrawsInto j font texts ends room a → asked.bytes ≤ room
    → a.status ≡ 0

-- each smaller room is refused as too small, unless memory is refused
abbrev pub SmallerRoomIsRefused : Type 0
SmallerRoomIsRefused = (j : CJob) (font texts ends : List ℕ) (asked a : CAnswer) (room : ℕ)
    → TellsRoom j font texts ends asked → asked.status ≡ 0 → DrawsInto j font texts ends room a → room < asked.bytes
    → a.status ≡ 7

-- worked values
no_line_needs_room : (j : CJob) (font texts : List ℕ) → first_room j font texts [] 0 ≡ 0
no_line_needs_room j font texts = refl

abbrev of_blanks : CJob
of_blanks = record {
  size = 16;
  margin = 0;
  fit = 3;
  grow = 0;
  face = 0;
  kern = 0;
  rounded = 0;
  blank = 1;
  instance = 0;
  axes = 0;
  axis = replicate 16 no_axis;
}

two_blank_lines_need_none : (font : List ℕ) → first_room of_blanks font [] (0 ∷ 0 ∷ []) 2 ≡ 0
two_blank_lines_need_none font = refl

the_budget_behind_a_line : counted_as (job_answer fault.WorkLarge) (done_answer 96 1)
    ≡ record (plain_answer 2 65) { bytes = 96; count = 1 }
unfolding job_number
the_budget_behind_a_line = refl
