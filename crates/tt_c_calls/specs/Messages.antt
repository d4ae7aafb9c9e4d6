-- No part of the standard: the message of a call's answer, for a person (profile).
use Rattle.std.specs.Prelude.{◌≡◌, ◌≢◌, refl, ℕ, ◌+◌, ◌<◌, ◌==◌, if◌then◌else◌, List, [], ◌∷◌, ◌++◌, codes, decimal, drop, length, Option, Some, None}
use Rattle.std.specs.Fmt.{digits}
use Rattle.tt_core.specs.declared.fault.JobFault.{JobFault}
use Rattle.tt_core.specs.declared.fault.JobFault.TheVariants as job
use Rattle.tt_core.specs.declared.fault.Why.{Why}
use Rattle.tt_core.specs.declared.fault.Why.TheVariants as why
use Rattle.tt_core.specs.Faults.{Fault, fault_at, is_ascii, why_name, why_number, why_of, job_name, job_number, job_fault_of}
use Rattle.tt_render_streams.specs.Messages.{font_line, job_line, line_of}
use Rattle.tt_render_streams.specs.declared.fault.RunFault.TheVariants as run
use Rattle.tt_c_calls.specs.declared.answer.CAnswer.{CAnswer}
use Rattle.tt_c_calls.specs.Answers.{done_answer, fault_answer, job_answer, memory_answer, plain_answer, room_answer}

-- a defect at a table and an offset, if the tag is ASCII
abbrev pub ascii_fault : List ℕ → ℕ → Why → Option Fault
ascii_fault table offset why = if is_ascii table then Some (fault_at table offset why) else None

abbrev pub fault_of : List ℕ → ℕ → Option Why → Option Fault
fault_of table offset None = None
fault_of table offset (Some why) = ascii_fault table offset why

-- the defect that an answer reports, if there is one
unfoldable pub defect_of : CAnswer → Option Fault
defect_of a = fault_of a.table a.offset (why_of a.number)

abbrev pub unknown_text : List ℕ
unknown_text = codes "tt_render: no such answer"

abbrev pub fault_text : Option Fault → List ℕ
fault_text None = unknown_text
fault_text (Some f) = font_line f

abbrev pub refusal_text : Option JobFault → List ℕ
refusal_text None = unknown_text
refusal_text (Some j) = job_line j

-- the message of a refused font, and of a refused job
abbrev pub defect_message : CAnswer → List ℕ
defect_message a = fault_text (defect_of a)

abbrev pub job_message : CAnswer → List ℕ
job_message a =
    if a.number == 66 then codes "tt_render: 66 UnknownFit"
    else if a.number == 67 then codes "tt_render: 67 LineEnds"
    else if a.number == 68 then codes "tt_render: 68 GlyphNumber"
    else if a.number == 69 then codes "tt_render: 69 WidthRange"
    else if a.number == 70 then codes "tt_render: 70 BoxRange"
    else if a.number == 71 then codes "tt_render: 71 BoxSmall"
    else if a.number == 72 then codes "tt_render: 72 UnknownAlign"
    else if a.number == 73 then codes "tt_render: 73 AxesMany"
    else refusal_text (job_fault_of a.number)

abbrev pub room_message : CAnswer → List ℕ
room_message a =
    codes "tt_render: room for "
    ++ (decimal a.bytes ++ (codes " bytes and " ++ (decimal a.count ++ codes " entries is wanted")))

-- the message of an answer: the program's line, where there is one
unfoldable pub message_of : CAnswer → List ℕ
message_of a =
    if a.status == 0 then codes "tt_render: done"
    else if a.status == 1 then defect_message a
    else if a.status == 2 then job_message a
    else if a.status == 3 then line_of run.FontLarge
    else if a.status == 5 then line_of run.Memory
    else if a.status == 6 then codes "tt_render: not UTF-8"
    else if a.status == 7 then room_message a
    else unknown_text

-- a text and a zero were written at the front of a room
abbrev pub IsTextWritten : List ℕ → List ℕ → List ℕ → CAnswer → Type 0
IsTextWritten text old new a =
    (new ≡ text ++ (0 ∷ drop (length text + 1) old)) × (a ≡ done_answer (length text + 1) 0)

-- a text and a zero are more than a room has, and the answer reports their size
abbrev pub IsTextSmall : List ℕ → ℕ → CAnswer → Type 0
IsTextSmall text room a = (room < length text + 1) × (a ≡ room_answer (length text + 1) 0)

-- a call wrote the message of an answer at the front of a room, or says why not
pub record WritesMessage (told : CAnswer) (before room : List ℕ) (a : CAnswer) : Type 0 where
  pub done : a.status ≡ 0 → IsTextWritten (message_of told) before room a
  pub refused : a.status ≢ 0 → a.status ≢ 7 → a ≡ memory_answer
  pub small : a.status ≡ 7 → IsTextSmall (message_of told) (length before) a
  pub kept : a.status ≢ 0 → room ≡ before

-- worked values
an_instruction : message_of (fault_answer (fault_at (codes "glyf") 14 why.DivZero))
    ≡ codes "tt_render: glyf+14: 47 DivZero"
unfolding message_of defect_of why_of why_number why_name digits
an_instruction = refl

no_pixel : message_of (job_answer job.EmptyPicture) ≡ codes "tt_render: 62 EmptyPicture"
unfolding message_of job_fault_of job_number job_name digits
no_pixel = refl

no_table : message_of (record (plain_answer 1 1) { table = 255 ∷ 0 ∷ 0 ∷ 0 ∷ [] }) ≡ unknown_text
unfolding message_of defect_of why_of
no_table = refl
