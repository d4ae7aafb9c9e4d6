-- Lemmas about the definitions: an answer's message is the program's line and has at most 90 bytes, and a picture without
-- `grow` is the one that `run` writes.
use Rattle.std.specs.Prelude.{◌≡◌, ◌≢◌, refl, ℕ, ◌+◌, ◌^◌, ◌<◌, ◌≤◌, true, List, codes, length, Ok}
use Rattle.std.specs.Fmt.{digits}
use Rattle.tt_core.specs.declared.fault.JobFault.{JobFault}
use Rattle.tt_core.specs.declared.fault.Why.TheVariants as why
use Rattle.tt_core.specs.Faults.{Fault, fault_at, is_ascii, why_name, why_number, why_of}
use Rattle.tt_render_streams.specs.File.{as_file}
use Rattle.tt_render_streams.specs.Messages.{font_line, job_line}
use Rattle.tt_render_run.specs.Run.{run_outcome}
use Rattle.tt_strike.specs.Job.{Job}
use Rattle.tt_c_calls.specs.declared.answer.CAnswer.{CAnswer}
use Rattle.tt_c_calls.specs.declared.asked.CJob.{CJob}
use Rattle.tt_c_calls.specs.Answers.{fault_answer, job_answer, room_answer}
use Rattle.tt_c_calls.specs.Asked.{asked, job_instance, job_opening}
use Rattle.tt_c_calls.specs.Messages.{WritesMessage, defect_of, message_of}
use Rattle.tt_c_calls.specs.Pictures.{picture_wanted}
use Rattle.tt_c_calls.specs.Refusals.{as_call}

-- the message of a refused font is the program's line of the defect, if the table's tag is ASCII
abbrev pub FontMessagesAreLines : Type 0
FontMessagesAreLines = (f : Fault) → is_ascii f.table ≡ true → message_of (fault_answer f) ≡ font_line f

-- the message of a refused job is the program's line of the job
abbrev pub JobMessagesAreLines : Type 0
JobMessagesAreLines = (j : JobFault) → message_of (job_answer j) ≡ job_line j

-- each number of an answer fits its field of C's struct. A message needs no such bound of the status and of the refusal's
-- number
pub record AnswerFits (a : CAnswer) : Type 0 where
  pub table : length a.table ≡ 4
  pub offset : a.offset < 2 ^ 32
  pub bytes : a.bytes < 2 ^ 64
  pub count : a.count < 2 ^ 64

-- the message of an answer has at most 90 bytes, its zero included
abbrev pub MessagesAreShort : Type 0
MessagesAreShort = (a : CAnswer) → AnswerFits a → length (message_of a) + 1 ≤ 90

-- an answer reports at most 90 bytes, and calls no room of 90 bytes too small
pub record IsShortAnswer (room : ℕ) (a : CAnswer) : Type 0 where
  pub bytes : a.bytes ≤ 90
  pub enough : 90 ≤ room → a.status ≢ 7

-- each call that writes the message of an answer gives such an answer
abbrev pub ShortRoomsAreEnough : Type 0
ShortRoomsAreEnough = (told a : CAnswer) (before room : List ℕ) → AnswerFits told → WritesMessage told before room a
    → IsShortAnswer (length before) a

-- without `grow` the file of the requested picture is the one that `run` writes, and is refused for the same reason
abbrev pub PlainIsRun : Type 0
PlainIsRun = (j : CJob) (text font : List ℕ) (a : Job) → j.grow ≡ 0 → asked j text ≡ Ok a
    → as_file (picture_wanted j text font) ≡ as_call (run_outcome (job_opening j a.fit) (job_instance j) a font)

-- worked values: the message of the greatest counts, which is the longest of all; that of no count; and the longest one
-- of a refused font
the_longest : length (message_of (room_answer 18446744073709551615 18446744073709551615)) + 1 ≡ 90
unfolding message_of digits
the_longest = refl

of_no_count : length (message_of (room_answer 0 0)) + 1 ≡ 52
unfolding message_of digits
of_no_count = refl

the_longest_of_a_font : length (message_of (fault_answer (fault_at (codes "file") 4294967295 why.CollectionVersion))) + 1 ≡ 49
unfolding message_of defect_of why_of why_number why_name digits
the_longest_of_a_font = refl
