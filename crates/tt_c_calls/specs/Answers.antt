-- No part of the standard: the answer of a call of C. The statuses 0 to 5 are those of the program (profile).
use Rattle.std.specs.Prelude.{◌≡◌, refl, ℕ, [], ◌∷◌, codes, Result, Ok, Err, ◌⊎◌}
use Rattle.tt_core.specs.declared.fault.JobFault.{JobFault}
use Rattle.tt_core.specs.declared.fault.JobFault.TheVariants as fault
use Rattle.tt_core.specs.declared.fault.Why.TheVariants as why
use Rattle.tt_core.specs.Faults.{Fault, fault_at, job_number, why_number}
use Rattle.tt_strike.specs.Refusals.{font, job, large}
use Rattle.tt_c_calls.specs.declared.answer.CAnswer.{CAnswer}
use Rattle.tt_c_calls.specs.declared.fault.CallFault.{CallFault}
use Rattle.tt_c_calls.specs.declared.fault.CallFault.TheVariants as call
use Rattle.tt_c_calls.specs.Refusals.{Refusal, axes_many, box_range, box_small, line_ends, not_utf8, refused, unknown_align, unknown_fit, width_range}

-- an answer with nothing but a status and the number of a refusal
abbrev pub plain_answer : ℕ → ℕ → CAnswer
plain_answer status number = record {
  status = status;
  number = number;
  table = 0 ∷ 0 ∷ 0 ∷ 0 ∷ [];
  offset = 0;
  bytes = 0;
  count = 0;
}

-- the answer of a call about `bytes` bytes and `count` rows, entries or lines
abbrev pub sized_answer : ℕ → ℕ → ℕ → CAnswer
sized_answer status bytes count = record (plain_answer status 0) { bytes = bytes; count = count }

-- the answer of a call that wrote `bytes` bytes and `count` rows, entries or lines
abbrev pub done_answer : ℕ → ℕ → CAnswer
done_answer bytes count = sized_answer 0 bytes count

-- the answer of a call that needs room for `bytes` bytes and `count` rows or entries
abbrev pub room_answer : ℕ → ℕ → CAnswer
room_answer bytes count = sized_answer 7 bytes count

abbrev pub fault_answer : Fault → CAnswer
fault_answer f = record (plain_answer 1 (why_number f.why)) { table = f.table; offset = f.offset }

abbrev pub job_answer : JobFault → CAnswer
job_answer j = plain_answer 2 (job_number j)

-- the answer for a reason
abbrev pub refusal_answer : Refusal → CAnswer
refusal_answer (refused (font f)) = fault_answer f
refusal_answer (refused (job j)) = job_answer j
refusal_answer (refused large) = plain_answer 3 0
refusal_answer unknown_fit = plain_answer 2 66
refusal_answer axes_many = plain_answer 2 73
refusal_answer line_ends = plain_answer 2 67
refusal_answer unknown_align = plain_answer 2 72
refusal_answer width_range = plain_answer 2 69
refusal_answer box_range = plain_answer 2 70
refusal_answer box_small = plain_answer 2 71
refusal_answer not_utf8 = plain_answer 6 0

-- the answer where memory was refused
abbrev pub memory_answer : CAnswer
memory_answer = plain_answer 5 0

-- the answer of a call that a fault stopped
abbrev pub call_answer : CallFault → CAnswer
call_answer (call.Font f) = fault_answer f
call_answer (call.Job j) = job_answer j
call_answer call.FontLarge = plain_answer 3 0
call_answer call.UnknownFit = plain_answer 2 66
call_answer call.AxesMany = plain_answer 2 73
call_answer call.LineEnds = plain_answer 2 67
call_answer call.UnknownAlign = plain_answer 2 72
call_answer call.WidthRange = plain_answer 2 69
call_answer call.BoxRange = plain_answer 2 70
call_answer call.BoxSmall = plain_answer 2 71
call_answer call.NotUtf8 = plain_answer 6 0
call_answer call.Memory = memory_answer

-- an answer that says why there is no result, or that memory was refused
abbrev pub TellsRefusal : {X : Type 0} → Result X Refusal → CAnswer → Type 0
TellsRefusal (Ok x) a = a ≡ memory_answer
TellsRefusal (Err why) a = (a ≡ refusal_answer why) ⊎ (a ≡ memory_answer)

-- if an answer reports a defect of the font, the defect has a property
abbrev pub DefectStands : (Fault → Type 0) → CAnswer → Type 0
DefectStands IsOne a = a.status ≡ 1 → (f : Fault) × (a ≡ fault_answer f) × IsOne f

-- worked values
an_instruction : refusal_answer (refused (font (fault_at (codes "glyf") 14 why.DivZero)))
    ≡ record { status = 1; number = 47; table = codes "glyf"; offset = 14; bytes = 0; count = 0 }
unfolding why_number
an_instruction = refl

no_pixel : refusal_answer (refused (job fault.EmptyPicture)) ≡ plain_answer 2 62
unfolding job_number
no_pixel = refl
