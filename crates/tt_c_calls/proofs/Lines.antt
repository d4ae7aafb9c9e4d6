-- The message of an answer is the program's line.
use Rattle.std.proofs.Common.{refl}
use Rattle.tt_core.specs.declared.fault.JobFault.TheVariants as job
use Rattle.tt_core.proofs.Refusals.{why-of-number}
use Rattle.tt_core.specs.Faults.{job_number, job_fault_of}
use Rattle.tt_c_calls.specs.Laws.{FontMessagesAreLines, JobMessagesAreLines}
use Rattle.tt_c_calls.specs.Messages.{defect_of, message_of}

pub font_messages_are_lines : FontMessagesAreLines
unfolding message_of defect_of
font_messages_are_lines f is_tag = rw (why-of-number f.why, is_tag) refl

pub job_messages_are_lines : JobMessagesAreLines
unfolding message_of job_fault_of job_number
job_messages_are_lines job.SizeRange = refl
job_messages_are_lines job.TextLong = refl
job_messages_are_lines job.EmptyPicture = refl
job_messages_are_lines job.PictureLarge = refl
job_messages_are_lines job.MarginRange = refl
job_messages_are_lines job.WorkLarge = refl
