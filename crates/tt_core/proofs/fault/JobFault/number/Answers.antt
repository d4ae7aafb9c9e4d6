use Rattle.std.proofs.Common.{refl}
use Rattle.tt_core.specs.Faults.{job_number}
use Rattle.tt_core.proofs.fault.JobFault.number.Goals as goal

pub returns-in-TextLong : goal.returns-in-TextLong
unfolding job_number
returns-in-TextLong c = rw (c.in-TextLong.is, job_number) refl
