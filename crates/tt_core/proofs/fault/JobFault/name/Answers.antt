use Rattle.std.proofs.Common.{refl}
use Rattle.tt_core.specs.Faults.{job_name}
use Rattle.tt_core.proofs.fault.JobFault.name.Goals as goal

pub returns-in-TextLong : goal.returns-in-TextLong
unfolding job_name
returns-in-TextLong c = rw (c.in-TextLong.is, job_name) refl
