use Rattle.std.proofs.Common.{refl}
use Rattle.tt_core.specs.Faults.{why_number}
use Rattle.tt_core.proofs.fault.Why.number.Goals as goal

pub returns-in-MaxpVersion : goal.returns-in-MaxpVersion
unfolding why_number
returns-in-MaxpVersion c = rw (c.in-MaxpVersion.is, why_number) refl
