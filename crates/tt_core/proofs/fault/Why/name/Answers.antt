use Rattle.std.proofs.Common.{refl}
use Rattle.tt_core.specs.Faults.{why_name}
use Rattle.tt_core.proofs.fault.Why.name.Goals as goal

pub returns-in-MaxpVersion : goal.returns-in-MaxpVersion
unfolding why_name
returns-in-MaxpVersion c = rw (c.in-MaxpVersion.is, why_name) refl
