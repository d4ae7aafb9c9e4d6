use Rattle.std.proofs.Common.{rules}
use Rattle.tt_exec.proofs.machine.Machine.into_parts.Goals as goal

pub returns : goal.returns
returns c = search rules
