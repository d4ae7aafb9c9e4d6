use Rattle.std.proofs.Common.{rules}
use Rattle.tt_core.proofs.font_fault.FontFaultFromFault.from.Goals as goal

pub returns : goal.returns
returns c = search rules
