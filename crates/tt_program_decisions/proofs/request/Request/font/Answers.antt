use Rattle.std.proofs.Common.{rules}
use Rattle.tt_program_decisions.proofs.request.Request.font.Goals as goal

pub returns-in-Map : goal.returns-in-Map
returns-in-Map c = search rules
