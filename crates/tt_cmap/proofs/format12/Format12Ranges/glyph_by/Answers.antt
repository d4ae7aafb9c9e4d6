use Rattle.std.proofs.Common.{rules}
use Rattle.tt_cmap.proofs.format12.Format12Ranges.glyph_by.Goals as goal

pub returns-then-c-start-clause-exact : goal.returns-then-c-start-clause-exact
returns-then-c-start-clause-exact c = search rules

pub returns-clause-exact : goal.returns-clause-exact
returns-clause-exact c = search rules
