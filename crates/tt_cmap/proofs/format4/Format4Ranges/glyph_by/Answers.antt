use Rattle.std.proofs.Common.{rules}
use Rattle.tt_cmap.proofs.format4.Format4Ranges.glyph_by.Goals as goal

pub returns-in-Some-clause-exact : goal.returns-in-Some-clause-exact
returns-in-Some-clause-exact c = search rules
