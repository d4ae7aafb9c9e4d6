use Rattle.std.proofs.Common.{rules}
use Rattle.tt_glyphs.proofs.entries.unknown_entry.Goals as goal

pub returns-in-Some : goal.returns-in-Some
returns-in-Some c = search rules
