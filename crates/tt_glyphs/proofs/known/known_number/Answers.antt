use Rattle.std.proofs.Common.{rules}
use Rattle.tt_glyphs.proofs.known.known_number.Goals as goal

pub returns-then-glyph-from : goal.returns-then-glyph-from
returns-then-glyph-from c = search rules
