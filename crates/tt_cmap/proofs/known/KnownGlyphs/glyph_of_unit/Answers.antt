use Rattle.std.proofs.Common.{◌∙◌, sym}
use Rattle.tt_cmap.proofs.PlainUnits.{no-selector}
use Rattle.tt_cmap.proofs.known.KnownGlyphs.glyph_of_unit.Goals as goal

pub returns-in-None-clause-exact : goal.returns-in-None-clause-exact
returns-in-None-clause-exact c = c.glyph.ensures.exact ∙ sym (no-selector c.args.self.now c.args.unit c.in-None.is)
