use Rattle.tt_picture.proofs.CutGlyphs.{box_fits}
use Rattle.tt_picture.proofs.glyph.LargeGlyph.crossings.Goals as goal

pub tape_crossings-requires-clause-few : goal.tape_crossings-requires-clause-few
tape_crossings-requires-clause-few c = c.self.invariant.0.few

pub tape_crossings-requires-clause-boxed : goal.tape_crossings-requires-clause-boxed
tape_crossings-requires-clause-boxed c = box_fits c.self.inside.filled c.self.inside.tape.edges c.self.invariant.0.boxed
