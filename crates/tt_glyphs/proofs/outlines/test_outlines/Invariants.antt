use Rattle.std.proofs.Common.{take, All}
use Rattle.tt_glyphs.specs.declared.ruled.TriedGlyph.{TriedGlyph}
use Rattle.tt_glyphs.specs.Tried.{IsMadeBody}
use Rattle.tt_glyphs.proofs.outlines.test_outlines.Given as goal

-- none of the glyphs so far is refused
abbrev pub invariant-loop-glyph : goal.invariant-loop-glyph
invariant-loop-glyph l = All (λ (t : TriedGlyph). IsMadeBody t.body) (take l.glyph-index l.tried)
