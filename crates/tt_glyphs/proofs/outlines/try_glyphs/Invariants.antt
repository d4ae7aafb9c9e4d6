use Rattle.std.proofs.Common.{◌≡◌, map, take, All}
use Rattle.tt_picture.specs.Distinct.{fitter_after, fitter_for}
use Rattle.tt_glyphs.specs.declared.ruled.TriedGlyph.{TriedGlyph}
use Rattle.tt_glyphs.specs.Tried.{IsRuledBody, tried_glyph}
use Rattle.tt_glyphs.proofs.outlines.try_glyphs.Given as goal

-- the glyphs so far are tried, and the fitter is the one after them
abbrev pub invariant-loop-number : goal.invariant-loop-number
invariant-loop-number l = record {
  tried : l.tried.items ≡ map (λ n. tried_glyph (fitter_for l.fn.fitter l.numbers n) n) (take l.number-index l.numbers);
  ruled : All (λ (t : TriedGlyph). IsRuledBody t.body) l.tried.items;
  after : l.fitter ≡ fitter_after l.fn.fitter (take l.number-index l.numbers);
  tables : l.fitter.tables ≡ l.fn.fitter.tables;
}
