use Rattle.std.proofs.Common.{◌≡◌, map, take}
use Rattle.std.specs.List.{sum_by}
use Rattle.tt_picture.specs.Distinct.{distinct}
use Rattle.tt_glyphs.specs.Listed.{bytes_among, entry_by}
use Rattle.tt_glyphs.proofs.entries.entries_of.Given as goal

-- the entries of the numbers so far, and the end of their rows
abbrev pub invariant-loop-glyph : goal.invariant-loop-glyph
invariant-loop-glyph l = record {
  entries : l.entries.items ≡ map (entry_by l.drawn (distinct l.glyphs)) (take l.glyph-index l.glyphs);
  end : l.end ≡ sum_by (bytes_among l.drawn) (distinct (take l.glyph-index l.glyphs));
}
