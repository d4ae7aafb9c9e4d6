use Rattle.std.proofs.Common.{◌≡◌, ℕ, ◌*◌, ◌^◌, ◌<◌, ◌≤◌, length, slice_index, take}
use Rattle.std.specs.List.{sum_by}
use Rattle.tt_glyphs.specs.declared.drawing.DrawnGlyph.{DrawnGlyph}
use Rattle.tt_glyphs.specs.Entries.{told_bytes}
use Rattle.tt_glyphs.proofs.entries.starts_of.Given as goal

-- the places of the rows of the glyphs so far, and the end of these rows
abbrev pub invariant-loop-glyph : goal.invariant-loop-glyph
invariant-loop-glyph l = record {
  count : length l.starts.items ≡ l.glyph-index;
  starts : (i : ℕ) → i < l.glyph-index
      → slice_index l.starts.items i ≡ sum_by (λ (d : DrawnGlyph). told_bytes d.told) (take i l.drawn);
  at : l.at ≡ sum_by (λ (d : DrawnGlyph). told_bytes d.told) (take l.glyph-index l.drawn);
  small : l.at ≤ l.glyph-index * 2 ^ 23;
}
