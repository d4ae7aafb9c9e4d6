use Rattle.std.proofs.Common.{◌≡◌, ℕ, ◌<◌, ◌≤◌, drop, get_or, length, take}
use Rattle.std.specs.List.{flat_map, sum_by}
use Rattle.tt_glyphs.specs.declared.drawing.DrawnGlyph.{DrawnGlyph}
use Rattle.tt_glyphs.specs.Drawn.{drawn_rows}
use Rattle.tt_glyphs.specs.Entries.{told_bytes}
use Rattle.tt_glyphs.proofs.list.BitmapList.write_rows.Given as goal

-- the glyphs so far have their rows in the room, and the others are unchanged
abbrev pub invariant-loop-i : goal.invariant-loop-i
invariant-loop-i l = record {
  end : l.i-end ≡ length l.initial.drawn.items;
  many : length l.drawn.items ≡ length l.initial.drawn.items;
  left : (k : ℕ) (d : DrawnGlyph) → l.i ≤ k → k < length l.initial.drawn.items
      → get_or l.drawn.items k d ≡ get_or l.initial.drawn.items k d;
  at : l.at ≡ sum_by (λ (d : DrawnGlyph). told_bytes d.told) (take l.i l.initial.drawn.items);
  len : length l.room ≡ length l.fn.room;
  rows : take l.at l.room ≡ flat_map drawn_rows (take l.i l.initial.drawn.items);
  rest : drop l.fn.self.wanted l.room ≡ drop l.fn.self.wanted l.fn.room;
  room : l.sweep.room ≡ l.initial.sweep.room;
}
