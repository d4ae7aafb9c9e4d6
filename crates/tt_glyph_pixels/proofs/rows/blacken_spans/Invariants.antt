use Rattle.std.proofs.Common.{◌≡◌, ℤ, ◌&&◌, ◌||◌, take}
use Rattle.std.specs.Ordering.{int_eq}
use Rattle.tt_bitmap.specs.Bitmaps.{has, is_black}
use Rattle.tt_scan_edges.specs.Marks.{covers}
use Rattle.tt_glyph_pixels.proofs.rows.blacken_spans.Given as goal

-- the spans so far are black
abbrev pub invariant-loop-span : goal.invariant-loop-span
invariant-loop-span l = record {
  black : (c j : ℤ) → is_black l.bitmap c j ≡ (is_black l.fn.bitmap c j
      || (has l.fn.bitmap c j && (int_eq j l.line && covers (take l.span-index l.spans) c)));
  place : l.bitmap ≡ record l.fn.bitmap { words = l.bitmap.words };
}
