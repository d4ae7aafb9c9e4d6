use Rattle.std.proofs.Common.{◌≡◌, ℕ, ◌<◌, ◌≤◌, ◌++◌, drop, length, map, All}
use Rattle.tt_glyphs.specs.Listed.{known_of}
use Rattle.tt_glyphs.proofs.known.known_line.Given as goal

-- the known numbers so far, and those of the remaining numbers, are those of all
abbrev pub invariant-loop-glyph : goal.invariant-loop-glyph
invariant-loop-glyph l = record {
  numbers : map (λ (g : ℕ × ℕ). g.0) l.line.items ++ known_of l.count (drop l.glyph-index l.glyphs) ≡ known_of l.count l.glyphs;
  known : All (λ (g : ℕ × ℕ). g.0 < l.count) l.line.items;
  few : length l.line.items ≤ l.glyph-index;
}
