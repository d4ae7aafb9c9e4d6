use Rattle.std.proofs.Common.{◌≡◌, ℕ, ℤ, false, take}
use Rattle.tt_picture.specs.Placed.{in_edges, number_has}
use Rattle.tt_picture.proofs.large.some_large.Given as goal

-- the glyphs so far have bitmaps
abbrev pub invariant-loop-glyph : goal.invariant-loop-glyph
invariant-loop-glyph l = (n : ℕ) (c j : ℤ) → number_has in_edges (take l.glyph-index l.glyphs) n c j ≡ false
