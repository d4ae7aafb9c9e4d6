use Rattle.std.proofs.Common.{◌≡◌, take}
use Rattle.std.specs.Prelude.{All, IfSome}
use Rattle.tt_bitmap.specs.Inks.{IsNear}
use Rattle.tt_picture.specs.Glyphs.{inks_of}
use Rattle.tt_picture.proofs.inks.glyph_inks.Given as goal

-- the boxes of the glyphs so far
abbrev pub invariant-loop-glyph : goal.invariant-loop-glyph
invariant-loop-glyph l = record {
  exact : l.inks.items ≡ inks_of (take l.glyph-index l.glyphs);
  near : All (λ ink. IfSome ink IsNear) l.inks.items;
}
