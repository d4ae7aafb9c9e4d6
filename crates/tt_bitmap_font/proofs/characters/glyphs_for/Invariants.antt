use Rattle.std.proofs.Common.{◌≡◌, ◌<◌, ◌++◌, drop}
use Rattle.std.specs.Prelude.{All}
use Rattle.tt_bitmap_font.specs.Characters.{glyphs_for}
use Rattle.tt_cmap.specs.Maps.{glyph_count}
use Rattle.tt_bitmap_font.proofs.characters.glyphs_for.Given as goal

-- the glyphs so far, and those of the remaining characters, are all
abbrev pub invariant-loop-c : goal.invariant-loop-c
invariant-loop-c l = record {
  all : l.glyphs.items ++ glyphs_for l.cmap (drop l.c-index l.characters) ≡ glyphs_for l.cmap l.characters;
  known : All (λ g. g < glyph_count l.cmap) l.glyphs.items;
}
