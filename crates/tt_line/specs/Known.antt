-- Not from the standard: the cache for the units of a text.
use Rattle.std.specs.Prelude.{◌≡◌, ◌<◌, ◌^◌, ℕ}
use Rattle.tt_cmap.specs.declared.units.TextUnit.{TextUnit}
use Rattle.tt_cmap.specs.Maps.{CharacterMap, glyph_of_unit}
use Rattle.tt_line.specs.Layout.{advance_in_pixels}
use Rattle.tt_line.specs.declared.known.GlyphAdvance.{GlyphAdvance}
use Rattle.tt_metrics.specs.Metrics.{Metrics, glyphs_of}

-- the tables and the size that determine glyphs and advances
pub record Source : Type 0 where
  pub metrics : Metrics
  pub cmap : CharacterMap
  pub ppem : ℕ

-- the glyph and the advance of a unit
pub record IsKnown (s : Source) (u : TextUnit) (step : GlyphAdvance) : Type 0 where
  pub glyph : step.glyph ≡ glyph_of_unit s.cmap u
  pub known : step.glyph < glyphs_of s.metrics
  pub advance : step.advance ≡ advance_in_pixels s.metrics s.ppem step.glyph
  pub bound : step.advance < 2 ^ 25
