-- The definitions' views of glyphs and of their bodies.
use Rattle.std.specs.Prelude.{ℕ}
use Rattle.tt_picture.specs.declared.fitted.FittedBody as declared_fitted
use Rattle.tt_picture.specs.declared.fitted.FittedBody.TheVariants as fitted_body
use Rattle.tt_picture.specs.declared.glyph.GlyphBody.{GlyphBody}
use Rattle.tt_picture.specs.declared.glyph.GlyphBody.TheVariants as body
use Rattle.tt_picture.specs.Fitted as fitted
use Rattle.tt_picture.specs.Glyphs as glyphs
use Rattle.tt_strike_kept.specs.declared.cut.GlyphFacts.{GlyphFacts}

abbrev pub body_view : GlyphBody → glyphs.GlyphBody
body_view (body.Small cut) = glyphs.small cut.value.bitmap cut.value.ink
body_view (body.Large uncut) = glyphs.large uncut.value.large

abbrev pub facts_of : GlyphBody → GlyphFacts
facts_of (body.Small cut) = cut.value.facts
facts_of (body.Large uncut) = uncut.value.facts

-- a glyph with this number and this body
abbrev pub glyph_view : ℕ → GlyphBody → glyphs.Glyph
glyph_view n b = record {
  number = n;
  advance_left = (facts_of b).advance_left;
  chords = (facts_of b).chords;
  crossings = (facts_of b).crossings;
  body = body_view b;
  unfitted = (facts_of b).unfitted;
}

abbrev pub fitted_view : declared_fitted.FittedBody → fitted.FittedBody
fitted_view (fitted_body.Outline made) = fitted.outlined made.value
fitted_view (fitted_body.Kept kept) = fitted.kept kept
