-- No part of the standard: what is cached of a glyph that is made.
use Rattle.std.specs.Prelude.{◌≡◌, Option, Some}
use Rattle.tt_picture.specs.Glyphs.{Glyph, small}
use Rattle.tt_strike_kept.specs.Glyph.{KeptGlyph}
use Rattle.tt_strike_kept.specs.declared.glyph.KeptCounts.{KeptCounts}

-- a cached glyph has the bitmap and the facts of a made glyph, which counts so much
pub record IsKeptOf (g : Glyph) (counts : Option KeptCounts) (k : KeptGlyph) : Type 0 where
  pub body : g.body ≡ small k.bitmap k.ink
  pub advance : k.advance_left ≡ g.advance_left
  pub chords : k.chords ≡ g.chords
  pub crossings : k.crossings ≡ g.crossings
  pub counted : counts ≡ Some k.counts
  pub unfitted : k.unfitted ≡ g.unfitted
