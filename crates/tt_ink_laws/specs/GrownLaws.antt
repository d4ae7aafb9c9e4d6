-- Laws of the definitions of grown pictures: they too are made of bitmaps. The laws are statements; src/laws.rt proves
-- them.
use Rattle.std.specs.Prelude.{◌≡◌, ◌<◌, map, All, Ok}
use Rattle.tt_face.specs.Faces.{Face}
use Rattle.tt_fit.specs.Fitting.{Fitter}
use Rattle.tt_line.specs.Layout.{Placement}
use Rattle.tt_metrics.specs.Metrics.{glyphs_of}
use Rattle.tt_picture.specs.Ink.{glyph_ink}
use Rattle.tt_picture.specs.Pictures.{Image, image}
use Rattle.tt_strike.specs.Grown.{grown_outcome, grown_placement}
use Rattle.tt_strike.specs.Job.{Job}
use Rattle.tt_strike.specs.Picture.{frame_of, setting_in}
use Rattle.tt_strike.specs.Work.{line_fitter}
use Rattle.tt_glyphs.specs.Bitmaps.{place_of}
use Rattle.tt_glyphs.specs.Entries.{number_told}
use Rattle.tt_glyphs.specs.GlyphLaws.{IsMade, IsWithin, some_entry_shows}

-- a grown picture has the black pixels of its glyphs' bitmaps at the grown line's pens, and no others
abbrev pub GrownLinesAreBitmaps : Type 0
GrownLinesAreBitmaps = (face : Face) (a : Job) (line : Placement) (s : Fitter) (i : Image)
    → grown_placement face a ≡ Ok line → setting_in face a ≡ Ok s → grown_outcome face a ≡ Ok i
    → i ≡ image (frame_of line a.margin) (some_entry_shows (line_fitter s (map (λ g. g.0) line.glyphs)) (frame_of line a.margin) line.glyphs)

-- each of these bitmaps lies in the picture
abbrev pub GrownLinesHoldBitmaps : Type 0
GrownLinesHoldBitmaps = (face : Face) (a : Job) (line : Placement) (s : Fitter) (i : Image)
    → grown_placement face a ≡ Ok line → setting_in face a ≡ Ok s → grown_outcome face a ≡ Ok i
    → All (λ g. IsWithin (frame_of line a.margin) g.1 (place_of (glyph_ink (line_fitter s (map (λ g. g.0) line.glyphs) g.0) g.0))) line.glyphs

-- so each bitmap is made, if all numbers of the line are glyphs of the font
abbrev pub GrownLinesAreMade : Type 0
GrownLinesAreMade = (face : Face) (a : Job) (line : Placement) (s : Fitter) (i : Image)
    → grown_placement face a ≡ Ok line → setting_in face a ≡ Ok s → grown_outcome face a ≡ Ok i
    → All (λ g. g.0 < glyphs_of s.metrics) line.glyphs
    → All (λ g. IsMade (number_told a.fit s (map (λ g. g.0) line.glyphs) g.0)) line.glyphs
