-- No part of the standard: a list of numbers whose distinct glyphs are tried.
use Rattle.std.specs.Prelude.{◌≡◌, ◌<◌, ◌≤◌, length, All}
use Rattle.tt_core.specs.Limits.{text_limit}
use Rattle.tt_face.specs.Faces.{Face}
use Rattle.tt_fit.specs.Fitting.{Fitter}
use Rattle.tt_metrics.specs.Metrics.{glyphs_of}
use Rattle.tt_picture.specs.Distinct.{distinct}
use Rattle.tt_picture.specs.Glyphs.{ArePlaces}
use Rattle.tt_strike.specs.Makers.{IsSetting}
use Rattle.tt_strike.specs.Work.{line_fitter, work_left}
use Rattle.tt_glyphs.specs.declared.ruled.TriedGlyph.{TriedGlyph}
use Rattle.tt_glyphs.specs.declared.tried.TriedList.{TriedList}
use Rattle.tt_glyphs.specs.Drawn.{IsSourceOf}
use Rattle.tt_glyphs.specs.Listed.{known_of}
use Rattle.tt_glyphs.specs.Requests.{GlyphJob}
use Rattle.tt_glyphs.specs.Tried.{AreTriedBy, IsRuledBody, tried_numbers}

-- the distinct glyphs of a request are tried, by the fitter of its face
pub record IsTriedList (face : Face) (a : GlyphJob) (s : Fitter) (l : TriedList) : Type 0 where
  pub setting : IsSetting face a.ppem a.fit s
  pub source : IsSourceOf l.source s
  pub of : l.source.face.now ≡ face
  pub fit : l.source.fit ≡ a.fit
  pub few : length a.glyphs ≤ text_limit
  pub room : length l.places.items ≡ glyphs_of s.metrics
  pub numbers : tried_numbers l.tried.items ≡ distinct (known_of (glyphs_of s.metrics) a.glyphs)
  pub places : ArePlaces l.places.items (tried_numbers l.tried.items)
  pub tried : AreTriedBy (line_fitter s (known_of (glyphs_of s.metrics) a.glyphs)) l.tried.items
  pub ruled : All (λ (t : TriedGlyph). IsRuledBody t.body) l.tried.items
  pub known : All (λ (t : TriedGlyph). t.number < glyphs_of l.source.face.now.metrics) l.tried.items
  pub left : l.left ≡ work_left s (known_of (glyphs_of s.metrics) a.glyphs)
