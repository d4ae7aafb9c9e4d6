-- No part of the standard: the edges and the dropouts that the rows of a large glyph are made of.
use Rattle.std.specs.Prelude.{ℕ, List}
use Rattle.tt_scan_dropouts.specs.declared.picture.Dropout.{Dropout}
use Rattle.tt_scan_edges.specs.declared.edge.Edge.{Edge}
use Rattle.tt_scan_edges.specs.declared.edge.Frame.{Frame}
use Rattle.tt_glyphs.specs.declared.place.InkPlace.{InkPlace}

-- the place of the ink, the frame of the rows, the edges and how often they were crossed, and the dropouts
pub record LargeRows : Type 0 where
  pub place : InkPlace
  pub frame : Frame
  pub edges : List Edge
  pub crosses : ℕ
  pub dropouts : List Dropout
