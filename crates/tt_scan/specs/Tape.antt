-- No part of the standard: the edges of one glyph, the frame of its picture, and the count of crossings.
use Rattle.std.specs.Prelude.{ℕ, ℤ, pos, List}
use Rattle.tt_scan_edges.specs.declared.edge.Edge.{Edge}
use Rattle.tt_scan_edges.specs.declared.edge.Frame.{Frame}
use Rattle.tt_scan_edges.specs.Winding.{column_x, row_y}

pub record Tape : Type 0 where
  pub frame : Frame
  pub edges : List Edge
  pub crosses : ℕ

-- the centre of pixel k of row r
abbrev pub centre_x : Tape → ℕ → ℤ
centre_x t k = column_x t.frame.margin (pos k)

abbrev pub centre_y : Tape → ℤ → ℤ
centre_y t r = row_y t.frame r
