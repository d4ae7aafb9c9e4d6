-- No part of the standard: the definitions' views of some lines.
use Rattle.std.specs.Prelude.{ℕ, List, map}
use Rattle.tt_line.specs.Layout.{Placement}
use Rattle.tt_line.specs.Outcome.{placement_of}
use Rattle.tt_picture.specs.declared.lines.PlacedLine.{PlacedLine}
use Rattle.tt_scan_edges.specs.declared.edge.Frame.{Frame}
use Rattle.tt_strike.specs.declared.laid.Laid.{Laid}
use Rattle.tt_strike.specs.Picture.{frame_of}

abbrev pub placements_of : List Laid → List Placement
placements_of lines = map (λ l. placement_of l.line) lines

-- the frame of a line in its picture, and its glyphs with their pens
abbrev pub placed_parts : PlacedLine → Frame × List (ℕ × ℕ)
placed_parts p = (p.frame, p.glyphs.now)

abbrev pub laid_parts : Laid → Frame × List (ℕ × ℕ)
laid_parts l = (frame_of (placement_of l.line) l.margin, l.line.glyphs.items)
