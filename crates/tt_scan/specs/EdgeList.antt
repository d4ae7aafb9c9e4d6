-- No part of the standard: the edges of one glyph while they are made, the number that memory suffices for, and their
-- rows.
use Rattle.std.specs.Prelude.{◌≡◌, ℕ, Bool, false, ◌&&◌, ℤ, pos, int_lt, ◌<ℤ◌, ◌-ℤ◌, ◌*ℤ◌, List}
use Rattle.tt_scan_edges.specs.declared.edge.Edge.{Edge}
use Rattle.tt_scan_edges.specs.declared.edge.Frame.{Frame}
use Rattle.tt_scan_edges.specs.declared.entry.Entry.{Entry}
use Rattle.tt_scan.specs.declared.rows.Gap.{Gap}
use Rattle.tt_scan_edges.specs.Crossing.{AreAllRows}
use Rattle.tt_scan.specs.EdgeTable.{IsTableOf}

pub record EdgeList : Type 0 where
  pub edges : List Edge
  pub capacity : ℕ

-- a height lies strictly between the two centre lines of a gap
abbrev pub is_in : Gap → ℤ → Bool
is_in g y = int_lt g.low y && int_lt y g.high

-- the gap of a height: no centre line of a row lies in it, and unless it is empty the height does
pub record IsGapAt (y : ℤ) (g : Gap) : Type 0 where
  pub none : (k : ℤ) → is_in g (pos 8192 *ℤ k -ℤ pos 4096) ≡ false
  pub low : g.low <ℤ g.high → g.low <ℤ y
  pub high : g.low <ℤ g.high → y <ℤ g.high

-- all rows of some edges are known, and a table has their entries
pub record AreEntered (es : List Edge) (f : Frame) (r : ℤ × ℤ) (ms : List Entry) : Type 0 where
  pub rows : AreAllRows es f r
  pub table : IsTableOf es f ms
