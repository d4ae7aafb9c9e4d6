-- No part of the standard: the crossing of an edge with the centre line of a row, and the rows that the edge meets.
use Rattle.std.specs.Prelude.{◌≡◌, ℕ, ◌<◌, Bool, false, ◌&&◌, if◌then◌else◌, ℤ, pos, int_lt, int_le, ◌≤ℤ◌, ◌<ℤ◌, ◌-ℤ◌, List, Option, Some, None, IfSome}
use Rattle.tt_scan_edges.specs.declared.edge.Cross.{Cross}
use Rattle.tt_scan_edges.specs.declared.edge.Edge.{Edge}
use Rattle.tt_scan_edges.specs.declared.edge.Frame.{Frame}
use Rattle.tt_scan_edges.specs.Winding.{column_x, row_y, is_between, lies_on, edge_turn, turned, rows_met}

-- a column lies from the first of a pair to the second
abbrev pub spans : Option (ℤ × ℤ) → ℤ → Bool
spans None column = false
spans (Some t) column = int_le t.0 column && int_le column t.1

-- the crossing of an edge at a height, stated for every column: which centres lie on the edge, its turn there, and the
-- column from which on a centre lies strictly right of it
pub record IsCross (e : Edge) (margin : ℕ) (y : ℤ) (r : Cross) : Type 0 where
  pub touch : (c : ℤ) → lies_on e (column_x margin c) y ≡ spans r.touch c
  pub touched : IfSome r.touch (λ t. t.0 ≤ℤ t.1)
  pub turn : r.turn ≡ edge_turn e y
  pub right : (c : ℤ) → turned e (column_x margin c) y ≡ (if int_le r.first c then r.turn else pos 0)
  pub still : r.turn ≡ pos 0 → r.first ≡ pos 0

-- the rows of a frame whose centre line meets an edge: the first of them, and one past the last
pub record AreRows (e : Edge) (f : Frame) (r : ℤ × ℤ) : Type 0 where
  pub met : (row : ℤ) → pos 0 ≤ℤ row → row <ℤ pos f.height → is_between e.ay e.by (row_y f row) ≡ (int_le r.0 row && int_lt row r.1)
  pub low : pos 0 ≤ℤ r.0
  pub order : r.0 ≤ℤ r.1
  pub high : r.1 ≤ℤ pos f.height

-- a row lies from the first of a pair up to the second
abbrev pub has_row : ℤ × ℤ → ℤ → Bool
has_row r row = int_le r.0 row && int_lt row r.1

-- the first of the rows whose centre line meets some edge, and one past the last; two equal numbers where no row does
pub record AreAllRows (es : List Edge) (f : Frame) (r : ℤ × ℤ) : Type 0 where
  pub outside : (row : ℤ) → pos 0 ≤ℤ row → row <ℤ pos f.height → has_row r row ≡ false → rows_met es (row_y f row) ≡ 0
  pub low : pos 0 ≤ℤ r.0
  pub order : r.0 ≤ℤ r.1
  pub high : r.1 ≤ℤ pos f.height
  pub first : r.0 <ℤ r.1 → 0 < rows_met es (row_y f r.0)
  pub last : r.0 <ℤ r.1 → 0 < rows_met es (row_y f (r.1 -ℤ pos 1))
