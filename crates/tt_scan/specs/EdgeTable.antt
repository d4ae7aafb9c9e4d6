-- No part of the standard: the edge table of a scan converter. Its entries are the edges that meet some row of the
-- frame, and some of these are walked from row to row.
use Rattle.std.specs.Prelude.{◌≡◌, ℕ, ◌<◌, ◌≤◌, Bool, true, false, ℤ, pos, int_lt, ◌<ℤ◌, ◌≤ℤ◌, ◌+ℤ◌, ◌-ℤ◌, unsigned_abs, if◌then◌else◌, List, map, length, take, sum_by, vec_capacity, All}
use Rattle.tt_scan_edges.specs.declared.edge.Edge.{Edge}
use Rattle.tt_scan_edges.specs.declared.edge.Frame.{Frame}
use Rattle.tt_scan.specs.declared.edge_table.EdgeTable.{EdgeTable}
use Rattle.tt_scan_edges.specs.declared.entry.Entry.{Entry}
use Rattle.tt_scan_edges.specs.declared.walk.Walk.{Walk}
use Rattle.tt_scan_edges.specs.Crossing.{AreRows, has_row}
use Rattle.tt_scan_edges.specs.Entries.{edge_of}
use Rattle.tt_scan_order.specs.Orders.{IsInOrder}
use Rattle.tt_scan_edges.specs.Walks.{IsWalk}
use Rattle.tt_scan_edges.specs.Winding.{row_y, is_between}

-- the edge of an entry meets a row
abbrev pub meets_row : ℤ → Entry → Bool
meets_row r m = has_row (m.first, m.past) r

-- the number of rows of an entry
abbrev pub rows_in : Entry → ℕ
rows_in m = unsigned_abs (m.past -ℤ m.first)

abbrev pub edges_of : List Edge → List Entry → List Edge
edges_of es ms = map (λ m. edge_of es m) ms

-- 1 where an edge has rows below its first, else 0
abbrev pub is_long : Entry → ℕ
is_long m = if int_lt (m.first +ℤ pos 1) m.past then 1 else 0

-- an entry's summand where the edge continues below a row, else 0
abbrev pub if_on : ℤ → (Entry → ℕ) → Entry → ℕ
if_on row g m = if int_lt (row +ℤ pos 1) m.past then g m else 0

-- an entry has the number of an edge, and its rows
pub record IsEntryOf (es : List Edge) (f : Frame) (m : Entry) : Type 0 where
  pub number : m.edge < length es
  pub rows : AreRows (edge_of es m) f (m.first, m.past)

-- a walk of an edge in a row that the edge meets
pub record IsWalkAt (es : List Edge) (f : Frame) (row : ℤ) (w : Walk) : Type 0 where
  pub number : w.entry.edge < length es
  pub rows : AreRows (edge_of es w.entry) f (w.entry.first, w.entry.past)
  pub first : w.entry.first ≤ℤ row
  pub past : row <ℤ w.entry.past
  pub walk : IsWalk (edge_of es w.entry) f.margin (row_y f row) w

-- the edges of the first `begun` entries that continue below a row: each is walked once, whatever is summed over them
pub record AreWalked (es : List Edge) (f : Frame) (row : ℤ) (ms : List Entry) (begun : ℕ) (ws : List Walk) : Type 0 where
  pub within : begun ≤ length ms
  pub first : All (λ m. m.first ≤ℤ row) (take begun ms)
  pub sums : (g : Entry → ℕ) → sum_by (λ w. g w.entry) ws ≡ sum_by (if_on row g) (take begun ms)
  pub walks : All (IsWalkAt es f row) ws
  pub on : All (λ w. (row +ℤ pos 1) <ℤ w.entry.past) ws

-- no row of the frame meets an edge
abbrev pub IsUnmet : Frame → Edge → Type 0
IsUnmet f e = (row : ℤ) → pos 0 ≤ℤ row → row <ℤ pos f.height → is_between e.ay e.by (row_y f row) ≡ false

-- the entries of the edges that meet some row, each with its rows: whatever is summed over those edges alone has the
-- same sum over all edges
pub record IsTableOf (es : List Edge) (f : Frame) (ms : List Entry) : Type 0 where
  pub numbers : All (λ m. m.edge < length es) ms
  pub rows : All (λ m. AreRows (edge_of es m) f (m.first, m.past)) ms
  pub sums : (g : Edge → ℕ) → ((e : Edge) → IsUnmet f e → g e ≡ 0) → sum_by (λ m. g (edge_of es m)) ms ≡ sum_by g es

-- there is memory for the walks of all edges of more than one row
pub record HasRoom (t : EdgeTable) : Type 0 where
  pub long : t.long ≡ sum_by is_long t.entries.items
  pub room : t.long ≤ vec_capacity t.walks

-- the edge table of a tape between two calls
pub record IsReady (es : List Edge) (f : Frame) (t : EdgeTable) : Type 0 where
  pub table : IsTableOf es f t.entries.items
  pub room : HasRoom t
  pub walked : t.sorted ≡ true → AreWalked es f t.row t.entries.items t.begun t.walks.items
  pub order : t.sorted ≡ true → (row : ℤ) → IsInOrder t.entries.items row
