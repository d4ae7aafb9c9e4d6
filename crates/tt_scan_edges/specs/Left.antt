-- No part of the standard: what the edges that meet a row leave there, the marks of their turns and black spans.
use Rattle.std.specs.Prelude.{◌≡◌, ℕ, ◌+◌, ◌≤◌, ◌||◌, nat_lt, int_le, if◌then◌else◌, ℤ, pos, ◌+ℤ◌, List, [], length}
use Rattle.tt_scan_edges.specs.declared.edge.Cross.{Cross}
use Rattle.tt_scan_edges.specs.declared.edge.Edge.{Edge}
use Rattle.tt_scan_edges.specs.declared.mark.TurnMark.{TurnMark}
use Rattle.tt_scan_edges.specs.declared.mark.Span.{Span}
use Rattle.tt_scan_edges.specs.Crossing.{spans}
use Rattle.tt_scan_edges.specs.Marks.{covers, turns}
use Rattle.tt_scan_edges.specs.Winding.{column_x, lies_on, lies_on_one, turned, winding}

-- the marks and spans so far, the number of edges that there is memory for, and how many more edges may be crossed
pub record Left : Type 0 where
  pub marks : List TurnMark
  pub black : List Span
  pub most : ℕ
  pub room : ℕ

abbrev pub least : ℕ → ℕ → ℕ
least a b = if nat_lt a b then a else b

-- no edge is crossed yet
pub record IsBlank (l : Left) : Type 0 where
  pub none : l.marks ≡ []
  pub white : l.black ≡ []
  pub room : l.room ≡ l.most

-- what some edges leave at a height, where there is memory for a number of edges
pub record IsLeftBy (es : List Edge) (margin : ℕ) (y : ℤ) (most : ℕ) (l : Left) : Type 0 where
  pub black : (c : ℤ) → covers l.black c ≡ lies_on_one es (column_x margin c) y
  pub turn : (c : ℤ) → turns l.marks c ≡ winding es (column_x margin c) y
  pub whole : l.most ≡ most
  pub room : most ≤ l.room + length es

-- what one crossing more leaves
pub record HasCross (x : Cross) (k l : Left) : Type 0 where
  pub black : (c : ℤ) → covers l.black c ≡ (covers k.black c || spans x.touch c)
  pub turn : (c : ℤ) → turns l.marks c ≡ turns k.marks c +ℤ (if int_le x.first c then x.turn else pos 0)
  pub whole : l.most ≡ k.most
  pub room : k.room ≤ l.room + 1

-- what one edge more leaves at a height
pub record HasLeft (e : Edge) (margin : ℕ) (y : ℤ) (k l : Left) : Type 0 where
  pub black : (c : ℤ) → covers l.black c ≡ (covers k.black c || lies_on e (column_x margin c) y)
  pub turn : (c : ℤ) → turns l.marks c ≡ turns k.marks c +ℤ turned e (column_x margin c) y
  pub whole : l.most ≡ k.most
  pub room : k.room ≤ l.room + 1
