-- No part of the standard: the place of a rising edge at the centre line of a row, as a column and a rest, and what
-- both lose from row to row.
use Rattle.std.specs.Prelude.{◌≡◌, ◌≢◌, true, ℕ, ◌^◌, ◌<◌, ◌≤◌, ℤ, pos, negsuc, unsigned_abs, ◌+ℤ◌, ◌-ℤ◌, ◌*ℤ◌, ◌≤ℤ◌, ◌<ℤ◌}
use Rattle.tt_scan_edges.specs.declared.edge.Edge.{Edge}
use Rattle.tt_scan_edges.specs.declared.quotient.Quotient.{Quotient}
use Rattle.tt_scan_edges.specs.declared.walk.Walk.{Walk}
use Rattle.tt_scan_edges.specs.Winding.{column_x, is_between}

-- 8192 times the rise of an edge
abbrev pub divisor_of : Edge → ℤ
divisor_of e = pos 8192 *ℤ (e.by -ℤ e.ay)

-- how far the edge is right of the centres of column 0 at a height, times its rise
abbrev pub number_at : Edge → ℕ → ℤ → ℤ
number_at e margin y = (e.bx -ℤ e.ax) *ℤ (y -ℤ e.ay) +ℤ (e.by -ℤ e.ay) *ℤ (e.ax -ℤ column_x margin (pos 0))

-- the last column whose centre is not right of the edge at a height, and the rest
pub record StandsAt (e : Edge) (margin : ℕ) (y : ℤ) (q : Quotient) : Type 0 where
  pub exact : divisor_of e *ℤ q.whole +ℤ q.rest ≡ number_at e margin y
  pub low : pos 0 ≤ℤ q.rest
  pub high : q.rest <ℤ divisor_of e

-- the columns and the rest that an edge loses from a row to the one below
pub record IsStep (e : Edge) (q : Quotient) : Type 0 where
  pub exact : divisor_of e *ℤ q.whole +ℤ q.rest ≡ pos 8192 *ℤ (e.bx -ℤ e.ax)
  pub low : pos 0 ≤ℤ q.rest
  pub high : q.rest <ℤ divisor_of e

-- the edge from b to a
abbrev pub turned_round : Edge → Edge
turned_round e = record { ax = e.bx; ay = e.by; bx = e.ax; by = e.ay }

-- the quotients in a walk: a rest is a multiple of 8192 and a constant part
abbrev pub at_of : Walk → Quotient
at_of w = record { whole = w.column; rest = pos 8192 *ℤ w.rest +ℤ w.part }

abbrev pub step_of : Walk → Quotient
step_of w = record { whole = w.step; rest = pos 8192 *ℤ w.step_rest }

-- a rising edge followed to a height, and its turn in the rows below
pub record IsWalkUp (e : Edge) (margin : ℕ) (y way : ℤ) (w : Walk) : Type 0 where
  pub at : StandsAt e margin y (at_of w)
  pub step : IsStep e (step_of w)
  pub rise : w.rise ≡ e.by -ℤ e.ay
  pub part_low : pos 0 ≤ℤ w.part
  pub part_high : w.part <ℤ pos 8192
  pub turn : w.turn ≡ way

-- an edge followed to a height: from its own start where it rises, and from its other end where it falls
pub record IsWalk (e : Edge) (margin : ℕ) (y : ℤ) (w : Walk) : Type 0 where
  pub rises : e.ay <ℤ e.by → IsWalkUp e margin y (pos 1) w
  pub falls : e.by <ℤ e.ay → IsWalkUp (turned_round e) margin y (negsuc 0) w

-- an edge that is not level, which meets the row at a height and the row above it, where it is walked
pub record GoesBelow (e : Edge) (margin : ℕ) (y : ℤ) (w : Walk) : Type 0 where
  pub sloped : e.ay ≢ e.by
  pub met : is_between e.ay e.by y ≡ true
  pub above : is_between e.ay e.by (y +ℤ pos 8192) ≡ true
  pub walk : IsWalk e margin (y +ℤ pos 8192) w

-- numbers small enough for a row down
pub record WalkFits (w : Walk) : Type 0 where
  pub column : unsigned_abs w.column < 2 ^ 20
  pub rest : pos 0 ≤ℤ w.rest
  pub part : pos 0 ≤ℤ w.part
  pub step : unsigned_abs w.step ≤ 2 ^ 20
  pub step_rest : pos 0 ≤ℤ w.step_rest
  pub rise : pos 0 ≤ℤ w.rise
