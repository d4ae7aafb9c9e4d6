-- No part of the standard: a fitted glyph, in 26.6 pixels, and the facts that hold of every one.
use Rattle.std.specs.Prelude.{◌≡◌, ℕ, ◌-◌, ◌<◌, ◌≤◌, Bool, ℤ, pos, unsigned_abs, List, length, get_or, slice_index, Option, All}
use Rattle.tt_core.specs.Limits.{coordinate_limit, point_limit}
use Rattle.tt_state.specs.declared.graphics_state.ScanControl.{ScanControl}

-- the left and right ends of the advance, the ascent and the descent, each as a position
pub record PhantomPoints : Type 0 where
  pub left : ℤ × ℤ
  pub right : ℤ × ℤ
  pub ascent : ℤ × ℤ
  pub descent : ℤ × ℤ

-- the phantom points from a list in this order
abbrev pub phantom_of : List (ℤ × ℤ) → PhantomPoints
phantom_of ps = record {
  left = get_or ps 0 (pos 0, pos 0);
  right = get_or ps 1 (pos 0, pos 0);
  ascent = get_or ps 2 (pos 0, pos 0);
  descent = get_or ps 3 (pos 0, pos 0);
}

-- the points with their flag for on the curve, contour after contour. For each contour the number one past its last
-- point. Then the phantom points, and the scan control of the last program run for it
pub record Outline : Type 0 where
  pub points : List (ℤ × ℤ × Bool)
  pub ends : List ℕ
  pub phantom : PhantomPoints
  pub scan : Option ScanControl

-- a coordinate is within the limit
abbrev pub IsCoordinate : ℤ → Type 0
IsCoordinate v = unsigned_abs v ≤ coordinate_limit

abbrev pub IsPoint : ℤ × ℤ × Bool → Type 0
IsPoint p = IsCoordinate p.0 × IsCoordinate p.1

abbrev pub IsPosition : ℤ × ℤ → Type 0
IsPosition p = IsCoordinate p.0 × IsCoordinate p.1

-- each coordinate of the four is within the limit
pub record ArePhantom (p : PhantomPoints) : Type 0 where
  pub left : IsPosition p.left
  pub right : IsPosition p.right
  pub ascent : IsPosition p.ascent
  pub descent : IsPosition p.descent

-- the ends of contours never fall, and the last is the number of points; with no ends there are no points
pub record AreEnds (points : ℕ) (ends : List ℕ) : Type 0 where
  pub rising : (i j : ℕ) → i ≤ j → j < length ends → slice_index ends i ≤ slice_index ends j
  pub within : (i : ℕ) → slice_index ends i ≤ points
  pub last : slice_index ends (length ends - 1) ≡ points

-- at most as many points as the limit, each coordinate within its limit, and ends that fit the points
pub record IsOutline (o : Outline) : Type 0 where
  pub few : length o.points ≤ point_limit
  pub coordinates : All IsPoint o.points
  pub phantom : ArePhantom o.phantom
  pub ends : AreEnds (length o.points) o.ends
