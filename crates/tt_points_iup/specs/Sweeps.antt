-- The points of a contour, one after another, with the touched point before each.
use Rattle.std.specs.Prelude.{◌≡◌, ℕ, ◌<◌, ◌≤◌, if◌then◌else◌, List, [], ◌∷◌, ◌++◌, length, take, drop}
use Rattle.std.specs.Option.{unwrap_or}
use Rattle.tt_state.specs.declared.point.Point.{Point}
use Rattle.tt_points_zones.specs.Points.{is_touched}
use Rattle.tt_points_iup.specs.Interpolation.{interpolated, first_touched}
use Rattle.tt_points_iup.specs.declared.place.Along.{Along}

-- the interpolated points after a touched one; after them comes the first touched point of the contour
abbrev pub swept : Along → Point → Point → List Point → List Point
swept along before first [] = []
swept along before first (p ∷ ps) =
    if is_touched along.axis p then p ∷ swept along p first ps
    else interpolated along before (unwrap_or (first_touched along.axis ps) first) p ∷ swept along before first ps

-- as many points as before, whose first len are swept and whose others are unchanged; last is the last touched one up
-- to there
pub record IsRun (along : Along) (before first : Point) (old new : List Point) (len : ℕ) (last : Point) : Type 0 where
  pub more : 0 < len
  pub bound : len ≤ length old
  pub many : length new ≡ length old
  pub so_far : take len new ++ swept along last first (drop len old) ≡ swept along before first old
  pub rest : drop len new ≡ drop len old
