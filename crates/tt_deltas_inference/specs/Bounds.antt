-- The sizes of the numbers: coordinates are int16, a tuple's own deltas are int16 times a scalar in 16.16 from 0 to 1.
use Rattle.std.specs.Prelude.{◌≡◌, ℕ, ℤ, pos, ◌+◌, ◌≤◌, ◌<◌, ◌^◌, ◌-ℤ◌, ◌<ℤ◌, unsigned_abs, List, [], ◌∷◌}
use Rattle.tt_deltas_inference.specs.Inference.{rate}
use Rattle.tt_deltas_inference.specs.declared.point.AxisPoint.{AxisPoint}

-- a point before the inference
pub record IsGiven (p : AxisPoint) : Type 0 where
  pub at : unsigned_abs p.at ≤ 2 ^ 15
  pub delta : unsigned_abs p.delta ≤ 2 ^ 31

-- a point after the inference
abbrev pub IsInferred : AxisPoint → Type 0
IsInferred p = unsigned_abs p.delta ≤ 2 ^ 34

-- the last points of contours, perhaps empty ones: the first contour begins at a number, each next one after the one
-- before it, and all are within so many points
abbrev pub AreContourEnds : ℕ → List ℕ → ℕ → Type 0
AreContourEnds from [] points = from ≤ points
AreContourEnds from (end ∷ ends) points = (from ≤ end + 1) × AreContourEnds (end + 1) ends points

-- two points in the order of their coordinates, and the rate of their ways less one
pub record AreInOrder (lo hi : AxisPoint) (excess : ℤ) : Type 0 where
  pub low : IsGiven lo
  pub high : IsGiven hi
  pub growth : lo.at <ℤ hi.at → excess ≡ rate lo hi -ℤ pos 65536
  pub few : unsigned_abs excess < 2 ^ 35
