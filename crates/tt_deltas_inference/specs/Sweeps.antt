-- The points of a contour, one after another, with the named point before each.
use Rattle.std.specs.Prelude.{◌≡◌, ℕ, ◌<◌, ◌≤◌, if◌then◌else◌, List, [], ◌∷◌, ◌++◌, length, take, drop}
use Rattle.std.specs.Option.{unwrap_or}
use Rattle.tt_deltas_inference.specs.Bounds.{IsGiven}
use Rattle.tt_deltas_inference.specs.Inference.{inferred, first_named}
use Rattle.tt_deltas_inference.specs.declared.point.AxisPoint.{AxisPoint}

-- the points after a named one; after them comes the first named point of the contour
abbrev pub swept : AxisPoint → AxisPoint → List AxisPoint → List AxisPoint
swept before first [] = []
swept before first (p ∷ ps) =
    if p.named then p ∷ swept p first ps
    else inferred before (unwrap_or (first_named ps) first) p ∷ swept before first ps

-- as many points as before, whose first len are swept and whose others are unchanged; last is the last named one up to
-- there
pub record IsRun (before first : AxisPoint) (old new : List AxisPoint) (len : ℕ) (last : AxisPoint) : Type 0 where
  pub more : 0 < len
  pub bound : len ≤ length old
  pub many : length new ≡ length old
  pub so_far : take len new ++ swept last first (drop len old) ≡ swept before first old
  pub rest : drop len new ≡ drop len old
  pub given : IsGiven last
