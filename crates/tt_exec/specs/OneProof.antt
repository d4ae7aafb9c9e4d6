-- No part of the standard: a fact of zones has at most one proof, as the facts that a struct carries must have.
use Rattle.std.specs.Prelude.{ℕ, List, [], ◌∷◌}
use Rattle.std.specs.Coded.{le_prop}
use Rattle.std.proofs.Props.{props}
use Rattle.tt_exec_step.specs.zones.Zones.{ZoneLists, AreContours, IsZones}

pub contours-prop : (from : ℕ) (contours : List (ℕ × ℕ)) (points : ℕ) → IsProp (AreContours from contours points)
contours-prop from [] points = le_prop
contours-prop from (contour ∷ contours) points = hlevel (props, contours-prop contour.1 contours points)

pub zones-prop : (z : ZoneLists) → IsProp (IsZones z)
zones-prop z = hlevel (props, contours-prop)
