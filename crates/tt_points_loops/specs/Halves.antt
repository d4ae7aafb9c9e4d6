-- Worked values at exact halves, for instructions that measure along a line that rises by 2 in 1. A point 128 pixels to
-- the right of another one is 3663 1/2 away along that line, in 26.6 pixels, and one to the left -3663 1/2. Halves go
-- up, to 3664 and -3663.
use Rattle.std.specs.Prelude.{◌≡◌, ℤ, pos, negsuc, Bool, true, false, List, [], ◌∷◌, map, Ok, refl}
use Rattle.tt_core.specs.declared.halves.Halves.TheVariants as halves
use Rattle.tt_state.specs.declared.graphics_state.GraphicsState.{GraphicsState}
use Rattle.tt_state.specs.declared.point.Point.{Point}
use Rattle.tt_state.specs.declared.tolerance.Tolerance.TheVariants as tolerance
use Rattle.tt_state.specs.declared.vector.Vector.TheVariants as vector
use Rattle.tt_state.specs.Vectors.{project}
use Rattle.tt_points_zones.specs.Motions.{direction}
use Rattle.tt_points_zones.specs.Points.{origin}
use Rattle.tt_points_zones.specs.Zones.{ZoneLists, in_pixels}
use Rattle.tt_points_loops.specs.declared.shifting.ReferencePoint.TheVariants as by
use Rattle.tt_points_loops.specs.Moving.{alignrp, ip}
use Rattle.tt_points_loops.specs.Shifting.{shc, shp, shz}
use Rattle.tt_points_loops.specs.Slanted.{slanted, still}

-- points move along x
abbrev state : GraphicsState
state = slanted vector.X

-- a point by its original and its current place along x, and whether it is touched
abbrev at : ℤ → ℤ → Bool → Point
at org x touched = record origin { org_x = org; x = x; touched_x = touched }

-- a contour
abbrev contour : List Point → ZoneLists
contour ps = record { twilight = []; glyph = ps; contours = (0, 2) ∷ []; originals = in_pixels halves.Up }

-- a point beside the reference point at the origin moves by -3664 and by 3663: past it both times
aligned_with_the_origin : map (λ x. alignrp tolerance.Strict (pos 1 ∷ []) (contour (origin ∷ at x x false ∷ [])) state)
    (pos 8192 ∷ negsuc 8191 ∷ [])
    ≡ Ok (contour (origin ∷ at (pos 8192) (negsuc 0) true ∷ []), state)
    ∷ Ok (contour (origin ∷ at (negsuc 8191) (negsuc 0) true ∷ []), state)
    ∷ []
unfolding direction project
aligned_with_the_origin = refl

-- between the origin and a point that has not moved: to an original distance, and from a current one
abbrev between : GraphicsState
between = record state { rp1 = pos 0; rp2 = pos 1 }

abbrev three : Point → ZoneLists
three p = contour (origin ∷ still (pos 100) (pos 200) ∷ p ∷ [])

to_its_original_distance : map (λ x. ip tolerance.Strict (pos 2 ∷ []) (three (at x (pos 0) false)) between)
    (pos 8192 ∷ negsuc 8191 ∷ [])
    ≡ Ok (three (at (pos 8192) (pos 8193) true), between)
    ∷ Ok (three (at (negsuc 8191) (negsuc 8190) true), between)
    ∷ []
unfolding direction project
to_its_original_distance = refl

from_its_current_distance : map (λ x. ip tolerance.Strict (pos 2 ∷ []) (three (at (pos 0) x false)) between)
    (pos 8192 ∷ negsuc 8191 ∷ [])
    ≡ Ok (three (at (pos 0) (negsuc 0) true), between) ∷ Ok (three (at (pos 0) (negsuc 0) true), between) ∷ []
unfolding direction project
from_its_current_distance = refl

-- a reference point moved by 128 pixels from the origin, to the right and to the left
abbrev by_the_second : GraphicsState
by_the_second = record state { rp2 = pos 1 }

abbrev beside_one : Point → ℤ → ZoneLists
beside_one p x = contour (p ∷ at (pos 0) x false ∷ [])

a_point_follows : map (λ x. shp tolerance.Strict by.Rp2 (pos 0 ∷ []) (beside_one origin x) by_the_second)
    (pos 8192 ∷ negsuc 8191 ∷ [])
    ≡ Ok (beside_one (at (pos 0) (pos 8193) true) (pos 8192), by_the_second)
    ∷ Ok (beside_one (at (pos 0) (negsuc 8190) true) (negsuc 8191), by_the_second)
    ∷ []
unfolding direction project
a_point_follows = refl

a_contour_follows : map (λ x. shc by.Rp2 (pos 0) (beside_one origin x) by_the_second) (pos 8192 ∷ negsuc 8191 ∷ [])
    ≡ Ok (beside_one (at (pos 0) (pos 8193) true) (pos 8192))
    ∷ Ok (beside_one (at (pos 0) (negsuc 8190) true) (negsuc 8191))
    ∷ []
unfolding direction project
a_contour_follows = refl

a_zone_follows : map (λ x. shz by.Rp2 (pos 1) (beside_one origin x) by_the_second) (pos 8192 ∷ negsuc 8191 ∷ [])
    ≡ Ok (beside_one (at (pos 0) (pos 8193) false) (pos 8192))
    ∷ Ok (beside_one (at (pos 0) (negsuc 8190) false) (negsuc 8191))
    ∷ []
unfolding shz direction project
a_zone_follows = refl
