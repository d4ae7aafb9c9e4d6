-- No part of the standard: the count of touches read for a glyph. A contour is read up to its first touched point. If
-- there is one, the contour is read twice more: for the last touched point, and for the points between.
use Rattle.std.specs.Prelude.{◌≡◌, ℕ, pos, ◌+◌, ◌*◌, Bool, true, false, if◌then◌else◌, List, [], ◌∷◌, length, slice_range, Option, Some, None, refl}
use Rattle.tt_state.specs.declared.graphics_state.Axis.{Axis}
use Rattle.tt_state.specs.declared.graphics_state.Axis.TheVariants as axis
use Rattle.tt_state.specs.declared.point.Point.{Point}
use Rattle.tt_points_zones.specs.Points.{is_touched}
use Rattle.tt_points_iup.specs.Interpolation.{first_touched}

-- reads up to the first touched point, or of all points if none is touched
abbrev pub up_to_first : Axis → List Point → ℕ
up_to_first axis [] = 0
up_to_first axis (p ∷ ps) = if is_touched axis p then 1 else 1 + up_to_first axis ps

-- reads after the search for the first touched point, in a contour of n points
abbrev pub behind_first : Option Point → ℕ → ℕ
behind_first None n = 0
behind_first (Some p) n = 2 * n

abbrev pub of_contour : Axis → List Point → ℕ
of_contour axis ps = up_to_first axis ps + behind_first (first_touched axis ps) (length ps)

abbrev pub of_contours : Axis → List (ℕ × ℕ) → List Point → ℕ
of_contours axis [] ps = 0
of_contours axis (c ∷ cs) ps = of_contour axis (slice_range ps c.0 c.1) + of_contours axis cs ps

-- worked values: three points, the second touched; three untouched points
abbrev a_point : Bool → Point
a_point touched =
    record { units_x = pos 0; units_y = pos 0; org_x = pos 0; org_y = pos 0; x = pos 0; y = pos 0; touched_x = touched; touched_y = false; on = true }

second_touched : of_contour axis.X (a_point false ∷ a_point true ∷ a_point false ∷ []) ≡ 2 + 2 * 3
second_touched = refl

none_touched : of_contour axis.X (a_point false ∷ a_point false ∷ a_point false ∷ []) ≡ 3
none_touched = refl

-- a second contour of one touched point: five reads for the first, three for the second
two_contours : of_contours axis.X ((0, 2) ∷ (2, 3) ∷ []) (a_point true ∷ a_point false ∷ a_point true ∷ []) ≡ 5 + 3
two_contours = refl
