-- The walk along a closed contour, and its stubs. OpenType, "TrueType Fundamentals", rule 4: a dropout is filled only
-- where "the two contours continue to intersect other scan lines in both directions". How far a tip has to reach is
-- profile. Heights and places are in 1/8192 pixel.
use Rattle.std.specs.Prelude.{ℕ, ◌+◌, Bool, true, false, not, ◌&&◌, ◌||◌, nat_lt, ℤ, pos, ◌-ℤ◌, get_or, unsigned_abs, max, List, [], ◌∷◌, ◌++◌, map, length, take, drop, reverse, Option, Some, None}
use Rattle.std.specs.List.{flat_map, list_any, range_with_len}
use Rattle.std.specs.Int.{abs_diff}
use Rattle.std.specs.Ordering.{int_eq}
use Rattle.tt_scan_edges.specs.declared.edge.Edge.{Edge}
use Rattle.tt_scan_gaps.specs.Crossings.{agree, centre, crossings, touches}
use Rattle.tt_scan_gaps.specs.Gaps.{is_free}
use Rattle.tt_scan_gaps.specs.declared.mark.Crossing.{Crossing}
use Rattle.tt_scan_gaps.specs.declared.mark.Mark.{Mark}
use Rattle.tt_scan_gaps.specs.declared.mark.Step.{Step}
use Rattle.tt_scan_gaps.specs.declared.mark.Step.TheVariants as step
use Rattle.tt_scan_gaps.specs.declared.mark.Leg.{Leg}

-- the steps of an edge, and of a contour
abbrev pub steps_of : Edge → List Step
steps_of e = map step.Cross (crossings e) ++ step.End e.by ∷ []

abbrev pub walk : List Edge → List Step
walk es = flat_map steps_of es

-- all other steps of a walk in their order, from the one after step k round to the one before it
abbrev pub others : List Step → ℕ → List Step
others w k = drop (k + 1) w ++ take k w

-- the way to the next crossing: that crossing, and the greatest distance from a line of the edge ends on the way
abbrev pub way : ℤ → ℕ → List Step → Option Leg
way y far [] = None
way y far (step.End h ∷ ss) = way y (max far (unsigned_abs (h -ℤ y))) ss
way y far (step.Cross c ∷ ss) = Some (record { next = c; far = far })

-- the contour enters a gap and leaves by it, without a crossing between
abbrev pub is_tip : Crossing → Crossing → Bool
is_tip c d = int_eq c.line d.line && int_eq c.gap d.gap && not (agree c.up d.up)

-- a tip is a stub where it ends within half a pixel of the line. It is also a stub where it ends short of the next line
-- and is less than half a pixel wide
abbrev pub is_stub : Crossing → Option Leg → Bool
is_stub c None = false
is_stub c (Some l) = is_tip c l.next
    && (nat_lt l.far 4096 || (nat_lt l.far 8192 && nat_lt (abs_diff c.place l.next.place) 4096))

-- a crossing, which is step k, belongs to a stub: with the crossing after it, or the one before
abbrev pub is_of_stub : List Step → ℕ → Crossing → Bool
is_of_stub w k c = is_stub c (way (centre c.line) 0 (others w k))
    || is_stub c (way (centre c.line) 0 (reverse (others w k)))

abbrev pub mark_of : Bool → Crossing → Mark
mark_of asks c = record { at = c; asks = asks }

-- the marks of step k of a walk, where stubs are not drawn
abbrev pub marks_of_step : List Step → ℕ → Step → List Mark
marks_of_step w k (step.End h) = []
marks_of_step w k (step.Cross c) = mark_of (not (is_of_stub w k c)) c ∷ []

abbrev pub step_marks : List Step → ℕ → List Mark
step_marks w k = marks_of_step w k (get_or w k (step.End (pos 0)))

abbrev pub walk_marks : List Step → List Mark
walk_marks w = flat_map (step_marks w) (range_with_len 0 (length w))

-- the marks of an edge where stubs are drawn: an end that touches a line counts as a crossing
abbrev pub edge_marks : Edge → List Mark
edge_marks e = map (mark_of true) (crossings e ++ touches e)

-- the marks of an outline, contour by contour
abbrev pub contour_marks : Bool → List Edge → List Mark
contour_marks true es = flat_map edge_marks es
contour_marks false es = walk_marks (walk es)

abbrev pub marks : Bool → List (List Edge) → List Mark
marks stubs contours = flat_map (contour_marks stubs) contours

-- some crossing lies in a free gap
abbrev pub some_in_free_gap : (ℤ → ℤ → Bool) → List Crossing → Bool
some_in_free_gap black cs = list_any (λ (c : Crossing). is_free black c.gap c.line) cs

-- an edge makes a mark in a free gap
abbrev pub is_in_free_gap : Bool → (ℤ → ℤ → Bool) → Edge → Bool
is_in_free_gap stubs black e =
    some_in_free_gap black (crossings e) || (stubs && some_in_free_gap black (touches e))

-- worked values: Examples.antt of tt_scan_dropouts
