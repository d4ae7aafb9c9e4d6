-- No part of the standard: which edges are tested where all contours are closed.
use Rattle.std.specs.Prelude.{◌≡◌, refl, Bool, true, false, ◌&&◌, ◌||◌, ℤ, pos}
use Rattle.tt_scan_edges.specs.declared.edge.Edge.{Edge}
use Rattle.tt_scan_gaps.specs.Crossings.{crossings, is_rising, touches}
use Rattle.tt_scan_gaps.specs.Walk.{some_in_free_gap}

-- an edge rises through a free gap
abbrev pub rises_in_free_gap : (ℤ → ℤ → Bool) → Edge → Bool
rises_in_free_gap black e = is_rising e && some_in_free_gap black (crossings e)

-- or, where stubs are drawn, touches a line in one
abbrev pub is_tested : Bool → (ℤ → ℤ → Bool) → Edge → Bool
is_tested stubs black e = rises_in_free_gap black e || (stubs && some_in_free_gap black (touches e))

-- worked values: an edge through the gap right of column 0 in row 0, upwards and downwards, where nothing is black
nothing : ℤ → ℤ → Bool
nothing c j = false

upwards : Edge
upwards = record { ax = pos 8192; ay = pos 0; bx = pos 8192; by = pos 8192 }

downwards : Edge
downwards = record { ax = pos 8192; ay = pos 8192; bx = pos 8192; by = pos 0 }

it_rises_through : rises_in_free_gap nothing upwards ≡ true
unfolding nothing upwards
it_rises_through = refl

it_ends_between_lines : is_tested true nothing downwards ≡ false
unfolding nothing downwards
it_ends_between_lines = refl

to_a_line : Edge
to_a_line = record { ax = pos 8192; ay = pos 4096; bx = pos 8192; by = pos 0 }

its_upper_end_is_on_one : is_tested true nothing to_a_line ≡ true
unfolding nothing to_a_line
its_upper_end_is_on_one = refl

where_stubs_are_not_drawn : is_tested false nothing to_a_line ≡ false
unfolding nothing to_a_line
where_stubs_are_not_drawn = refl

it_falls : rises_in_free_gap nothing downwards ≡ false
unfolding nothing downwards
it_falls = refl
