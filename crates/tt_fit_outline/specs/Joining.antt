-- OpenType, "The 'glyf' table", "Composite Glyph Description": a transformed and moved component is joined with what is
-- assembled so far.
use Rattle.std.specs.Prelude.{◌≡◌, ℕ, ◌+◌, Bool, true, false, nat_lt, if◌then◌else◌, ℤ, pos, neg_ℤ, List, [], ◌∷◌, ◌++◌, length, map, Option, Some, None, Result, Ok, Err, refl}
use Rattle.tt_core.specs.Faults.{Fault}
use Rattle.tt_core.specs.declared.fault.Why.TheVariants as why
use Rattle.tt_core.specs.declared.halves.Halves.{Halves}
use Rattle.tt_core.specs.Limits.{point_limit}
use Rattle.tt_core.specs.Outcomes.{◌>>=◌, each}
use Rattle.tt_state.specs.declared.graphics_state.ScanControl.{ScanControl}
use Rattle.tt_glyf.specs.Composite.{one}
use Rattle.tt_glyf.specs.Format.{has, use_my_metrics}
use Rattle.tt_glyf.specs.declared.raw.Record.{Record}
use Rattle.tt_fit_outline.specs.declared.grid.Grid.{Grid}
use Rattle.tt_fit_outline.specs.declared.grid.Grid.TheVariants as rounding
use Rattle.tt_fit_outline.specs.Component.{placed_point, shift_of}
use Rattle.tt_fit_outline.specs.Outline.{PhantomPoints, Outline}
use Rattle.tt_fit_outline.specs.Scaling.{glyf_fault, settled}
use Rattle.tt_fit_outline.specs.Size.{FontSize, size_by}
use Rattle.tt_fit_outline.specs.declared.rules.Scaling.TheVariants as scaling

-- no more points than a glyph may have
unfoldable pub within_point_limit : ℕ → List (ℤ × ℤ × Bool) → Result (List (ℤ × ℤ × Bool)) Fault
within_point_limit at points = if nat_lt point_limit (length points) then Err
    (glyf_fault at why.PointLimit) else Ok points

-- the last of the records that use a component's metrics counts (profile)
abbrev pub phantom_with : Record → Outline → Outline → PhantomPoints
phantom_with r component o = if has r.flags use_my_metrics then component.phantom else o.phantom

-- the scan control of the last program: the component's, where one was run, else the earlier one
abbrev pub scan_after : Option ScanControl → Option ScanControl → Option ScanControl
scan_after (Some left) so_far = Some left
scan_after None so_far = so_far

-- the ends of contours, with this many points before them
abbrev pub ends_after : ℕ → List ℕ → List ℕ
ends_after points ends = map (λ e. points + e) ends

-- a component moved by a shift, added to what is assembled before it
unfoldable pub appended : Halves → Record → ℤ × ℤ → Outline → Outline → Result Outline Fault
appended h r by component o = do
  landed ← each (placed_point h r by) component.points
  points ← within_point_limit r.at (o.points ++ landed)
  Ok (record { points = points; ends = o.ends ++ ends_after (length o.points) component.ends; phantom = phantom_with r component o; scan = scan_after component.scan o.scan })

-- a component placed and added to what is assembled so far
unfoldable pub placed : Grid → FontSize → Record → Outline → Outline → Result Outline Fault
placed grid z r component o = shift_of grid z r component.points o.points >>= λ by.
    appended z.scale.halves r by component o

-- worked values: 256 units in an em, at 16 pixels
its_size : FontSize
its_size = size_by scaling.Exact 16 256

-- turned by a quarter: x' = -y and y' = x; its point 1 onto point 0
turned : ℕ → Record
turned flags = record
    { at = 32; flags = flags; glyph = 1; arg1 = pos 0; arg2 = pos 1; xx = pos 0; yx = one; xy = neg_ℤ one; yy = pos 0 }

two_points : List (ℤ × ℤ × Bool)
two_points = (pos 1, pos 2, true) ∷ (pos 100, pos 7, false) ∷ []

phantom_after : ℤ → PhantomPoints
phantom_after advance =
    record { left = (pos 0, pos 0); right = (advance, pos 0); ascent = (pos 0, pos 64); descent = (pos 0, pos 0) }

shape_of : List (ℤ × ℤ × Bool) → ℤ → Outline
shape_of points advance = record { points = points; ends = length points ∷ []; phantom = phantom_after advance; scan = None }

-- point 1 lands on point 0 of what is assembled so far
a_matched_component : placed rounding.Away its_size (turned 0x200) (shape_of two_points (pos 5))
    (shape_of ((pos 1000, pos 2000, true) ∷ []) (pos 9))
    ≡ Ok (record { points = (pos 1000, pos 2000, true) ∷ (pos 1005, pos 1901, true) ∷ (pos 1000, pos 2000, false) ∷ []; ends = 1 ∷ 3 ∷ []; phantom = phantom_after (pos 5); scan = None })
unfolding its_size turned two_points shape_of placed appended shift_of settled within_point_limit
a_matched_component = refl

-- turned by a half, 5/4 as large, and moved by 8 and -8 units, which are 32 and -32; halves go away from zero
larger : Record
larger = record
    { at = 32; flags = 0xa; glyph = 1; arg1 = pos 8; arg2 = neg_ℤ (pos 8); xx = neg_ℤ (pos 20480); yx = pos 0; xy = pos 0; yy = neg_ℤ (pos 20480) }

-- its points are -1.25 and -2.5, then -125 and -8.75 before the move
a_larger_component : placed rounding.Up (size_by scaling.Rounded 16 256) larger (shape_of two_points (pos 5))
    (shape_of two_points (pos 9))
    ≡ Ok (record { points = two_points ++ (pos 31, neg_ℤ (pos 35), true) ∷ (neg_ℤ (pos 93), neg_ℤ (pos 41), false) ∷ []; ends = 2 ∷ 4 ∷ []; phantom = phantom_after (pos 9); scan = None })
unfolding larger two_points shape_of placed appended shift_of settled within_point_limit
a_larger_component = refl

-- no point 0 is assembled yet
an_unmatched_component : placed rounding.Away its_size (turned 0) (shape_of two_points (pos 5)) (shape_of [] (pos 9))
    ≡ Err (glyf_fault 32 why.MatchPoint)
unfolding its_size turned two_points shape_of placed appended shift_of settled within_point_limit
an_unmatched_component = refl
