-- Apple TrueType Reference Manual, "Instructing TrueType Glyphs" (zones, phantom points): the points that a glyph's
-- program works on, and the outline made of them.
use Rattle.std.specs.Prelude.{◌≡◌, ℕ, Bool, ◌&&◌, true, false, if◌then◌else◌, ℤ, pos, negsuc, List, [], ◌∷◌, ◌++◌, length, map, take, drop, Option, Some, None, Result, Ok, Err, refl}
use Rattle.tt_core.specs.Faults.{Fault}
use Rattle.tt_core.specs.Outcomes.{◌>>=◌}
use Rattle.tt_exec.specs.step.MachineState.{Code}
use Rattle.tt_glyf.specs.Bytes.{glyf_tag}
use Rattle.tt_state.specs.GraphicsState.{default_scan}
use Rattle.tt_state.specs.declared.graphics_state.ScanControl.{ScanControl}
use Rattle.tt_state.specs.declared.point.Point.{Point}
use Rattle.tt_fit_outline.specs.declared.grid.Grid.{Grid}
use Rattle.tt_fit_outline.specs.declared.grid.Grid.TheVariants as rounding
use Rattle.tt_fit_outline.specs.Grid.{rounded_to}
use Rattle.tt_fit_outline.specs.Outline.{PhantomPoints, phantom_of, Outline}
use Rattle.tt_fit_outline.specs.Scaling.{is_coordinate, coordinate_fault}
use Rattle.tt_fit_outline.specs.Units.{Units, in_units, phantom_places, places_of, with_units}

-- A glyph's program, its offset in glyf, and the offset of the glyph's first byte. Then the grid of its phantom points,
-- and the unit of its originals
pub record GlyphProgram : Type 0 where
  pub code : List ℕ
  pub code_at : ℕ
  pub glyph_at : ℕ
  pub grid : Grid
  pub units : Option Units

abbrev pub program_in_glyf : GlyphProgram → Code
program_in_glyf p = record { table = glyf_tag; base = p.code_at; bytes = p.code }

-- the ends of the advance rounded to the grid along x, the ascent and the descent along y
abbrev pub on_grid : Grid → PhantomPoints → PhantomPoints
on_grid by p = record {
  left = (rounded_to by p.left.0, p.left.1);
  right = (rounded_to by p.right.0, p.right.1);
  ascent = (p.ascent.0, rounded_to by p.ascent.1);
  descent = (p.descent.0, rounded_to by p.descent.1);
}

-- the rounded coordinates are within the limit
abbrev pub are_on_grid : PhantomPoints → Bool
are_on_grid p =
    is_coordinate p.left.0 && is_coordinate p.right.0 && is_coordinate p.ascent.1 && is_coordinate p.descent.1

-- the phantom points on the grid, of a glyph that begins at this offset in glyf
unfoldable pub on_grid_at : Grid → ℕ → PhantomPoints → Result PhantomPoints Fault
on_grid_at by at p = if are_on_grid (on_grid by p) then Ok (on_grid by p) else Err (coordinate_fault at)

-- The outline of a simple glyph without a program that begins at this offset in glyf. Where halves go up, its phantom
-- points are on the grid too (profile)
abbrev pub ends_on_grid : Grid → ℕ → Outline → Result Outline Fault
ends_on_grid rounding.Away at o = Ok o
ends_on_grid rounding.Up at o = on_grid_at rounding.Up at o.phantom >>= λ p. Ok (record o { phantom = p })
ends_on_grid rounding.Unrounded at o = Ok o

-- a point not yet touched: its original place, and its current place
abbrev pub untouched : ℤ × ℤ → ℤ × ℤ → Bool → Point
untouched org now on = record {
  units_x = pos 0;
  units_y = pos 0;
  org_x = org.0;
  org_y = org.1;
  x = now.0;
  y = now.1;
  touched_x = false;
  touched_y = false;
  on = on;
}

abbrev pub outline_point : ℤ × ℤ × Bool → Point
outline_point p = untouched (p.0, p.1) (p.0, p.1) p.2

-- the phantom points: in font units, their original places, and their current places
abbrev pub phantom_zone : PhantomPoints → PhantomPoints → PhantomPoints → List Point
phantom_zone units was now =
    with_units units.left (untouched was.left now.left true)
    ∷ with_units units.right (untouched was.right now.right true)
    ∷ with_units units.ascent (untouched was.ascent now.ascent true)
    ∷ with_units units.descent (untouched was.descent now.descent true) ∷ []

-- the points of the outline, and the phantom points after them
abbrev pub glyph_zone : Option Units → Outline → PhantomPoints → List Point
glyph_zone units o grid = in_units (places_of units) (map outline_point o.points)
    ++ phantom_zone (phantom_places units) o.phantom grid

-- each contour begins at the end of the one before it, the first at this number
abbrev pub contours_from : ℕ → List ℕ → List (ℕ × ℕ)
contours_from first [] = []
contours_from first (end ∷ ends) = (first, end) ∷ contours_from end ends

abbrev pub place_of : Point → ℤ × ℤ
place_of p = (p.x, p.y)

abbrev pub seen : Point → ℤ × ℤ × Bool
seen p = (p.x, p.y, p.on)

-- the outline with the points of the glyph zone, phantom points last, and this scan control
abbrev pub left_outline : Outline → List Point → ScanControl → Outline
left_outline o zone scan = record {
  points = map seen (take (length o.points) zone);
  ends = o.ends;
  phantom = phantom_of (map place_of (drop (length o.points) zone));
  scan = Some scan;
}

-- worked values: two points of one contour, whose advance ends at 100
abbrev its_phantom : PhantomPoints
its_phantom =
    record { left = (pos 0, pos 0); right = (pos 100, pos 0); ascent = (pos 0, pos 70); descent = (pos 0, negsuc 32) }

abbrev its_shape : Outline
its_shape =
    record { points = (pos 5, pos 6, true) ∷ (pos 7, pos 8, false) ∷ []; ends = 2 ∷ []; phantom = its_phantom; scan = None }

the_advance_is_whole : on_grid_at rounding.Away 0 its_phantom ≡ Ok
    (record { left = (pos 0, pos 0); right = (pos 128, pos 0); ascent = (pos 0, pos 64); descent = (pos 0, negsuc 63) })
unfolding on_grid_at
the_advance_is_whole = refl

-- an advance from -32 to 96: halves go up, or away from zero
abbrev from_a_half : PhantomPoints
from_a_half =
    record { left = (negsuc 31, pos 0); right = (pos 96, pos 0); ascent = (pos 0, pos 70); descent = (pos 0, negsuc 31) }

two_halves_up : on_grid_at rounding.Up 0 from_a_half ≡ Ok
    (record { left = (pos 0, pos 0); right = (pos 128, pos 0); ascent = (pos 0, pos 64); descent = (pos 0, pos 0) })
unfolding on_grid_at
two_halves_up = refl

two_halves_away : on_grid_at rounding.Away 0 from_a_half ≡ Ok
    (record { left = (negsuc 63, pos 0); right = (pos 128, pos 0); ascent = (pos 0, pos 64); descent = (pos 0, negsuc 63) })
unfolding on_grid_at
two_halves_away = refl

-- the greatest coordinate is 2097151, a half below the next pixel
past_the_limit : on_grid_at rounding.Up 22 (record its_phantom { right = (pos 2097120, pos 0) }) ≡ Err (coordinate_fault 22)
unfolding on_grid_at
past_the_limit = refl

-- without a program, the left end goes from -32 to 0
without_a_program : ends_on_grid rounding.Up 0 (record its_shape { phantom = from_a_half }) ≡ Ok
    (record its_shape { phantom = record { left = (pos 0, pos 0); right = (pos 128, pos 0); ascent = (pos 0, pos 64); descent = (pos 0, pos 0) } })
unfolding on_grid_at
without_a_program = refl

with_hinting_off : ends_on_grid rounding.Unrounded 0 (record its_shape { phantom = from_a_half })
    ≡ Ok (record its_shape { phantom = from_a_half })
with_hinting_off = refl

untouched_points_stay : left_outline its_shape (glyph_zone None its_shape its_phantom) default_scan
    ≡ record its_shape { scan = Some default_scan }
untouched_points_stay = refl

an_empty_contour : contours_from 0 (3 ∷ 3 ∷ 7 ∷ []) ≡ (0, 3) ∷ (3, 3) ∷ (3, 7) ∷ []
an_empty_contour = refl
