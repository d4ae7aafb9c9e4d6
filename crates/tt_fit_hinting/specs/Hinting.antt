-- Apple TrueType Reference Manual, "Instructing TrueType Glyphs": how a font's programs change an outline. A glyph's
-- program works on a copy of the state after the control value program. A glyph whose program is not run has its scaled
-- points unchanged (profile).
use Rattle.std.specs.Prelude.{◌≡◌, ⊤, Bool, true, false, ◌==◌, not, if◌then◌else◌, length, Result, Ok, refl}
use Rattle.tt_core.specs.Faults.{Fault}
use Rattle.tt_core.specs.Outcomes.{◌>>=◌}
use Rattle.tt_exec.specs.Machines.{fresh, parts_in, run_from}
use Rattle.tt_exec.specs.step.MachineState.{Code}
use Rattle.tt_exec.specs.Parts.{Parts}
use Rattle.tt_exec.specs.step.Runs.{run_outcome}
use Rattle.tt_fit_outline.specs.declared.grid.Grid.{Grid}
use Rattle.tt_fit_outline.specs.declared.grid.Grid.TheVariants as rounding
use Rattle.tt_fit_outline.specs.declared.grid.GridRule.{GridRule}
use Rattle.tt_fit_outline.specs.declared.grid.GridRule.TheVariants as rule
use Rattle.tt_fit_hinting.specs.GlyphZone.{GlyphProgram, program_in_glyf, on_grid_at, left_outline}
use Rattle.tt_fit_hinting.specs.Parts.{AreParts, parts_with}
use Rattle.tt_fit_outline.specs.Outline.{Outline}

-- What the font program and the control value program give to a glyph and its components. Hinting is off: nothing, and
-- no glyph program is run. Or hinting is on: the parts of a machine.
pub data Hinting : Type 0 where
  off : Hinting
  ready : Parts → Hinting

abbrev pub is_on : Hinting → Bool
is_on off = false
is_on (ready parts) = true

-- the grid of a glyph and its components
abbrev pub grid_by : GridRule → Hinting → Grid
grid_by rule.Always hinting = rounding.Away
grid_by rule.WhereHinted hinting = if is_on hinting then rounding.Up else rounding.Unrounded

-- a property of every result of the two programs
abbrev pub IsHinting : Hinting → Type 0
IsHinting off = ⊤
IsHinting (ready parts) = AreParts parts

-- a machine's parts after a program that begins with these parts, or its fault
unfoldable pub run_of : Code → Parts → Result Parts Fault
run_of program parts = run_outcome (run_from program (fresh parts)) >>= λ left. Ok (parts_in left)

-- a program of at least one byte is run
abbrev pub is_run : GlyphProgram → Bool
is_run p = not (length p.code == 0)

-- the phantom points are rounded to the grid, and the program runs; the points after it are the outline
unfoldable pub by_program : Parts → GlyphProgram → Outline → Result Outline Fault
by_program parts p o = on_grid_at p.grid p.glyph_at o.phantom >>= λ grid.
    run_of (program_in_glyf p) (parts_with parts p.units o grid) >>= λ left.
    Ok (left_outline o left.zones.glyph left.state.scan)

-- the outline after a glyph's program, from scaled points or joined components
abbrev pub hinted : Hinting → GlyphProgram → Outline → Result Outline Fault
hinted off p o = Ok o
hinted (ready parts) p o = if is_run p then by_program parts p o else Ok o

-- worked values: with hinting off
nothing_is_rounded : grid_by rule.WhereHinted off ≡ rounding.Unrounded
nothing_is_rounded = refl

halves_go_away : grid_by rule.Always off ≡ rounding.Away
halves_go_away = refl
