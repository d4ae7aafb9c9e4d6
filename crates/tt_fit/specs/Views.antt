-- The definitions' views of the code's values.
use Rattle.std.specs.Prelude.{option_map}
use Rattle.tt_fit.specs.declared.begun.Begun as begun
use Rattle.tt_fit.specs.declared.begun.CompositeData as composite_data
use Rattle.tt_fit.specs.declared.begun.FineStart as fine_start
use Rattle.tt_fit.specs.declared.begun.OwnProgram as own_program
use Rattle.tt_fit.specs.declared.begun.OwnUnits as own_units
use Rattle.tt_fit.specs.declared.begun.SimpleData as simple_data
use Rattle.tt_fit.specs.declared.fallback.Fallback as fallback
use Rattle.tt_fit.specs.declared.fallback.Fallback.TheVariants as falling
use Rattle.tt_fit.specs.declared.preparation.Preparation as preparation
use Rattle.tt_fit.specs.Fallback.{Fallback, never, where_refused, everywhere}
use Rattle.tt_fit.specs.Fitting.{Begun, FineStart}
use Rattle.tt_fit.specs.Preparation.{Preparation}
use Rattle.tt_fit_hinting.specs.GlyphZone.{GlyphProgram}
use Rattle.tt_fit_hinting.specs.Views.{hinting_view}
use Rattle.tt_fit_outline.specs.Units.{Units}
use Rattle.tt_fit_outline.specs.Views.{outline_of, phantom_units_view}
use Rattle.tt_glyf.specs.Raw.{CompositeGlyph, SimpleGlyph}

abbrev pub fallback_view : fallback.Fallback → Fallback
fallback_view falling.Never = never
fallback_view falling.WhereRefused = where_refused
fallback_view (falling.Everywhere fault) = everywhere fault

abbrev pub preparation_view : preparation.Preparation → Preparation
preparation_view p = record { hinting = hinting_view p.hinting; fallback = fallback_view p.fallback; work = p.work.left }

abbrev pub simple_view : simple_data.SimpleData → SimpleGlyph
simple_view d = record { x_min = d.x_min; points = d.points.items; ends = d.ends.items; code = d.code.now; code_at = d.code_at }

abbrev pub composite_view : composite_data.CompositeData → CompositeGlyph
composite_view d = record { x_min = d.x_min; records = d.records.items; code = d.code.now; code_at = d.code_at }

abbrev pub own_units_view : own_units.OwnUnits → Units
own_units_view u = record { points = u.points.items; phantom = phantom_units_view u.phantom }

abbrev pub own_program_view : own_program.OwnProgram → GlyphProgram
own_program_view p = record
    { code = p.code.now; code_at = p.code_at; glyph_at = p.glyph_at; grid = p.grid; units = option_map own_units_view p.units }

abbrev pub begun_view : begun.Begun → Begun
begun_view b = record { outline = outline_of b.outline; records = b.records.items; program = own_program_view b.program }

abbrev pub fine_start_view : fine_start.FineStart → FineStart
fine_start_view b = record { units = phantom_units_view b.units; outline = outline_of b.outline }
