-- The definitions' views of the code's values.
use Rattle.std.specs.Prelude.{option_map}
use Rattle.tt_exec.specs.Parts.{parts_of}
use Rattle.tt_fit_outline.specs.Views.{units_view}
use Rattle.tt_fit_hinting.specs.declared.hinting.Hinting as hinting
use Rattle.tt_fit_hinting.specs.declared.hinting.Hinting.TheVariants as state
use Rattle.tt_fit_hinting.specs.declared.glyph_program.GlyphProgram as program
use Rattle.tt_fit_hinting.specs.GlyphZone.{GlyphProgram}
use Rattle.tt_fit_hinting.specs.Hinting.{Hinting, off, ready}

abbrev pub program_view : program.GlyphProgram → GlyphProgram
program_view p =
    record { code = p.code.now; code_at = p.code_at; glyph_at = p.glyph_at; grid = p.grid; units = option_map units_view p.units }

abbrev pub hinting_view : hinting.Hinting → Hinting
hinting_view state.Off = off
hinting_view (state.Ready parts) = ready (parts_of parts)
