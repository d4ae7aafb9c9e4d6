-- Not from the standard: the work of variations, counted from headers (profile).
use Rattle.std.specs.Prelude.{ℕ, ◌+◌, ◌*◌, if◌then◌else◌, List, Option, Some, None, Result, Ok, Err}
use Rattle.tt_core.specs.Faults.{Fault}
use Rattle.tt_tuples.specs.declared.source.TupleTable.TheVariants as table
use Rattle.tt_tuples.specs.Headers.{tuple_count}
use Rattle.tt_deltas.specs.ControlValues.{is_cvar}
use Rattle.tt_deltas.specs.Gvar.{GlyphData, Gvar, glyph_data_of}

-- each tuple costs the axes, and the values that it may move
abbrev pub tuples_work : ℕ → ℕ → ℕ → ℕ
tuples_work tuples axes size = tuples * (axes + size)

abbrev pub data_work : ℕ → ℕ → Result (Option GlyphData) Fault → ℕ
data_work axes size (Ok (Some d)) = tuples_work (tuple_count table.Gvar d.bytes) axes (4 + size)
data_work axes size (Ok None) = 0
data_work axes size (Err f) = 0

-- the work of glyph n, which declares so many points and contours or components; its phantom points count too
abbrev pub glyph_work : Gvar → ℕ → ℕ → ℕ
glyph_work g n size = data_work g.axes size (glyph_data_of g n)

-- the work of cvar for so many control values
abbrev pub control_value_work : List ℕ → ℕ → ℕ → ℕ
control_value_work cvar axes values =
    if is_cvar cvar then tuples_work (tuple_count table.Cvar cvar) axes values else 0
