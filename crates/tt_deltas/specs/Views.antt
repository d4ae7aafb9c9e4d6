-- The definitions' views of the code's values.
use Rattle.std.specs.Prelude.{Option, Some, None}
use Rattle.tt_deltas.specs.declared.gvar.GlyphData as declared
use Rattle.tt_deltas.specs.Gvar.{GlyphData}

abbrev pub data_view : Option declared.GlyphData → Option GlyphData
data_view None = None
data_view (Some d) = Some (record { start = d.start; bytes = d.bytes.now })
