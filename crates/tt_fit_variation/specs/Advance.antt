-- OpenType, "gvar" (phantom points): the advance of a glyph at an instance of a font without HVAR (profile).
use Rattle.std.specs.Prelude.{ℕ, ℤ, false, List, [], length, Result, Ok}
use Rattle.tt_core.specs.Faults.{Fault}
use Rattle.tt_core.specs.Outcomes.{◌>>=◌}
use Rattle.tt_deltas.specs.Glyphs.{VariedPoints}
use Rattle.tt_deltas.specs.Gvar.{Gvar}
use Rattle.tt_glyf.specs.GlyphData.{glyph_data_of}
use Rattle.tt_glyf.specs.Loca.{Glyf}
use Rattle.tt_glyf.specs.Raw.{Raw, composite, empty, simple}
use Rattle.tt_fit_variation.specs.Ends.{advance_by_ends, end_deltas}
use Rattle.tt_fit_variation.specs.Glyph.{composite_deltas, simple_deltas}

-- the points or the components of a glyph
abbrev pub point_count : Raw → ℕ
point_count empty = 0
point_count (simple d) = length d.points
point_count (composite d) = length d.records

abbrev pub deltas_of : Gvar → List ℤ → ℕ → Raw → Result VariedPoints Fault
deltas_of gvar coordinates g empty = composite_deltas gvar coordinates g []
deltas_of gvar coordinates g (simple d) = simple_deltas gvar coordinates g d.points d.ends
deltas_of gvar coordinates g (composite d) = composite_deltas gvar coordinates g d.records

abbrev pub advance_of : Gvar → List ℤ → ℕ → ℕ → Raw → Result ℕ Fault
advance_of gvar coordinates g advance raw = deltas_of gvar coordinates g raw >>= λ v.
    Ok (advance_by_ends advance (end_deltas false (point_count raw) v))

-- by the advance that hmtx has; the faults of the glyph's own bytes come first
unfoldable pub advance_without_hvar : Gvar → List ℤ → Glyf → ℕ → ℕ → Result ℕ Fault
advance_without_hvar gvar coordinates tables g advance =
    glyph_data_of tables g >>= advance_of gvar coordinates g advance
