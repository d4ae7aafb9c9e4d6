-- A character map by either reading, and the glyph of a unit of text. OpenType, "cmap".
use Rattle.std.specs.Prelude.{ℕ, Bool, true, false, List, map, Result, Ok}
use Rattle.tt_core.specs.declared.collection.Reading.{Reading}
use Rattle.tt_core.specs.declared.collection.Reading.TheVariants as reading
use Rattle.tt_core.specs.Faults.{Fault}
use Rattle.tt_core.specs.Outcomes.{◌>>=◌}
use Rattle.tt_cmap.specs.declared.maps.Map as declared
use Rattle.tt_cmap.specs.declared.maps.Map.TheVariants as by
use Rattle.tt_cmap.specs.Defects.{IsBadCmap}
use Rattle.tt_cmap.specs.Lookup.{Cmap, cmap_of, glyph_of}
use Rattle.tt_cmap.specs.declared.units.TextUnit.{TextUnit}
use Rattle.tt_cmap.specs.Units.{plain_unit, units}
use Rattle.tt_cmap.specs.WideDefects.{IsBadWideCmap}
use Rattle.tt_cmap.specs.WideLookup.{WideCmap, wide_cmap_of, wide_glyph_of, wide_glyph_of_unit}

pub data CharacterMap : Type 0 where
  strict : Cmap → CharacterMap
  wide : WideCmap → CharacterMap

-- the map that a reading gives, or cmap's first fault
abbrev pub map_by : Reading → List ℕ → ℕ → Result CharacterMap Fault
map_by reading.Strict table glyphs = cmap_of table glyphs >>= λ m. Ok (strict m)
map_by (reading.Wide face) table glyphs = wide_cmap_of table glyphs >>= λ m. Ok (wide m)

-- the number of glyphs in the font
abbrev pub glyph_count : CharacterMap → ℕ
glyph_count (strict m) = m.glyphs
glyph_count (wide m) = m.glyphs

-- whether selectors belong to characters
abbrev pub has_pairs : CharacterMap → Bool
has_pairs (strict m) = false
has_pairs (wide m) = true

-- the units of a text
abbrev pub units_by : CharacterMap → List ℕ → List TextUnit
units_by m cs = units (has_pairs m) cs

-- the glyph of a character
abbrev pub glyph_by : CharacterMap → ℕ → ℕ
glyph_by (strict m) c = glyph_of m c
glyph_by (wide m) c = wide_glyph_of m c

-- the glyph of a unit; the strict reading has no unit with a selector
abbrev pub glyph_of_unit : CharacterMap → TextUnit → ℕ
glyph_of_unit (strict m) u = glyph_of m u.character
glyph_of_unit (wide m) u = wide_glyph_of_unit m u

-- a defect of cmap for a reading
abbrev pub IsBadMap : Reading → List ℕ → Fault → Type 0
IsBadMap reading.Strict table fault = IsBadCmap table fault
IsBadMap (reading.Wide face) table fault = IsBadWideCmap table fault

-- the definitions' view of the code's map
abbrev pub map_view : declared.Map → CharacterMap
map_view (by.Strict m) = strict m
map_view (by.Wide m) = wide m
