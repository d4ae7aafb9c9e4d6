-- OpenType, "cmap": the character map of the wide reading, and the glyph of a unit of text. A subtable is not tested
-- beyond its shape (profile).
use Rattle.std.specs.Prelude.{ℕ, ◌+◌, ◌&&◌, ◌==◌, nat_lt, if◌then◌else◌, List, Option, Some, None, Result, Ok, Err}
use Rattle.tt_core.specs.Faults.{Fault}
use Rattle.tt_core.specs.declared.fault.Why.TheVariants as why
use Rattle.tt_core.specs.Outcomes.{◌>>=◌}
use Rattle.tt_cmap.specs.declared.records.wide.CodeWay.{CodeWay}
use Rattle.tt_cmap.specs.declared.records.wide.CodeWay.TheVariants as way
use Rattle.tt_cmap.specs.declared.records.wide.WideChoice.{WideChoice}
use Rattle.tt_cmap.specs.Roman.{roman_byte}
use Rattle.tt_cmap.specs.Subtables.{cmap_fault, records_of}
use Rattle.tt_cmap.specs.declared.units.TextUnit.{TextUnit}
use Rattle.tt_cmap.specs.Variations.{variation}
use Rattle.tt_cmap.specs.WideChoice.{wide_choice, variations_of}
use Rattle.tt_cmap.specs.WideSubtables.{WideSubtable, wide_subtable_at, glyph_of_code}

-- the bytes of cmap, the chosen subtable and its codes, the offset of the variation sequences, and the number of glyphs
pub record WideCmap : Type 0 where
  pub table : List ℕ
  pub subtable : WideSubtable
  pub way : CodeWay
  pub variations : Option ℕ
  pub glyphs : ℕ

-- the map by a subtable, if the subtable fits
abbrev pub by_wide_choice : List ℕ → ℕ → Option WideChoice → Result WideCmap Fault
by_wide_choice table glyphs None = Err (cmap_fault 0 why.NoCmap)
by_wide_choice table glyphs (Some choice) =
    wide_subtable_at choice.format table choice.at >>= λ subtable. Ok (record {
      table = table;
      subtable = subtable;
      way = choice.way;
      variations = variations_of table;
      glyphs = glyphs;
    })

-- the map by the chosen subtable, or cmap's first fault
unfoldable pub wide_cmap_of : List ℕ → ℕ → Result WideCmap Fault
wide_cmap_of table glyphs = records_of table >>= λ count. by_wide_choice table glyphs (wide_choice table)

-- a symbol: without a glyph, a character below 256 has the glyph of F000 and more
abbrev pub symbol_glyph : WideSubtable → ℕ → ℕ → ℕ
symbol_glyph s glyphs c =
    if (glyph_of_code s glyphs c == 0) && nat_lt c 256 then glyph_of_code s glyphs (0xF000 + c) else glyph_of_code s glyphs c

abbrev pub byte_glyph : WideSubtable → ℕ → Option ℕ → ℕ
byte_glyph s glyphs None = 0
byte_glyph s glyphs (Some b) = glyph_of_code s glyphs b

abbrev pub glyph_by_way : CodeWay → WideSubtable → ℕ → ℕ → ℕ
glyph_by_way way.Plain s glyphs c = glyph_of_code s glyphs c
glyph_by_way way.Symbol s glyphs c = symbol_glyph s glyphs c
glyph_by_way way.Roman s glyphs c = byte_glyph s glyphs (roman_byte c)

-- the glyph of a character
abbrev pub wide_glyph_of : WideCmap → ℕ → ℕ
wide_glyph_of m c = glyph_by_way m.way m.subtable m.glyphs c

-- the glyph of a character with a selector by the variation sequences, or 0
abbrev pub variation_in : Option ℕ → List ℕ → ℕ → ℕ → ℕ → ℕ
variation_in None table glyphs c v = 0
variation_in (Some at) table glyphs c v = variation table at glyphs c v

-- the glyph of a character with a selector: without one of its own, the character's
abbrev pub wide_glyph_with : WideCmap → ℕ → ℕ → ℕ
wide_glyph_with m c v =
    if variation_in m.variations m.table m.glyphs c v == 0 then wide_glyph_of m c
    else variation_in m.variations m.table m.glyphs c v

abbrev pub wide_glyph_by : WideCmap → ℕ → Option ℕ → ℕ
wide_glyph_by m c None = wide_glyph_of m c
wide_glyph_by m c (Some v) = wide_glyph_with m c v

-- the glyph of a unit
abbrev pub wide_glyph_of_unit : WideCmap → TextUnit → ℕ
wide_glyph_of_unit m u = wide_glyph_by m u.character u.selector
