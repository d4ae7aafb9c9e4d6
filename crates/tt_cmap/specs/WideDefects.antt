-- OpenType, "cmap": the defects of a cmap that the wide reading refuses, whatever the order of the tests.
use Rattle.std.specs.Prelude.{◌≡◌, ℕ, ◌+◌, ◌<◌, ◌≤◌, List, length, Option, Some, None, ◌⊎◌}
use Rattle.tt_core.specs.Faults.{Fault}
use Rattle.tt_core.specs.declared.fault.Why.TheVariants as why
use Rattle.tt_cmap.specs.declared.records.wide.WideChoice.{WideChoice}
use Rattle.tt_cmap.specs.declared.wide_subtable.Readable.{Readable}
use Rattle.tt_cmap.specs.declared.wide_subtable.Readable.TheVariants as readable
use Rattle.tt_cmap.specs.Defects.{IsBadRecords, IsBadShape, IsBadFormat12}
use Rattle.tt_cmap.specs.Lists.{GlyphList, list_header, glyph_place, character_count}
use Rattle.tt_cmap.specs.Subtables.{cmap_fault, record_count, record_place}
use Rattle.tt_cmap.specs.WideChoice.{wide_choice}

-- a defect of a list of glyphs: it does not fit
abbrev pub IsBadList : GlyphList → Fault → Type 0
IsBadList l fault =
    ((length l.table < l.at + list_header l.format) ⊎ (length l.table < glyph_place l (character_count l)))
    × (fault ≡ cmap_fault l.at why.CmapShape)

-- a defect of the subtable of a format at an offset
abbrev pub IsBadWideShape : Readable → List ℕ → ℕ → Fault → Type 0
IsBadWideShape (readable.Listed format) table at fault = IsBadList (record { format = format; table = table; at = at }) fault
IsBadWideShape (readable.Ranged format) table at fault = IsBadShape format table at fault
IsBadWideShape readable.Shared table at fault = IsBadFormat12 (record { table = table; at = at }) fault

-- no subtable is chosen, or the chosen one does not fit
abbrev pub IsBadWideChoice : List ℕ → Option WideChoice → Fault → Type 0
IsBadWideChoice table None fault = fault ≡ cmap_fault 0 why.NoCmap
IsBadWideChoice table (Some choice) fault = IsBadWideShape choice.format table choice.at fault

abbrev pub IsBadWideCmap : List ℕ → Fault → Type 0
IsBadWideCmap table fault =
    IsBadRecords table fault
    ⊎ ((record_place (record_count table) ≤ length table) × IsBadWideChoice table (wide_choice table) fault)
