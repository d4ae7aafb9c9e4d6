-- OpenType, "cmap: Character to Glyph Index Mapping Table": the defects of a refused cmap, whatever the order of the
-- tests.
use Rattle.std.specs.Prelude.{◌≡◌, ℕ, ◌+◌, ◌%◌, ◌<◌, ◌≤◌, true, List, length, Option, Some, None, ◌⊎◌}
use Rattle.tt_core.specs.Faults.{Fault}
use Rattle.tt_core.specs.declared.fault.Why.TheVariants as why
use Rattle.tt_cmap.specs.declared.records.Format.{Format}
use Rattle.tt_cmap.specs.declared.records.Format.TheVariants as format
use Rattle.tt_cmap.specs.declared.records.Choice.{Choice}
use Rattle.tt_cmap.specs.Format4.{Format4, seg_count_x2, lists_end}
use Rattle.tt_cmap.specs.Format12.{Format12, groups_end}
use Rattle.tt_cmap.specs.Ranges.{Subtable, segments, groups, read_as, table_of, range_count, range_end_place, falls}
use Rattle.tt_cmap.specs.Subtables.{cmap_fault, record_count, record_place, chosen_subtable}

-- the header or the records do not fit
abbrev pub IsBadRecords : List ℕ → Fault → Type 0
IsBadRecords table fault = ((length table < 4) ⊎ (length table < record_place (record_count table))) × (fault ≡ cmap_fault (length table) why.CmapShape)

-- a defect of a format 4 subtable: it does not fit, or has half a segment
abbrev pub IsBadFormat4 : Format4 → Fault → Type 0
IsBadFormat4 m fault =
    ((length m.table < m.at + 14) × (fault ≡ cmap_fault m.at why.CmapShape))
    ⊎ ((m.at + 14 ≤ length m.table) × (seg_count_x2 m % 2 ≡ 1) × (fault ≡ cmap_fault (m.at + 6) why.CmapShape))
    ⊎ ((m.at + 14 ≤ length m.table) × (length m.table < lists_end m) × (fault ≡ cmap_fault m.at why.CmapShape))

-- a defect of a format 12 subtable: it does not fit
abbrev pub IsBadFormat12 : Format12 → Fault → Type 0
IsBadFormat12 m fault =
    ((length m.table < m.at + 16) ⊎ (length m.table < groups_end m)) × (fault ≡ cmap_fault m.at why.CmapShape)

-- bytes of a range's last character
abbrev pub range_end_size : Subtable → ℕ
range_end_size (segments m) = 2
range_end_size (groups m) = 4

-- some range ends before the end of the preceding range
abbrev pub IsFalling : Subtable → Fault → Type 0
IsFalling s fault =
    (i : ℕ) × (i + 1 < range_count s) × (range_end_place s (i + 1) + range_end_size s ≤ length (table_of s)) × (falls s i ≡ true)
    × (fault ≡ cmap_fault (range_end_place s (i + 1)) why.CmapShape)

-- a defect of the subtable of a format at an offset: it does not fit, or has half a segment
abbrev pub IsBadShape : Format → List ℕ → ℕ → Fault → Type 0
IsBadShape format.Segments table at fault = IsBadFormat4 (record { table = table; at = at }) fault
IsBadShape format.Groups table at fault = IsBadFormat12 (record { table = table; at = at }) fault

-- a defect of a subtable: a bad shape, or falling ends
abbrev pub IsBadSubtable : List ℕ → Choice → Fault → Type 0
IsBadSubtable table p fault =
    IsBadShape p.format table p.at fault ⊎ IsFalling (read_as p.format table p.at) fault

-- no subtable is supported, or the chosen one has a defect
abbrev pub IsBadChoice : List ℕ → Option Choice → Fault → Type 0
IsBadChoice table None fault = fault ≡ cmap_fault 0 why.NoCmap
IsBadChoice table (Some place) fault = IsBadSubtable table place fault

abbrev pub IsBadCmap : List ℕ → Fault → Type 0
IsBadCmap table fault =
    IsBadRecords table fault
    ⊎ ((record_place (record_count table) ≤ length table) × IsBadChoice table (chosen_subtable table) fault)
