-- OpenType, "cmap": the common part of formats 4 and 12. A subtable has ranges of characters, segments or groups, in
-- the order of their last characters. The first range that reaches a character gives its glyph.
use Rattle.std.specs.Prelude.{ℕ, ◌+◌, ◌-◌, Bool, nat_lt, nat_le, List, Option, Some, None, Result, Ok, Err, ⊤}
use Rattle.tt_core.specs.Faults.{Fault}
use Rattle.tt_core.specs.declared.fault.Why.TheVariants as why
use Rattle.tt_core.specs.Outcomes.{◌>>=◌}
use Rattle.tt_core.specs.Search.{first_below}
use Rattle.tt_cmap.specs.declared.records.Format.{Format}
use Rattle.tt_cmap.specs.declared.records.Format.TheVariants as format
use Rattle.tt_cmap.specs.declared.records.Choice.{Choice}
use Rattle.tt_cmap.specs.declared.subtable.Subtable as subtable
use Rattle.tt_cmap.specs.declared.subtable.Subtable.TheVariants as by
use Rattle.tt_cmap.specs.Format4.{Format4, seg_count, segments_at, end_code, end_code_place, by_segment, segment_reads}
use Rattle.tt_cmap.specs.Format12.{Format12, num_groups, groups_at, end_char_code, end_char_code_place, by_group, group_reads}
use Rattle.tt_cmap.specs.Halves.{asked}
use Rattle.tt_cmap.specs.Subtables.{cmap_fault}

pub data Subtable : Type 0 where
  segments : Format4 → Subtable
  groups : Format12 → Subtable

abbrev pub table_of : Subtable → List ℕ
table_of (segments m) = m.table
table_of (groups m) = m.table

abbrev pub range_count : Subtable → ℕ
range_count (segments m) = seg_count m
range_count (groups m) = num_groups m

-- the last character of range i, and that number's offset
abbrev pub range_end : Subtable → ℕ → ℕ
range_end (segments m) i = end_code m i
range_end (groups m) i = end_char_code m i

abbrev pub range_end_place : Subtable → ℕ → ℕ
range_end_place (segments m) i = end_code_place m i
range_end_place (groups m) i = end_char_code_place m i

-- range i + 1 ends before range i
abbrev pub falls : Subtable → ℕ → Bool
falls s i = nat_lt (range_end s (i + 1)) (range_end s i)

-- the first range that ends after the end of the next range
abbrev pub falling_range : Subtable → Option ℕ
falling_range s = first_below (range_count s - 1) (falls s)

abbrev pub or_falling : Subtable → Option ℕ → Result Subtable Fault
or_falling s None = Ok s
or_falling s (Some i) = Err (cmap_fault (range_end_place s (i + 1)) why.CmapShape)

-- the bytes at an offset as a subtable of a format
abbrev pub read_as : Format → List ℕ → ℕ → Subtable
read_as format.Segments table at = segments (record { table = table; at = at })
read_as format.Groups table at = groups (record { table = table; at = at })

-- the subtable of a format at an offset, if it fits
abbrev pub subtable_with : Format → List ℕ → ℕ → Result Subtable Fault
subtable_with format.Segments table at = segments_at table at >>= λ m. Ok (segments m)
subtable_with format.Groups table at = groups_at table at >>= λ m. Ok (groups m)

-- the chosen subtable, if it fits and its ranges end in rising order
abbrev pub subtable_at : List ℕ → Choice → Result Subtable Fault
subtable_at table p = subtable_with p.format table p.at >>= λ s. or_falling s (falling_range s)

-- whether range i ends at the character or after it
abbrev pub reaches : Subtable → ℕ → ℕ → Bool
reaches s c i = nat_le c (range_end s i)

abbrev pub range_of : Subtable → ℕ → Option ℕ
range_of s c = first_below (range_count s) (reaches s c)

-- the glyph of a character by range i, which ends at the character or after it
abbrev pub by_range : Subtable → ℕ → ℕ → ℕ → ℕ
by_range (segments m) glyphs c i = by_segment m glyphs c i
by_range (groups m) glyphs c i = by_group m glyphs c i

abbrev pub by_found : Subtable → ℕ → ℕ → Option ℕ → ℕ
by_found s glyphs c None = 0
by_found s glyphs c (Some i) = by_range s glyphs c i

-- the glyph of a character by the first range that ends at the character or after it, or 0 if there is none
abbrev pub glyph_in : Subtable → ℕ → ℕ → ℕ
glyph_in s glyphs c = by_found s glyphs c (range_of s c)

-- the count of ends that a lookup reads: the tests of a binary search in all ranges
unfoldable pub ends_read : Subtable → ℕ → ℕ
ends_read s c = asked (reaches s c) 0 (range_count s)

-- the count of numbers that a lookup reads from the found range
abbrev pub range_reads : Subtable → ℕ → ℕ → ℕ
range_reads (segments m) c i = segment_reads m c i
range_reads (groups m) c i = group_reads m c i

abbrev pub found_reads : Subtable → ℕ → Option ℕ → ℕ
found_reads s c None = 0
found_reads s c (Some i) = range_reads s c i

-- the count of all numbers that a lookup reads
abbrev pub reads_in : Subtable → ℕ → ℕ
reads_in s c = ends_read s c + found_reads s c (range_of s c)

-- a bound of a lookup's reads of ends. Format 4 has fewer than 2^15 segments. Format 12, with 12 bytes a group, has
-- fewer than 2^23 groups in a font
abbrev pub most_ends : Subtable → ℕ
most_ends (segments m) = 15
most_ends (groups m) = 23

-- a bound of all ends, which are uint16 or uint32
abbrev pub most_character : Subtable → ℕ
most_character (segments m) = 65535
most_character (groups m) = 4294967295

-- P holds for a subtable of format 4
abbrev pub IfSegments : Subtable → Type 0 → Type 0
IfSegments (segments m) P = P
IfSegments (groups m) P = ⊤

-- the definitions' view of the code's subtable
abbrev pub subtable_view : subtable.Subtable → Subtable
subtable_view (by.Segments m) = segments m
subtable_view (by.Groups m) = groups m
