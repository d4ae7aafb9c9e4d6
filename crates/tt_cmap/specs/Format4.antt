-- OpenType, "cmap", format 4. Segments are in rising order of their last characters. The subtable's length word is not
-- used: the bound is the end of cmap (profile).
use Rattle.std.specs.Prelude.{◌≡◌, ℕ, ◌+◌, ◌-◌, ◌*◌, ◌/◌, ◌%◌, ◌≤◌, not, ◌==◌, nat_lt, if◌then◌else◌, List, length, Option, Some, None, Result, Ok, Err}
use Rattle.tt_core.specs.Faults.{Fault}
use Rattle.tt_core.specs.declared.fault.Why.TheVariants as why
use Rattle.tt_core.specs.Limits.{font_limit}
use Rattle.tt_core.specs.Numbers.{unsigned_at, number_at}
use Rattle.tt_cmap.specs.Glyphs.{or_missing}
use Rattle.tt_cmap.specs.Subtables.{cmap_fault}

-- a subtable of format 4: the bytes of cmap, and the subtable's offset
pub record Format4 : Type 0 where
  pub table : List ℕ
  pub at : ℕ

-- segCountX2: twice the number of segments, and the bytes of each of the four lists
abbrev pub seg_count_x2 : Format4 → ℕ
seg_count_x2 m = unsigned_at m.table (m.at + 6) 2

abbrev pub seg_count : Format4 → ℕ
seg_count m = seg_count_x2 m / 2

-- the offset of segment i's last character
abbrev pub end_code_place : Format4 → ℕ → ℕ
end_code_place m i = m.at + 14 + 2 * i

abbrev pub end_code : Format4 → ℕ → ℕ
end_code m i = unsigned_at m.table (end_code_place m i) 2

-- startCode, idDelta and idRangeOffset: three more lists after a word of padding, each as long as endCode
abbrev pub start_code : Format4 → ℕ → ℕ
start_code m i = unsigned_at m.table (m.at + 16 + seg_count_x2 m + 2 * i) 2

abbrev pub id_delta : Format4 → ℕ → ℕ
id_delta m i = unsigned_at m.table (m.at + 16 + 2 * seg_count_x2 m + 2 * i) 2

abbrev pub id_range_offset_place : Format4 → ℕ → ℕ
id_range_offset_place m i = m.at + 16 + 3 * seg_count_x2 m + 2 * i

abbrev pub id_range_offset : Format4 → ℕ → ℕ
id_range_offset m i = unsigned_at m.table (id_range_offset_place m i) 2

-- the offset of the end of the four lists
abbrev pub lists_end : Format4 → ℕ
lists_end m = m.at + 16 + 4 * seg_count_x2 m

-- the subtable at an offset, if its four lists fit
unfoldable pub segments_at : List ℕ → ℕ → Result Format4 Fault
segments_at table at =
    let m : Format4 = record { table = table; at = at } in
    if nat_lt (length table) (at + 14) then Err (cmap_fault at why.CmapShape)
    else (if not (seg_count_x2 m % 2 == 0) then Err (cmap_fault (at + 6) why.CmapShape)
    else (if nat_lt (length table) (lists_end m) then Err (cmap_fault at why.CmapShape)
    else Ok m))

-- the four lists fit into cmap, and cmap is within the limit of a font
pub record IsFormat4 (m : Format4) : Type 0 where
  pub even : seg_count_x2 m % 2 ≡ 0
  pub fits : lists_end m ≤ length m.table
  pub size : length m.table ≤ font_limit

-- the glyph by a word of the glyph array: 0 stays 0, and a word past the end of cmap counts as 0 (profile)
abbrev pub by_array : ℕ → ℕ → Option ℕ → ℕ
by_array glyphs delta None = 0
by_array glyphs delta (Some word) = if word == 0 then 0 else or_missing glyphs ((word + delta) % 65536)

-- the offset of the glyph of c in the glyph array, for a segment whose range offset is not 0
abbrev pub array_place : Format4 → ℕ → ℕ → ℕ
array_place m i c = id_range_offset_place m i + id_range_offset m i + 2 * (c - start_code m i)

-- the glyph of a character by segment i, which ends at the character or after it
abbrev pub by_segment : Format4 → ℕ → ℕ → ℕ → ℕ
by_segment m glyphs c i =
    if nat_lt c (start_code m i) then 0
    else (if id_range_offset m i == 0 then or_missing glyphs ((c + id_delta m i) % 65536)
    else by_array glyphs (id_delta m i) (number_at m.table (array_place m i c) 2))

-- the count of numbers read by by_segment: startCode, then idDelta and idRangeOffset, then one of the glyph array
abbrev pub segment_reads : Format4 → ℕ → ℕ → ℕ
segment_reads m c i = if nat_lt c (start_code m i) then 1 else (if id_range_offset m i == 0 then 3 else 4)
