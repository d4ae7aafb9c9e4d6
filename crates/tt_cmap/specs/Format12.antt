-- OpenType, "cmap", format 12: segmented coverage. Groups are in rising order of their last characters. The subtable's
-- reserved word, length and language are not used: the bound is the end of cmap (profile).
use Rattle.std.specs.Prelude.{ℕ, ◌+◌, ◌-◌, ◌*◌, ◌≤◌, nat_lt, if◌then◌else◌, List, length, Result, Ok, Err}
use Rattle.tt_core.specs.Faults.{Fault}
use Rattle.tt_core.specs.declared.fault.Why.TheVariants as why
use Rattle.tt_core.specs.Limits.{font_limit}
use Rattle.tt_core.specs.Numbers.{unsigned_at}
use Rattle.tt_cmap.specs.Glyphs.{or_missing}
use Rattle.tt_cmap.specs.Subtables.{cmap_fault}

-- a subtable of format 12: the bytes of cmap, and the subtable's offset
pub record Format12 : Type 0 where
  pub table : List ℕ
  pub at : ℕ

-- numGroups
abbrev pub num_groups : Format12 → ℕ
num_groups m = unsigned_at m.table (m.at + 12) 4

-- a group is three uint32: its first character, its last character, and the glyph of the first
abbrev pub group_place : Format12 → ℕ → ℕ
group_place m i = m.at + 16 + 12 * i

abbrev pub start_char_code : Format12 → ℕ → ℕ
start_char_code m i = unsigned_at m.table (group_place m i) 4

abbrev pub end_char_code_place : Format12 → ℕ → ℕ
end_char_code_place m i = group_place m i + 4

abbrev pub end_char_code : Format12 → ℕ → ℕ
end_char_code m i = unsigned_at m.table (end_char_code_place m i) 4

abbrev pub start_glyph_id : Format12 → ℕ → ℕ
start_glyph_id m i = unsigned_at m.table (group_place m i + 8) 4

-- the offset of the groups' end
abbrev pub groups_end : Format12 → ℕ
groups_end m = m.at + 16 + 12 * num_groups m

-- the subtable at an offset, if its groups fit
unfoldable pub groups_at : List ℕ → ℕ → Result Format12 Fault
groups_at table at =
    let m : Format12 = record { table = table; at = at } in
    if nat_lt (length table) (at + 16) then Err (cmap_fault at why.CmapShape)
    else (if nat_lt (length table) (groups_end m) then Err (cmap_fault at why.CmapShape)
    else Ok m)

-- the groups fit into cmap, and cmap is within the limit of a font
pub record IsFormat12 (m : Format12) : Type 0 where
  pub fits : groups_end m ≤ length m.table
  pub size : length m.table ≤ font_limit

-- the glyph of a character by group i, which ends at the character or after it; the glyphs of a group are consecutive
abbrev pub by_group : Format12 → ℕ → ℕ → ℕ → ℕ
by_group m glyphs c i =
    if nat_lt c (start_char_code m i) then 0
    else or_missing glyphs (start_glyph_id m i + (c - start_char_code m i))

-- the count of numbers read by by_group: startCharCode, then startGlyphID
abbrev pub group_reads : Format12 → ℕ → ℕ → ℕ
group_reads m c i = if nat_lt c (start_char_code m i) then 1 else 2
