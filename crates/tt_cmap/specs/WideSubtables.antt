-- OpenType, "cmap": the subtables of the wide reading, and the glyph of a code. Formats 0, 4, 6, 10, 12 and 13 are read.
-- Ends of ranges are not tested: the glyph is that of the range where a binary search ends (profile).
use Rattle.std.specs.Prelude.{◌≡◌, refl, ℕ, ◌==◌, nat_lt, if◌then◌else◌, List, [], ◌∷◌, map, Option, Some, None, Result, Ok}
use Rattle.tt_core.specs.Faults.{Fault}
use Rattle.tt_core.specs.Numbers.{number_at}
use Rattle.tt_core.specs.Outcomes.{◌>>=◌}
use Rattle.tt_cmap.specs.declared.lists.ListFormat.TheVariants.{ByteEncoding, TrimmedTable, TrimmedArray}
use Rattle.tt_cmap.specs.declared.records.Format.TheVariants.{Segments, Groups}
use Rattle.tt_cmap.specs.declared.wide_subtable.Readable.{Readable}
use Rattle.tt_cmap.specs.declared.wide_subtable.Readable.TheVariants as readable
use Rattle.tt_cmap.specs.declared.wide_subtable.WideSubtable as declared
use Rattle.tt_cmap.specs.declared.wide_subtable.WideSubtable.TheVariants as by
use Rattle.tt_cmap.specs.Format12.{Format12, groups_at, start_char_code, start_glyph_id}
use Rattle.tt_cmap.specs.Glyphs.{or_missing}
use Rattle.tt_cmap.specs.Halves.{reached_within, reached}
use Rattle.tt_cmap.specs.Lists.{GlyphList, list_at, by_list}
use Rattle.tt_cmap.specs.Ranges.{Subtable, segments, groups, subtable_view, subtable_with, range_count, reaches, by_range}

-- the format with a number, if it is read
abbrev pub readable_of : ℕ → Option Readable
readable_of n =
    if n == 0 then Some (readable.Listed ByteEncoding)
    else if n == 4 then Some (readable.Ranged Segments)
    else if n == 6 then Some (readable.Listed TrimmedTable)
    else if n == 10 then Some (readable.Listed TrimmedArray)
    else if n == 12 then Some (readable.Ranged Groups)
    else if n == 13 then Some readable.Shared
    else None

abbrev pub readable_word : Option ℕ → Option Readable
readable_word None = None
readable_word (Some n) = readable_of n

-- the format of the subtable at an offset, if the subtable has a format word and the format is read
abbrev pub readable_at : List ℕ → ℕ → Option Readable
readable_at table at = readable_word (number_at table at 2)

-- a list of glyphs; segments or groups of consecutive glyphs; or groups with one glyph each, as format 13 has
pub data WideSubtable : Type 0 where
  listed : GlyphList → WideSubtable
  ranged : Subtable → WideSubtable
  shared : Format12 → WideSubtable

-- the subtable of a format at an offset, if it fits
abbrev pub wide_subtable_at : Readable → List ℕ → ℕ → Result WideSubtable Fault
wide_subtable_at (readable.Listed format) table at = list_at format table at >>= λ l. Ok (listed l)
wide_subtable_at (readable.Ranged format) table at = subtable_with format table at >>= λ s. Ok (ranged s)
wide_subtable_at readable.Shared table at = groups_at table at >>= λ m. Ok (shared m)

-- the glyph by the range where a binary search ends, or 0 past all ranges
abbrev pub by_reached : Subtable → (ℕ → ℕ) → ℕ → ℕ
by_reached s glyph_by c =
    if nat_lt (reached (range_count s) (reaches s c)) (range_count s) then glyph_by (reached (range_count s) (reaches s c))
    else 0

-- format 13: all characters of a group have the group's glyph
abbrev pub by_shared_group : Format12 → ℕ → ℕ → ℕ → ℕ
by_shared_group m glyphs c i = if nat_lt c (start_char_code m i) then 0 else or_missing glyphs (start_glyph_id m i)

-- the glyph of a code
abbrev pub glyph_of_code : WideSubtable → ℕ → ℕ → ℕ
glyph_of_code (listed l) glyphs c = by_list l glyphs c
glyph_of_code (ranged s) glyphs c = by_reached s (by_range s glyphs c) c
glyph_of_code (shared m) glyphs c = by_reached (groups m) (by_shared_group m glyphs c) c

-- the definitions' view of the code's subtable
abbrev pub wide_view : declared.WideSubtable → WideSubtable
wide_view (by.Listed l) = listed l
wide_view (by.Ranged s) = ranged (subtable_view s)
wide_view (by.Shared m) = shared m

-- worked values: a group with one glyph for 0041 to 005A
abbrev pub one_glyph : WideSubtable
one_glyph = shared (record {
  table = 0 ∷ 13 ∷ 0 ∷ 0 ∷ 0 ∷ 0 ∷ 0 ∷ 28 ∷ 0 ∷ 0 ∷ 0 ∷ 0 ∷ 0 ∷ 0 ∷ 0 ∷ 1 ∷ 0 ∷ 0 ∷ 0 ∷ 65 ∷ 0 ∷ 0 ∷ 0 ∷ 90 ∷ 0 ∷ 0 ∷ 0 ∷ 2 ∷ [];
  at = 0;
})

of_a_group : map (glyph_of_code one_glyph 3) (64 ∷ 65 ∷ 90 ∷ 91 ∷ []) ≡ 0 ∷ 2 ∷ 2 ∷ 0 ∷ []
unfolding reached_within
of_a_group = refl

-- segments whose ends fall: 0042, then 0041. The second is tested first, so 0042 has no glyph
abbrev falling_ends : WideSubtable
falling_ends = ranged (segments (record {
  table =
      0 ∷ 4 ∷ 0 ∷ 32 ∷ 0 ∷ 0 ∷ 0 ∷ 4 ∷ 0 ∷ 4 ∷ 0 ∷ 1 ∷ 0 ∷ 0 ∷ 0 ∷ 66 ∷ 0 ∷ 65 ∷ 0 ∷ 0 ∷ 0 ∷ 65 ∷ 255 ∷ 255
      ∷ 255 ∷ 192 ∷ 0 ∷ 1 ∷ 0 ∷ 0 ∷ 0 ∷ 0 ∷ [];
  at = 0;
}))

of_falling_ends : map (glyph_of_code falling_ends 3) (65 ∷ 66 ∷ []) ≡ 1 ∷ 0 ∷ []
unfolding reached_within
of_falling_ends = refl

numbers : map readable_of (2 ∷ 8 ∷ 13 ∷ 14 ∷ []) ≡ None ∷ None ∷ Some readable.Shared ∷ None ∷ []
numbers = refl
