-- OpenType, "cmap", formats 0, 6 and 10: the glyph numbers of consecutive characters. Each subtable's length and language
-- are not used: the bound is the end of cmap (profile).
use Rattle.std.specs.Prelude.{◌≡◌, refl, ℕ, ◌+◌, ◌-◌, ◌*◌, ◌≤◌, Bool, ◌&&◌, nat_lt, nat_le, if◌then◌else◌, List, [], ◌∷◌, length, map, Result, Ok, Err}
use Rattle.tt_core.specs.Faults.{Fault}
use Rattle.tt_core.specs.declared.fault.Why.TheVariants as why
use Rattle.tt_core.specs.Limits.{font_limit}
use Rattle.tt_core.specs.Numbers.{unsigned_at}
use Rattle.tt_cmap.specs.declared.lists.ListFormat.{ListFormat}
use Rattle.tt_cmap.specs.declared.lists.ListFormat.TheVariants.{ByteEncoding, TrimmedTable, TrimmedArray}
use Rattle.tt_cmap.specs.Glyphs.{or_missing}
use Rattle.tt_cmap.specs.Subtables.{cmap_fault}

-- a subtable of one of these formats: the bytes of cmap, and the subtable's offset
pub record GlyphList : Type 0 where
  pub format : ListFormat
  pub table : List ℕ
  pub at : ℕ

-- the bytes before the list: format, length and language; then the first character and the count, except in format 0
abbrev pub list_header : ListFormat → ℕ
list_header ByteEncoding = 6
list_header TrimmedTable = 10
list_header TrimmedArray = 20

-- firstCode and entryCount, or startCharCode and numChars
abbrev pub first_in : ListFormat → List ℕ → ℕ → ℕ
first_in ByteEncoding table at = 0
first_in TrimmedTable table at = unsigned_at table (at + 6) 2
first_in TrimmedArray table at = unsigned_at table (at + 12) 4

abbrev pub count_in : ListFormat → List ℕ → ℕ → ℕ
count_in ByteEncoding table at = 256
count_in TrimmedTable table at = unsigned_at table (at + 8) 2
count_in TrimmedArray table at = unsigned_at table (at + 16) 4

-- bytes of a glyph number
abbrev pub number_size : ListFormat → ℕ
number_size ByteEncoding = 1
number_size TrimmedTable = 2
number_size TrimmedArray = 2

abbrev pub first_character : GlyphList → ℕ
first_character l = first_in l.format l.table l.at

abbrev pub character_count : GlyphList → ℕ
character_count l = count_in l.format l.table l.at

-- the offset of the glyph number of character i of the list, in the subtable and in cmap
abbrev pub place_in : ListFormat → ℕ → ℕ
place_in format i = list_header format + number_size format * i

abbrev pub glyph_place : GlyphList → ℕ → ℕ
glyph_place l i = l.at + place_in l.format i

-- the subtable at an offset, if its list fits
unfoldable pub list_at : ListFormat → List ℕ → ℕ → Result GlyphList Fault
list_at format table at =
    let l : GlyphList = record { format = format; table = table; at = at } in
    if nat_lt (length table) (at + list_header format) then Err (cmap_fault at why.CmapShape)
    else (if nat_lt (length table) (glyph_place l (character_count l)) then Err (cmap_fault at why.CmapShape)
    else Ok l)

-- the list fits into cmap, and cmap is within the limit of a font
pub record IsGlyphList (l : GlyphList) : Type 0 where
  pub fits : glyph_place l (character_count l) ≤ length l.table
  pub size : length l.table ≤ font_limit

abbrev pub is_listed : GlyphList → ℕ → Bool
is_listed l c = nat_le (first_character l) c && nat_lt c (first_character l + character_count l)

-- the glyph of a character
abbrev pub by_list : GlyphList → ℕ → ℕ → ℕ
by_list l glyphs c =
    if is_listed l c then
    or_missing glyphs (unsigned_at l.table (glyph_place l (c - first_character l)) (number_size l.format))
    else 0

-- worked values: two glyphs from 0041 on, and two from 0001F600 on
abbrev two_words : GlyphList
two_words = record { format = TrimmedTable; table = 0 ∷ 6 ∷ 0 ∷ 14 ∷ 0 ∷ 0 ∷ 0 ∷ 65 ∷ 0 ∷ 2 ∷ 0 ∷ 1 ∷ 0 ∷ 2 ∷ []; at = 0 }

of_letters : map (by_list two_words 3) (64 ∷ 65 ∷ 66 ∷ 67 ∷ []) ≡ 0 ∷ 1 ∷ 2 ∷ 0 ∷ []
of_letters = refl

the_font_lacks_one : by_list two_words 2 66 ≡ 0
the_font_lacks_one = refl

abbrev an_array : GlyphList
an_array = record {
  format = TrimmedArray;
  table = 0 ∷ 10 ∷ 0 ∷ 0 ∷ 0 ∷ 0 ∷ 0 ∷ 24 ∷ 0 ∷ 0 ∷ 0 ∷ 0 ∷ 0 ∷ 1 ∷ 246 ∷ 0 ∷ 0 ∷ 0 ∷ 0 ∷ 2 ∷ 0 ∷ 1 ∷ 0 ∷ 2 ∷ [];
  at = 0;
}

of_faces : map (by_list an_array 3) (65 ∷ 128512 ∷ 128513 ∷ 128514 ∷ []) ≡ 0 ∷ 1 ∷ 2 ∷ 0 ∷ []
of_faces = refl

one_word_short : list_at TrimmedTable (0 ∷ 6 ∷ 0 ∷ 14 ∷ 0 ∷ 0 ∷ 0 ∷ 65 ∷ 0 ∷ 3 ∷ 0 ∷ 1 ∷ 0 ∷ 2 ∷ []) 0
    ≡ Err (cmap_fault 0 why.CmapShape)
unfolding list_at
one_word_short = refl
