-- No part of the standard: how many numbers a lookup of the wide reading reads (profile).
use Rattle.std.specs.Prelude.{◌≡◌, refl, ℕ, ◌+◌, ◌&&◌, ◌==◌, nat_le, nat_lt, if◌then◌else◌, List, [], ◌∷◌, map, Option, Some, None}
use Rattle.tt_cmap.specs.declared.entries.EntryKind.TheVariants.{Defaults, Others}
use Rattle.tt_cmap.specs.declared.records.wide.CodeWay.{CodeWay}
use Rattle.tt_cmap.specs.declared.records.wide.CodeWay.TheVariants as way
use Rattle.tt_cmap.specs.Format12.{group_reads}
use Rattle.tt_cmap.specs.Halves.{asked, asked_within, reached, reached_within}
use Rattle.tt_cmap.specs.Lists.{GlyphList, is_listed}
use Rattle.tt_cmap.specs.Ranges.{Subtable, groups, ends_read, range_count, range_reads, reaches}
use Rattle.tt_cmap.specs.Roman.{roman_byte}
use Rattle.tt_cmap.specs.Variations.{Entries, default_offset, entry_count, entry_end, entry_for, entry_start, is_default, other_offset, selectors_in, two_selectors}
use Rattle.tt_cmap.specs.WideLookup.{WideCmap, variation_in}
use Rattle.tt_cmap.specs.WideSubtables.{WideSubtable, glyph_of_code, listed, one_glyph, ranged, shared}

-- a list: the glyph number of a listed character
abbrev pub list_reads : GlyphList → ℕ → ℕ
list_reads l c = if is_listed l c then 1 else 0

-- ranges: the ends that a binary search reads, and the numbers of the range where the search ends
abbrev pub reached_reads : Subtable → (ℕ → ℕ) → ℕ → ℕ
reached_reads s reads_by c =
    ends_read s c
    + (if nat_lt (reached (range_count s) (reaches s c)) (range_count s) then reads_by (reached (range_count s) (reaches s c))
    else 0)

-- the numbers read for a code
abbrev pub code_reads : WideSubtable → ℕ → ℕ
code_reads (listed l) c = list_reads l c
code_reads (ranged s) c = reached_reads s (range_reads s c) c
code_reads (shared m) c = reached_reads (groups m) (group_reads m c) c

-- a symbol without a glyph below 256 is looked up twice
abbrev pub symbol_reads : WideSubtable → ℕ → ℕ → ℕ
symbol_reads s glyphs c =
    if (glyph_of_code s glyphs c == 0) && nat_lt c 256 then code_reads s c + code_reads s (0xF000 + c) else code_reads s c

abbrev pub byte_reads : WideSubtable → Option ℕ → ℕ
byte_reads s None = 0
byte_reads s (Some b) = code_reads s b

abbrev pub reads_by_way : CodeWay → WideSubtable → ℕ → ℕ → ℕ
reads_by_way way.Plain s glyphs c = code_reads s c
reads_by_way way.Symbol s glyphs c = symbol_reads s glyphs c
reads_by_way way.Roman s glyphs c = byte_reads s (roman_byte c)

-- the numbers read for a character
abbrev pub wide_reads_of : WideCmap → ℕ → ℕ
wide_reads_of m c = reads_by_way m.way m.subtable m.glyphs c

-- the ends of entries that a binary search for a character reads
unfoldable pub entry_ends_read : Entries → ℕ → ℕ
entry_ends_read e c = asked (λ i. nat_le c (entry_end e i)) 0 (entry_count e)

-- the start of the found entry
abbrev pub start_reads : Option ℕ → ℕ
start_reads None = 0
start_reads (Some i) = 1

abbrev pub default_reads : List ℕ → ℕ → ℕ → ℕ → ℕ
default_reads table at offset c =
    if offset == 0 then 0
    else (let e : Entries = record { kind = Defaults; table = table; at = at + offset } in
    entry_ends_read e c + start_reads (entry_for e c))

-- the start of the found entry, and the glyph if the entry is the character's
abbrev pub glyph_reads : Entries → ℕ → Option ℕ → ℕ
glyph_reads e c None = 0
glyph_reads e c (Some i) = if entry_start e i == c then 2 else 1

abbrev pub other_reads : List ℕ → ℕ → ℕ → ℕ → ℕ
other_reads table at offset c =
    if offset == 0 then 0
    else (let e : Entries = record { kind = Others; table = table; at = at + offset } in
    entry_ends_read e c + glyph_reads e c (entry_for e c))

-- the two lists of entry i for a selector: the second is read where the first lacks the character
abbrev pub lists_reads : List ℕ → ℕ → ℕ → ℕ → ℕ
lists_reads table at c i =
    default_reads table at (default_offset (selectors_in table at) i) c
    + (if is_default table at (default_offset (selectors_in table at) i) c then 0
    else other_reads table at (other_offset (selectors_in table at) i) c)

-- the start of the found entry; and where the entry is the selector's, the offsets of the two lists, and the lists
abbrev pub selector_reads : List ℕ → ℕ → ℕ → ℕ → Option ℕ → ℕ
selector_reads table at c v None = 0
selector_reads table at c v (Some i) =
    if entry_start (selectors_in table at) i == v then 3 + lists_reads table at c i else 1

-- the numbers read of variation sequences at an offset
unfoldable pub variation_reads : List ℕ → ℕ → ℕ → ℕ → ℕ
variation_reads table at c v =
    entry_ends_read (selectors_in table at) v + selector_reads table at c v (entry_for (selectors_in table at) v)

abbrev pub reads_of_variation : Option ℕ → List ℕ → ℕ → ℕ → ℕ
reads_of_variation None table c v = 0
reads_of_variation (Some at) table c v = variation_reads table at c v

-- the numbers read for a character with a selector: without a glyph of its own, those of the character too
abbrev pub wide_reads_with : WideCmap → ℕ → ℕ → ℕ
wide_reads_with m c v =
    reads_of_variation m.variations m.table c v
    + (if variation_in m.variations m.table m.glyphs c v == 0 then wide_reads_of m c else 0)

-- worked values: a group with one glyph for 0041 to 005A. Its end is read; then its start, and its glyph
of_a_group : map (code_reads one_glyph) (64 ∷ 65 ∷ 90 ∷ 91 ∷ []) ≡ 2 ∷ 3 ∷ 3 ∷ 1 ∷ []
unfolding reached_within ends_read asked_within
of_a_group = refl

-- FE00 has 0041 and 0042 as default, FE01 has another glyph for 0042; FE05 is behind both. The second selector is read
-- first
of_selectors : map (variation_reads two_selectors 0 66) (0xFE00 ∷ 0xFE01 ∷ 0xFE05 ∷ []) ≡ 7 ∷ 8 ∷ 1 ∷ []
unfolding variation_reads entry_ends_read reached_within asked_within
of_selectors = refl
