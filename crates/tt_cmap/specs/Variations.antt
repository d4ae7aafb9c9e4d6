-- OpenType, "cmap", format 14: Unicode variation sequences. The subtable is optional: what of it does not fit in cmap is
-- not there (profile). Its length word is not used.
use Rattle.std.specs.Prelude.{◌≡◌, refl, ℕ, ◌+◌, ◌-◌, ◌*◌, ◌/◌, Bool, false, ◌==◌, min, nat_lt, nat_le, if◌then◌else◌, List, [], ◌∷◌, length, map, take, Option, Some, None}
use Rattle.tt_core.specs.Numbers.{unsigned_at}
use Rattle.tt_cmap.specs.declared.entries.EntryKind.{EntryKind}
use Rattle.tt_cmap.specs.declared.entries.EntryKind.TheVariants.{Selectors, Defaults, Others}
use Rattle.tt_cmap.specs.Glyphs.{or_missing}
use Rattle.tt_cmap.specs.Halves.{reached_within, reached}

-- a subtable of format 14: the bytes of cmap, and the subtable's offset
pub record Sequences : Type 0 where
  pub table : List ℕ
  pub at : ℕ

-- a list of the subtable: a uint32 with the count of entries, at an offset of cmap, and then the entries
pub record Entries : Type 0 where
  pub kind : EntryKind
  pub table : List ℕ
  pub at : ℕ

-- the offset of entry i after the count. An entry for a selector has 11 bytes, a range of default glyphs 4, and a
-- character with another glyph 5
abbrev pub entry_offset : EntryKind → ℕ → ℕ
entry_offset Selectors i = 11 * i
entry_offset Defaults i = 4 * i
entry_offset Others i = 5 * i

-- how many entries fit into a number of bytes
abbrev pub fitting : EntryKind → ℕ → ℕ
fitting Selectors bytes = bytes / 11
fitting Defaults bytes = bytes / 4
fitting Others bytes = bytes / 5

-- the count of entries, or as many as fit
abbrev pub entry_count : Entries → ℕ
entry_count e = min (unsigned_at e.table e.at 4) (fitting e.kind (length e.table - (e.at + 4)))

abbrev pub entry_place : Entries → ℕ → ℕ
entry_place e i = e.at + 4 + entry_offset e.kind i

-- the first three bytes of an entry: its selector, its first character, or its character
abbrev pub entry_start : Entries → ℕ → ℕ
entry_start e i = unsigned_at e.table (entry_place e i) 3

-- in a range of default glyphs, the next byte is the count of characters after the first
abbrev pub additional : Entries → ℕ → ℕ
additional e i = unsigned_at e.table (entry_place e i + 3) 1

abbrev pub entry_end_by : EntryKind → Entries → ℕ → ℕ
entry_end_by Selectors e i = entry_start e i
entry_end_by Defaults e i = entry_start e i + additional e i
entry_end_by Others e i = entry_start e i

-- the last character of entry i
abbrev pub entry_end : Entries → ℕ → ℕ
entry_end e i = entry_end_by e.kind e i

-- the entry where a binary search for a character ends
abbrev pub reached_entry : Entries → ℕ → ℕ
reached_entry e c = reached (entry_count e) (λ i. nat_le c (entry_end e i))

abbrev pub entry_for : Entries → ℕ → Option ℕ
entry_for e c = if nat_lt (reached_entry e c) (entry_count e) then Some (reached_entry e c) else None

abbrev pub starts_before : Entries → ℕ → Option ℕ → Bool
starts_before e c None = false
starts_before e c (Some i) = nat_le (entry_start e i) c

-- whether the list at an offset of the subtable at `at` has a range of default glyphs with the character; offset 0 is the
-- empty list
abbrev pub is_default : List ℕ → ℕ → ℕ → ℕ → Bool
is_default table at offset c =
    if offset == 0 then false
    else (let e : Entries = record { kind = Defaults; table = table; at = at + offset } in starts_before e c (entry_for e c))

-- the glyph of an entry for a character
abbrev pub entry_glyph : Entries → ℕ → ℕ
entry_glyph e i = unsigned_at e.table (entry_place e i + 3) 2

abbrev pub glyph_of_entry : Entries → ℕ → ℕ → Option ℕ → ℕ
glyph_of_entry e glyphs c None = 0
glyph_of_entry e glyphs c (Some i) =
    if entry_start e i == c then or_missing glyphs (entry_glyph e i) else 0

-- the glyph that the list at an offset of the subtable gives a character; 0 if the list or the font has none
abbrev pub other_glyph : List ℕ → ℕ → ℕ → ℕ → ℕ → ℕ
other_glyph table at offset glyphs c =
    if offset == 0 then 0
    else (let e : Entries = record { kind = Others; table = table; at = at + offset } in glyph_of_entry e glyphs c (entry_for e c))

-- the entries for the selectors; the offsets of an entry's lists
abbrev pub selectors_in : List ℕ → ℕ → Entries
selectors_in table at = record { kind = Selectors; table = table; at = at + 6 }

abbrev pub default_offset : Entries → ℕ → ℕ
default_offset e i = unsigned_at e.table (entry_place e i + 3) 4

abbrev pub other_offset : Entries → ℕ → ℕ
other_offset e i = unsigned_at e.table (entry_place e i + 7) 4

-- the glyph of a character by entry i for its selector
abbrev pub by_lists : List ℕ → ℕ → ℕ → ℕ → ℕ → ℕ
by_lists table at glyphs c i =
    if is_default table at (default_offset (selectors_in table at) i) c then 0
    else other_glyph table at (other_offset (selectors_in table at) i) glyphs c

abbrev pub by_selector : List ℕ → ℕ → ℕ → ℕ → ℕ → Option ℕ → ℕ
by_selector table at glyphs c v None = 0
by_selector table at glyphs c v (Some i) =
    if entry_start (selectors_in table at) i == v then by_lists table at glyphs c i else 0

-- the glyph of a character with a selector, by the subtable at an offset; 0 if the subtable has no other glyph for the
-- character than its own
unfoldable pub variation : List ℕ → ℕ → ℕ → ℕ → ℕ → ℕ
variation table at glyphs c v = by_selector table at glyphs c v (entry_for (selectors_in table at) v)

-- worked values: FE00 has 0041 and 0042 as default, FE01 has glyph 1 for 0042
abbrev pub two_selectors : List ℕ
two_selectors =
    0 ∷ 14 ∷ 0 ∷ 0 ∷ 0 ∷ 55 ∷ 0 ∷ 0 ∷ 0 ∷ 2 ∷ 0 ∷ 254 ∷ 0 ∷ 0 ∷ 0 ∷ 0 ∷ 32 ∷ 0 ∷ 0 ∷ 0 ∷ 0 ∷ 0 ∷ 254 ∷ 1 ∷ 0 ∷ 0 ∷ 0 ∷ 40
    ∷ 0 ∷ 0 ∷ 0 ∷ 46 ∷ 0 ∷ 0 ∷ 0 ∷ 1 ∷ 0 ∷ 0 ∷ 65 ∷ 1 ∷ 0 ∷ 0 ∷ 0 ∷ 0 ∷ 0 ∷ 0 ∷ 0 ∷ 0 ∷ 0 ∷ 1 ∷ 0 ∷ 0 ∷ 66 ∷ 0 ∷ 1 ∷ []

another_glyph : map (λ v. variation two_selectors 0 3 66 v) (0xFE00 ∷ 0xFE01 ∷ 0xFE05 ∷ []) ≡ 0 ∷ 1 ∷ 0 ∷ []
unfolding variation reached_within
another_glyph = refl

of_no_other_character : variation two_selectors 0 3 65 0xFE01 ≡ 0
unfolding variation reached_within
of_no_other_character = refl

-- the font lacks glyph 1; the glyph's last byte is missing, so its entry does not fit
a_glyph_that_the_font_lacks : variation two_selectors 0 1 66 0xFE01 ≡ 0
unfolding variation reached_within
a_glyph_that_the_font_lacks = refl

an_entry_cut_off : variation (take 54 two_selectors) 0 3 66 0xFE01 ≡ 0
unfolding variation reached_within
an_entry_cut_off = refl
