-- OpenType, "OpenType Font Variations Common Table Formats": a delta-set index map, which gives each glyph the indexes of
-- its row. A map of another format has no entries (profile).
use Rattle.std.specs.Prelude.{◌≡◌, refl, ℕ, ◌+◌, ◌-◌, ◌*◌, ◌/◌, ◌%◌, ◌^◌, Bool, ◌||◌, ◌==◌, nat_lt, if◌then◌else◌, List, [], ◌∷◌, map}
use Rattle.tt_variation_store.specs.declared.index.DeltaSetIndex.{DeltaSetIndex}
use Rattle.tt_variation_store.specs.Numbers.{number, byte, word, long}

-- format at 0, entryFormat at 1, mapCount at 2: a uint16 in format 0, a uint32 in format 1. The entries follow
abbrev pub entry_count : List ℕ → ℕ → ℕ
entry_count table map =
    if byte table map == 0 then word table (map + 2) else (if byte table map == 1 then long table (map + 2) else 0)

abbrev pub first_entry : List ℕ → ℕ → ℕ
first_entry table map = if byte table map == 0 then map + 4 else map + 6

-- of entryFormat: the bytes of an entry less 1 in bits 4 and 5, the bits of the inner index less 1 in bits 0 to 3
abbrev pub entry_size : List ℕ → ℕ → ℕ
entry_size table map = byte table (map + 1) / 16 % 4 + 1

abbrev pub inner_bits : List ℕ → ℕ → ℕ
inner_bits table map = byte table (map + 1) % 16 + 1

-- glyphs past the entries have the last one
abbrev pub entry_number : ℕ → ℕ → ℕ
entry_number count glyph = if nat_lt glyph count then glyph else count - 1

abbrev pub entry_of : List ℕ → ℕ → ℕ → ℕ
entry_of table map glyph =
    number table (first_entry table map + entry_size table map * entry_number (entry_count table map) glyph) (entry_size table map)

abbrev pub index_in : ℕ → ℕ → DeltaSetIndex
index_in bits entry = record { outer = entry / 2 ^ bits; inner = entry % 2 ^ bits }

-- without a map a glyph's own number is the inner index
abbrev pub index_of_glyph : ℕ → DeltaSetIndex
index_of_glyph glyph = record { outer = 0; inner = glyph }

-- whether the offset is that of a map with entries
abbrev pub has_no_map : List ℕ → ℕ → Bool
has_no_map table map = (map == 0) || (entry_count table map == 0)

-- the indexes of a glyph by the map at an offset
abbrev pub index_of : List ℕ → ℕ → ℕ → DeltaSetIndex
index_of table map glyph =
    if has_no_map table map then index_of_glyph glyph else index_in (inner_bits table map) (entry_of table map glyph)

-- worked values: entries of a byte with 4 bits of inner index, after one byte that is no map's
abbrev bytes_map : List ℕ
bytes_map = 9 ∷ 0 ∷ 0x03 ∷ 0 ∷ 2 ∷ 0x31 ∷ 0x05 ∷ []

by_bytes : map (index_of bytes_map 1) (0 ∷ 1 ∷ 2 ∷ 65535 ∷ [])
    ≡ record { outer = 3; inner = 1 } ∷ record { outer = 0; inner = 5 } ∷ record { outer = 0; inner = 5 } ∷ record { outer = 0; inner = 5 } ∷ []
unfolding number
by_bytes = refl

-- a map of format 1 with entries of three bytes and 16 bits of inner index
by_longs : map (index_of (1 ∷ 0x2F ∷ 0 ∷ 0 ∷ 0 ∷ 1 ∷ 2 ∷ 1 ∷ 0 ∷ []) 0) (7 ∷ []) ≡ record { outer = 0; inner = 7 } ∷ []
unfolding number
by_longs = refl

by_three_bytes : index_of (9 ∷ 1 ∷ 0x2F ∷ 0 ∷ 0 ∷ 0 ∷ 1 ∷ 2 ∷ 1 ∷ 0 ∷ []) 1 7 ≡ record { outer = 2; inner = 256 }
unfolding number
by_three_bytes = refl

without_entries : index_of (9 ∷ 0 ∷ 0x03 ∷ 0 ∷ 0 ∷ []) 1 2 ≡ record { outer = 0; inner = 2 }
unfolding number
without_entries = refl

of_another_format : index_of (9 ∷ 2 ∷ 0x03 ∷ 0 ∷ 1 ∷ 0x31 ∷ []) 1 2 ≡ record { outer = 0; inner = 2 }
unfolding number
of_another_format = refl

-- an entry that isn't there is 0
entry_cut_short : index_of (9 ∷ 0 ∷ 0x03 ∷ 0 ∷ 2 ∷ 0x31 ∷ []) 1 1 ≡ record { outer = 0; inner = 0 }
unfolding number
entry_cut_short = refl
