-- Worked values: whole tables of character maps, read by the wide reading in a font of three glyphs. OpenType, "cmap".
-- Each is built by hand.
use Rattle.std.specs.Prelude.{◌≡◌, refl, ℕ, List, [], ◌∷◌, map, Result, Ok, Err, true}
use Rattle.tt_core.specs.declared.fault.Why.TheVariants as why
use Rattle.tt_core.specs.Faults.{Fault}
use Rattle.tt_core.specs.Outcomes.{◌>>=◌}
use Rattle.tt_cmap.specs.Format12.{groups_at}
use Rattle.tt_cmap.specs.Format4.{segments_at}
use Rattle.tt_cmap.specs.Halves.{reached_within}
use Rattle.tt_cmap.specs.Lists.{list_at}
use Rattle.tt_cmap.specs.Roman.{high_byte}
use Rattle.tt_cmap.specs.Subtables.{cmap_fault, records_of}
use Rattle.tt_cmap.specs.Units.{units}
use Rattle.tt_cmap.specs.Variations.{variation}
use Rattle.tt_cmap.specs.WideLookup.{wide_cmap_of, wide_glyph_of, wide_glyph_of_unit}

-- the glyphs of characters, or the table's first fault
abbrev glyphs_by : List ℕ → List ℕ → Result (List ℕ) Fault
glyphs_by table cs = wide_cmap_of table 3 >>= λ m. Ok (map (wide_glyph_of m) cs)

-- the glyphs of a text's units
abbrev text_by : List ℕ → List ℕ → Result (List ℕ) Fault
text_by table cs = wide_cmap_of table 3 >>= λ m. Ok (map (wide_glyph_of_unit m) (units true cs))

-- format 6 for platform 3, encoding 1
abbrev trimmed_letters_table : List ℕ
trimmed_letters_table =
    0 ∷ 0 ∷ 0 ∷ 1 ∷ 0 ∷ 3 ∷ 0 ∷ 1 ∷ 0 ∷ 0 ∷ 0 ∷ 12 ∷ 0 ∷ 6 ∷ 0 ∷ 14 ∷ 0 ∷ 0 ∷ 0 ∷ 65 ∷ 0 ∷ 2 ∷ 0 ∷ 1 ∷ 0 ∷ 2 ∷ []

trimmed_letters : glyphs_by trimmed_letters_table (0x41 ∷ 0x42 ∷ 0x40 ∷ 0x43 ∷ []) ≡ Ok (1 ∷ 2 ∷ 0 ∷ 0 ∷ [])
unfolding wide_cmap_of records_of list_at segments_at groups_at reached_within high_byte variation
trimmed_letters = refl

-- format 0 for platform 0
abbrev byte_encoding_table : List ℕ
byte_encoding_table =
    0 ∷ 0 ∷ 0 ∷ 1 ∷ 0 ∷ 0 ∷ 0 ∷ 3 ∷ 0 ∷ 0 ∷ 0 ∷ 12 ∷ 0 ∷ 0 ∷ 1 ∷ 6 ∷ 0 ∷ 0 ∷ 0 ∷ 0 ∷ 0 ∷ 0 ∷ 0 ∷ 0 ∷ 0 ∷ 0 ∷ 0 ∷
    0 ∷ 0 ∷ 0 ∷ 0 ∷ 0 ∷ 0 ∷ 0 ∷ 0 ∷ 0 ∷ 0 ∷ 0 ∷ 0 ∷ 0 ∷ 0 ∷ 0 ∷ 0 ∷ 0 ∷ 0 ∷ 0 ∷ 0 ∷ 0 ∷ 0 ∷ 0 ∷ 0 ∷ 0 ∷ 0 ∷ 0 ∷ 0 ∷
    0 ∷ 0 ∷ 0 ∷ 0 ∷ 0 ∷ 0 ∷ 0 ∷ 0 ∷ 0 ∷ 0 ∷ 0 ∷ 0 ∷ 0 ∷ 0 ∷ 0 ∷ 0 ∷ 0 ∷ 0 ∷ 0 ∷ 0 ∷ 0 ∷ 0 ∷ 0 ∷ 0 ∷ 0 ∷ 0 ∷ 0 ∷ 0 ∷
    1 ∷ 2 ∷ 0 ∷ 0 ∷ 0 ∷ 0 ∷ 0 ∷ 0 ∷ 0 ∷ 0 ∷ 0 ∷ 0 ∷ 0 ∷ 0 ∷ 0 ∷ 0 ∷ 0 ∷ 0 ∷ 0 ∷ 0 ∷ 0 ∷ 0 ∷ 0 ∷ 0 ∷ 0 ∷ 0 ∷ 0 ∷ 0 ∷
    0 ∷ 0 ∷ 0 ∷ 0 ∷ 0 ∷ 0 ∷ 0 ∷ 0 ∷ 0 ∷ 0 ∷ 0 ∷ 0 ∷ 0 ∷ 0 ∷ 0 ∷ 0 ∷ 0 ∷ 0 ∷ 0 ∷ 0 ∷ 0 ∷ 0 ∷ 0 ∷ 0 ∷ 0 ∷ 0 ∷ 0 ∷ 0 ∷
    0 ∷ 0 ∷ 0 ∷ 0 ∷ 0 ∷ 0 ∷ 0 ∷ 1 ∷ 0 ∷ 0 ∷ 0 ∷ 0 ∷ 0 ∷ 0 ∷ 0 ∷ 0 ∷ 0 ∷ 0 ∷ 0 ∷ 0 ∷ 0 ∷ 0 ∷ 0 ∷ 0 ∷ 0 ∷ 0 ∷ 0 ∷ 0 ∷
    0 ∷ 0 ∷ 0 ∷ 0 ∷ 0 ∷ 0 ∷ 0 ∷ 0 ∷ 0 ∷ 0 ∷ 0 ∷ 0 ∷ 0 ∷ 0 ∷ 0 ∷ 0 ∷ 0 ∷ 0 ∷ 0 ∷ 0 ∷ 0 ∷ 0 ∷ 0 ∷ 0 ∷ 0 ∷ 0 ∷ 0 ∷ 0 ∷
    0 ∷ 0 ∷ 0 ∷ 0 ∷ 0 ∷ 0 ∷ 0 ∷ 0 ∷ 0 ∷ 0 ∷ 0 ∷ 0 ∷ 0 ∷ 0 ∷ 0 ∷ 0 ∷ 0 ∷ 0 ∷ 0 ∷ 0 ∷ 0 ∷ 0 ∷ 0 ∷ 0 ∷ 0 ∷ 0 ∷ 0 ∷ 0 ∷
    0 ∷ 0 ∷ 0 ∷ 0 ∷ 0 ∷ 0 ∷ 0 ∷ 0 ∷ 0 ∷ 0 ∷ 0 ∷ 0 ∷ 0 ∷ 0 ∷ 0 ∷ 0 ∷ 0 ∷ 0 ∷ 0 ∷ 0 ∷ 0 ∷ 0 ∷ 0 ∷ 0 ∷ 0 ∷ 0 ∷ 0 ∷ 0 ∷
    0 ∷ 0 ∷ 0 ∷ 0 ∷ 0 ∷ 0 ∷ 0 ∷ 0 ∷ 0 ∷ 0 ∷ 0 ∷ 0 ∷ 0 ∷ 0 ∷ 0 ∷ 0 ∷ 0 ∷ 0 ∷ 0 ∷ 0 ∷ 0 ∷ 0 ∷ 0 ∷ []

byte_encoding : glyphs_by byte_encoding_table (0x41 ∷ 0x42 ∷ 0x80 ∷ 0x141 ∷ []) ≡ Ok (1 ∷ 2 ∷ 1 ∷ 0 ∷ [])
unfolding wide_cmap_of records_of list_at segments_at groups_at reached_within high_byte variation
byte_encoding = refl

-- format 10 for platform 3, encoding 10
abbrev trimmed_faces_table : List ℕ
trimmed_faces_table =
    0 ∷ 0 ∷ 0 ∷ 1 ∷ 0 ∷ 3 ∷ 0 ∷ 10 ∷ 0 ∷ 0 ∷ 0 ∷ 12 ∷ 0 ∷ 10 ∷ 0 ∷ 0 ∷ 0 ∷ 0 ∷ 0 ∷ 24 ∷ 0 ∷ 0 ∷ 0 ∷ 0 ∷ 0 ∷ 1 ∷
    246 ∷ 0 ∷ 0 ∷ 0 ∷ 0 ∷ 2 ∷ 0 ∷ 1 ∷ 0 ∷ 2 ∷ []

trimmed_faces : glyphs_by trimmed_faces_table (0x1F600 ∷ 0x1F601 ∷ 0x1F602 ∷ 0x41 ∷ []) ≡ Ok (1 ∷ 2 ∷ 0 ∷ 0 ∷ [])
unfolding wide_cmap_of records_of list_at segments_at groups_at reached_within high_byte variation
trimmed_faces = refl

-- format 13 for platform 3, encoding 10
abbrev shared_letters_table : List ℕ
shared_letters_table =
    0 ∷ 0 ∷ 0 ∷ 1 ∷ 0 ∷ 3 ∷ 0 ∷ 10 ∷ 0 ∷ 0 ∷ 0 ∷ 12 ∷ 0 ∷ 13 ∷ 0 ∷ 0 ∷ 0 ∷ 0 ∷ 0 ∷ 28 ∷ 0 ∷ 0 ∷ 0 ∷ 0 ∷ 0 ∷ 0 ∷ 0 ∷
    1 ∷ 0 ∷ 0 ∷ 0 ∷ 65 ∷ 0 ∷ 0 ∷ 0 ∷ 90 ∷ 0 ∷ 0 ∷ 0 ∷ 2 ∷ []

shared_letters : glyphs_by shared_letters_table (0x41 ∷ 0x5A ∷ 0x5B ∷ []) ≡ Ok (2 ∷ 2 ∷ 0 ∷ [])
unfolding wide_cmap_of records_of list_at segments_at groups_at reached_within high_byte variation
shared_letters = refl

-- format 12 for platform 3, encoding 1
abbrev groups_of_basic_table : List ℕ
groups_of_basic_table =
    0 ∷ 0 ∷ 0 ∷ 1 ∷ 0 ∷ 3 ∷ 0 ∷ 1 ∷ 0 ∷ 0 ∷ 0 ∷ 12 ∷ 0 ∷ 12 ∷ 0 ∷ 0 ∷ 0 ∷ 0 ∷ 0 ∷ 28 ∷ 0 ∷ 0 ∷ 0 ∷ 0 ∷ 0 ∷ 0 ∷ 0 ∷
    1 ∷ 0 ∷ 0 ∷ 0 ∷ 65 ∷ 0 ∷ 0 ∷ 0 ∷ 66 ∷ 0 ∷ 0 ∷ 0 ∷ 1 ∷ []

groups_of_basic : glyphs_by groups_of_basic_table (0x41 ∷ 0x42 ∷ []) ≡ Ok (1 ∷ 2 ∷ [])
unfolding wide_cmap_of records_of list_at segments_at groups_at reached_within high_byte variation
groups_of_basic = refl

-- format 4 for platform 3, encoding 0: F041 and F042
abbrev symbols_table : List ℕ
symbols_table =
    0 ∷ 0 ∷ 0 ∷ 1 ∷ 0 ∷ 3 ∷ 0 ∷ 0 ∷ 0 ∷ 0 ∷ 0 ∷ 12 ∷ 0 ∷ 4 ∷ 0 ∷ 32 ∷ 0 ∷ 0 ∷ 0 ∷ 4 ∷ 0 ∷ 4 ∷ 0 ∷ 1 ∷ 0 ∷ 0 ∷ 240 ∷
    66 ∷ 255 ∷ 255 ∷ 0 ∷ 0 ∷ 240 ∷ 65 ∷ 255 ∷ 255 ∷ 15 ∷ 192 ∷ 0 ∷ 1 ∷ 0 ∷ 0 ∷ 0 ∷ 0 ∷ []

symbols : glyphs_by symbols_table (0x41 ∷ 0x42 ∷ 0xF041 ∷ 0x141 ∷ []) ≡ Ok (1 ∷ 2 ∷ 1 ∷ 0 ∷ [])
unfolding wide_cmap_of records_of list_at segments_at groups_at reached_within high_byte variation
symbols = refl

-- format 6 for platform 1: bytes 80 and 81
abbrev roman_letters_table : List ℕ
roman_letters_table =
    0 ∷ 0 ∷ 0 ∷ 1 ∷ 0 ∷ 1 ∷ 0 ∷ 0 ∷ 0 ∷ 0 ∷ 0 ∷ 12 ∷ 0 ∷ 6 ∷ 0 ∷ 14 ∷ 0 ∷ 0 ∷ 0 ∷ 128 ∷ 0 ∷ 2 ∷ 0 ∷ 1 ∷ 0 ∷ 2 ∷ []

roman_letters : glyphs_by roman_letters_table (0xC4 ∷ 0xC5 ∷ 0xC7 ∷ 0x41 ∷ 0x80 ∷ []) ≡ Ok (1 ∷ 2 ∷ 0 ∷ 0 ∷ 0 ∷ [])
unfolding wide_cmap_of records_of list_at segments_at groups_at reached_within high_byte variation
roman_letters = refl

-- format 4 whose ends fall, 0042 and 0041
abbrev falling_ends_table : List ℕ
falling_ends_table =
    0 ∷ 0 ∷ 0 ∷ 1 ∷ 0 ∷ 3 ∷ 0 ∷ 1 ∷ 0 ∷ 0 ∷ 0 ∷ 12 ∷ 0 ∷ 4 ∷ 0 ∷ 32 ∷ 0 ∷ 0 ∷ 0 ∷ 4 ∷ 0 ∷ 4 ∷ 0 ∷ 1 ∷ 0 ∷ 0 ∷ 0 ∷
    66 ∷ 0 ∷ 65 ∷ 0 ∷ 0 ∷ 0 ∷ 65 ∷ 255 ∷ 255 ∷ 255 ∷ 192 ∷ 0 ∷ 1 ∷ 0 ∷ 0 ∷ 0 ∷ 0 ∷ []

falling_ends : glyphs_by falling_ends_table (0x41 ∷ 0x42 ∷ []) ≡ Ok (1 ∷ 0 ∷ [])
unfolding wide_cmap_of records_of list_at segments_at groups_at reached_within high_byte variation
falling_ends = refl

-- Roman in format 6, then symbols in format 4
abbrev symbols_before_roman_table : List ℕ
symbols_before_roman_table =
    0 ∷ 0 ∷ 0 ∷ 2 ∷ 0 ∷ 1 ∷ 0 ∷ 0 ∷ 0 ∷ 0 ∷ 0 ∷ 20 ∷ 0 ∷ 3 ∷ 0 ∷ 0 ∷ 0 ∷ 0 ∷ 0 ∷ 34 ∷ 0 ∷ 6 ∷ 0 ∷ 14 ∷ 0 ∷ 0 ∷ 0 ∷
    65 ∷ 0 ∷ 2 ∷ 0 ∷ 1 ∷ 0 ∷ 2 ∷ 0 ∷ 4 ∷ 0 ∷ 32 ∷ 0 ∷ 0 ∷ 0 ∷ 4 ∷ 0 ∷ 4 ∷ 0 ∷ 1 ∷ 0 ∷ 0 ∷ 240 ∷ 66 ∷ 255 ∷ 255 ∷
    0 ∷ 0 ∷ 240 ∷ 65 ∷ 255 ∷ 255 ∷ 15 ∷ 191 ∷ 0 ∷ 1 ∷ 0 ∷ 0 ∷ 0 ∷ 0 ∷ []

symbols_before_roman : glyphs_by symbols_before_roman_table (0x41 ∷ 0x42 ∷ []) ≡ Ok (0 ∷ 1 ∷ [])
unfolding wide_cmap_of records_of list_at segments_at groups_at reached_within high_byte variation
symbols_before_roman = refl

-- format 4 for encoding 1, then format 13 for encoding 10: the choice of the strict reading
abbrev segments_stay_table : List ℕ
segments_stay_table =
    0 ∷ 0 ∷ 0 ∷ 2 ∷ 0 ∷ 3 ∷ 0 ∷ 1 ∷ 0 ∷ 0 ∷ 0 ∷ 20 ∷ 0 ∷ 3 ∷ 0 ∷ 10 ∷ 0 ∷ 0 ∷ 0 ∷ 52 ∷ 0 ∷ 4 ∷ 0 ∷ 32 ∷ 0 ∷ 0 ∷ 0 ∷
    4 ∷ 0 ∷ 4 ∷ 0 ∷ 1 ∷ 0 ∷ 0 ∷ 0 ∷ 66 ∷ 255 ∷ 255 ∷ 0 ∷ 0 ∷ 0 ∷ 65 ∷ 255 ∷ 255 ∷ 255 ∷ 192 ∷ 0 ∷ 1 ∷ 0 ∷ 0 ∷ 0 ∷
    0 ∷ 0 ∷ 13 ∷ 0 ∷ 0 ∷ 0 ∷ 0 ∷ 0 ∷ 28 ∷ 0 ∷ 0 ∷ 0 ∷ 0 ∷ 0 ∷ 0 ∷ 0 ∷ 1 ∷ 0 ∷ 0 ∷ 0 ∷ 65 ∷ 0 ∷ 0 ∷ 0 ∷ 90 ∷ 0 ∷ 0 ∷
    0 ∷ 2 ∷ []

segments_stay : glyphs_by segments_stay_table (0x41 ∷ 0x42 ∷ 0x5A ∷ []) ≡ Ok (1 ∷ 2 ∷ 0 ∷ [])
unfolding wide_cmap_of records_of list_at segments_at groups_at reached_within high_byte variation
segments_stay = refl

-- platform 1, encoding 1
abbrev no_cmap_table : List ℕ
no_cmap_table =
    0 ∷ 0 ∷ 0 ∷ 1 ∷ 0 ∷ 1 ∷ 0 ∷ 1 ∷ 0 ∷ 0 ∷ 0 ∷ 12 ∷ 0 ∷ 4 ∷ 0 ∷ 32 ∷ 0 ∷ 0 ∷ 0 ∷ 4 ∷ 0 ∷ 4 ∷ 0 ∷ 1 ∷ 0 ∷ 0 ∷ 0 ∷
    66 ∷ 255 ∷ 255 ∷ 0 ∷ 0 ∷ 0 ∷ 65 ∷ 255 ∷ 255 ∷ 255 ∷ 192 ∷ 0 ∷ 1 ∷ 0 ∷ 0 ∷ 0 ∷ 0 ∷ []

no_cmap : glyphs_by no_cmap_table (65 ∷ []) ≡ Err (cmap_fault 0 why.NoCmap)
unfolding wide_cmap_of records_of list_at segments_at groups_at reached_within high_byte variation
no_cmap = refl

-- a count of 3 with two glyphs
abbrev one_word_short_table : List ℕ
one_word_short_table =
    0 ∷ 0 ∷ 0 ∷ 1 ∷ 0 ∷ 3 ∷ 0 ∷ 1 ∷ 0 ∷ 0 ∷ 0 ∷ 12 ∷ 0 ∷ 6 ∷ 0 ∷ 14 ∷ 0 ∷ 0 ∷ 0 ∷ 65 ∷ 0 ∷ 3 ∷ 0 ∷ 1 ∷ 0 ∷ 2 ∷ []

one_word_short : glyphs_by one_word_short_table (65 ∷ []) ≡ Err (cmap_fault 12 why.CmapShape)
unfolding wide_cmap_of records_of list_at segments_at groups_at reached_within high_byte variation
one_word_short = refl

-- 255 glyphs of format 0
abbrev one_byte_short_table : List ℕ
one_byte_short_table =
    0 ∷ 0 ∷ 0 ∷ 1 ∷ 0 ∷ 0 ∷ 0 ∷ 3 ∷ 0 ∷ 0 ∷ 0 ∷ 12 ∷ 0 ∷ 0 ∷ 1 ∷ 6 ∷ 0 ∷ 0 ∷ 0 ∷ 0 ∷ 0 ∷ 0 ∷ 0 ∷ 0 ∷ 0 ∷ 0 ∷ 0 ∷
    0 ∷ 0 ∷ 0 ∷ 0 ∷ 0 ∷ 0 ∷ 0 ∷ 0 ∷ 0 ∷ 0 ∷ 0 ∷ 0 ∷ 0 ∷ 0 ∷ 0 ∷ 0 ∷ 0 ∷ 0 ∷ 0 ∷ 0 ∷ 0 ∷ 0 ∷ 0 ∷ 0 ∷ 0 ∷ 0 ∷ 0 ∷ 0 ∷
    0 ∷ 0 ∷ 0 ∷ 0 ∷ 0 ∷ 0 ∷ 0 ∷ 0 ∷ 0 ∷ 0 ∷ 0 ∷ 0 ∷ 0 ∷ 0 ∷ 0 ∷ 0 ∷ 0 ∷ 0 ∷ 0 ∷ 0 ∷ 0 ∷ 0 ∷ 0 ∷ 0 ∷ 0 ∷ 0 ∷ 0 ∷ 0 ∷
    1 ∷ 2 ∷ 0 ∷ 0 ∷ 0 ∷ 0 ∷ 0 ∷ 0 ∷ 0 ∷ 0 ∷ 0 ∷ 0 ∷ 0 ∷ 0 ∷ 0 ∷ 0 ∷ 0 ∷ 0 ∷ 0 ∷ 0 ∷ 0 ∷ 0 ∷ 0 ∷ 0 ∷ 0 ∷ 0 ∷ 0 ∷ 0 ∷
    0 ∷ 0 ∷ 0 ∷ 0 ∷ 0 ∷ 0 ∷ 0 ∷ 0 ∷ 0 ∷ 0 ∷ 0 ∷ 0 ∷ 0 ∷ 0 ∷ 0 ∷ 0 ∷ 0 ∷ 0 ∷ 0 ∷ 0 ∷ 0 ∷ 0 ∷ 0 ∷ 0 ∷ 0 ∷ 0 ∷ 0 ∷ 0 ∷
    0 ∷ 0 ∷ 0 ∷ 0 ∷ 0 ∷ 0 ∷ 0 ∷ 1 ∷ 0 ∷ 0 ∷ 0 ∷ 0 ∷ 0 ∷ 0 ∷ 0 ∷ 0 ∷ 0 ∷ 0 ∷ 0 ∷ 0 ∷ 0 ∷ 0 ∷ 0 ∷ 0 ∷ 0 ∷ 0 ∷ 0 ∷ 0 ∷
    0 ∷ 0 ∷ 0 ∷ 0 ∷ 0 ∷ 0 ∷ 0 ∷ 0 ∷ 0 ∷ 0 ∷ 0 ∷ 0 ∷ 0 ∷ 0 ∷ 0 ∷ 0 ∷ 0 ∷ 0 ∷ 0 ∷ 0 ∷ 0 ∷ 0 ∷ 0 ∷ 0 ∷ 0 ∷ 0 ∷ 0 ∷ 0 ∷
    0 ∷ 0 ∷ 0 ∷ 0 ∷ 0 ∷ 0 ∷ 0 ∷ 0 ∷ 0 ∷ 0 ∷ 0 ∷ 0 ∷ 0 ∷ 0 ∷ 0 ∷ 0 ∷ 0 ∷ 0 ∷ 0 ∷ 0 ∷ 0 ∷ 0 ∷ 0 ∷ 0 ∷ 0 ∷ 0 ∷ 0 ∷ 0 ∷
    0 ∷ 0 ∷ 0 ∷ 0 ∷ 0 ∷ 0 ∷ 0 ∷ 0 ∷ 0 ∷ 0 ∷ 0 ∷ 0 ∷ 0 ∷ 0 ∷ 0 ∷ 0 ∷ 0 ∷ 0 ∷ 0 ∷ 0 ∷ 0 ∷ 0 ∷ 0 ∷ 0 ∷ 0 ∷ 0 ∷ 0 ∷ 0 ∷
    0 ∷ 0 ∷ 0 ∷ 0 ∷ 0 ∷ 0 ∷ 0 ∷ 0 ∷ 0 ∷ 0 ∷ 0 ∷ 0 ∷ 0 ∷ 0 ∷ 0 ∷ 0 ∷ 0 ∷ 0 ∷ 0 ∷ 0 ∷ 0 ∷ 0 ∷ []

one_byte_short : glyphs_by one_byte_short_table (65 ∷ []) ≡ Err (cmap_fault 12 why.CmapShape)
unfolding wide_cmap_of records_of list_at segments_at groups_at reached_within high_byte variation
one_byte_short = refl

-- a count of 2 with one group
abbrev one_group_short_table : List ℕ
one_group_short_table =
    0 ∷ 0 ∷ 0 ∷ 1 ∷ 0 ∷ 3 ∷ 0 ∷ 10 ∷ 0 ∷ 0 ∷ 0 ∷ 12 ∷ 0 ∷ 13 ∷ 0 ∷ 0 ∷ 0 ∷ 0 ∷ 0 ∷ 28 ∷ 0 ∷ 0 ∷ 0 ∷ 0 ∷ 0 ∷ 0 ∷ 0 ∷
    2 ∷ 0 ∷ 0 ∷ 0 ∷ 65 ∷ 0 ∷ 0 ∷ 0 ∷ 90 ∷ 0 ∷ 0 ∷ 0 ∷ 2 ∷ []

one_group_short : glyphs_by one_group_short_table (65 ∷ []) ≡ Err (cmap_fault 12 why.CmapShape)
unfolding wide_cmap_of records_of list_at segments_at groups_at reached_within high_byte variation
one_group_short = refl

-- variation sequences: FE00 has 0041 and one more as default, FE01 has glyph 1 for 0042
abbrev sequences_table : List ℕ
sequences_table =
    0 ∷ 0 ∷ 0 ∷ 2 ∷ 0 ∷ 0 ∷ 0 ∷ 5 ∷ 0 ∷ 0 ∷ 0 ∷ 20 ∷ 0 ∷ 3 ∷ 0 ∷ 1 ∷ 0 ∷ 0 ∷ 0 ∷ 75 ∷ 0 ∷ 14 ∷ 0 ∷ 0 ∷ 0 ∷ 55 ∷ 0 ∷
    0 ∷ 0 ∷ 2 ∷ 0 ∷ 254 ∷ 0 ∷ 0 ∷ 0 ∷ 0 ∷ 32 ∷ 0 ∷ 0 ∷ 0 ∷ 0 ∷ 0 ∷ 254 ∷ 1 ∷ 0 ∷ 0 ∷ 0 ∷ 40 ∷ 0 ∷ 0 ∷ 0 ∷ 46 ∷ 0 ∷
    0 ∷ 0 ∷ 1 ∷ 0 ∷ 0 ∷ 65 ∷ 1 ∷ 0 ∷ 0 ∷ 0 ∷ 0 ∷ 0 ∷ 0 ∷ 0 ∷ 0 ∷ 0 ∷ 1 ∷ 0 ∷ 0 ∷ 66 ∷ 0 ∷ 1 ∷ 0 ∷ 4 ∷ 0 ∷ 32 ∷ 0 ∷
    0 ∷ 0 ∷ 4 ∷ 0 ∷ 4 ∷ 0 ∷ 1 ∷ 0 ∷ 0 ∷ 0 ∷ 66 ∷ 255 ∷ 255 ∷ 0 ∷ 0 ∷ 0 ∷ 65 ∷ 255 ∷ 255 ∷ 255 ∷ 192 ∷ 0 ∷ 1 ∷ 0 ∷
    0 ∷ 0 ∷ 0 ∷ []

pairs : map (text_by sequences_table) (
    (0x41 ∷ 0xFE00 ∷ []) ∷ (0x42 ∷ 0xFE01 ∷ []) ∷ (0x42 ∷ 0xFE00 ∷ []) ∷ (0x41 ∷ 0xFE05 ∷ 0x42 ∷ [])
    ∷ (0xFE00 ∷ 0x41 ∷ 0xFE01 ∷ 0xFE01 ∷ 0x42 ∷ []) ∷ (0xFE00 ∷ []) ∷ []
    ) ≡ Ok (1 ∷ []) ∷ Ok (1 ∷ []) ∷ Ok (2 ∷ []) ∷ Ok (1 ∷ 2 ∷ []) ∷ Ok (1 ∷ 2 ∷ []) ∷ Ok [] ∷ []
unfolding wide_cmap_of records_of list_at segments_at groups_at reached_within high_byte variation
pairs = refl
