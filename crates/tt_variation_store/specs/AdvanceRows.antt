-- Worked values: advances by whole tables HVAR. Each table is built by hand. FreeType 2.12.1 read most of them in fonts, and
-- had other advances where this file says so.
use Rattle.std.specs.Prelude.{◌≡◌, refl, ℕ, List, [], ◌∷◌, ◌++◌, map, take, Option, Some, None, option_map, ℤ, pos, negsuc}
use Rattle.tt_axes.specs.Shares.{share_of_region_axis}
use Rattle.tt_variation_store.specs.Deltas.{fine_delta}
use Rattle.tt_variation_store.specs.Hvar.{hvar_of, advance_of}
use Rattle.tt_variation_store.specs.Numbers.{number}

-- the header with the low byte of the map's offset; the store is at 20
abbrev header : ℕ → List ℕ
header map = 0 ∷ 1 ∷ 0 ∷ 0 ∷ 0 ∷ 0 ∷ 0 ∷ 20 ∷ 0 ∷ 0 ∷ 0 ∷ map ∷ 0 ∷ 0 ∷ 0 ∷ 0 ∷ 0 ∷ 0 ∷ 0 ∷ 0 ∷ []

-- a store by its count of axes, with one region and item variation data
abbrev store : ℕ → List ℕ → List ℕ → List ℕ
store axes region rows =
    0 ∷ 1 ∷ 0 ∷ 0 ∷ 0 ∷ 12 ∷ 0 ∷ 1 ∷ 0 ∷ 0 ∷ 0 ∷ 22 ∷ 0 ∷ axes ∷ 0 ∷ 1 ∷ (region ++ rows)

-- from 0 to 1, with the peak at 1
abbrev to_1 : List ℕ
to_1 = 0 ∷ 0 ∷ 0x40 ∷ 0 ∷ 0x40 ∷ 0 ∷ []

-- rows of a byte for region 0, by their count
abbrev bytes : ℕ → List ℕ → List ℕ
bytes count rows = 0 ∷ count ∷ 0 ∷ 0 ∷ 0 ∷ 1 ∷ 0 ∷ 0 ∷ rows

abbrev hvar : List ℕ → List ℕ
hvar rows = header 0 ++ store 1 to_1 rows

abbrev with_map : List ℕ → List ℕ
with_map index_map = header 0x34 ++ store 1 to_1 (bytes 2 (0x20 ∷ 0xF0 ∷ [])) ++ index_map

-- the advances of glyphs 1 and 2, which hmtx says are 256, at a coordinate
abbrev advances : List ℕ → ℤ → List (Option ℕ)
advances table c = map (λ g. option_map (λ s. advance_of s g 256 (c ∷ [])) (hvar_of table 1)) (1 ∷ 2 ∷ [])

at_the_end : advances (hvar (bytes 3 (0 ∷ 0x20 ∷ 0xF0 ∷ []))) (pos 65536) ≡ Some 288 ∷ Some 240 ∷ []
unfolding number fine_delta share_of_region_axis
at_the_end = refl

-- 33 and -33 by half: a half goes up
half_of_it : advances (hvar (bytes 3 (0 ∷ 0x21 ∷ 0xDF ∷ []))) (pos 32768) ≡ Some 273 ∷ Some 240 ∷ []
unfolding number fine_delta share_of_region_axis
half_of_it = refl

at_the_default : advances (hvar (bytes 3 (0 ∷ 0x20 ∷ 0xF0 ∷ []))) (pos 0) ≡ Some 256 ∷ Some 256 ∷ []
unfolding number fine_delta share_of_region_axis
at_the_default = refl

-- numbers of two bytes: 512, and -300, which leads below 0
words : advances (hvar (0 ∷ 3 ∷ 0 ∷ 1 ∷ 0 ∷ 1 ∷ 0 ∷ 0 ∷ 0 ∷ 0 ∷ 2 ∷ 0 ∷ 0xFE ∷ 0xD4 ∷ [])) (pos 65536) ≡ Some 768 ∷ Some 0 ∷ []
unfolding number fine_delta share_of_region_axis
words = refl

-- four bytes each, which FreeType does not read
long_words : advances (hvar (0 ∷ 3 ∷ 0x80 ∷ 1 ∷ 0 ∷ 1 ∷ 0 ∷ 0 ∷ 0 ∷ 0 ∷ 0 ∷ 0 ∷ 0 ∷ 0 ∷ 2 ∷ 0 ∷ 0xFF ∷ 0xFF ∷ 0xFE ∷ 0xD4 ∷ []))
    (pos 65536) ≡ Some 768 ∷ Some 0 ∷ []
unfolding number fine_delta share_of_region_axis
long_words = refl

-- maps of glyphs: of bytes, with a last entry that goes on, of words, of format 1, and without entries
map_of_bytes : advances (with_map (0 ∷ 0 ∷ 0 ∷ 3 ∷ 0 ∷ 1 ∷ 0 ∷ [])) (pos 65536) ≡ Some 240 ∷ Some 288 ∷ []
unfolding number fine_delta share_of_region_axis
map_of_bytes = refl

the_last_entry_goes_on : advances (with_map (0 ∷ 0 ∷ 0 ∷ 2 ∷ 0 ∷ 1 ∷ [])) (pos 65536) ≡ Some 240 ∷ Some 240 ∷ []
unfolding number fine_delta share_of_region_axis
the_last_entry_goes_on = refl

map_of_words : advances (with_map (0 ∷ 0x13 ∷ 0 ∷ 3 ∷ 0 ∷ 0 ∷ 0 ∷ 1 ∷ 0 ∷ 0 ∷ [])) (pos 65536) ≡ Some 240 ∷ Some 288 ∷ []
unfolding number fine_delta share_of_region_axis
map_of_words = refl

map_of_format_1 : advances (with_map (1 ∷ 3 ∷ 0 ∷ 0 ∷ 0 ∷ 3 ∷ 0 ∷ 1 ∷ 0 ∷ [])) (pos 65536) ≡ Some 240 ∷ Some 288 ∷ []
unfolding number fine_delta share_of_region_axis
map_of_format_1 = refl

map_without_entries : advances (header 0x35 ++ store 1 to_1 (bytes 3 (0 ∷ 0x20 ∷ 0xF0 ∷ [])) ++ (0 ∷ 3 ∷ 0 ∷ 0 ∷ [])) (pos 65536)
    ≡ Some 288 ∷ Some 240 ∷ []
unfolding number fine_delta share_of_region_axis
map_without_entries = refl

-- no such item variation data; FreeType has 320
to_other_data : advances (with_map (0 ∷ 3 ∷ 0 ∷ 3 ∷ 0 ∷ 0x31 ∷ 0 ∷ [])) (pos 65536) ≡ Some 256 ∷ Some 288 ∷ []
unfolding number fine_delta share_of_region_axis
to_other_data = refl

-- two regions, the second from -1 to 0; two item variation data
abbrev two_data : List ℕ
two_data =
    header 0x4B ++ (0 ∷ 1 ∷ 0 ∷ 0 ∷ 0 ∷ 16 ∷ 0 ∷ 2 ∷ 0 ∷ 0 ∷ 0 ∷ 32 ∷ 0 ∷ 0 ∷ 0 ∷ 41 ∷ 0 ∷ 1 ∷ 0 ∷ 2 ∷ to_1)
    ++ (0xC0 ∷ 0 ∷ 0xC0 ∷ 0 ∷ 0 ∷ 0 ∷ 0 ∷ 1 ∷ 0 ∷ 0 ∷ 0 ∷ 1 ∷ 0 ∷ 0 ∷ 0x20 ∷ [])
    ++ (0 ∷ 2 ∷ 0 ∷ 0 ∷ 0 ∷ 2 ∷ 0 ∷ 0 ∷ 0 ∷ 1 ∷ 8 ∷ 0x63 ∷ 0x10 ∷ 0x63 ∷ 0 ∷ 3 ∷ 0 ∷ 3 ∷ 0 ∷ 0x11 ∷ 0x10 ∷ [])

of_two_data : advances two_data (pos 65536) ≡ Some 272 ∷ Some 264 ∷ []
unfolding number fine_delta share_of_region_axis
of_two_data = refl

-- 99 by half: 49.5 goes up
below_0 : advances two_data (negsuc 32767) ≡ Some 306 ∷ Some 306 ∷ []
unfolding number fine_delta share_of_region_axis
below_0 = refl

too_few_rows : advances (hvar (bytes 1 (0 ∷ 0 ∷ []))) (pos 65536) ≡ Some 256 ∷ Some 256 ∷ []
unfolding number fine_delta share_of_region_axis
too_few_rows = refl

-- a region from 1/4 to 1 with its peak at 1/2, at 3/4: half of the delta; at both ends: nothing
abbrev in_between : List ℕ
in_between = header 0 ++ store 1 (0x10 ∷ 0 ∷ 0x20 ∷ 0 ∷ 0x40 ∷ 0 ∷ []) (bytes 3 (0 ∷ 0x20 ∷ 0xF0 ∷ []))

a_region_in_between : advances in_between (pos 49152) ≡ Some 272 ∷ Some 248 ∷ []
unfolding number fine_delta share_of_region_axis
a_region_in_between = refl

at_its_start : advances in_between (pos 16384) ≡ Some 256 ∷ Some 256 ∷ []
unfolding number fine_delta share_of_region_axis
at_its_start = refl

at_its_end : advances in_between (pos 65536) ≡ Some 256 ∷ Some 256 ∷ []
unfolding number fine_delta share_of_region_axis
at_its_end = refl

at_its_peak : advances in_between (pos 32768) ≡ Some 288 ∷ Some 240 ∷ []
unfolding number fine_delta share_of_region_axis
at_its_peak = refl

-- a region across 0 holds everywhere
across_0 : advances (header 0 ++ store 1 (0xC0 ∷ 0 ∷ 0x20 ∷ 0 ∷ 0x40 ∷ 0 ∷ []) (bytes 3 (0 ∷ 0x20 ∷ 0xF0 ∷ []))) (pos 16384)
    ≡ Some 288 ∷ Some 240 ∷ []
unfolding number fine_delta share_of_region_axis
across_0 = refl

no_such_region : advances (hvar (0 ∷ 3 ∷ 0 ∷ 0 ∷ 0 ∷ 1 ∷ 0 ∷ 7 ∷ 0 ∷ 0x20 ∷ 0xF0 ∷ [])) (pos 65536) ≡ Some 256 ∷ Some 256 ∷ []
unfolding number fine_delta share_of_region_axis
no_such_region = refl

-- an advance below 0 is 0; FreeType has 65280
below_no_advance : advances (hvar (0 ∷ 3 ∷ 0 ∷ 1 ∷ 0 ∷ 1 ∷ 0 ∷ 0 ∷ 0 ∷ 0 ∷ 0xFE ∷ 0 ∷ 0xFF ∷ 0xF0 ∷ [])) (pos 65536)
    ≡ Some 0 ∷ Some 240 ∷ []
unfolding number fine_delta share_of_region_axis
below_no_advance = refl

above_all_advances : option_map (λ s. advance_of s 1 65000 (pos 65536 ∷ [])) (hvar_of
    (hvar (0 ∷ 3 ∷ 0 ∷ 1 ∷ 0 ∷ 1 ∷ 0 ∷ 0 ∷ 0 ∷ 0 ∷ 0x7F ∷ 0xFF ∷ 0x7F ∷ 0xFF ∷ [])) 1) ≡ Some 65535
unfolding number fine_delta share_of_region_axis
above_all_advances = refl

-- tables that are not there: of major version 2, with a store of format 2, with a store of two axes, with regions cut short
major_version_2 : hvar_of (0 ∷ 2 ∷ 0 ∷ 0 ∷ 0 ∷ 0 ∷ 0 ∷ 20 ∷ 0 ∷ 0 ∷ 0 ∷ 0 ∷ 0 ∷ 0 ∷ 0 ∷ 0 ∷ 0 ∷ 0 ∷ 0 ∷ 0 ∷
    store 1 to_1 (bytes 3 (0 ∷ 0x20 ∷ 0xF0 ∷ []))) 1 ≡ None
unfolding number
major_version_2 = refl

store_of_format_2 : hvar_of (header 0 ++ (0 ∷ 2 ∷ 0 ∷ 0 ∷ 0 ∷ 12 ∷ 0 ∷ 1 ∷ 0 ∷ 0 ∷ 0 ∷ 22 ∷ 0 ∷ 1 ∷ 0 ∷ 1 ∷
    (to_1 ++ bytes 3 (0 ∷ 0x20 ∷ 0xF0 ∷ [])))) 1 ≡ None
unfolding number
store_of_format_2 = refl

store_of_two_axes : hvar_of (header 0 ++ store 2 to_1 (bytes 3 (0 ∷ 0x20 ∷ 0xF0 ∷ []))) 1 ≡ None
unfolding number
store_of_two_axes = refl

regions_cut_short : hvar_of (take 41 (hvar (bytes 3 []))) 1 ≡ None
unfolding number
regions_cut_short = refl

-- a row, or item variation data, that is cut short: 0
row_cut_short : advances (hvar (bytes 3 (0 ∷ 0x20 ∷ []))) (pos 65536) ≡ Some 288 ∷ Some 256 ∷ []
unfolding number fine_delta share_of_region_axis
row_cut_short = refl

data_cut_short : advances (hvar (0 ∷ 3 ∷ [])) (pos 65536) ≡ Some 256 ∷ Some 256 ∷ []
unfolding number fine_delta share_of_region_axis
data_cut_short = refl

-- a row of 256 for the first region, in two bytes, and -128 for the second, in one
abbrev mixed : List ℕ
mixed =
    header 0 ++ (0 ∷ 1 ∷ 0 ∷ 0 ∷ 0 ∷ 12 ∷ 0 ∷ 1 ∷ 0 ∷ 0 ∷ 0 ∷ 28 ∷ 0 ∷ 1 ∷ 0 ∷ 2 ∷ to_1)
    ++ (0xC0 ∷ 0 ∷ 0xC0 ∷ 0 ∷ 0 ∷ 0 ∷ 0 ∷ 3 ∷ 0 ∷ 1 ∷ 0 ∷ 2 ∷ 0 ∷ 0 ∷ 0 ∷ 1 ∷ 0 ∷ 0 ∷ 0 ∷ 1 ∷ 0 ∷ 0x80 ∷ 1 ∷ 0 ∷ 0x80 ∷ [])

words_and_bytes : advances mixed (pos 65536) ∷ advances mixed (negsuc 65535) ∷ []
    ≡ (Some 512 ∷ Some 512 ∷ []) ∷ (Some 128 ∷ Some 128 ∷ []) ∷ []
unfolding number fine_delta share_of_region_axis
words_and_bytes = refl

-- two axes, at 21845 and 32768: the share is 21845 after the first, and after the second 10922.5, rounded to 10923. This part
-- of 3 is more than half a unit
abbrev of_two_axes : List ℕ
of_two_axes =
    header 0 ++ (0 ∷ 1 ∷ 0 ∷ 0 ∷ 0 ∷ 12 ∷ 0 ∷ 1 ∷ 0 ∷ 0 ∷ 0 ∷ 28 ∷ 0 ∷ 2 ∷ 0 ∷ 1 ∷ to_1) ++ to_1
    ++ bytes 3 (0 ∷ 3 ∷ 0xFD ∷ [])

each_axis_rounds : map (λ g. option_map (λ s. advance_of s g 256 (pos 21845 ∷ pos 32768 ∷ [])) (hvar_of of_two_axes 2)) (1 ∷ 2 ∷ [])
    ≡ Some 257 ∷ Some 255 ∷ []
unfolding number fine_delta share_of_region_axis
each_axis_rounds = refl
