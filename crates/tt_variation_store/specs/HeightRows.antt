-- Worked values: heights by whole tables MVAR. Each table is built by hand. FreeType 2.12.1 read most of them in fonts, and
-- had other heights where this file says so.
use Rattle.std.specs.Prelude.{◌≡◌, refl, ℕ, List, [], ◌∷◌, ◌++◌, take, codes, Option, Some, None, option_map, ℤ, pos, negsuc}
use Rattle.tt_axes.specs.Shares.{share_of_region_axis}
use Rattle.tt_variation_store.specs.declared.mvar.Height.TheVariants as height
use Rattle.tt_variation_store.specs.Deltas.{fine_delta}
use Rattle.tt_variation_store.specs.Mvar.{mvar_of, height_of}
use Rattle.tt_variation_store.specs.Numbers.{number}

-- the header by the version, the bytes of a record, the count of records and the store's offset
abbrev header : ℕ → ℕ → ℕ → ℕ → List ℕ
header version size count at = 0 ∷ version ∷ 0 ∷ 0 ∷ 0 ∷ 0 ∷ 0 ∷ size ∷ 0 ∷ count ∷ 0 ∷ at ∷ []

-- a record of a tag, by its inner index
abbrev record_of : List ℕ → ℕ → List ℕ
record_of tag inner = tag ++ (0 ∷ 0 ∷ 0 ∷ inner ∷ [])

-- a region from 0 to 1, and rows of 64, -64 and 32
abbrev store : List ℕ
store =
    0 ∷ 1 ∷ 0 ∷ 0 ∷ 0 ∷ 12 ∷ 0 ∷ 1 ∷ 0 ∷ 0 ∷ 0 ∷ 22 ∷ 0 ∷ 1 ∷ 0 ∷ 1 ∷ 0 ∷ 0 ∷ 0x40 ∷ 0 ∷ 0x40 ∷ 0 ∷
    0 ∷ 3 ∷ 0 ∷ 0 ∷ 0 ∷ 1 ∷ 0 ∷ 0 ∷ 0x40 ∷ 0xC0 ∷ 0x20 ∷ []

-- ascent, descent and line gap, which are 256, 0 and 9 in hhea, at a coordinate
abbrev heights : List ℕ → ℤ → List (Option ℤ)
heights table c =
    option_map (λ s. height_of s height.Ascent (pos 256) (c ∷ [])) (mvar_of table 1)
    ∷ option_map (λ s. height_of s height.Descent (pos 0) (c ∷ [])) (mvar_of table 1)
    ∷ option_map (λ s. height_of s height.LineGap (pos 9) (c ∷ [])) (mvar_of table 1) ∷ []

abbrev all_three : List ℕ
all_three =
    header 1 8 3 36 ++ record_of (codes "hasc") 0 ++ record_of (codes "hdsc") 1 ++ record_of (codes "hlgp") 2 ++ store

rise_and_depth : heights all_three (pos 65536) ≡ Some (pos 320) ∷ Some (negsuc 63) ∷ Some (pos 41) ∷ []
unfolding number fine_delta share_of_region_axis
rise_and_depth = refl

half_of_it : heights all_three (pos 32768) ≡ Some (pos 288) ∷ Some (negsuc 31) ∷ Some (pos 25) ∷ []
unfolding number fine_delta share_of_region_axis
half_of_it = refl

-- 65535 of 131072: 32 less 1/2048, and -32 and 1/2048, and 16 less 1/4096
just_below_half : heights all_three (pos 32767) ≡ Some (pos 288) ∷ Some (negsuc 31) ∷ Some (pos 25) ∷ []
unfolding number fine_delta share_of_region_axis
just_below_half = refl

below_0 : heights all_three (negsuc 0) ≡ Some (pos 256) ∷ Some (pos 0) ∷ Some (pos 9) ∷ []
unfolding number fine_delta share_of_region_axis
below_0 = refl

others_only : heights (header 1 8 1 20 ++ record_of (codes "xhgt") 0 ++ store) (pos 65536)
    ≡ Some (pos 256) ∷ Some (pos 0) ∷ Some (pos 9) ∷ []
unfolding number fine_delta share_of_region_axis
others_only = refl

records_of_12_bytes : heights (header 1 12 1 24 ++ record_of (codes "hasc") 0 ++ (0 ∷ 0 ∷ 0 ∷ 0 ∷ store)) (pos 65536)
    ≡ Some (pos 320) ∷ Some (pos 0) ∷ Some (pos 9) ∷ []
unfolding number fine_delta share_of_region_axis
records_of_12_bytes = refl

-- the first of two records of a tag; FreeType takes the last
the_first_of_two : heights (header 1 8 2 28 ++ record_of (codes "hasc") 0 ++ record_of (codes "hasc") 1 ++ store) (pos 65536)
    ≡ Some (pos 320) ∷ Some (pos 0) ∷ Some (pos 9) ∷ []
unfolding number fine_delta share_of_region_axis
the_first_of_two = refl

a_row_that_is_not_there : heights (header 1 8 1 20 ++ record_of (codes "hasc") 9 ++ store) (pos 65536)
    ≡ Some (pos 256) ∷ Some (pos 0) ∷ Some (pos 9) ∷ []
unfolding number fine_delta share_of_region_axis
a_row_that_is_not_there = refl

-- kept an int16
greatest_and_least : option_map (λ s. height_of s height.Ascent (pos 32760) (pos 65536 ∷ [])) (mvar_of all_three 1)
    ∷ option_map (λ s. height_of s height.Descent (negsuc 32760) (pos 65536 ∷ [])) (mvar_of all_three 1) ∷ []
    ≡ Some (pos 32767) ∷ Some (negsuc 32767) ∷ []
unfolding number fine_delta share_of_region_axis
greatest_and_least = refl

-- tables that are not there: of version 2, cut short, with records of 7 bytes
version_2 : mvar_of (header 2 8 1 20 ++ record_of (codes "hasc") 0 ++ store) 1 ≡ None
unfolding number
version_2 = refl

cut_short : mvar_of (take 30 (header 1 8 1 20 ++ record_of (codes "hasc") 0 ++ store)) 1 ≡ None
unfolding number
cut_short = refl

records_of_7_bytes : mvar_of (header 1 7 1 20 ++ record_of (codes "hasc") 0 ++ store) 1 ≡ None
unfolding number
records_of_7_bytes = refl
