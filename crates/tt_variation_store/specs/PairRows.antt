-- Worked values: pairs' values by whole tables GDEF, where GPOS has -64. Each table is built by hand. HarfBuzz 6.0.0 read
-- most of them in fonts, and had another value where this file says so.
use Rattle.std.specs.Prelude.{◌≡◌, refl, ℕ, List, [], ◌∷◌, take, None, ℤ, pos, negsuc}
use Rattle.tt_axes.specs.Shares.{share_of_region_axis}
use Rattle.tt_variation_store.specs.Deltas.{fine_delta}
use Rattle.tt_variation_store.specs.Gdef.{gdef_store_of, variation_index, pair_value}
use Rattle.tt_variation_store.specs.Numbers.{number}

-- by the minor version and the store's offset. A region to 1, one to -1; rows of -32 and 33, and a row of -300 and 5
abbrev gdef : ℕ → ℕ → List ℕ
gdef minor at =
    0 ∷ 1 ∷ 0 ∷ minor ∷ 0 ∷ 0 ∷ 0 ∷ 0 ∷ 0 ∷ 0 ∷ 0 ∷ 0 ∷ 0 ∷ 0 ∷ 0 ∷ 0 ∷ 0 ∷ at ∷
    0 ∷ 1 ∷ 0 ∷ 0 ∷ 0 ∷ 16 ∷ 0 ∷ 2 ∷ 0 ∷ 0 ∷ 0 ∷ 32 ∷ 0 ∷ 0 ∷ 0 ∷ 42 ∷
    0 ∷ 1 ∷ 0 ∷ 2 ∷ 0 ∷ 0 ∷ 0x40 ∷ 0 ∷ 0x40 ∷ 0 ∷ 0xC0 ∷ 0 ∷ 0xC0 ∷ 0 ∷ 0 ∷ 0 ∷
    0 ∷ 2 ∷ 0 ∷ 0 ∷ 0 ∷ 1 ∷ 0 ∷ 0 ∷ 0xE0 ∷ 0x21 ∷
    0 ∷ 1 ∷ 0 ∷ 1 ∷ 0 ∷ 2 ∷ 0 ∷ 0 ∷ 0 ∷ 1 ∷ 0xFE ∷ 0xD4 ∷ 5 ∷ []

-- a set of one pair of GPOS, with a device table by its two indexes and its format
abbrev pair_set : ℕ → ℕ → List ℕ → List ℕ
pair_set outer inner format = 0 ∷ 1 ∷ 0 ∷ 1 ∷ 0xFF ∷ 0xC0 ∷ 0 ∷ 8 ∷ 0 ∷ outer ∷ 0 ∷ inner ∷ format

abbrev varied : List ℕ
varied = 0x80 ∷ 0 ∷ []

-- the pair's value by the tables, at a coordinate
abbrev value_at : List ℕ → List ℕ → ℤ → ℤ
value_at gdef set c = pair_value (gdef_store_of gdef 1) (negsuc 63) (variation_index set 0 8) (c ∷ [])

at_the_end : value_at (gdef 3 18) (pair_set 0 0 varied) (pos 65536) ≡ negsuc 95
unfolding number fine_delta share_of_region_axis
at_the_end = refl

half_of_it : value_at (gdef 3 18) (pair_set 0 0 varied) (pos 32768) ≡ negsuc 79
unfolding number fine_delta share_of_region_axis
half_of_it = refl

below_0 : value_at (gdef 3 18) (pair_set 0 0 varied) (negsuc 65535) ≡ negsuc 63
unfolding number fine_delta share_of_region_axis
below_0 = refl

-- 33 by half: 16.5 goes up
a_half : value_at (gdef 3 18) (pair_set 0 1 varied) (pos 32768) ≡ negsuc 46
unfolding number fine_delta share_of_region_axis
a_half = refl

second_data : value_at (gdef 3 18) (pair_set 1 0 varied) (pos 65536) ≡ negsuc 363
unfolding number fine_delta share_of_region_axis
second_data = refl

second_data_below_0 : value_at (gdef 3 18) (pair_set 1 0 varied) (negsuc 65535) ≡ negsuc 58
unfolding number fine_delta share_of_region_axis
second_data_below_0 = refl

a_row_that_is_not_there : value_at (gdef 3 18) (pair_set 0 9 varied) (pos 65536) ≡ negsuc 63
unfolding number fine_delta share_of_region_axis
a_row_that_is_not_there = refl

data_that_is_not_there : value_at (gdef 3 18) (pair_set 7 0 varied) (pos 65536) ≡ negsuc 63
unfolding number fine_delta share_of_region_axis
data_that_is_not_there = refl

-- without a store: no GDEF, GDEF 1.2, no offset, and a store cut short
no_gdef : value_at [] (pair_set 0 0 varied) (pos 65536) ≡ negsuc 63
unfolding number fine_delta share_of_region_axis
no_gdef = refl

gdef_1_2 : value_at (gdef 2 18) (pair_set 0 0 varied) (pos 65536) ≡ negsuc 63
unfolding number fine_delta share_of_region_axis
gdef_1_2 = refl

no_store : value_at (gdef 3 0) (pair_set 0 0 varied) (pos 65536) ≡ negsuc 63
unfolding number fine_delta share_of_region_axis
no_store = refl

store_cut_short : value_at (take 40 (gdef 3 18)) (pair_set 0 0 varied) (pos 65536) ≡ negsuc 63
unfolding number fine_delta share_of_region_axis
store_cut_short = refl

-- a device table of sizes, offset 0, and an offset past the end
device_of_sizes : value_at (gdef 3 18) (pair_set 0 0 (0 ∷ 1 ∷ [])) (pos 65536) ≡ negsuc 63
unfolding number fine_delta share_of_region_axis
device_of_sizes = refl

offset_0 : variation_index (0 ∷ 0 ∷ 0 ∷ 0 ∷ 0x80 ∷ 0 ∷ []) 0 0 ≡ None
unfolding number
offset_0 = refl

past_the_end : variation_index (pair_set 0 0 varied) 0 0x7FF0 ≡ None
unfolding number
past_the_end = refl

-- a value without XAdvance, 0, with a device table
no_advance : pair_value (gdef_store_of (gdef 3 18) 1) (pos 0) (variation_index (pair_set 0 0 varied) 0 8) (pos 65536 ∷ []) ≡ negsuc 31
unfolding number fine_delta share_of_region_axis
no_advance = refl

-- kept an int16; HarfBuzz has -32792
the_least : pair_value (gdef_store_of (gdef 3 18) 1) (negsuc 32759) (variation_index (pair_set 0 0 varied) 0 8) (pos 65536 ∷ [])
    ≡ negsuc 32767
unfolding number fine_delta share_of_region_axis
the_least = refl
