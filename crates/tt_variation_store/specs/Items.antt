-- OpenType, "OpenType Font Variations Common Table Formats": item variation data and its rows of deltas. A row that isn't
-- there has no deltas (profile).
use Rattle.std.specs.Prelude.{◌≡◌, refl, ℕ, ◌+◌, ◌*◌, ◌/◌, ◌%◌, Bool, ◌&&◌, ◌==◌, nat_lt, nat_le, if◌then◌else◌, List, [], ◌∷◌, length, replicate, map, Option, Some, None, ℤ, pos, negsuc}
use Rattle.tt_variation_store.specs.Numbers.{number, word, long, signed}
use Rattle.tt_variation_store.specs.Store.{Store, data_count}

-- item variation data: the bytes of the store's table, and an offset in the table
pub record ItemData : Type 0 where
  pub table : List ℕ
  pub at : ℕ

-- itemCount at 0, wordDeltaCount at 2 with the flag LONG_WORDS, regionIndexCount at 4, the region indexes from 6 on
abbrev pub item_count : ItemData → ℕ
item_count d = word d.table d.at

abbrev pub word_count : ItemData → ℕ
word_count d = word d.table (d.at + 2) % 32768

abbrev pub has_long_words : ItemData → Bool
has_long_words d = word d.table (d.at + 2) / 32768 == 1

abbrev pub index_count : ItemData → ℕ
index_count d = word d.table (d.at + 4)

-- the region of number i of each row
abbrev pub region_index : ItemData → ℕ → ℕ
region_index d i = word d.table (d.at + 6 + 2 * i)

-- bytes of a row's lesser numbers; the greater ones, which come before them, have twice as many
abbrev pub unit : ItemData → ℕ
unit d = if has_long_words d then 2 else 1

abbrev pub row_size : ItemData → ℕ
row_size d = unit d * (word_count d + index_count d)

abbrev pub row_place : ItemData → ℕ → ℕ
row_place d inner = d.at + 6 + 2 * index_count d + row_size d * inner

-- numbers of a row (profile)
abbrev pub most_regions : ℕ
most_regions = 512

-- whether the row with an inner index is there
abbrev pub has_row : ItemData → ℕ → Bool
has_row d inner =
    nat_lt inner (item_count d) && nat_le (word_count d) (index_count d) && nat_le (index_count d) most_regions
    && nat_le (row_place d inner + row_size d) (length d.table)

-- the offset of the row with an inner index, if the row is there
abbrev pub row_of : ItemData → ℕ → Option ℕ
row_of d inner = if has_row d inner then Some (row_place d inner) else None

-- number i of the row at an offset
abbrev pub delta_in : ItemData → ℕ → ℕ → ℤ
delta_in d row i =
    if nat_lt i (word_count d) then signed d.table (row + 2 * unit d * i) (2 * unit d)
    else signed d.table (row + unit d * (word_count d + i)) (unit d)

-- the item variation data with an outer index
abbrev pub data_in : Store → ℕ → ItemData
data_in s outer = record { table = s.table; at = s.at + long s.table (s.at + 8 + 4 * outer) }

abbrev pub data_of : Store → ℕ → Option ItemData
data_of s outer = if nat_lt outer (data_count s) then Some (data_in s outer) else None

-- worked values: a row of 512 numbers, a row of 513, and one that is cut short
abbrev zeros : ℕ → ℕ → ItemData
zeros low count = record { table = 0 ∷ 1 ∷ 0 ∷ 0 ∷ 2 ∷ low ∷ replicate count 0; at = 0 }

a_row_of_512 : row_of (zeros 0 1536) 0 ≡ Some 1030
unfolding number
a_row_of_512 = refl

a_row_of_513 : row_of (zeros 1 1539) 0 ≡ None
unfolding number
a_row_of_513 = refl

a_row_cut_short : row_of (zeros 0 1535) 0 ≡ None
unfolding number
a_row_cut_short = refl

-- a row of a long and two words: -65536, 515 and -2
abbrev long_row : ItemData
long_row = record {
  table = 0 ∷ 1 ∷ 0x80 ∷ 1 ∷ 0 ∷ 3 ∷ 0 ∷ 0 ∷ 0 ∷ 1 ∷ 0 ∷ 2 ∷ 0xFF ∷ 0xFF ∷ 0 ∷ 0 ∷ 2 ∷ 3 ∷ 0xFF ∷ 0xFE ∷ [];
  at = 0;
}

its_place : row_of long_row 0 ≡ Some 12
unfolding number
its_place = refl

its_numbers : map (delta_in long_row 12) (0 ∷ 1 ∷ 2 ∷ []) ≡ negsuc 65535 ∷ pos 515 ∷ negsuc 1 ∷ []
unfolding number
its_numbers = refl
