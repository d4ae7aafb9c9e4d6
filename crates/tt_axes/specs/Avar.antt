-- OpenType, "avar: Axis Variations Table": for each axis a list of pairs, which maps the axis' coordinate. A table of
-- another version, of another count of axes, or whose lists do not fit, is not there (profile).
use Rattle.std.specs.Prelude.{◌≡◌, refl, ℕ, zero, suc, ◌+◌, ◌-◌, ◌*◌, ℤ, pos, negsuc, ◌+ℤ◌, ◌-ℤ◌, ◌*ℤ◌, int_lt, Bool, true, false, ◌&&◌, ◌==◌, nat_le, if◌then◌else◌, List, [], ◌∷◌, ◌++◌, length, take, map, codes, Option, Some, None, Result, Ok, Err}
use Rattle.std.specs.Int.{int_max, int_min}
use Rattle.std.specs.List.{range_with_len}
use Rattle.std.specs.Ordering.{int_eq}
use Rattle.tt_core.specs.Directory.{Directory, table_of}
use Rattle.tt_core.specs.Faults.{Fault}
use Rattle.tt_core.specs.Numbers.{signed16, unsigned_at}
use Rattle.tt_core.specs.Search.{first_from}
use Rattle.tt_axes.specs.Coordinates.{coordinate_at}
use Rattle.tt_axes.specs.Rounding.{product_quotient}

-- axisCount
abbrev pub avar_axes : List ℕ → ℕ
avar_axes avar = unsigned_at avar 6 2

-- positionMapCount of the list at an offset
abbrev pub pair_count : List ℕ → ℕ → ℕ
pair_count avar at = unsigned_at avar at 2

-- the offset of the list's end
abbrev pub list_end : List ℕ → ℕ → ℕ
list_end avar at = at + 2 + 4 * pair_count avar at

-- the offset of the list of axis i
abbrev pub list_place : List ℕ → ℕ → ℕ
list_place avar zero = 8
list_place avar (suc i) = list_end avar (list_place avar i)

-- whether the table is one of a font with so many axes
unfoldable pub is_avar : ℕ → List ℕ → Bool
is_avar axes avar =
    (unsigned_at avar 0 4 == 0x00010000) && (avar_axes avar == axes) && nat_le (list_place avar axes) (length avar)

abbrev pub if_avar : ℕ → Result (Option (List ℕ)) Fault → Option (List ℕ)
if_avar axes (Ok (Some avar)) = if is_avar axes avar then Some avar else None
if_avar axes (Ok None) = None
if_avar axes (Err fault) = None

-- the table of a font with so many axes, if it is there
unfoldable pub avar_of : Directory → ℕ → Option (List ℕ)
avar_of directory axes = if_avar axes (table_of directory (codes "avar"))

-- a number of 2.14, in 1/65536
abbrev pub f2dot14 : List ℕ → ℕ → ℤ
f2dot14 bytes at = pos 4 *ℤ signed16 (unsigned_at bytes at 2)

-- pair j of the list at an offset: fromCoordinate and toCoordinate
abbrev pub from_of : List ℕ → ℕ → ℕ → ℤ
from_of avar at j = f2dot14 avar (at + 2 + 4 * j)

abbrev pub to_of : List ℕ → ℕ → ℕ → ℤ
to_of avar at j = f2dot14 avar (at + 4 + 4 * j)

-- from -1 to 1
abbrev pub kept : ℤ → ℤ
kept c = int_max (negsuc 65535) (int_min c (pos 65536))

-- a coordinate between two pairs
abbrev pub between_pairs : ℤ → ℤ → ℤ → ℤ → ℤ → ℤ
between_pairs c from from_next to to_next =
    if int_eq from_next from then to
    else product_quotient (c -ℤ from) (to_next -ℤ to) (from_next -ℤ from) +ℤ to

-- the first pair after pair 0 that is above a coordinate
abbrev pub pair_above : List ℕ → ℕ → ℤ → Option ℕ
pair_above avar at c = first_from (λ j. int_lt c (from_of avar at j)) 1 (pair_count avar at - 1)

abbrev pub mapped_below : List ℕ → ℕ → ℤ → Option ℕ → ℤ
mapped_below avar at c None = c
mapped_below avar at c (Some j) =
    kept (between_pairs c (from_of avar at (j - 1)) (from_of avar at j) (to_of avar at (j - 1)) (to_of avar at j))

-- a coordinate by the list at an offset
unfoldable pub mapped : List ℕ → ℕ → ℤ → ℤ
mapped avar at c = mapped_below avar at c (pair_above avar at c)

-- the coordinates of all axes, each by its axis' list
unfoldable pub all_mapped : List ℕ → List ℤ → List ℤ
all_mapped avar coordinates =
    map (λ i. mapped avar (list_place avar i) (coordinate_at coordinates i)) (range_with_len 0 (length coordinates))

abbrev pub mapped_by : Option (List ℕ) → List ℤ → List ℤ
mapped_by None coordinates = coordinates
mapped_by (Some avar) coordinates = all_mapped avar coordinates

-- worked values: one axis, from -1 to -1, 0 to 0, 1/2 to 1/4 and 1 to 1
abbrev pub avar_with : List ℕ → List ℕ
avar_with list = (0 ∷ 1 ∷ 0 ∷ 0 ∷ 0 ∷ 0 ∷ 0 ∷ 1 ∷ []) ++ list

abbrev pub four_pairs : List ℕ
four_pairs = avar_with (0 ∷ 4 ∷ 192 ∷ 0 ∷ 192 ∷ 0 ∷ 0 ∷ 0 ∷ 0 ∷ 0 ∷ 32 ∷ 0 ∷ 16 ∷ 0 ∷ 64 ∷ 0 ∷ 64 ∷ 0 ∷ [])

it_is_there : map (λ n. is_avar n four_pairs) (1 ∷ 2 ∷ []) ≡ true ∷ false ∷ []
unfolding is_avar
it_is_there = refl

cut_short : is_avar 1 (take 25 four_pairs) ≡ false
unfolding is_avar
cut_short = refl

by_four_pairs : map (mapped four_pairs 8) (negsuc 65535 ∷ negsuc 32767 ∷ pos 0 ∷ pos 16384 ∷ pos 32768 ∷ pos 49152 ∷ pos 65536 ∷ [])
    ≡ negsuc 65535 ∷ negsuc 32767 ∷ pos 0 ∷ pos 8192 ∷ pos 16384 ∷ pos 40960 ∷ pos 65536 ∷ []
unfolding mapped
by_four_pairs = refl

no_pair_and_one : map (λ list. mapped (avar_with list) 8 (pos 32768)) ((0 ∷ 0 ∷ []) ∷ (0 ∷ 1 ∷ 0 ∷ 0 ∷ 32 ∷ 0 ∷ []) ∷ [])
    ≡ pos 32768 ∷ pos 32768 ∷ []
unfolding mapped
no_pair_and_one = refl

-- 0 goes elsewhere
abbrev three_pairs : List ℕ
three_pairs = avar_with (0 ∷ 3 ∷ 192 ∷ 0 ∷ 192 ∷ 0 ∷ 0 ∷ 0 ∷ 32 ∷ 0 ∷ 64 ∷ 0 ∷ 64 ∷ 0 ∷ [])

elsewhere : map (mapped three_pairs 8) (pos 0 ∷ pos 32768 ∷ []) ≡ pos 32768 ∷ pos 49152 ∷ []
unfolding mapped
elsewhere = refl

-- a pair that falls, a pair to 3/2, and two pairs from one coordinate
falling : mapped (avar_with (0 ∷ 5 ∷ 192 ∷ 0 ∷ 192 ∷ 0 ∷ 0 ∷ 0 ∷ 0 ∷ 0 ∷ 32 ∷ 0 ∷ 48 ∷ 0 ∷ 48 ∷ 0 ∷ 16 ∷ 0 ∷ 64 ∷ 0 ∷ 64 ∷ 0 ∷ [])) 8 (pos 32768)
    ≡ pos 49152
unfolding mapped
falling = refl

past_1 : mapped (avar_with (0 ∷ 4 ∷ 192 ∷ 0 ∷ 192 ∷ 0 ∷ 0 ∷ 0 ∷ 0 ∷ 0 ∷ 32 ∷ 0 ∷ 96 ∷ 0 ∷ 64 ∷ 0 ∷ 64 ∷ 0 ∷ [])) 8 (pos 32768) ≡ pos 65536
unfolding mapped
past_1 = refl

two_from_one_coordinate : mapped (avar_with (0 ∷ 3 ∷ 48 ∷ 0 ∷ 32 ∷ 0 ∷ 48 ∷ 0 ∷ 48 ∷ 0 ∷ 64 ∷ 0 ∷ 64 ∷ 0 ∷ [])) 8 (pos 32768) ≡ pos 32768
unfolding mapped
two_from_one_coordinate = refl
