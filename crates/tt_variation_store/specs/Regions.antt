-- OpenType, "OpenType Font Variations Common Table Formats": the variation region list, and "Algorithm for interpolation of
-- instance values": how much of a region's deltas holds.
use Rattle.std.specs.Prelude.{◌≡◌, refl, ℕ, zero, suc, ◌+◌, ◌*◌, Bool, true, false, ◌&&◌, ◌==◌, nat_lt, nat_le, if◌then◌else◌, List, [], ◌∷◌, length, slice_index, Option, Some, None, ℤ, pos, ◌*ℤ◌}
use Rattle.tt_axes.specs.Coordinates.{coordinate_at}
use Rattle.tt_axes.specs.Shares.{whole_share, share_of_region_axis}
use Rattle.tt_axes.specs.declared.region.RegionEnds.{RegionEnds}
use Rattle.tt_variation_store.specs.Numbers.{word, signed}

-- a list of regions: the bytes of the store's table, and an offset in the table
pub record RegionList : Type 0 where
  pub table : List ℕ
  pub at : ℕ

-- axisCount at 0, regionCount at 2, the regions from 4 on
abbrev pub axis_count : RegionList → ℕ
axis_count l = word l.table l.at

abbrev pub region_count : RegionList → ℕ
region_count l = word l.table (l.at + 2)

-- regions of a list, and axes of all of them together (profile)
abbrev pub most_listed : ℕ
most_listed = 512

abbrev pub most_sides : ℕ
most_sides = 4096

abbrev pub are_few : ℕ → ℕ → Bool
are_few axes regions = nat_le regions most_listed && nat_le (axes * regions) most_sides

-- whether the regions have the font's count of axes, are not too many, and all fit; each axis of a region has three words
abbrev pub is_whole : ℕ → RegionList → Bool
is_whole axes l =
    (axis_count l == axes) && are_few axes (region_count l)
    && nat_le (l.at + 4 + 6 * axes * region_count l) (length l.table)

abbrev pub if_whole : ℕ → RegionList → Option RegionList
if_whole axes l = if is_whole axes l then Some l else None

-- the offset of a region's axis: startCoord at 0, peakCoord at 2, endCoord at 4
abbrev pub axis_place : RegionList → ℕ → ℕ → ℕ
axis_place l region axis = l.at + 4 + 6 * (axis_count l * region + axis)

-- an F2DOT14, in 1/65536
abbrev pub coordinate_in : List ℕ → ℕ → ℤ
coordinate_in table at = pos 4 *ℤ signed table at 2

abbrev pub ends_in : List ℕ → ℕ → RegionEnds
ends_in table at = record { start = coordinate_in table at; end = coordinate_in table (at + 4) }

-- a share after the axis at an offset
abbrev pub share_by : List ℕ → ℕ → ℕ → ℤ → ℕ
share_by table at share coordinate = share_of_region_axis share coordinate (coordinate_in table (at + 2)) (ends_in table at)

-- a region's share after its first axes
abbrev pub share_after : RegionList → ℕ → List ℤ → ℕ → ℕ
share_after l region coordinates zero = whole_share
share_after l region coordinates (suc axis) =
    share_by l.table (axis_place l region axis) (share_after l region coordinates axis) (coordinate_at coordinates axis)

-- how much of a region's deltas holds, in 1/65536; nothing of a region that isn't there
abbrev pub region_share : RegionList → ℕ → List ℤ → ℕ
region_share l region coordinates =
    if nat_lt region (region_count l) then share_after l region coordinates (length coordinates) else 0

-- whether numbers are the regions' shares, each at its region's number
abbrev pub AreShares : RegionList → List ℤ → List ℕ → Type 0
AreShares l coordinates shares = (region : ℕ) → slice_index shares region ≡ region_share l region coordinates

-- worked values: 512 regions of 1 and of 8 axes, 513 of 1, 64 and 65 of 64 axes
few_and_many : are_few 1 512 ∷ are_few 8 512 ∷ are_few 1 513 ∷ are_few 64 64 ∷ are_few 64 65 ∷ are_few 9 512 ∷ [] ≡ true ∷ true ∷ false ∷ true ∷ false ∷ false ∷ []
few_and_many = refl
