-- OpenType, "OpenType Font Variations Common Table Formats", "Algorithm for interpolation of instance values": the delta of
-- a row at an instance.
use Rattle.std.specs.Prelude.{ℕ, zero, suc, List, Option, Some, None, ℤ, pos, ◌+ℤ◌, ◌*ℤ◌}
use Rattle.tt_axes.specs.Rounding.{whole_units}
use Rattle.tt_variation_store.specs.declared.index.DeltaSetIndex.{DeltaSetIndex}
use Rattle.tt_variation_store.specs.Items.{ItemData, index_count, region_index, row_of, delta_in, data_of}
use Rattle.tt_variation_store.specs.Regions.{RegionList, region_share}
use Rattle.tt_variation_store.specs.Store.{Store, region_list}

-- number i of a row at an instance, in 1/65536 font unit
abbrev pub scaled_delta : RegionList → List ℤ → ItemData → ℕ → ℕ → ℤ
scaled_delta l coordinates d row i = delta_in d row i *ℤ pos (region_share l (region_index d i) coordinates)

-- the sum of a row's first numbers at the instance
abbrev pub sum_of_first : RegionList → List ℤ → ItemData → ℕ → ℕ → ℤ
sum_of_first l coordinates d row zero = pos 0
sum_of_first l coordinates d row (suc i) = sum_of_first l coordinates d row i +ℤ scaled_delta l coordinates d row i

abbrev pub sum_of_row : RegionList → List ℤ → ItemData → Option ℕ → ℤ
sum_of_row l coordinates d None = pos 0
sum_of_row l coordinates d (Some row) = sum_of_first l coordinates d row (index_count d)

abbrev pub sum_in : RegionList → List ℤ → Option ItemData → ℕ → ℤ
sum_in l coordinates None inner = pos 0
sum_in l coordinates (Some d) inner = sum_of_row l coordinates d (row_of d inner)

-- the delta of the row with these indexes, in 1/65536 font unit; 0 of a row that isn't there
unfoldable pub fine_delta : Store → DeltaSetIndex → List ℤ → ℤ
fine_delta s index coordinates = sum_in (region_list s) coordinates (data_of s index.outer) index.inner

-- in whole font units
abbrev pub delta : Store → DeltaSetIndex → List ℤ → ℤ
delta s index coordinates = whole_units (fine_delta s index coordinates)
