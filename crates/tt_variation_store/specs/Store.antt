-- OpenType, "OpenType Font Variations Common Table Formats": the item variation store. A store that isn't whole isn't there
-- (profile).
use Rattle.std.specs.Prelude.{◌≡◌, refl, ℕ, ◌+◌, ◌*◌, Bool, true, false, not, ◌&&◌, ◌==◌, nat_le, if◌then◌else◌, List, ◌∷◌, length, replicate, Option, Some, None, ℤ}
use Rattle.tt_variation_store.specs.Numbers.{number, word, long}
use Rattle.tt_variation_store.specs.Regions.{RegionList, is_whole}

-- a store: the bytes of its table, and its offset in the table
pub record Store : Type 0 where
  pub table : List ℕ
  pub at : ℕ

-- format at 0, the offset of the region list at 2, the count of item variation data at 6, their offsets from 8 on
abbrev pub format_of : Store → ℕ
format_of s = word s.table s.at

abbrev pub region_list : Store → RegionList
region_list s = record { table = s.table; at = s.at + long s.table (s.at + 2) }

abbrev pub data_count : Store → ℕ
data_count s = word s.table (s.at + 6)

abbrev pub has_header : Store → Bool
has_header s =
    (format_of s == 1) && not (data_count s == 0) && nat_le (s.at + 8 + 4 * data_count s) (length s.table)

-- whether the store is whole, by the font's count of axes
abbrev pub is_store : ℕ → Store → Bool
is_store axes s = has_header s && is_whole axes (region_list s)

abbrev pub if_store : ℕ → Store → Option Store
if_store axes s = if is_store axes s then Some s else None

-- the store at an offset of a table
abbrev pub store_at : List ℕ → ℕ → ℕ → Option Store
store_at table at axes = if_store axes (record { table = table; at = at })

-- a store at an instance
pub record StoreAtInstance : Type 0 where
  pub store : Store
  pub coordinates : List ℤ

-- worked values: a list of 512 regions of one axis, one of 513, and one that is cut short
abbrev listed : ℕ → ℕ → ℕ → Store
listed high low count = record {
  table = 0 ∷ 1 ∷ 0 ∷ 0 ∷ 0 ∷ 12 ∷ 0 ∷ 1 ∷ 0 ∷ 0 ∷ 0 ∷ 0 ∷ 0 ∷ 1 ∷ high ∷ low ∷ replicate count 0;
  at = 0;
}

a_list_of_512 : is_store 1 (listed 2 0 3072) ≡ true
unfolding number
a_list_of_512 = refl

a_list_of_513 : is_store 1 (listed 2 1 3078) ≡ false
unfolding number
a_list_of_513 = refl

a_list_of_512_cut_short : is_store 1 (listed 2 0 3071) ≡ false
unfolding number
a_list_of_512_cut_short = refl

no_regions : is_store 1 (listed 0 0 0) ≡ true
unfolding number
no_regions = refl
