-- OpenType, "MVAR: Metrics Variations Table". Three of its records are used (profile).
use Rattle.std.specs.Prelude.{ℕ, ◌+◌, ◌*◌, Bool, ◌&&◌, ◌==◌, nat_le, if◌then◌else◌, List, length, codes, Option, Some, None, ℤ, pos, ◌+ℤ◌}
use Rattle.tt_core.specs.Numbers.{unsigned_at}
use Rattle.tt_core.specs.Search.{first_below}
use Rattle.tt_variation_store.specs.declared.index.DeltaSetIndex.{DeltaSetIndex}
use Rattle.tt_variation_store.specs.declared.mvar.Height.{Height}
use Rattle.tt_variation_store.specs.declared.mvar.Height.TheVariants as height
use Rattle.tt_variation_store.specs.Deltas.{delta}
use Rattle.tt_variation_store.specs.Numbers.{word, long, kept_int16}
use Rattle.tt_variation_store.specs.Store.{Store, store_at}

-- majorVersion at 0, valueRecordSize at 6, valueRecordCount at 8, the offset of the store at 10, the records from 12 on
abbrev pub mvar_of : List ℕ → ℕ → Option Store
mvar_of table axes =
    if nat_le 12 (length table) && (word table 0 == 1) && nat_le 8 (word table 6) then store_at table (word table 10) axes
    else None

abbrev pub height_tag : Height → List ℕ
height_tag height.Ascent = codes "hasc"
height_tag height.Descent = codes "hdsc"
height_tag height.LineGap = codes "hlgp"

abbrev pub record_place : List ℕ → ℕ → ℕ
record_place table i = 12 + word table 6 * i

-- whether record i has a tag
abbrev pub has_tag : List ℕ → Height → ℕ → Bool
has_tag table h i = long table (record_place table i) == unsigned_at (height_tag h) 0 4

-- the first record that has the tag
abbrev pub record_of : List ℕ → Height → Option ℕ
record_of table h = first_below (word table 8) (has_tag table h)

-- of a record: valueTag at 0, the outer index at 4, the inner index at 6
abbrev pub index_at : List ℕ → ℕ → DeltaSetIndex
index_at table at = record { outer = word table at; inner = word table (at + 2) }

abbrev pub record_delta : Store → List ℤ → Option ℕ → ℤ
record_delta s coordinates None = pos 0
record_delta s coordinates (Some i) = delta s (index_at s.table (record_place s.table i + 4)) coordinates

-- hhea's height at an instance, kept an int16
abbrev pub height_of : Store → Height → ℤ → List ℤ → ℤ
height_of s h height coordinates = kept_int16 (height +ℤ record_delta s coordinates (record_of s.table h))
