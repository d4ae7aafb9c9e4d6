-- OpenType, "GDEF: Glyph Definition Table", and "OpenType Layout Common Table Formats", VariationIndex tables: the values of
-- GPOS at an instance.
use Rattle.std.specs.Prelude.{ℕ, ◌+◌, not, ◌&&◌, ◌==◌, nat_le, if◌then◌else◌, List, length, Option, Some, None, ℤ, ◌+ℤ◌}
use Rattle.tt_variation_store.specs.declared.index.DeltaSetIndex.{DeltaSetIndex}
use Rattle.tt_variation_store.specs.Deltas.{delta}
use Rattle.tt_variation_store.specs.Mvar.{index_at}
use Rattle.tt_variation_store.specs.Numbers.{word, long, kept_int16}
use Rattle.tt_variation_store.specs.Store.{Store, store_at}

-- majorVersion at 0, minorVersion at 2, the offset of the store at 14; 18 bytes
abbrev pub gdef_store_of : List ℕ → ℕ → Option Store
gdef_store_of table axes =
    if nat_le 18 (length table) && (word table 0 == 1) && nat_le 3 (word table 2) && not (long table 14 == 0)
    then store_at table (long table 14) axes else None

-- a device table at an offset from its parent has indexes if its format, at 4, is VARIATION_INDEX. Offset 0 is none
abbrev pub variation_index : List ℕ → ℕ → ℕ → Option DeltaSetIndex
variation_index table parent offset =
    if not (offset == 0) && (word table (parent + offset + 4) == 0x8000) then Some (index_at table (parent + offset)) else None

-- a value at an instance, kept an int16; without indexes the value stays
abbrev pub value_by_index : Store → ℤ → Option DeltaSetIndex → List ℤ → ℤ
value_by_index s value None coordinates = value
value_by_index s value (Some index) coordinates = kept_int16 (value +ℤ delta s index coordinates)

-- the value of a pair at an instance; without a store the value stays
abbrev pub pair_value : Option Store → ℤ → Option DeltaSetIndex → List ℤ → ℤ
pair_value None value index coordinates = value
pair_value (Some s) value index coordinates = value_by_index s value index coordinates
