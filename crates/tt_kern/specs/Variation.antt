-- OpenType, "OpenType Layout Common Table Formats", VariationIndex tables, and "GDEF: Glyph Definition Table": the value of
-- a pair at an instance. Device tables for sizes are passed over (profile).
use Rattle.std.specs.Prelude.{◌≡◌, refl, ℕ, ◌+◌, ◌*◌, ◌/◌, ◌%◌, ◌==◌, if◌then◌else◌, List, [], ◌∷◌, Option, Some, None, ℤ, pos, negsuc}
use Rattle.tt_axes.specs.Shares.{share_of_region_axis}
use Rattle.tt_variation_store.specs.declared.index.DeltaSetIndex.{DeltaSetIndex}
use Rattle.tt_variation_store.specs.Deltas.{fine_delta}
use Rattle.tt_variation_store.specs.Gdef.{pair_value}
use Rattle.tt_variation_store.specs.Numbers.{number}
use Rattle.tt_variation_store.specs.Store.{Store, StoreAtInstance}
use Rattle.tt_kern.specs.Words.{word}

-- GDEF's store, if there is one, and the coordinates of an instance
pub record PairVariation : Type 0 where
  pub store : Option Store
  pub coordinates : List ℤ

abbrev pub store_of : Option StoreAtInstance → Option Store
store_of None = None
store_of (Some s) = Some s.store

-- that of the font's default
abbrev pub no_variation : PairVariation
no_variation = record { store = None; coordinates = [] }

-- the count of the six lowest bits that are set in a value format: those of the numbers before XAdvDevice
abbrev pub low_bits : ℕ → ℕ
low_bits v = v % 2 + v / 2 % 2 + v / 4 % 2 + v / 8 % 2 + v / 16 % 2 + v / 32 % 2

-- the offset of XAdvance's device table, bit 40 of the first glyph's format, in the values at an offset; 0 without it
abbrev pub device_offset : List ℕ → ℕ → ℕ → ℕ
device_offset b s values =
    if word b (s + 4) / 64 % 2 == 1 then word b (values + 2 * low_bits (word b (s + 4))) else 0

-- the indexes of the device table at a place, if its format, at 4, is VARIATION_INDEX
abbrev pub indexes_at : List ℕ → ℕ → Option DeltaSetIndex
indexes_at b at =
    if word b (at + 4) == 0x8000 then Some (record { outer = word b at; inner = word b (at + 2) }) else None

-- those of a device table by its offset from its parent; offset 0 is none
abbrev pub indexes_of : List ℕ → ℕ → ℕ → Option DeltaSetIndex
indexes_of b parent offset = if offset == 0 then None else indexes_at b (parent + offset)

-- an advance at an instance, in the values at an offset of subtable s. An offset of a device table counts from its parent
abbrev pub varied_advance : PairVariation → List ℕ → ℕ → ℕ → ℕ → ℤ → ℤ
varied_advance v b s parent values advance =
    pair_value v.store advance (indexes_of b parent (device_offset b s values)) v.coordinates

-- worked values: format 0x44 has two numbers, and the second is an offset; 0x7F has seven; 0x04 has no device
the_second_number : low_bits 0x44 ∷ low_bits 0x7F ∷ low_bits 0xFF ∷ low_bits 0 ∷ [] ≡ 1 ∷ 6 ∷ 6 ∷ 0 ∷ []
the_second_number = refl

-- a subtable with the format 0x44, then values at 6: -64, and a device table at 10 of its parent at 0
abbrev its_values : ℕ → List ℕ
its_values format = 0 ∷ 1 ∷ 0 ∷ 0 ∷ 0 ∷ format ∷ 0xFF ∷ 0xC0 ∷ 0 ∷ 10 ∷ 0 ∷ 0 ∷ 0 ∷ 1 ∷ 0x80 ∷ 0 ∷ []

its_offset : device_offset (its_values 0x44) 0 6 ∷ device_offset (its_values 0x04) 0 6 ∷ [] ≡ 10 ∷ 0 ∷ []
unfolding word
its_offset = refl

its_indexes : indexes_of (its_values 0x44) 0 10 ≡ Some (record { outer = 0; inner = 1 })
unfolding word
its_indexes = refl

no_indexes : indexes_of (its_values 0x44) 0 0 ∷ indexes_of (its_values 0x44) 0 8 ∷ indexes_of (its_values 0x44) 2 0x7FF0 ∷ [] ≡ None ∷ None ∷ None ∷ []
unfolding word
no_indexes = refl

-- a store with a region from 0 to 1, and rows of -32 and 33; 33 by half is 16.5, which goes up
abbrev its_store : Store
its_store = record {
  table =
      0 ∷ 1 ∷ 0 ∷ 0 ∷ 0 ∷ 12 ∷ 0 ∷ 1 ∷ 0 ∷ 0 ∷ 0 ∷ 22 ∷ 0 ∷ 1 ∷ 0 ∷ 1 ∷ 0 ∷ 0 ∷ 0x40 ∷ 0 ∷ 0x40 ∷ 0 ∷
      0 ∷ 2 ∷ 0 ∷ 0 ∷ 0 ∷ 1 ∷ 0 ∷ 0 ∷ 0xE0 ∷ 0x21 ∷ [];
  at = 0;
}

abbrev by_store : ℤ → PairVariation
by_store c = record { store = Some its_store; coordinates = c ∷ [] }

by_half : varied_advance (by_store (pos 32768)) (its_values 0x44) 0 0 6 (negsuc 63) ≡ negsuc 46
unfolding word number fine_delta share_of_region_axis
by_half = refl

without_a_device : varied_advance (by_store (pos 32768)) (its_values 0x04) 0 0 6 (negsuc 63) ≡ negsuc 63
unfolding word number fine_delta share_of_region_axis
without_a_device = refl

the_default : varied_advance no_variation (its_values 0x44) 0 0 6 (negsuc 63) ≡ negsuc 63
unfolding word number fine_delta share_of_region_axis
the_default = refl
