-- OpenType, "HVAR: Horizontal Metrics Variations Table". Side bearings are not used (profile).
use Rattle.std.specs.Prelude.{ℕ, ◌&&◌, ◌==◌, nat_le, if◌then◌else◌, List, length, Option, None, ℤ, pos, ◌+ℤ◌}
use Rattle.tt_variation_store.specs.Deltas.{delta}
use Rattle.tt_variation_store.specs.IndexMap.{index_of}
use Rattle.tt_variation_store.specs.Numbers.{word, long, kept_uint16}
use Rattle.tt_variation_store.specs.Store.{Store, store_at}

-- majorVersion at 0, the offset of the store at 4, that of the map of advances at 8; 20 bytes
abbrev pub hvar_of : List ℕ → ℕ → Option Store
hvar_of table axes =
    if nat_le 20 (length table) && (word table 0 == 1) then store_at table (long table 4) axes else None

-- the advance of a glyph at an instance: hmtx's and the delta, kept a uint16
abbrev pub advance_of : Store → ℕ → ℕ → List ℤ → ℕ
advance_of s glyph advance coordinates =
    kept_uint16 (pos advance +ℤ delta s (index_of s.table (long s.table 8) glyph) coordinates)
