-- The record that a binary search finds for a key.
use Rattle.std.specs.Prelude.{ℕ, ◌+◌, ◌*◌, Bool, ◌&&◌, ◌==◌, nat_lt, nat_le, if◌then◌else◌, List, Option, Some, None}
use Rattle.tt_kern.specs.declared.search.KeySize.{KeySize}
use Rattle.tt_kern.specs.declared.search.KeySize.TheVariants.{Word, Long}
use Rattle.tt_kern.specs.Halves.{reached}
use Rattle.tt_kern.specs.Words.{word, long}

abbrev pub key_at : KeySize → List ℕ → ℕ → ℕ
key_at Word b at = word b at
key_at Long b at = long b at

-- whether the key of record i is the wanted key or more; the keys stand every step bytes from an offset on
abbrev pub is_at_least : KeySize → List ℕ → ℕ → ℕ → ℕ → ℕ → Bool
is_at_least size b at step key i = nat_le key (key_at size b (at + step * i))

abbrev pub found_at : KeySize → List ℕ → ℕ → ℕ → ℕ → ℕ → ℕ → Option ℕ
found_at size b at step n key i = if nat_lt i n && (key_at size b (at + step * i) == key) then Some i else None

-- the record where a search of n records ends, if that record has the key
abbrev pub found : KeySize → List ℕ → ℕ → ℕ → ℕ → ℕ → Option ℕ
found size b at step n key = found_at size b at step n key (reached n (is_at_least size b at step key))
