-- OpenType, "Data types". Packed data are read from front to back. A byte that is not there ends the reading, at the end
-- of the bytes (profile).
use Rattle.std.specs.Prelude.{◌≡◌, refl, ℕ, ◌+◌, ◌^◌, nat_lt, nat_le, if◌then◌else◌, ℤ, pos, negsuc, ◌-ℤ◌, List, [], ◌∷◌, ◌++◌, length, slice_index, slice_range, map, codes, Result, Ok, Err}
use Rattle.tt_core.specs.declared.fault.Why.TheVariants as why
use Rattle.tt_core.specs.Faults.{Fault, fault_at}
use Rattle.tt_core.specs.Numbers.{unsigned_at, signed16}
use Rattle.tt_tuples.specs.declared.source.TupleTable.{TupleTable}
use Rattle.tt_tuples.specs.declared.source.TupleTable.TheVariants as table

-- the data of a glyph in gvar, or all of cvar: the table, where the data begin in it, and their bytes
pub record TupleStore : Type 0 where
  pub table : TupleTable
  pub start : ℕ
  pub bytes : List ℕ

abbrev pub tag_of : TupleTable → List ℕ
tag_of table.Gvar = codes "gvar"
tag_of table.Cvar = codes "cvar"

-- the fault of data that are wrong at a place
abbrev pub broken : TupleStore → ℕ → Fault
broken d at = fault_at (tag_of d.table) (d.start + at) why.GlyphVariation

-- the byte at a place
unfoldable pub byte_in : TupleStore → ℕ → Result ℕ Fault
byte_in d at = if nat_lt at (length d.bytes) then Ok (slice_index d.bytes at) else Err (broken d (length d.bytes))

-- the uint16 at a place
unfoldable pub word_in : TupleStore → ℕ → Result ℕ Fault
word_in d at =
    if nat_le (at + 2) (length d.bytes) then Ok (unsigned_at d.bytes at 2) else Err (broken d (length d.bytes))

-- the int16 at a place
unfoldable pub signed_in : TupleStore → ℕ → Result ℤ Fault
signed_in d at =
    if nat_le (at + 2) (length d.bytes) then Ok (signed16 (unsigned_at d.bytes at 2))
    else Err (broken d (length d.bytes))

-- the n bytes from a place on
unfoldable pub slice_in : TupleStore → ℕ → ℕ → Result (List ℕ) Fault
slice_in d at n =
    if nat_le (at + n) (length d.bytes) then Ok (slice_range d.bytes at (at + n))
    else Err (broken d (length d.bytes))

-- 8 bits read as two's complement
abbrev pub signed8 : ℕ → ℤ
signed8 n = if nat_lt n (2 ^ 7) then pos n else pos n -ℤ pos (2 ^ 8)

-- a value that is read from the bytes, and the place after its bytes
pub record Read (A : Type 0) : Type 0 where
  pub value : A
  pub next : ℕ

-- items that were read before the items of a result
abbrev pub after : {A : Type 0} → List A → Result (Read (List A)) Fault → Result (Read (List A)) Fault
after before (Ok read) = Ok (record { value = before ++ read.value; next = read.next })
after before (Err e) = Err e

-- worked values: data of a glyph at offset 100 of gvar, and the fault at an offset of gvar
abbrev pub glyph_at_100 : List ℕ → TupleStore
glyph_at_100 bytes = record { table = table.Gvar; start = 100; bytes = bytes }

abbrev pub gvar_fault : ℕ → Fault
gvar_fault offset = fault_at (codes "gvar") offset why.GlyphVariation

signed_bytes : map signed8 (0 ∷ 64 ∷ 127 ∷ 128 ∷ 255 ∷ []) ≡ pos 0 ∷ pos 64 ∷ pos 127 ∷ negsuc 127 ∷ negsuc 0 ∷ []
signed_bytes = refl

half_a_word : word_in (glyph_at_100 (1 ∷ 2 ∷ 3 ∷ [])) 2 ≡ Err (gvar_fault 103)
unfolding word_in
half_a_word = refl
