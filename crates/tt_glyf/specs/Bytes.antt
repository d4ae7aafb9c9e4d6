-- OpenType, "The 'glyf' table" and the data types. The bytes of a glyph are read from front to back. A field past their
-- end is refused, at the end.
use Rattle.std.specs.Prelude.{ℕ, ◌+◌, nat_lt, nat_le, if◌then◌else◌, ℤ, List, ◌++◌, length, slice_index, slice_range, codes, Result, Ok, Err}
use Rattle.tt_core.specs.Faults.{Fault}
use Rattle.tt_core.specs.declared.fault.Why.{Why}
use Rattle.tt_core.specs.declared.fault.Why.TheVariants as why
use Rattle.tt_core.specs.Faults.{fault_at}
use Rattle.tt_core.specs.Numbers.{unsigned_at, signed16}

-- 'glyf'
abbrev pub glyf_tag : List ℕ
glyf_tag = codes "glyf"

-- the bytes of one glyph, and their offset in glyf
pub record GlyphBytes : Type 0 where
  pub start : ℕ
  pub bytes : List ℕ

abbrev pub stretch_at : ℕ → List ℕ → GlyphBytes
stretch_at start bytes = record { start = start; bytes = bytes }

-- a fault at a byte of the glyph, with the byte's offset in glyf
abbrev pub glyph_fault : GlyphBytes → ℕ → Why → Fault
glyph_fault s at why = fault_at glyf_tag (s.start + at) why

-- the fault of bytes that end too early
abbrev pub short : GlyphBytes → Fault
short s = glyph_fault s (length s.bytes) why.GlyphShort

-- the byte at an offset
unfoldable pub byte_in : GlyphBytes → ℕ → Result ℕ Fault
byte_in s at = if nat_lt at (length s.bytes) then Ok (slice_index s.bytes at) else Err (short s)

-- the unsigned number in the two bytes at an offset
unfoldable pub word_in : GlyphBytes → ℕ → Result ℕ Fault
word_in s at = if nat_le (at + 2) (length s.bytes) then Ok (unsigned_at s.bytes at 2) else Err (short s)

-- the signed number in the two bytes at an offset
unfoldable pub signed_in : GlyphBytes → ℕ → Result ℤ Fault
signed_in s at = if nat_le (at + 2) (length s.bytes) then Ok (signed16 (unsigned_at s.bytes at 2)) else Err (short s)

-- the n bytes from an offset on
unfoldable pub slice_in : GlyphBytes → ℕ → ℕ → Result (List ℕ) Fault
slice_in s at n = if nat_le (at + n) (length s.bytes) then Ok (slice_range s.bytes at (at + n)) else Err (short s)

-- a list read from the bytes, and the offset after it
pub record Listing (A : Type 0) : Type 0 where
  pub items : List A
  pub next : ℕ

-- items read earlier, followed by the items of a result
abbrev pub after : {A : Type 0} → List A → Result (Listing A) Fault → Result (Listing A) Fault
after before (Ok read) = Ok (record { items = before ++ read.items; next = read.next })
after before (Err f) = Err f
