-- OpenType, "The 'glyf' table", "Simple Glyph Description": all deltas along x, then all deltas along y. A coordinate
-- is the sum of all deltas up to its point, and must fit 16 bits.
use Rattle.std.specs.Prelude.{ℕ, ◌+◌, ◌&&◌, Bool, if◌then◌else◌, ℤ, pos, neg_ℤ, ◌+ℤ◌, int_lt, List, [], ◌∷◌, Result, Ok, Err}
use Rattle.tt_core.specs.Faults.{Fault}
use Rattle.tt_core.specs.declared.fault.Why.TheVariants as why
use Rattle.tt_core.specs.Outcomes.{◌>>=◌}
use Rattle.tt_glyf.specs.Bytes.{GlyphBytes, Listing, byte_in, signed_in, glyph_fault, after}
use Rattle.tt_glyf.specs.Format.{word_size, has, x_short_vector, y_short_vector, x_is_same_or_positive, y_is_same_or_positive}

-- the two flag bits that say how a delta along an axis is encoded
pub record AxisFlags : Type 0 where
  pub short : ℕ
  pub same : ℕ

abbrev pub x_axis : AxisFlags
x_axis = record { short = x_short_vector; same = x_is_same_or_positive }

abbrev pub y_axis : AxisFlags
y_axis = record { short = y_short_vector; same = y_is_same_or_positive }

-- a delta, and the offset after it
pub record Delta : Type 0 where
  pub by : ℤ
  pub next : ℕ

-- a delta of one byte, with its sign from another bit
abbrev pub short_delta : Bool → ℕ → ℤ
short_delta positive byte = if positive then pos byte else neg_ℤ (pos byte)

-- the delta of a point with this flag
unfoldable pub delta_at : GlyphBytes → AxisFlags → ℕ → ℕ → Result Delta Fault
delta_at g a flag at =
    if has flag a.short then (byte_in g at >>= λ byte. Ok
    (record { by = short_delta (has flag a.same) byte; next = at + 1 }))
    else (if has flag a.same then Ok (record { by = pos 0; next = at })
    else (signed_in g at >>= λ word. Ok (record { by = word; next = at + word_size })))

-- a coordinate, or a candidate for one, and the offset after its delta
pub record Coordinate : Type 0 where
  pub value : ℤ
  pub next : ℕ

-- the sum of the preceding coordinate and a delta
abbrev pub summed : Coordinate → Delta → Coordinate
summed before d = record { value = before.value +ℤ d.by; next = d.next }

-- whether a number fits 16 bits
abbrev pub is_coordinate : ℤ → Bool
is_coordinate v = int_lt (neg_ℤ (pos 32769)) v && int_lt v (pos 32768)

-- a sum that leaves 16 bits is refused, at the glyph's first byte
unfoldable pub within_words : GlyphBytes → Coordinate → Result Coordinate Fault
within_words g c = if is_coordinate c.value then Ok c else Err (glyph_fault g 0 why.CoordRange)

-- the coordinate of a point with this flag
unfoldable pub coordinate_at : GlyphBytes → AxisFlags → ℕ → Coordinate → Result Coordinate Fault
coordinate_at g a flag before = delta_at g a flag before.next >>= λ d. within_words g (summed before d)

-- the coordinates of the points with these flags
unfoldable pub coordinates_from : GlyphBytes → AxisFlags → List ℕ → Coordinate → Result (Listing ℤ) Fault
coordinates_from g a [] before = Ok (record { items = []; next = before.next })
coordinates_from g a (flag ∷ flags) before = do
  c ← coordinate_at g a flag before
  after (c.value ∷ []) (coordinates_from g a flags c)

-- 0, the start of the first sum
abbrev pub origin : ℕ → Coordinate
origin at = record { value = pos 0; next = at }

abbrev pub coordinates_of : GlyphBytes → AxisFlags → List ℕ → ℕ → Result (Listing ℤ) Fault
coordinates_of g a flags at = coordinates_from g a flags (origin at)
