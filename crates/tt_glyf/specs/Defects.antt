-- The possible defects of a glyph, in terms of its bytes: each defect with its fault, whatever the order of the tests.
-- OpenType, "The 'glyf' table"; the limits are profile.
use Rattle.std.specs.Prelude.{◌≡◌, ℕ, zero, suc, ◌+◌, ◌-◌, ◌<◌, ◌≤◌, true, false, ℤ, pos, unsigned_abs, ◌+ℤ◌, ◌<ℤ◌, List, [], ◌∷◌, length, fold, take, ◌⊎◌}
use Rattle.tt_core.specs.Faults.{Fault}
use Rattle.tt_core.specs.declared.fault.Why.TheVariants as why
use Rattle.tt_core.specs.Limits.{component_limit, point_limit}
use Rattle.tt_core.specs.Numbers.{unsigned_at}
use Rattle.tt_glyf.specs.declared.raw.Record.{Record}
use Rattle.tt_glyf.specs.Bytes.{GlyphBytes, glyph_fault, short}
use Rattle.tt_glyf.specs.Composite.{has_program, asks_scaled_offset}
use Rattle.tt_glyf.specs.Format.{word_size, header_size, more_components, has, end_place, size_place}
use Rattle.tt_glyf.specs.Coordinates.{is_coordinate}
use Rattle.tt_glyf.specs.Loca.{Glyf, glyph_offset, IsRangeDefect}
use Rattle.tt_glyf.specs.Meaning.{glyph_bytes_at, contour_count, written_end, flags_place, written_run, runs_end, written_flags, x_deltas, y_deltas, points_end, written_component_flags, written_component, written_record, record_end}

-- the bytes end before a field does
abbrev pub IsCut : GlyphBytes → ℕ → Fault → Type 0
IsCut g end fault = (length g.bytes < end) × (fault ≡ short g)

-- the end of contour i + 1 is below the end of contour i
abbrev pub IsFallingEnd : GlyphBytes → ℕ → Fault → Type 0
IsFallingEnd g contours fault =
    (i : ℕ) × (i + 1 < contours) × (end_place (i + 1) + word_size ≤ length g.bytes)
    × (written_end g.bytes (i + 1) < written_end g.bytes i)
    × (fault ≡ glyph_fault g (end_place (i + 1)) why.ContourOrder)

-- the number of points, from the last contour's end
abbrev pub written_points : List ℕ → ℕ → ℕ
written_points bytes contours = written_end bytes (contours - 1) + 1

-- the points exceed the limit
abbrev pub IsManyPoints : GlyphBytes → ℕ → Fault → Type 0
IsManyPoints g contours fault =
    (size_place contours ≤ length g.bytes) × (point_limit < written_points g.bytes contours)
    × (fault ≡ glyph_fault g (end_place (contours - 1)) why.PointLimit)

-- the run at an offset passes the end of the bytes, or copies its flag past the last of the remaining points
abbrev pub IsBadRun : GlyphBytes → ℕ → ℕ → Fault → Type 0
IsBadRun g at left fault =
    IsCut g (written_run g.bytes at).next fault
    ⊎ ((left ≤ (written_run g.bytes at).copies) × (fault ≡ glyph_fault g at why.FlagRun))

-- one of the runs that the points need is bad
abbrev pub IsFlagDefect : GlyphBytes → ℕ → ℕ → Fault → Type 0
IsFlagDefect g at points fault =
    (k : ℕ) × (length (written_flags g.bytes at k) < points)
    × IsBadRun g (runs_end g.bytes at k) (points - length (written_flags g.bytes at k)) fault

-- some sum of deltas leaves 16 bits
abbrev pub LeavesWords : List ℤ → Type 0
LeavesWords by = (i : ℕ) × (i < length by) × (is_coordinate (fold ◌+ℤ◌ (pos 0) (take (i + 1) by)) ≡ false)

-- after the runs of all points, a delta passes the end of the bytes, or a coordinate leaves 16 bits
abbrev pub IsCoordinateDefect : GlyphBytes → ℕ → ℕ → Fault → Type 0
IsCoordinateDefect g at points fault =
    (runs : ℕ) × (length (written_flags g.bytes at runs) ≡ points)
    × (IsCut g (points_end g.bytes at runs) fault
    ⊎ ((LeavesWords (x_deltas g.bytes at runs) ⊎ LeavesWords (y_deltas g.bytes at runs))
    × (fault ≡ glyph_fault g 0 why.CoordRange)))

-- a defect of a simple glyph with this number of contours
abbrev pub IsSimpleDefect : GlyphBytes → ℕ → Fault → Type 0
IsSimpleDefect g contours fault =
    IsCut g (flags_place g.bytes contours) fault
    ⊎ IsFallingEnd g contours fault
    ⊎ IsManyPoints g contours fault
    ⊎ IsFlagDefect g (flags_place g.bytes contours) (written_points g.bytes contours) fault
    ⊎ IsCoordinateDefect g (flags_place g.bytes contours) (written_points g.bytes contours) fault

-- the first n records from an offset on
abbrev pub written_records : GlyphBytes → ℕ → ℕ → List Record
written_records g at zero = []
written_records g at (suc n) = written_record g at ∷ written_records g (record_end g.bytes at) n

-- the offset after the first n records
abbrev pub record_place : List ℕ → ℕ → ℕ → ℕ
record_place bytes at zero = at
record_place bytes at (suc n) = record_place bytes (record_end bytes at) n

-- each of the first n records says that another follows
abbrev pub GoesOn : GlyphBytes → ℕ → ℕ → Type 0
GoesOn g at zero = Unit {0}
GoesOn g at (suc n) =
    (has (written_component_flags g.bytes at) more_components ≡ true) × GoesOn g (record_end g.bytes at) n

-- a bad record: it passes the end of the bytes, its glyph does not exist in the font, or it requests a transform that
-- would change its offset
abbrev pub IsBadRecord : ℕ → GlyphBytes → ℕ → Fault → Type 0
IsBadRecord glyphs g at fault =
    IsCut g (record_end g.bytes at) fault
    ⊎ ((glyphs ≤ written_component g.bytes at) × (fault ≡ glyph_fault g at why.ComponentGlyph))
    ⊎ ((asks_scaled_offset (written_record g at) ≡ true) × (fault ≡ glyph_fault g at why.ScaledOffset))

-- one of the allowed records is bad, or another record follows them
abbrev pub IsRecordsDefect : ℕ → GlyphBytes → ℕ → ℕ → Fault → Type 0
IsRecordsDefect glyphs g at allowed fault =
    ((n : ℕ) × (n < allowed) × GoesOn g at n × IsBadRecord glyphs g (record_place g.bytes at n) fault)
    ⊎ (GoesOn g at allowed × (fault ≡ glyph_fault g (record_place g.bytes at allowed) why.ComponentCount))

-- some record, up to the last one, says that a program follows, and the program passes the end of the bytes
abbrev pub IsProgramDefect : GlyphBytes → ℕ → Fault → Type 0
IsProgramDefect g at fault =
    (n : ℕ) × GoesOn g at n × (has (written_component_flags g.bytes (record_place g.bytes at n))
    more_components ≡ false)
    × (has_program (written_records g at (suc n)) ≡ true)
    × IsCut g (record_place g.bytes at (suc n) + word_size + unsigned_at g.bytes (record_place g.bytes at (suc n)) word_size) fault

-- a defect of a composite glyph
abbrev pub IsCompositeDefect : ℕ → GlyphBytes → Fault → Type 0
IsCompositeDefect glyphs g fault = IsRecordsDefect glyphs g header_size component_limit fault ⊎ IsProgramDefect g header_size fault

-- a defect of the bytes of a glyph: the header is cut, or the part after the header is bad
abbrev pub IsBadGlyph : ℕ → GlyphBytes → Fault → Type 0
IsBadGlyph glyphs g fault =
    IsCut g header_size fault
    ⊎ ((header_size ≤ length g.bytes) × (pos 0 <ℤ contour_count g.bytes)
    × IsSimpleDefect g (unsigned_abs (contour_count g.bytes)) fault)
    ⊎ ((header_size ≤ length g.bytes) × (contour_count g.bytes <ℤ pos 0) × IsCompositeDefect glyphs g fault)

-- loca gives the glyph bytes of glyf
abbrev pub HasBytes : Glyf → ℕ → Type 0
HasBytes t g = (glyph_offset t g < glyph_offset t (g + 1)) × (glyph_offset t g ≤ length t.glyf)

-- a defect of a glyph
abbrev pub IsGlyphDefect : Glyf → ℕ → Fault → Type 0
IsGlyphDefect t g fault = IsRangeDefect t g fault ⊎ (HasBytes t g × IsBadGlyph t.glyphs (glyph_bytes_at t g) fault)
