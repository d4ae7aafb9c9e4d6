-- The meaning of a glyph's data, in terms of its bytes. The definitions say which words are the ends, which run covers
-- a point, which deltas add up to a coordinate, and which records are the components. OpenType, "The 'glyf' table".
use Rattle.std.specs.Prelude.{◌≡◌, ℕ, zero, ◌+◌, ◌-◌, ◌*◌, ◌^◌, ◌<◌, ◌≤◌, true, false, suc, if◌then◌else◌, ℤ, pos, unsigned_abs, ◌+ℤ◌, ◌≤ℤ◌, ◌<ℤ◌, List, [], ◌∷◌, ◌++◌, length, map, fold, take, replicate, slice_index, slice_range, get_or, All, ◌⊎◌}
use Rattle.tt_core.specs.Limits.{component_limit}
use Rattle.tt_core.specs.Numbers.{unsigned_at, signed16}
use Rattle.tt_glyf.specs.declared.raw.RawPoint.{RawPoint}
use Rattle.tt_glyf.specs.declared.raw.Record.{Record}
use Rattle.tt_glyf.specs.Bytes.{GlyphBytes, stretch_at}
use Rattle.tt_glyf.specs.Format.{word_size, number_of_contours_offset, x_min_offset, header_size, end_place, size_place, has, on_curve_point, repeat_flag, glyph_index_offset, arguments_offset, arg_1_and_2_are_words, args_are_xy_values, we_have_a_scale, we_have_an_x_and_y_scale, we_have_a_two_by_two, more_components, argument_size, record_size}
use Rattle.tt_glyf.specs.Composite.{Transform, signed8, one_scale, identity, has_program}
use Rattle.tt_glyf.specs.Coordinates.{AxisFlags, Delta, x_axis, y_axis, short_delta}
use Rattle.tt_glyf.specs.Flags.{Run}
use Rattle.tt_glyf.specs.Loca.{Glyf, glyph_offset, has_no_bytes, bytes_between}
use Rattle.tt_glyf.specs.Raw.{SimpleGlyph, CompositeGlyph, Raw, empty, simple, composite}

-- P holds if there is no outline
abbrev pub IfEmpty : Raw → Type 0 → Type 0
IfEmpty empty P = P
IfEmpty (simple s) P = Unit {0}
IfEmpty (composite c) P = Unit {0}

-- P holds for a simple glyph
abbrev pub IfSimple : Raw → (SimpleGlyph → Type 0) → Type 0
IfSimple empty P = Unit {0}
IfSimple (simple s) P = P s
IfSimple (composite c) P = Unit {0}

-- P holds for a composite glyph
abbrev pub IfComposite : Raw → (CompositeGlyph → Type 0) → Type 0
IfComposite empty P = Unit {0}
IfComposite (simple s) P = Unit {0}
IfComposite (composite c) P = P c

-- the bytes of a glyph, and their offset
abbrev pub glyph_bytes_at : Glyf → ℕ → GlyphBytes
glyph_bytes_at t g = stretch_at (glyph_offset t g) (bytes_between t g)

-- a program is the bytes of glyf at its offset
abbrev pub IsProgram : List ℕ → List ℕ → ℕ → Type 0
IsProgram glyf code at = (at + length code ≤ length glyf) × (code ≡ slice_range glyf at (at + length code))

abbrev pub HasProgram : List ℕ → Raw → Type 0
HasProgram glyf empty = Unit {0}
HasProgram glyf (simple s) = IsProgram glyf s.code s.code_at
HasProgram glyf (composite c) = IsProgram glyf c.code c.code_at

-- the ends of contours never fall, and the last end is the last point
pub record AreEnds (points : ℕ) (ends : List ℕ) : Type 0 where
  pub some : 0 < length ends
  pub rising : (i j : ℕ) → i ≤ j → j < length ends → slice_index ends i ≤ slice_index ends j
  pub last : slice_index ends (length ends - 1) + 1 ≡ points

-- the header: numberOfContours, which is negative for a composite glyph, and xMin
abbrev pub contour_count : List ℕ → ℤ
contour_count bytes = signed16 (unsigned_at bytes number_of_contours_offset word_size)

abbrev pub written_x_min : List ℕ → ℤ
written_x_min bytes = signed16 (unsigned_at bytes x_min_offset word_size)

-- loca gives the glyph no bytes, or the glyph has no contours
abbrev pub HasNoOutline : Glyf → ℕ → Type 0
HasNoOutline t g = (has_no_bytes t g ≡ true) ⊎ (contour_count (bytes_between t g) ≡ pos 0)

-- the word for the end of contour i
abbrev pub written_end : List ℕ → ℕ → ℕ
written_end bytes i = unsigned_at bytes (end_place i) word_size

-- bytes of the program, which comes after its size and before the flags
abbrev pub written_size : List ℕ → ℕ → ℕ
written_size bytes contours = unsigned_at bytes (size_place contours) word_size

abbrev pub flags_place : List ℕ → ℕ → ℕ
flags_place bytes contours = size_place contours + word_size + written_size bytes contours

-- the fields of a simple glyph are the words of its bytes
pub record AreWords (g : GlyphBytes) (s : SimpleGlyph) : Type 0 where
  pub x_min : s.x_min ≡ written_x_min g.bytes
  pub contours : pos (length s.ends) ≡ contour_count g.bytes
  pub ends : (i : ℕ) → i < length s.ends → slice_index s.ends i ≡ written_end g.bytes i
  pub code_at : s.code_at ≡ g.start + (size_place (length s.ends) + word_size)
  pub code_size : length s.code ≡ written_size g.bytes (length s.ends)

-- the run of flags at an offset
abbrev pub written_run : List ℕ → ℕ → Run
written_run bytes at =
    if has (slice_index bytes at) repeat_flag then record
    { flag = slice_index bytes at; copies = slice_index bytes (at + 1); next = at + 2 }
    else record { flag = slice_index bytes at; copies = 0; next = at + 1 }

-- the offset after a number of runs
abbrev pub runs_end : List ℕ → ℕ → ℕ → ℕ
runs_end bytes at zero = at
runs_end bytes at (suc runs) = runs_end bytes (written_run bytes at).next runs

-- the flags of the points that a number of runs cover
abbrev pub written_flags : List ℕ → ℕ → ℕ → List ℕ
written_flags bytes at zero = []
written_flags bytes at (suc runs) =
    replicate (suc (written_run bytes at).copies) (written_run bytes at).flag ++ written_flags bytes
    (written_run bytes at).next runs

-- the delta at an offset for a point with this flag
abbrev pub written_delta : List ℕ → AxisFlags → ℕ → ℕ → Delta
written_delta bytes a flag at =
    if has flag a.short then record { by = short_delta (has flag a.same) (slice_index bytes at); next = at + 1 }
    else (if has flag a.same then record { by = pos 0; next = at }
    else record { by = signed16 (unsigned_at bytes at word_size); next = at + word_size })

-- all deltas along an axis, in the order of the bytes
abbrev pub deltas : List ℕ → AxisFlags → List ℕ → ℕ → List ℤ
deltas bytes a [] at = []
deltas bytes a (flag ∷ flags) at =
    (written_delta bytes a flag at).by ∷ deltas bytes a flags (written_delta bytes a flag at).next

-- the offset after all deltas along an axis
abbrev pub deltas_end : List ℕ → AxisFlags → List ℕ → ℕ → ℕ
deltas_end bytes a [] at = at
deltas_end bytes a (flag ∷ flags) at = deltas_end bytes a flags (written_delta bytes a flag at).next

-- the deltas along x follow the runs of flags; the deltas along y follow those along x
abbrev pub x_deltas : List ℕ → ℕ → ℕ → List ℤ
x_deltas bytes at runs = deltas bytes x_axis (written_flags bytes at runs) (runs_end bytes at runs)

abbrev pub y_place : List ℕ → ℕ → ℕ → ℕ
y_place bytes at runs = deltas_end bytes x_axis (written_flags bytes at runs) (runs_end bytes at runs)

abbrev pub y_deltas : List ℕ → ℕ → ℕ → List ℤ
y_deltas bytes at runs = deltas bytes y_axis (written_flags bytes at runs) (y_place bytes at runs)

abbrev pub points_end : List ℕ → ℕ → ℕ → ℕ
points_end bytes at runs = deltas_end bytes y_axis (written_flags bytes at runs) (y_place bytes at runs)

-- each value is `from` plus all deltas up to the value's index
pub record AreSums (from : ℤ) (values by : List ℤ) : Type 0 where
  pub many : length values ≡ length by
  pub sums : (i : ℕ) → i < length values → get_or values i (pos 0) ≡ fold ◌+ℤ◌ from (take (i + 1) by)

-- the points whose flags begin at an offset. A point's flag is that of its run, and its coordinates are the sums of all
-- deltas up to the point. No run and no delta passes the end of the bytes
pub record ArePoints (bytes : List ℕ) (at : ℕ) (points : List RawPoint) : Type 0 where
  pub runs : ℕ
  pub on : map (λ p. p.on) points ≡ map (λ flag. has flag on_curve_point) (written_flags bytes at runs)
  pub xs : AreSums (pos 0) (map (λ p. p.x) points) (x_deltas bytes at runs)
  pub ys : AreSums (pos 0) (map (λ p. p.y) points) (y_deltas bytes at runs)
  pub within : points_end bytes at runs ≤ length bytes

-- an argument of a record with these flags: a byte or a word, signed if it is an offset
abbrev pub written_argument : List ℕ → ℕ → ℕ → ℤ
written_argument bytes flags at =
    if has flags arg_1_and_2_are_words
    then (if has flags args_are_xy_values then signed16 (unsigned_at bytes at word_size) else pos (unsigned_at bytes at word_size))
    else (if has flags args_are_xy_values then signed8 (slice_index bytes at) else pos (slice_index bytes at))

-- the transform: one scale, a scale along each axis, or a matrix
abbrev pub written_transform : List ℕ → ℕ → ℕ → Transform
written_transform bytes flags at =
    if has flags we_have_a_scale then one_scale (signed16 (unsigned_at bytes at word_size))
    else (if has flags we_have_an_x_and_y_scale
    then record {
      xx = signed16 (unsigned_at bytes at word_size);
      yx = pos 0;
      xy = pos 0;
      yy = signed16 (unsigned_at bytes (at + word_size) word_size);
    }
    else (if has flags we_have_a_two_by_two
    then record {
      xx = signed16 (unsigned_at bytes at word_size);
      yx = signed16 (unsigned_at bytes (at + word_size) word_size);
      xy = signed16 (unsigned_at bytes (at + 2 * word_size) word_size);
      yy = signed16 (unsigned_at bytes (at + 3 * word_size) word_size);
    }
    else identity))

-- a record from its fields
abbrev pub record_of : ℕ → ℕ → ℕ → ℤ → ℤ → Transform → Record
record_of at flags glyph arg1 arg2 t = record
    { at = at; flags = flags; glyph = glyph; arg1 = arg1; arg2 = arg2; xx = t.xx; yx = t.yx; xy = t.xy; yy = t.yy }

abbrev pub written_component_flags : List ℕ → ℕ → ℕ
written_component_flags bytes at = unsigned_at bytes at word_size

abbrev pub written_component : List ℕ → ℕ → ℕ
written_component bytes at = unsigned_at bytes (at + glyph_index_offset) word_size

-- the component record at an offset: flags, component, two arguments, transform
abbrev pub written_record : GlyphBytes → ℕ → Record
written_record g at =
    let flags = written_component_flags g.bytes at in
    record_of (g.start + at) flags (written_component g.bytes at)
    (written_argument g.bytes flags (at + arguments_offset)) (written_argument g.bytes flags (at + arguments_offset + argument_size flags))
    (written_transform g.bytes flags (at + arguments_offset + 2 * argument_size flags))

-- the offset after the record at an offset
abbrev pub record_end : List ℕ → ℕ → ℕ
record_end bytes at = at + record_size (written_component_flags bytes at)

-- the records are those from an offset on, up to the first without the flag for more, and none passes the end of the
-- bytes
abbrev pub AreComponents : GlyphBytes → ℕ → List Record → Type 0
AreComponents g at [] = ⊥
AreComponents g at (r ∷ []) =
    (r ≡ written_record g at) × (record_end g.bytes at ≤ length g.bytes) × (has r.flags more_components ≡ false)
AreComponents g at (r ∷ s ∷ rs) =
    (r ≡ written_record g at) × (record_end g.bytes at ≤ length g.bytes) × (has r.flags more_components ≡ true)
    × AreComponents g (record_end g.bytes at) (s ∷ rs)

-- an offset is at most 2^15 in magnitude; the number of a point is an unsigned number of 16 bits
abbrev pub IsArgument : ℕ → ℤ → Type 0
IsArgument flags a =
    (has flags args_are_xy_values ≡ true → unsigned_abs a ≤ 2 ^ 15)
    × (has flags args_are_xy_values ≡ false → (pos 0 ≤ℤ a) × (a <ℤ pos (2 ^ 16)))

abbrev pub HasArguments : Record → Type 0
HasArguments r = IsArgument r.flags r.arg1 × IsArgument r.flags r.arg2

-- at least one record and at most the limit, each of a glyph of the font
pub record AreRecords (glyphs : ℕ) (records : List Record) : Type 0 where
  pub some : 0 < length records
  pub few : length records ≤ component_limit
  pub known : All (λ r. r.glyph < glyphs) records

-- the offset after the given records, whatever their flags
abbrev pub records_end : List ℕ → ℕ → List Record → ℕ
records_end bytes at [] = at
records_end bytes at (r ∷ rs) = records_end bytes (record_end bytes at) rs

-- the fields of a composite glyph are the words of its bytes. If a record announces a program, the program's size and
-- then the program follow the records
pub record AreCompositeWords (g : GlyphBytes) (c : CompositeGlyph) : Type 0 where
  pub contours : contour_count g.bytes <ℤ pos 0
  pub x_min : c.x_min ≡ written_x_min g.bytes
  pub follows : has_program c.records ≡ true → (c.code_at ≡ g.start + (records_end g.bytes header_size c.records + word_size))
      × (length c.code ≡ unsigned_at g.bytes (records_end g.bytes header_size c.records) word_size)
  pub none : has_program c.records ≡ false → c.code ≡ []

-- a glyph is as written: its words, the sums of its deltas, and its component records. Without an outline it has no
-- bytes or no contours
pub record IsAsWritten (t : Glyf) (g : ℕ) (d : Raw) : Type 0 where
  pub nothing : IfEmpty d (HasNoOutline t g)
  pub words : IfSimple d (AreWords (glyph_bytes_at t g))
  pub points : IfSimple d (λ s. ArePoints (bytes_between t g) (flags_place (bytes_between t g) (length s.ends)) s.points)
  pub composite_words : IfComposite d (AreCompositeWords (glyph_bytes_at t g))
  pub components : IfComposite d (λ c. AreComponents (glyph_bytes_at t g) header_size c.records)
