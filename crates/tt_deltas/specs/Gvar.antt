-- OpenType, "gvar", "'gvar' header": what the header says, and the data of a glyph. The data end where the table ends
-- (profile).
use Rattle.std.specs.Prelude.{◌≡◌, ◌≢◌, ℕ, ◌+◌, ◌*◌, ◌%◌, ◌<◌, ◌≤◌, min, Bool, not, ◌||◌, ◌==◌, nat_lt, nat_le, if◌then◌else◌, List, [], ◌∷◌, ◌++◌, length, take, slice_range, codes, Option, Some, None, Result, Ok, Err, ◌⊎◌, map, refl}
use Rattle.tt_core.specs.declared.fault.Why.TheVariants as why
use Rattle.tt_core.specs.Directory.{Directory, needed_table}
use Rattle.tt_core.specs.Faults.{Fault, fault_at}
use Rattle.tt_core.specs.Limits.{font_limit}
use Rattle.tt_core.specs.Numbers.{unsigned_at}
use Rattle.tt_core.specs.Outcomes.{◌>>=◌}

-- 'gvar'
abbrev pub gvar_tag : List ℕ
gvar_tag = codes "gvar"

-- bytes of the header
abbrev pub header_size : ℕ
header_size = 20

-- majorVersion and minorVersion
abbrev pub version : List ℕ → ℕ
version table = unsigned_at table 0 4

abbrev pub axis_count : List ℕ → ℕ
axis_count table = unsigned_at table 4 2

abbrev pub shared_tuple_count : List ℕ → ℕ
shared_tuple_count table = unsigned_at table 6 2

abbrev pub shared_tuples_offset : List ℕ → ℕ
shared_tuples_offset table = unsigned_at table 8 4

abbrev pub glyph_count : List ℕ → ℕ
glyph_count table = unsigned_at table 12 2

-- bit 0 of flags: offsets of four bytes
abbrev pub has_long_offsets : List ℕ → Bool
has_long_offsets table = unsigned_at table 14 2 % 2 == 1

abbrev pub data_offset : List ℕ → ℕ
data_offset table = unsigned_at table 16 4

-- bytes of an offset
abbrev pub offset_size : List ℕ → ℕ
offset_size table = if has_long_offsets table then 4 else 2

-- the place of glyph g's entry
abbrev pub entry_place : List ℕ → ℕ → ℕ
entry_place table g = header_size + offset_size table * g

-- the end of the offsets: one for each glyph, and one more
abbrev pub offsets_end : List ℕ → ℕ
offsets_end table = header_size + offset_size table * (glyph_count table + 1)

-- bytes of the shared tuples: a 2.14 for each axis
abbrev pub shared_bytes : List ℕ → ℕ → ℕ
shared_bytes table axes = 2 * axes * shared_tuple_count table

abbrev pub shared_end : List ℕ → ℕ → ℕ
shared_end table axes = shared_tuples_offset table + shared_bytes table axes

-- gvar of a font with so many axes
pub record Gvar : Type 0 where
  pub table : List ℕ
  pub axes : ℕ

abbrev pub shape_fault : ℕ → Fault
shape_fault at = fault_at gvar_tag at why.VariationShape

-- the table itself, or the first fault of its header
unfoldable pub gvar_in : List ℕ → ℕ → Result Gvar Fault
gvar_in table axes =
    if nat_lt (length table) header_size then Err (shape_fault (length table))
    else (if not (version table == 0x00010000) then Err (shape_fault 0)
    else (if not (axis_count table == axes) then Err (shape_fault 4)
    else (if nat_lt (length table) (offsets_end table) then Err (shape_fault 12)
    else (if nat_lt (length table) (shared_end table axes) then Err (shape_fault 8)
    else Ok (record { table = table; axes = axes })))))

-- gvar of a font, which it must have
abbrev pub gvar_of : Directory → ℕ → Result Gvar Fault
gvar_of d axes = needed_table d gvar_tag >>= λ table. gvar_in table axes

-- a header without faults
pub record IsGvar (g : Gvar) : Type 0 where
  pub header : header_size ≤ length g.table
  pub offsets : offsets_end g.table ≤ length g.table
  pub shared : shared_end g.table g.axes ≤ length g.table
  pub limit : length g.table ≤ font_limit
  pub few : g.axes ≤ 64

abbrev pub shared_bytes_of : Gvar → List ℕ
shared_bytes_of g = slice_range g.table (shared_tuples_offset g.table) (shared_end g.table g.axes)

-- the offset from entry g; a short entry has half the offset
abbrev pub offset_at : List ℕ → ℕ → ℕ
offset_at table g =
    if has_long_offsets table then unsigned_at table (header_size + 4 * g) 4 else 2 * unsigned_at table (header_size + 2 * g) 2

-- a glyph's data, and their offset in the table
pub record GlyphData : Type 0 where
  pub start : ℕ
  pub bytes : List ℕ

abbrev pub start_of : List ℕ → ℕ → ℕ
start_of table g = data_offset table + offset_at table g

-- the data end at the next glyph's, or where the table ends
abbrev pub end_of : List ℕ → ℕ → ℕ
end_of table g = min (start_of table (g + 1)) (length table)

-- whether a glyph has no entry, or one that is equal to the next
abbrev pub has_no_data : List ℕ → ℕ → Bool
has_no_data table g = nat_le (glyph_count table) g || (offset_at table g == offset_at table (g + 1))

-- whether entry g is above the next one, or past the table
abbrev pub is_out_of_range : List ℕ → ℕ → Bool
is_out_of_range table g =
    nat_lt (offset_at table (g + 1)) (offset_at table g) || nat_lt (length table) (start_of table g)

abbrev pub data_at : List ℕ → ℕ → GlyphData
data_at table g =
    record { start = start_of table g; bytes = slice_range table (start_of table g) (end_of table g) }

abbrev pub entry_fault : List ℕ → ℕ → Fault
entry_fault table g = fault_at gvar_tag (entry_place table g) why.GlyphVariation

-- the data of a glyph, if it has any
unfoldable pub glyph_data_of : Gvar → ℕ → Result (Option GlyphData) Fault
glyph_data_of v g =
    if has_no_data v.table g then Ok None
    else (if is_out_of_range v.table g then Err (entry_fault v.table g) else Ok (Some (data_at v.table g)))

-- The defects of refused tables, whatever the order of the tests.

-- the header is cut, its version or its number of axes is another, or its offsets or shared tuples do not fit
abbrev pub IsShapeDefect : ℕ → List ℕ → Fault → Type 0
IsShapeDefect axes table fault =
    ((length table < header_size) × (fault ≡ shape_fault (length table)))
    ⊎ ((4 ≤ length table) × (version table ≢ 0x00010000) × (fault ≡ shape_fault 0))
    ⊎ ((6 ≤ length table) × (axis_count table ≢ axes) × (fault ≡ shape_fault 4))
    ⊎ ((header_size ≤ length table) × (length table < offsets_end table) × (fault ≡ shape_fault 12))
    ⊎ ((header_size ≤ length table) × (length table < shared_end table axes) × (fault ≡ shape_fault 8))

-- a glyph's entry is unequal to the next, and above it or past the table
abbrev pub IsGlyphDefect : Gvar → ℕ → Fault → Type 0
IsGlyphDefect v g fault =
    (g < glyph_count v.table) × (offset_at v.table g ≢ offset_at v.table (g + 1))
    × ((offset_at v.table (g + 1) < offset_at v.table g) ⊎ (length v.table < start_of v.table g))
    × (fault ≡ entry_fault v.table g)

-- worked values: one axis, one shared tuple, two glyphs by short offsets; the first has four bytes, the second none
abbrev of_two_glyphs : List ℕ → List ℕ
of_two_glyphs offsets =
    0 ∷ 1 ∷ 0 ∷ 0 ∷ 0 ∷ 1 ∷ 0 ∷ 1 ∷ 0 ∷ 0 ∷ 0 ∷ 26 ∷ 0 ∷ 2 ∷ 0 ∷ 0 ∷ 0 ∷ 0 ∷ 0 ∷ 28 ∷ offsets
    ++ 64 ∷ 0 ∷ 1 ∷ 2 ∷ 3 ∷ 4 ∷ []

abbrev two_glyphs : List ℕ
two_glyphs = of_two_glyphs (0 ∷ 0 ∷ 0 ∷ 2 ∷ 0 ∷ 2 ∷ [])

abbrev of_one_axis : List ℕ → Gvar
of_one_axis table = record { table = table; axes = 1 }

its_header : gvar_in two_glyphs 1 ≡ Ok (of_one_axis two_glyphs)
unfolding gvar_in
its_header = refl

its_shared_tuple : shared_bytes_of (of_one_axis two_glyphs) ≡ 64 ∷ 0 ∷ []
its_shared_tuple = refl

-- offsets of two bytes are halves; equal ones mean no data, and so does a glyph without an entry
its_glyphs : map (glyph_data_of (of_one_axis two_glyphs)) (0 ∷ 1 ∷ 2 ∷ [])
    ≡ Ok (Some (record { start = 28; bytes = 1 ∷ 2 ∷ 3 ∷ 4 ∷ [] })) ∷ Ok None ∷ Ok None ∷ []
unfolding glyph_data_of
its_glyphs = refl

-- data past the end of the table are cut
data_that_are_cut : map (glyph_data_of (of_one_axis (of_two_glyphs (0 ∷ 1 ∷ 0 ∷ 9 ∷ 0 ∷ 9 ∷ [])))) (0 ∷ 1 ∷ [])
    ≡ Ok (Some (record { start = 30; bytes = 3 ∷ 4 ∷ [] })) ∷ Ok None ∷ []
unfolding glyph_data_of
data_that_are_cut = refl

-- the first entry falls, the second is past the table
wrong_entries : map (glyph_data_of (of_one_axis (of_two_glyphs (0 ∷ 2 ∷ 0 ∷ 1 ∷ 0 ∷ 0 ∷ [])))) (0 ∷ 1 ∷ [])
    ≡ Err (fault_at gvar_tag 20 why.GlyphVariation) ∷ Err (fault_at gvar_tag 22 why.GlyphVariation) ∷ []
unfolding glyph_data_of
wrong_entries = refl

past_the_table : glyph_data_of (of_one_axis (of_two_glyphs (0 ∷ 0 ∷ 0 ∷ 3 ∷ 0 ∷ 4 ∷ []))) 1
    ≡ Err (fault_at gvar_tag 22 why.GlyphVariation)
unfolding glyph_data_of
past_the_table = refl

-- offsets of four bytes
of_long_offsets : List ℕ
of_long_offsets =
    0 ∷ 1 ∷ 0 ∷ 0 ∷ 0 ∷ 1 ∷ 0 ∷ 0 ∷ 0 ∷ 0 ∷ 0 ∷ 28 ∷ 0 ∷ 1 ∷ 0 ∷ 1 ∷ 0 ∷ 0 ∷ 0 ∷ 28
    ∷ 0 ∷ 0 ∷ 0 ∷ 0 ∷ 0 ∷ 0 ∷ 0 ∷ 3 ∷ 5 ∷ 6 ∷ 7 ∷ []

whole_offsets : glyph_data_of (of_one_axis of_long_offsets) 0 ≡ Ok (Some (record { start = 28; bytes = 5 ∷ 6 ∷ 7 ∷ [] }))
unfolding glyph_data_of of_long_offsets
whole_offsets = refl

-- the refusals in the order of the tests
each_refusal : map (λ k. gvar_in (take k two_glyphs) 1) (19 ∷ 25 ∷ 27 ∷ [])
    ≡ Err (shape_fault 19) ∷ Err (shape_fault 12) ∷ Err (shape_fault 8) ∷ []
unfolding gvar_in
each_refusal = refl

another_version : gvar_in (0 ∷ 2 ∷ 0 ∷ 0 ∷ 0 ∷ 2 ∷ 0 ∷ 0 ∷ 0 ∷ 0 ∷ 0 ∷ 20 ∷ 0 ∷ 0 ∷ 0 ∷ 0 ∷ 0 ∷ 0 ∷ 0 ∷ 20 ∷ []) 1
    ≡ Err (shape_fault 0)
unfolding gvar_in
another_version = refl

another_number_of_axes : gvar_in two_glyphs 2 ≡ Err (shape_fault 4)
unfolding gvar_in
another_number_of_axes = refl
