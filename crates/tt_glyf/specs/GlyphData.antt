-- Apple TrueType Reference Manual and OpenType, "The 'glyf' table": the content of a glyph's bytes, or their first
-- fault in the order of reading.
use Rattle.std.specs.Prelude.{◌≡◌, true, neg_ℤ, take, codes, ℕ, ◌==◌, nat_lt, int_lt, if◌then◌else◌, ℤ, pos, unsigned_abs, List, [], ◌∷◌, length, Result, Ok, Err, refl}
use Rattle.tt_core.specs.Faults.{Fault}
use Rattle.tt_core.specs.declared.fault.Why.TheVariants as why
use Rattle.tt_core.specs.Faults.{fault_at}
use Rattle.tt_core.specs.Outcomes.{◌>>=◌}
use Rattle.tt_glyf.specs.declared.raw.RawPoint.{RawPoint}
use Rattle.tt_glyf.specs.Bytes.{GlyphBytes, stretch_at, byte_in, word_in, signed_in, slice_in, short}
use Rattle.tt_glyf.specs.Composite.{one, two_scales_at, two_by_two_at, transform_at, argument_at, arguments_at, unscaled, known_glyph, record_at, records_from, program_of, composite_of}
use Rattle.tt_glyf.specs.Coordinates.{delta_at, within_words, coordinate_at, coordinates_from}
use Rattle.tt_glyf.specs.Format.{number_of_contours_offset, x_min_offset, header_size}
use Rattle.tt_glyf.specs.Flags.{run_at, flags_from}
use Rattle.tt_glyf.specs.Loca.{Glyf, glyph_offset, has_no_bytes, glyph_bytes_of}
use Rattle.tt_glyf.specs.Raw.{Raw, empty, simple, composite}
use Rattle.tt_glyf.specs.Simple.{end_at, ends_from, points_within, points_of, simple_of}

pub record GlyphHeader : Type 0 where
  pub contours : ℤ
  pub x_min : ℤ

-- numberOfContours and xMin; the whole header must exist
unfoldable pub header_of : GlyphBytes → Result GlyphHeader Fault
header_of g =
    if nat_lt (length g.bytes) header_size then Err (short g)
    else (signed_in g number_of_contours_offset >>= λ contours. signed_in g x_min_offset >>= λ x_min. Ok (record { contours = contours; x_min = x_min }))

-- the part after the header; a glyph without contours is empty, and its other bytes are not read; any negative number
-- means a composite (profile)
unfoldable pub described : ℕ → GlyphBytes → GlyphHeader → Result Raw Fault
described glyphs g h =
    if int_lt h.contours (pos 0) then composite_of glyphs g h.x_min
    else (if unsigned_abs h.contours == 0 then Ok empty else simple_of g h.x_min (unsigned_abs h.contours))

-- the glyph that bytes of glyf describe
abbrev pub glyph_in : ℕ → GlyphBytes → Result Raw Fault
glyph_in glyphs g = header_of g >>= described glyphs g

-- the glyph with a number
unfoldable pub glyph_data_of : Glyf → ℕ → Result Raw Fault
glyph_data_of t g =
    if has_no_bytes t g then Ok empty
    else (glyph_bytes_of t g >>= λ bytes. glyph_in t.glyphs (stretch_at (glyph_offset t g) bytes))

-- worked values: one contour of four points, all on the curve
square : List ℕ
square =
    0 ∷ 1 ∷ 0 ∷ 64 ∷ 0 ∷ 0 ∷ 0 ∷ 192 ∷ 0 ∷ 128 ∷ 0 ∷ 3 ∷ 0 ∷ 0 ∷ 0x33 ∷ 0x35 ∷ 0x33 ∷ 0x15 ∷ 0x40 ∷ 0x80 ∷ 0x80 ∷ 0x80
    ∷ []

corner : ℤ → ℤ → RawPoint
corner x y = record { x = x; y = y; on = true }

square_is_read : glyph_in 3 (stretch_at 0 square) ≡ Ok (simple
    (record {
      x_min = pos 64;
      points = corner (pos 64) (pos 0) ∷ corner (pos 64) (pos 128) ∷ corner (pos 192) (pos 128)
          ∷ corner (pos 192) (pos 0) ∷ [];
      ends = 3 ∷ [];
      code = [];
      code_at = 14;
    }))
unfolding square corner header_of described simple_of ends_from end_at points_within points_of flags_from run_at
    coordinates_from coordinate_at within_words delta_at byte_in word_in signed_in slice_in
square_is_read = refl

-- the square without its last byte
square_cut : glyph_in 3 (stretch_at 100 (take 21 square)) ≡ Err (fault_at (codes "glyf") 121 why.GlyphShort)
unfolding square header_of described simple_of ends_from end_at points_within points_of flags_from run_at
    coordinates_from coordinate_at within_words delta_at byte_in word_in signed_in slice_in
square_cut = refl

-- glyph 1 as a component, rotated by a quarter turn and moved right by 127
turned : List ℕ
turned =
    255 ∷ 255 ∷ 0 ∷ 64 ∷ 0 ∷ 0 ∷ 0 ∷ 192 ∷ 0 ∷ 128 ∷ 0 ∷ 0x82 ∷ 0 ∷ 1 ∷ 0x7F ∷ 0 ∷ 0 ∷ 0 ∷ 0x40 ∷ 0 ∷ 0xC0 ∷ 0 ∷ 0 ∷ 0
    ∷ []

turned_is_read : glyph_in 3 (stretch_at 22 turned) ≡ Ok (composite
    (record {
      x_min = pos 64;
      records = record {
        at = 32;
        flags = 0x82;
        glyph = 1;
        arg1 = pos 127;
        arg2 = pos 0;
        xx = pos 0;
        yx = one;
        xy = neg_ℤ one;
        yy = pos 0;
      } ∷ [];
      code = [];
      code_at = 46;
    }))
unfolding turned header_of described composite_of records_from record_at known_glyph arguments_at argument_at
    transform_at two_scales_at two_by_two_at unscaled program_of byte_in word_in signed_in slice_in
turned_is_read = refl
