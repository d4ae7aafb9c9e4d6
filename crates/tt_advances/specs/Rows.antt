-- Worked values: the advances of a font without HVAR. It is built by hand, and FreeType 2.12.1 gives the same places.
use Rattle.std.specs.Prelude.{◌≡◌, refl, ℕ, List, [], ◌∷◌, map, Option, Some, None, Result, Ok, Err, ℤ, pos, negsuc}
use Rattle.tt_axes.specs.Shares.{share_of_tuple_axis}
use Rattle.tt_core.specs.Faults.{Fault}
use Rattle.tt_deltas.specs.Along as along
use Rattle.tt_deltas.specs.Glyphs as deltas
use Rattle.tt_deltas.specs.Gvar as gvar
use Rattle.tt_deltas_inference.specs.Inference.{contour, inferred}
use Rattle.tt_tuples.specs.Bytes as bytes
use Rattle.tt_tuples.specs.Deltas as packed
use Rattle.tt_tuples.specs.Headers as headers
use Rattle.tt_tuples.specs.PointNumbers as numbers
use Rattle.tt_tuples.specs.Regions.{share_after}
use Rattle.tt_tuples.specs.Tuples as tuples
use Rattle.tt_face.specs.Faces.{FaceInstance}
use Rattle.tt_fit_variation.specs.Advance.{advance_without_hvar}
use Rattle.tt_glyf.specs.Bytes.{byte_in, signed_in, slice_in, word_in}
use Rattle.tt_glyf.specs.Coordinates.{coordinate_at, coordinates_from, delta_at, within_words}
use Rattle.tt_glyf.specs.Flags.{flags_from, run_at}
use Rattle.tt_glyf.specs.GlyphData.{described, glyph_data_of, header_of}
use Rattle.tt_glyf.specs.Loca.{Glyf, glyph_bytes_of}
use Rattle.tt_glyf.specs.Simple.{end_at, ends_from, points_of, points_within, simple_of}
use Rattle.tt_metrics.specs.declared.head.LocaFormat.TheVariants.{Short}
use Rattle.tt_metrics.specs.declared.heights.Heights.TheVariants.{Exact}
use Rattle.tt_metrics.specs.Metrics.{Metrics}
use Rattle.tt_advances.specs.Found.{glyph_units}

-- glyph 0 is empty; glyphs 1 and 2 are squares, and all are 256 wide
its_glyphs : Glyf
its_glyphs = record {
  loca = 0 ∷ 0 ∷ 0 ∷ 0 ∷ 0 ∷ 11 ∷ 0 ∷ 22 ∷ [];
  glyf =
      0 ∷ 1 ∷ 0 ∷ 64 ∷ 0 ∷ 0 ∷ 0 ∷ 192 ∷ 0 ∷ 128 ∷ 0 ∷ 3 ∷ 0 ∷ 0 ∷ 51 ∷ 53 ∷ 51 ∷ 21 ∷ 64 ∷ 128 ∷ 128 ∷ 128 ∷ 0 ∷ 1
      ∷ 0 ∷ 0 ∷ 0 ∷ 0 ∷ 0 ∷ 64 ∷ 0 ∷ 64 ∷ 0 ∷ 3 ∷ 0 ∷ 0 ∷ 49 ∷ 53 ∷ 51 ∷ 21 ∷ 64 ∷ 64 ∷ 64 ∷ 0 ∷ [];
  format = Short;
  glyphs = 3;
}

its_metrics : Metrics
its_metrics = record {
  head = record { units_per_em = 1024; loca_format = Short };
  maxp = record { glyphs = 3; twilight = 64; storage = 0 };
  hhea = record { ascent = pos 256; descent = pos 0; line_gap = pos 0; long_metrics = 3 };
  hmtx = 1 ∷ 0 ∷ 0 ∷ 0 ∷ 1 ∷ 0 ∷ 0 ∷ 64 ∷ 1 ∷ 0 ∷ 0 ∷ 0 ∷ [];
  heights = Exact;
  kerning = None;
  advances = None;
}

-- the right end of glyph 1 moves by 64 at the greatest weight
its_instance : ℤ → FaceInstance
its_instance c = record {
  coordinates = c ∷ [];
  gvar = record {
    table =
        0 ∷ 1 ∷ 0 ∷ 0 ∷ 0 ∷ 1 ∷ 0 ∷ 1 ∷ 0 ∷ 0 ∷ 0 ∷ 28 ∷ 0 ∷ 3 ∷ 0 ∷ 0 ∷ 0 ∷ 0 ∷ 0 ∷ 30 ∷ 0 ∷ 0 ∷ 0 ∷ 0 ∷ 0 ∷ 10 ∷ 0 ∷
        10 ∷ 64 ∷ 0 ∷ 0 ∷ 1 ∷ 0 ∷ 10 ∷ 0 ∷ 10 ∷ 160 ∷ 0 ∷ 64 ∷ 0 ∷ 0 ∷ 129 ∷ 1 ∷ 64 ∷ 64 ∷ 128 ∷ 0 ∷ 64 ∷ 129 ∷ 135 ∷
        [];
    axes = 1;
  };
  cvar = [];
}

abbrev found_at : ℤ → ℕ → Result ℕ Fault
found_at c g = glyph_units (Some (its_instance c)) its_metrics its_glyphs g

-- gvar has deltas for glyph 1 alone
at_the_greatest_weight : map (found_at (pos 65536)) (0 ∷ 1 ∷ 2 ∷ []) ≡ Ok 256 ∷ Ok 320 ∷ Ok 256 ∷ []
unfolding its_glyphs its_metrics its_instance glyph_units advance_without_hvar glyph_data_of glyph_bytes_of header_of described
    simple_of ends_from end_at points_within points_of flags_from run_at coordinates_from coordinate_at within_words delta_at
    byte_in word_in signed_in slice_in deltas.varied_glyph gvar.glyph_data_of deltas.points_by_all along.varied_along contour
    inferred tuples.tuples_of tuples.tuples_from tuples.tuple_at headers.tuple_header_at headers.header_at
    tuples.shared_points_of headers.peak_at headers.sides_at numbers.points_at numbers.listed_at numbers.count_at
    numbers.numbers_from numbers.next_number numbers.number_run_at packed.deltas_from packed.next_delta packed.delta_run_at
    bytes.byte_in bytes.word_in bytes.signed_in bytes.slice_in share_after share_of_tuple_axis
at_the_greatest_weight = refl

-- a quarter of it: 16 units
at_a_quarter : found_at (pos 16384) 1 ≡ Ok 272
unfolding its_glyphs its_metrics its_instance glyph_units advance_without_hvar glyph_data_of glyph_bytes_of header_of described
    simple_of ends_from end_at points_within points_of flags_from run_at coordinates_from coordinate_at within_words delta_at
    byte_in word_in signed_in slice_in deltas.varied_glyph gvar.glyph_data_of deltas.points_by_all along.varied_along contour
    inferred tuples.tuples_of tuples.tuples_from tuples.tuple_at headers.tuple_header_at headers.header_at
    tuples.shared_points_of headers.peak_at headers.sides_at numbers.points_at numbers.listed_at numbers.count_at
    numbers.numbers_from numbers.next_number numbers.number_run_at packed.deltas_from packed.next_delta packed.delta_run_at
    bytes.byte_in bytes.word_in bytes.signed_in bytes.slice_in share_after share_of_tuple_axis
at_a_quarter = refl

-- without an instance no glyph is read
at_the_default : map (glyph_units None its_metrics (record its_glyphs { glyf = [] })) (0 ∷ 1 ∷ []) ≡ Ok 256 ∷ Ok 256 ∷ []
unfolding its_metrics its_glyphs glyph_units
at_the_default = refl
