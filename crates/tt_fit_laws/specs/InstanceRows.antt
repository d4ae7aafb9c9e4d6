-- Worked values: outlines of three glyphs at an instance, at a size. The em has 1,024 units. The outlines are FreeType
-- 2.12.1's where it draws them (best), and worked by the definitions of the papers elsewhere.
use Rattle.std.specs.Prelude.{◌≡◌, refl, ℕ, ℤ, pos, negsuc, true, codes, List, [], ◌∷◌, length, Some, None, Ok, Err}
use Rattle.tt_axes.specs.Shares.{share_of_region_axis, share_of_tuple_axis}
use Rattle.tt_core.specs.Faults.{fault_at}
use Rattle.tt_core.specs.declared.fault.Why.TheVariants as why
use Rattle.tt_deltas.specs.Along.{varied_along}
use Rattle.tt_deltas.specs.Glyphs.{points_by_all, varied_glyph}
use Rattle.tt_deltas.specs.Gvar as gvar
use Rattle.tt_deltas_inference.specs.Inference.{contour, inferred}
use Rattle.tt_fit.specs.Fallback.{never}
use Rattle.tt_fit.specs.Fitting.{Fitter, simple_start, begun_glyph, added, fitted_outline, unfitted_fault}
use Rattle.tt_fit.specs.declared.dropouts.DropoutsBy.TheVariants as by
use Rattle.tt_fit_hinting.specs.Hinting.{off}
use Rattle.tt_fit_outline.specs.Component.{shift_of}
use Rattle.tt_fit_outline.specs.Joining.{placed, appended, within_point_limit}
use Rattle.tt_fit_outline.specs.Outline.{PhantomPoints}
use Rattle.tt_fit_outline.specs.Scaling.{blank, coordinate_fault, settled}
use Rattle.tt_fit_outline.specs.declared.grid.GridRule.TheVariants as grid_rule
use Rattle.tt_fit_outline.specs.declared.rules.Scaling.{Scaling}
use Rattle.tt_fit_outline.specs.declared.rules.Scaling.TheVariants as scaling
use Rattle.tt_fit_variation.specs.Ends.{ends_in_units}
use Rattle.tt_fit_variation.specs.Moved.{instance_point, moved_coordinate}
use Rattle.tt_fit_variation.specs.Records.{moved_record}
use Rattle.tt_glyf.specs.Bytes.{byte_in, word_in, signed_in, slice_in}
use Rattle.tt_glyf.specs.Composite.{transform_at, argument_at, arguments_at, unscaled, known_glyph, record_at, records_from, program_of, composite_of}
use Rattle.tt_glyf.specs.Coordinates.{delta_at, within_words, coordinate_at, coordinates_from}
use Rattle.tt_glyf.specs.Flags.{run_at, flags_from}
use Rattle.tt_glyf.specs.GlyphData.{glyph_data_of, header_of, described}
use Rattle.tt_glyf.specs.Loca.{glyph_bytes_of}
use Rattle.tt_glyf.specs.Simple.{end_at, ends_from, points_within, points_of, simple_of}
use Rattle.tt_metrics.specs.declared.head.LocaFormat.TheVariants.{Short}
use Rattle.tt_metrics.specs.declared.heights.Heights.TheVariants.{Exact}
use Rattle.tt_metrics.specs.Metrics.{Metrics}
use Rattle.tt_tuples.specs.Bytes as bytes
use Rattle.tt_tuples.specs.Deltas.{deltas_from, next_delta, delta_run_at}
use Rattle.tt_tuples.specs.Headers.{header_at, tuple_header_at, peak_at, sides_at}
use Rattle.tt_tuples.specs.PointNumbers.{points_at, listed_at, count_at, numbers_from, next_number, number_run_at}
use Rattle.tt_tuples.specs.Regions.{share_after}
use Rattle.tt_tuples.specs.Tuples.{tuples_of, tuples_from, tuple_at, shared_points_of}
use Rattle.tt_variation_store.specs.Deltas.{fine_delta}
use Rattle.tt_variation_store.specs.Numbers.{number}

-- each glyph is 256 wide; the left side bearing is 64 for the first glyph with contours, and this for the second
abbrev pub its_metrics : ℕ → Metrics
its_metrics bearing = record {
  head = record { units_per_em = 1024; loca_format = Short };
  maxp = record { glyphs = 3; twilight = 0; storage = 0 };
  hhea = record { ascent = pos 256; descent = pos 0; line_gap = pos 0; long_metrics = 3 };
  hmtx = 1 ∷ 0 ∷ 0 ∷ 0 ∷ 1 ∷ 0 ∷ 0 ∷ 64 ∷ 1 ∷ 0 ∷ 0 ∷ bearing ∷ [];
  heights = Exact;
  kerning = None;
  advances = None;
}

-- the size, and the scaling of a fit; the glyphs, and their variations at coordinates
abbrev its_fitter : ℕ → Scaling → Metrics → List ℕ → List ℕ → List ℕ → List ℤ → Fitter
its_fitter ppem how metrics loca glyf variations coordinates = record {
  tables = record { loca = loca; glyf = glyf; format = Short; glyphs = 3 };
  metrics = metrics;
  instance = Some (record {
    coordinates = coordinates;
    gvar = record { table = variations; axes = length coordinates };
    cvar = [];
  });
  ppem = ppem;
  scaling = how;
  grid = grid_rule.WhereHinted;
  hinting = off;
  fallback = never;
  levels = 8;
  work = None;
  control_deltas = 0;
  dropouts = by.Programs;
}

-- the ends of the advance, the ascent and the descent
abbrev ends_at : ℤ → ℤ → ℤ → ℤ → PhantomPoints
ends_at left right ascent descent =
    record { left = (left, pos 0); right = (right, pos 0); ascent = (pos 0, ascent); descent = (pos 0, descent) }

-- a square at a wide place: deltas in 64ths of a unit, scaled by the rounded factor
parts_of_a_unit : fitted_outline (its_fitter 300 scaling.Rounded (its_metrics 0)
    (0 ∷ 0 ∷ 0 ∷ 0 ∷ 0 ∷ 0xb ∷ 0 ∷ 0x16 ∷ [])
    (0 ∷ 1 ∷ 0 ∷ 0x40 ∷ 0 ∷ 0 ∷ 0 ∷ 0xc0 ∷ 0 ∷ 0x80 ∷ 0 ∷ 3 ∷ 0 ∷ 0 ∷ 0x33 ∷ 0x35 ∷ 0x33 ∷ 0x15 ∷ 0x40 ∷ 0x80
    ∷ 0x80 ∷ 0x80 ∷ 0 ∷ 1 ∷ 0 ∷ 0 ∷ 0 ∷ 0 ∷ 0 ∷ 0x40 ∷ 0 ∷ 0x40 ∷ 0 ∷ 3 ∷ 0 ∷ 0 ∷ 0x31 ∷ 0x35 ∷ 0x33 ∷ 0x15
    ∷ 0x40 ∷ 0x40 ∷ 0x40 ∷ 0 ∷ [])
    (0 ∷ 1 ∷ 0 ∷ 0 ∷ 0 ∷ 1 ∷ 0 ∷ 1 ∷ 0 ∷ 0 ∷ 0 ∷ 0x1c ∷ 0 ∷ 3 ∷ 0 ∷ 0 ∷ 0 ∷ 0 ∷ 0 ∷ 0x1e ∷ 0 ∷ 0 ∷ 0 ∷ 0 ∷ 0
    ∷ 0xc ∷ 0 ∷ 0xc ∷ 0x40 ∷ 0 ∷ 0 ∷ 1 ∷ 0 ∷ 0xa ∷ 0 ∷ 0xe ∷ 0xa0 ∷ 0 ∷ 0x40 ∷ 0 ∷ 0 ∷ 0x81 ∷ 1 ∷ 7 ∷ 7 ∷
    0x80 ∷ 0 ∷ 7 ∷ 0x81 ∷ 0x80 ∷ 1 ∷ 0xfb ∷ 0xfb ∷ 0x84 ∷ [])
    (pos 4915 ∷ [])) 1
    ≡ Ok (record {
      points = (pos 1200, pos 0, true) ∷ (pos 1200, pos 2393, true) ∷ (pos 3610, pos 2393, true) ∷ (
        pos 3610,
        pos 0,
        true,
      ) ∷ [];
      ends = 4 ∷ [];
      phantom = ends_at (pos 0) (pos 4810) (pos 4800) (pos 0);
      scan = None;
    })
unfolding fitted_outline unfitted_fault begun_glyph glyph_data_of glyph_bytes_of header_of described
    simple_of ends_from end_at points_within points_of flags_from run_at coordinates_from coordinate_at
    within_words delta_at byte_in word_in signed_in slice_in blank ends_in_units varied_glyph
    gvar.glyph_data_of points_by_all varied_along contour inferred tuples_of tuples_from tuple_at
    tuple_header_at header_at shared_points_of peak_at sides_at points_at listed_at count_at numbers_from
    next_number number_run_at deltas_from next_delta delta_run_at bytes.byte_in bytes.word_in
    bytes.signed_in bytes.slice_in share_after share_of_tuple_axis simple_start instance_point
    moved_coordinate settled
parts_of_a_unit = refl

-- the same glyph elsewhere, by the exact scale
parts_of_a_unit_exactly : fitted_outline (its_fitter 300 scaling.Exact (its_metrics 0)
    (0 ∷ 0 ∷ 0 ∷ 0 ∷ 0 ∷ 0xb ∷ 0 ∷ 0x16 ∷ [])
    (0 ∷ 1 ∷ 0 ∷ 0x40 ∷ 0 ∷ 0 ∷ 0 ∷ 0xc0 ∷ 0 ∷ 0x80 ∷ 0 ∷ 3 ∷ 0 ∷ 0 ∷ 0x33 ∷ 0x35 ∷ 0x33 ∷ 0x15 ∷ 0x40 ∷ 0x80
    ∷ 0x80 ∷ 0x80 ∷ 0 ∷ 1 ∷ 0 ∷ 0 ∷ 0 ∷ 0 ∷ 0 ∷ 0x40 ∷ 0 ∷ 0x40 ∷ 0 ∷ 3 ∷ 0 ∷ 0 ∷ 0x31 ∷ 0x35 ∷ 0x33 ∷ 0x15
    ∷ 0x40 ∷ 0x40 ∷ 0x40 ∷ 0 ∷ [])
    (0 ∷ 1 ∷ 0 ∷ 0 ∷ 0 ∷ 1 ∷ 0 ∷ 1 ∷ 0 ∷ 0 ∷ 0 ∷ 0x1c ∷ 0 ∷ 3 ∷ 0 ∷ 0 ∷ 0 ∷ 0 ∷ 0 ∷ 0x1e ∷ 0 ∷ 0 ∷ 0 ∷ 0 ∷ 0
    ∷ 0xc ∷ 0 ∷ 0xc ∷ 0x40 ∷ 0 ∷ 0 ∷ 1 ∷ 0 ∷ 0xa ∷ 0 ∷ 0xe ∷ 0xa0 ∷ 0 ∷ 0x40 ∷ 0 ∷ 0 ∷ 0x81 ∷ 1 ∷ 7 ∷ 7 ∷
    0x80 ∷ 0 ∷ 7 ∷ 0x81 ∷ 0x80 ∷ 1 ∷ 0xfb ∷ 0xfb ∷ 0x84 ∷ [])
    (pos 44171 ∷ [])) 1
    ≡ Ok (record {
      points = (pos 1200, pos 0, true) ∷ (pos 1200, pos 2337, true) ∷ (pos 3688, pos 2337, true) ∷ (
        pos 3688,
        pos 0,
        true,
      ) ∷ [];
      ends = 4 ∷ [];
      phantom = ends_at (pos 0) (pos 4888) (pos 4800) (pos 0);
      scan = None;
    })
unfolding fitted_outline unfitted_fault begun_glyph glyph_data_of glyph_bytes_of header_of described
    simple_of ends_from end_at points_within points_of flags_from run_at coordinates_from coordinate_at
    within_words delta_at byte_in word_in signed_in slice_in blank ends_in_units varied_glyph
    gvar.glyph_data_of points_by_all varied_along contour inferred tuples_of tuples_from tuple_at
    tuple_header_at header_at shared_points_of peak_at sides_at points_at listed_at count_at numbers_from
    next_number number_run_at deltas_from next_delta delta_run_at bytes.byte_in bytes.word_in
    bytes.signed_in bytes.slice_in share_after share_of_tuple_axis simple_start instance_point
    moved_coordinate settled
parts_of_a_unit_exactly = refl

-- deltas that are inferred, in thirds of a unit
thirds : fitted_outline (its_fitter 16 scaling.Rounded (its_metrics 0)
    (0 ∷ 0 ∷ 0 ∷ 0 ∷ 0 ∷ 0x12 ∷ 0 ∷ 0x1d ∷ [])
    (0 ∷ 1 ∷ 0 ∷ 0x40 ∷ 0 ∷ 0 ∷ 0 ∷ 0xc0 ∷ 0 ∷ 0x60 ∷ 0 ∷ 7 ∷ 0 ∷ 0 ∷ 0x33 ∷ 0x37 ∷ 0x27 ∷ 0x37 ∷ 0x17 ∷ 7 ∷
    0x17 ∷ 0x23 ∷ 0x40 ∷ 0x20 ∷ 0x20 ∷ 0x40 ∷ 0x40 ∷ 0x20 ∷ 0x20 ∷ 0x40 ∷ 0x20 ∷ 0x20 ∷ 0x20 ∷ 0x20 ∷ 0x20 ∷
    0x20 ∷ 0 ∷ 1 ∷ 0 ∷ 0 ∷ 0 ∷ 0 ∷ 0 ∷ 0x40 ∷ 0 ∷ 0x40 ∷ 0 ∷ 3 ∷ 0 ∷ 0 ∷ 0x31 ∷ 0x35 ∷ 0x33 ∷ 0x15 ∷ 0x40 ∷
    0x40 ∷ 0x40 ∷ 0 ∷ [])
    (0 ∷ 1 ∷ 0 ∷ 0 ∷ 0 ∷ 1 ∷ 0 ∷ 1 ∷ 0 ∷ 0 ∷ 0 ∷ 0x1c ∷ 0 ∷ 3 ∷ 0 ∷ 0 ∷ 0 ∷ 0 ∷ 0 ∷ 0x1e ∷ 0 ∷ 0 ∷ 0 ∷ 0 ∷ 0
    ∷ 0xa ∷ 0 ∷ 0xa ∷ 0x40 ∷ 0 ∷ 0 ∷ 1 ∷ 0 ∷ 0xa ∷ 0 ∷ 0xa ∷ 0xa0 ∷ 0 ∷ 0x40 ∷ 0 ∷ 2 ∷ 1 ∷ 0 ∷ 4 ∷ 0x80 ∷ 0
    ∷ 1 ∷ 0x80 ∷ 0 ∷ 1 ∷ [])
    (pos 65536 ∷ [])) 1
    ≡ Ok (record {
      points = (pos 64, pos 0, true) ∷ (pos 96, pos 33, true) ∷ (pos 64, pos 65, true) ∷ (pos 129, pos 97, true) ∷ (
        pos
            193,
        pos 65,
        true,
      ) ∷ (pos 161, pos 33, true) ∷ (pos 193, pos 0, true) ∷ (pos 129, pos 0, true) ∷ [];
      ends = 8 ∷ [];
      phantom = ends_at (pos 0) (pos 256) (pos 256) (pos 0);
      scan = None;
    })
unfolding fitted_outline unfitted_fault begun_glyph glyph_data_of glyph_bytes_of header_of described
    simple_of ends_from end_at points_within points_of flags_from run_at coordinates_from coordinate_at
    within_words delta_at byte_in word_in signed_in slice_in blank ends_in_units varied_glyph
    gvar.glyph_data_of points_by_all varied_along contour inferred tuples_of tuples_from tuple_at
    tuple_header_at header_at shared_points_of peak_at sides_at points_at listed_at count_at numbers_from
    next_number number_run_at deltas_from next_delta delta_run_at bytes.byte_in bytes.word_in
    bytes.signed_in bytes.slice_in share_after share_of_tuple_axis simple_start instance_point
    moved_coordinate settled
thirds = refl

-- a component whose offset moves by a half along x and by less along y: a half goes up
offset_by_half_a_unit : fitted_outline (its_fitter 300 scaling.Rounded (its_metrics 64)
    (0 ∷ 0 ∷ 0 ∷ 0 ∷ 0 ∷ 0xb ∷ 0 ∷ 0x13 ∷ [])
    (0 ∷ 1 ∷ 0 ∷ 0x40 ∷ 0 ∷ 0 ∷ 0 ∷ 0xc0 ∷ 0 ∷ 0x80 ∷ 0 ∷ 3 ∷ 0 ∷ 0 ∷ 0x33 ∷ 0x35 ∷ 0x33 ∷ 0x15 ∷ 0x40 ∷ 0x80
    ∷ 0x80 ∷ 0x80 ∷ 0xff ∷ 0xff ∷ 0 ∷ 0x40 ∷ 0 ∷ 0 ∷ 0 ∷ 0xc0 ∷ 0 ∷ 0x80 ∷ 0 ∷ 2 ∷ 0 ∷ 1 ∷ 0x10 ∷ 0 ∷ [])
    (0 ∷ 1 ∷ 0 ∷ 0 ∷ 0 ∷ 1 ∷ 0 ∷ 1 ∷ 0 ∷ 0 ∷ 0 ∷ 0x1c ∷ 0 ∷ 3 ∷ 0 ∷ 0 ∷ 0 ∷ 0 ∷ 0 ∷ 0x1e ∷ 0 ∷ 0 ∷ 0 ∷ 0 ∷ 0
    ∷ 9 ∷ 0 ∷ 0x12 ∷ 0x40 ∷ 0 ∷ 0 ∷ 1 ∷ 0 ∷ 0xa ∷ 0 ∷ 7 ∷ 0xa0 ∷ 0 ∷ 0x40 ∷ 0 ∷ 0 ∷ 0x81 ∷ 1 ∷ 0x20 ∷ 0x20 ∷
    0x83 ∷ 0x87 ∷ 0 ∷ 0 ∷ 1 ∷ 0 ∷ 0xa ∷ 0 ∷ 7 ∷ 0xa0 ∷ 0 ∷ 0x40 ∷ 0 ∷ 0 ∷ 0 ∷ 0x3f ∷ 0x83 ∷ 0 ∷ 0xe1 ∷ 0x83
    ∷ 0 ∷ [])
    (pos 32768 ∷ [])) 2
    ≡ Ok (record {
      points = (pos 2100, negsuc 280, true) ∷ (pos 2100, pos 2119, true) ∷ (pos 4800, pos 2119, true) ∷ (
        pos 4800,
        negsuc 280,
        true,
      ) ∷ [];
      ends = 4 ∷ [];
      phantom = ends_at (pos 0) (pos 4800) (pos 4800) (pos 0);
      scan = None;
    })
unfolding fitted_outline unfitted_fault begun_glyph glyph_data_of glyph_bytes_of header_of described
    simple_of ends_from end_at points_within points_of flags_from run_at coordinates_from coordinate_at
    within_words delta_at byte_in word_in signed_in slice_in blank ends_in_units varied_glyph
    gvar.glyph_data_of points_by_all varied_along contour inferred tuples_of tuples_from tuple_at
    tuple_header_at header_at shared_points_of peak_at sides_at points_at listed_at count_at numbers_from
    next_number number_run_at deltas_from next_delta delta_run_at bytes.byte_in bytes.word_in
    bytes.signed_in bytes.slice_in share_after share_of_tuple_axis simple_start instance_point
    moved_coordinate settled added placed appended shift_of within_point_limit composite_of records_from
    record_at known_glyph arguments_at argument_at transform_at unscaled program_of moved_record
offset_by_half_a_unit = refl

-- a component that matches points stays where they meet
by_points : fitted_outline (its_fitter 16 scaling.Rounded (its_metrics 64)
    (0 ∷ 0 ∷ 0 ∷ 0 ∷ 0 ∷ 0xb ∷ 0 ∷ 0x16 ∷ [])
    (0 ∷ 1 ∷ 0 ∷ 0x40 ∷ 0 ∷ 0 ∷ 0 ∷ 0xc0 ∷ 0 ∷ 0x80 ∷ 0 ∷ 3 ∷ 0 ∷ 0 ∷ 0x33 ∷ 0x35 ∷ 0x33 ∷ 0x15 ∷ 0x40 ∷ 0x80
    ∷ 0x80 ∷ 0x80 ∷ 0xff ∷ 0xff ∷ 0 ∷ 0x40 ∷ 0 ∷ 0 ∷ 0 ∷ 0xc0 ∷ 0 ∷ 0x80 ∷ 0 ∷ 0x22 ∷ 0 ∷ 1 ∷ 0 ∷ 0 ∷ 0 ∷ 0
    ∷ 0 ∷ 1 ∷ 2 ∷ 0 ∷ [])
    (0 ∷ 1 ∷ 0 ∷ 0 ∷ 0 ∷ 1 ∷ 0 ∷ 1 ∷ 0 ∷ 0 ∷ 0 ∷ 0x1c ∷ 0 ∷ 3 ∷ 0 ∷ 0 ∷ 0 ∷ 0 ∷ 0 ∷ 0x1e ∷ 0 ∷ 0 ∷ 0 ∷ 0 ∷ 0
    ∷ 9 ∷ 0 ∷ 0x13 ∷ 0x40 ∷ 0 ∷ 0 ∷ 1 ∷ 0 ∷ 0xa ∷ 0 ∷ 7 ∷ 0xa0 ∷ 0 ∷ 0x40 ∷ 0 ∷ 0 ∷ 0x81 ∷ 1 ∷ 0x20 ∷ 0x20 ∷
    0x83 ∷ 0x87 ∷ 0 ∷ 0 ∷ 1 ∷ 0 ∷ 0xa ∷ 0 ∷ 9 ∷ 0xa0 ∷ 0 ∷ 0x40 ∷ 0 ∷ 0 ∷ 0x80 ∷ 0 ∷ 0x40 ∷ 0x83 ∷ 0x80 ∷ 0
    ∷ 0x40 ∷ 0x83 ∷ 0 ∷ [])
    (pos 65536 ∷ [])) 2
    ≡ Ok (record {
      points = (pos 64, pos 0, true) ∷ (pos 64, pos 128, true) ∷ (pos 224, pos 128, true) ∷ (pos 224, pos 0, true) ∷
          (pos 224, pos 128, true) ∷ (pos 224, pos 256, true) ∷ (pos 384, pos 256, true) ∷ (
            pos 384,
            pos 128,
            true,
          ) ∷ [];
      ends = 4 ∷ 8 ∷ [];
      phantom = ends_at (pos 0) (pos 256) (pos 256) (pos 0);
      scan = None;
    })
unfolding fitted_outline unfitted_fault begun_glyph glyph_data_of glyph_bytes_of header_of described
    simple_of ends_from end_at points_within points_of flags_from run_at coordinates_from coordinate_at
    within_words delta_at byte_in word_in signed_in slice_in blank ends_in_units varied_glyph
    gvar.glyph_data_of points_by_all varied_along contour inferred tuples_of tuples_from tuple_at
    tuple_header_at header_at shared_points_of peak_at sides_at points_at listed_at count_at numbers_from
    next_number number_run_at deltas_from next_delta delta_run_at bytes.byte_in bytes.word_in
    bytes.signed_in bytes.slice_in share_after share_of_tuple_axis simple_start instance_point
    moved_coordinate settled added placed appended shift_of within_point_limit composite_of records_from
    record_at known_glyph arguments_at argument_at transform_at unscaled program_of moved_record
by_points = refl

-- both ends of the advance move by gvar
both_ends : fitted_outline (its_fitter 16 scaling.Rounded (its_metrics 0)
    (0 ∷ 0 ∷ 0 ∷ 0 ∷ 0 ∷ 0xb ∷ 0 ∷ 0x16 ∷ [])
    (0 ∷ 1 ∷ 0 ∷ 0x40 ∷ 0 ∷ 0 ∷ 0 ∷ 0xc0 ∷ 0 ∷ 0x80 ∷ 0 ∷ 3 ∷ 0 ∷ 0 ∷ 0x33 ∷ 0x35 ∷ 0x33 ∷ 0x15 ∷ 0x40 ∷ 0x80
    ∷ 0x80 ∷ 0x80 ∷ 0 ∷ 1 ∷ 0 ∷ 0 ∷ 0 ∷ 0 ∷ 0 ∷ 0x40 ∷ 0 ∷ 0x40 ∷ 0 ∷ 3 ∷ 0 ∷ 0 ∷ 0x31 ∷ 0x35 ∷ 0x33 ∷ 0x15
    ∷ 0x40 ∷ 0x40 ∷ 0x40 ∷ 0 ∷ [])
    (0 ∷ 1 ∷ 0 ∷ 0 ∷ 0 ∷ 1 ∷ 0 ∷ 1 ∷ 0 ∷ 0 ∷ 0 ∷ 0x1c ∷ 0 ∷ 3 ∷ 0 ∷ 0 ∷ 0 ∷ 0 ∷ 0 ∷ 0x1e ∷ 0 ∷ 0 ∷ 0 ∷ 0 ∷ 0
    ∷ 0xa ∷ 0 ∷ 0xa ∷ 0x40 ∷ 0 ∷ 0 ∷ 1 ∷ 0 ∷ 0xa ∷ 0 ∷ 9 ∷ 0xa0 ∷ 0 ∷ 0x40 ∷ 0 ∷ 0 ∷ 0x81 ∷ 3 ∷ 0x40 ∷ 0x40
    ∷ 0x10 ∷ 0x40 ∷ 0x81 ∷ 0x87 ∷ 0 ∷ [])
    (pos 65536 ∷ [])) 1
    ≡ Ok (record {
      points = (pos 64, pos 0, true) ∷ (pos 64, pos 128, true) ∷ (pos 256, pos 128, true) ∷ (pos 256, pos 0, true) ∷ [];
      ends = 4 ∷ [];
      phantom = ends_at (pos 16) (pos 320) (pos 256) (pos 0);
      scan = None;
    })
unfolding fitted_outline unfitted_fault begun_glyph glyph_data_of glyph_bytes_of header_of described
    simple_of ends_from end_at points_within points_of flags_from run_at coordinates_from coordinate_at
    within_words delta_at byte_in word_in signed_in slice_in blank ends_in_units varied_glyph
    gvar.glyph_data_of points_by_all varied_along contour inferred tuples_of tuples_from tuple_at
    tuple_header_at header_at shared_points_of peak_at sides_at points_at listed_at count_at numbers_from
    next_number number_run_at deltas_from next_delta delta_run_at bytes.byte_in bytes.word_in
    bytes.signed_in bytes.slice_in share_after share_of_tuple_axis simple_start instance_point
    moved_coordinate settled
both_ends = refl

-- with HVAR its right end moves by that table alone
left_end_by_gvar : fitted_outline (its_fitter 16 scaling.Rounded (record (its_metrics 0) {
  advances = Some (record {
    hvar = record {
      table = 0 ∷ 1 ∷ 0 ∷ 0 ∷ 0 ∷ 0 ∷ 0 ∷ 20 ∷ 0 ∷ 0 ∷ 0 ∷ 0 ∷ 0 ∷ 0 ∷ 0 ∷ 0 ∷ 0 ∷ 0 ∷ 0 ∷ 0 ∷ 0 ∷ 1 ∷ 0 ∷ 0 ∷ 0 ∷ 12
          ∷ 0 ∷ 1 ∷ 0 ∷ 0 ∷ 0 ∷ 22 ∷ 0 ∷ 1 ∷ 0 ∷ 1 ∷ 0 ∷ 0 ∷ 64 ∷ 0 ∷ 64 ∷ 0 ∷ 0 ∷ 3 ∷ 0 ∷ 0 ∷ 0 ∷ 1 ∷ 0 ∷ 0 ∷ 0 ∷
          32 ∷ 240 ∷ [];
      at = 20;
    };
    coordinates = pos 65536 ∷ [];
  });
})
    (0 ∷ 0 ∷ 0 ∷ 0 ∷ 0 ∷ 0xb ∷ 0 ∷ 0x16 ∷ [])
    (0 ∷ 1 ∷ 0 ∷ 0x40 ∷ 0 ∷ 0 ∷ 0 ∷ 0xc0 ∷ 0 ∷ 0x80 ∷ 0 ∷ 3 ∷ 0 ∷ 0 ∷ 0x33 ∷ 0x35 ∷ 0x33 ∷ 0x15 ∷ 0x40 ∷ 0x80
    ∷ 0x80 ∷ 0x80 ∷ 0 ∷ 1 ∷ 0 ∷ 0 ∷ 0 ∷ 0 ∷ 0 ∷ 0x40 ∷ 0 ∷ 0x40 ∷ 0 ∷ 3 ∷ 0 ∷ 0 ∷ 0x31 ∷ 0x35 ∷ 0x33 ∷ 0x15
    ∷ 0x40 ∷ 0x40 ∷ 0x40 ∷ 0 ∷ [])
    (0 ∷ 1 ∷ 0 ∷ 0 ∷ 0 ∷ 1 ∷ 0 ∷ 1 ∷ 0 ∷ 0 ∷ 0 ∷ 0x1c ∷ 0 ∷ 3 ∷ 0 ∷ 0 ∷ 0 ∷ 0 ∷ 0 ∷ 0x1e ∷ 0 ∷ 0 ∷ 0 ∷ 0 ∷ 0
    ∷ 0xa ∷ 0 ∷ 0xa ∷ 0x40 ∷ 0 ∷ 0 ∷ 1 ∷ 0 ∷ 0xa ∷ 0 ∷ 9 ∷ 0xa0 ∷ 0 ∷ 0x40 ∷ 0 ∷ 0 ∷ 0x81 ∷ 3 ∷ 0x40 ∷ 0x40
    ∷ 0x10 ∷ 0x63 ∷ 0x81 ∷ 0x87 ∷ 0 ∷ [])
    (pos 65536 ∷ [])) 1
    ≡ Ok (record {
      points = (pos 64, pos 0, true) ∷ (pos 64, pos 128, true) ∷ (pos 256, pos 128, true) ∷ (pos 256, pos 0, true) ∷ [];
      ends = 4 ∷ [];
      phantom = ends_at (pos 16) (pos 288) (pos 256) (pos 0);
      scan = None;
    })
unfolding fitted_outline unfitted_fault begun_glyph glyph_data_of glyph_bytes_of header_of described
    simple_of ends_from end_at points_within points_of flags_from run_at coordinates_from coordinate_at
    within_words delta_at byte_in word_in signed_in slice_in blank ends_in_units varied_glyph
    gvar.glyph_data_of points_by_all varied_along contour inferred tuples_of tuples_from tuple_at
    tuple_header_at header_at shared_points_of peak_at sides_at points_at listed_at count_at numbers_from
    next_number number_run_at deltas_from next_delta delta_run_at bytes.byte_in bytes.word_in
    bytes.signed_in bytes.slice_in share_after share_of_tuple_axis simple_start instance_point
    moved_coordinate settled number fine_delta share_of_region_axis
left_end_by_gvar = refl

-- an empty glyph has phantom points alone
an_empty_glyph : fitted_outline (its_fitter 16 scaling.Rounded (its_metrics 0)
    (0 ∷ 0 ∷ 0 ∷ 0 ∷ 0 ∷ 0xb ∷ 0 ∷ 0x16 ∷ [])
    (0 ∷ 1 ∷ 0 ∷ 0x40 ∷ 0 ∷ 0 ∷ 0 ∷ 0xc0 ∷ 0 ∷ 0x80 ∷ 0 ∷ 3 ∷ 0 ∷ 0 ∷ 0x33 ∷ 0x35 ∷ 0x33 ∷ 0x15 ∷ 0x40 ∷ 0x80
    ∷ 0x80 ∷ 0x80 ∷ 0 ∷ 1 ∷ 0 ∷ 0 ∷ 0 ∷ 0 ∷ 0 ∷ 0x40 ∷ 0 ∷ 0x40 ∷ 0 ∷ 3 ∷ 0 ∷ 0 ∷ 0x31 ∷ 0x35 ∷ 0x33 ∷ 0x15
    ∷ 0x40 ∷ 0x40 ∷ 0x40 ∷ 0 ∷ [])
    (0 ∷ 1 ∷ 0 ∷ 0 ∷ 0 ∷ 1 ∷ 0 ∷ 1 ∷ 0 ∷ 0 ∷ 0 ∷ 0x1c ∷ 0 ∷ 3 ∷ 0 ∷ 0 ∷ 0 ∷ 0 ∷ 0 ∷ 0x1e ∷ 0 ∷ 0 ∷ 0 ∷ 8 ∷ 0
    ∷ 8 ∷ 0 ∷ 8 ∷ 0x40 ∷ 0 ∷ 0 ∷ 1 ∷ 0 ∷ 0xa ∷ 0 ∷ 6 ∷ 0xa0 ∷ 0 ∷ 0x40 ∷ 0 ∷ 0 ∷ 0x80 ∷ 0 ∷ 0x40 ∷ 0x81 ∷
    0x83 ∷ [])
    (pos 65536 ∷ [])) 0
    ≡ Ok (record {
      points = [];
      ends = [];
      phantom = ends_at (pos 0) (pos 320) (pos 256) (pos 0);
      scan = None;
    })
unfolding fitted_outline unfitted_fault begun_glyph glyph_data_of glyph_bytes_of header_of described
    simple_of ends_from end_at points_within points_of flags_from run_at coordinates_from coordinate_at
    within_words delta_at byte_in word_in signed_in slice_in blank ends_in_units varied_glyph
    gvar.glyph_data_of points_by_all varied_along contour inferred tuples_of tuples_from tuple_at
    tuple_header_at header_at shared_points_of peak_at sides_at points_at listed_at count_at numbers_from
    next_number number_run_at deltas_from next_delta delta_run_at bytes.byte_in bytes.word_in
    bytes.signed_in bytes.slice_in share_after share_of_tuple_axis simple_start instance_point
    moved_coordinate settled
an_empty_glyph = refl

-- a composite glyph's phantom points follow its one component
ends_of_a_composite : fitted_outline (its_fitter 16 scaling.Rounded (its_metrics 64)
    (0 ∷ 0 ∷ 0 ∷ 0 ∷ 0 ∷ 0xb ∷ 0 ∷ 0x13 ∷ [])
    (0 ∷ 1 ∷ 0 ∷ 0x40 ∷ 0 ∷ 0 ∷ 0 ∷ 0xc0 ∷ 0 ∷ 0x80 ∷ 0 ∷ 3 ∷ 0 ∷ 0 ∷ 0x33 ∷ 0x35 ∷ 0x33 ∷ 0x15 ∷ 0x40 ∷ 0x80
    ∷ 0x80 ∷ 0x80 ∷ 0xff ∷ 0xff ∷ 0 ∷ 0x40 ∷ 0 ∷ 0 ∷ 0 ∷ 0xc0 ∷ 0 ∷ 0x80 ∷ 0 ∷ 2 ∷ 0 ∷ 1 ∷ 0 ∷ 0 ∷ [])
    (0 ∷ 1 ∷ 0 ∷ 0 ∷ 0 ∷ 1 ∷ 0 ∷ 1 ∷ 0 ∷ 0 ∷ 0 ∷ 0x1c ∷ 0 ∷ 3 ∷ 0 ∷ 0 ∷ 0 ∷ 0 ∷ 0 ∷ 0x1e ∷ 0 ∷ 0 ∷ 0 ∷ 0 ∷ 0
    ∷ 9 ∷ 0 ∷ 0x11 ∷ 0x40 ∷ 0 ∷ 0 ∷ 1 ∷ 0 ∷ 0xa ∷ 0 ∷ 7 ∷ 0xa0 ∷ 0 ∷ 0x40 ∷ 0 ∷ 0 ∷ 0x81 ∷ 1 ∷ 0x20 ∷ 0x20 ∷
    0x83 ∷ 0x87 ∷ 0 ∷ 0 ∷ 1 ∷ 0 ∷ 0xa ∷ 0 ∷ 6 ∷ 0xa0 ∷ 0 ∷ 0x40 ∷ 0 ∷ 0 ∷ 0x81 ∷ 0 ∷ 0x40 ∷ 0x81 ∷ 0x84 ∷ [])
    (pos 65536 ∷ [])) 2
    ≡ Ok (record {
      points = (pos 64, pos 0, true) ∷ (pos 64, pos 128, true) ∷ (pos 224, pos 128, true) ∷ (pos 224, pos 0, true) ∷ [];
      ends = 4 ∷ [];
      phantom = ends_at (pos 0) (pos 320) (pos 256) (pos 0);
      scan = None;
    })
unfolding fitted_outline unfitted_fault begun_glyph glyph_data_of glyph_bytes_of header_of described
    simple_of ends_from end_at points_within points_of flags_from run_at coordinates_from coordinate_at
    within_words delta_at byte_in word_in signed_in slice_in blank ends_in_units varied_glyph
    gvar.glyph_data_of points_by_all varied_along contour inferred tuples_of tuples_from tuple_at
    tuple_header_at header_at shared_points_of peak_at sides_at points_at listed_at count_at numbers_from
    next_number number_run_at deltas_from next_delta delta_run_at bytes.byte_in bytes.word_in
    bytes.signed_in bytes.slice_in share_after share_of_tuple_axis simple_start instance_point
    moved_coordinate settled added placed appended shift_of within_point_limit composite_of records_from
    record_at known_glyph arguments_at argument_at transform_at unscaled program_of moved_record
ends_of_a_composite = refl

-- the glyph's deltas end early, and its component's bytes do too
fault_of_the_deltas_first : fitted_outline (its_fitter 16 scaling.Rounded (its_metrics 64)
    (0 ∷ 0 ∷ 0 ∷ 0 ∷ 0 ∷ 8 ∷ 0 ∷ 0x10 ∷ [])
    (0 ∷ 1 ∷ 0 ∷ 0x40 ∷ 0 ∷ 0 ∷ 0 ∷ 0xc0 ∷ 0 ∷ 0x80 ∷ 0 ∷ 3 ∷ 0 ∷ 0 ∷ 0x33 ∷ 0x35 ∷ 0xff ∷ 0xff ∷ 0 ∷ 0x40 ∷
    0 ∷ 0 ∷ 0 ∷ 0xc0 ∷ 0 ∷ 0x80 ∷ 0 ∷ 2 ∷ 0 ∷ 1 ∷ 0 ∷ 0 ∷ [])
    (0 ∷ 1 ∷ 0 ∷ 0 ∷ 0 ∷ 1 ∷ 0 ∷ 1 ∷ 0 ∷ 0 ∷ 0 ∷ 0x1c ∷ 0 ∷ 3 ∷ 0 ∷ 0 ∷ 0 ∷ 0 ∷ 0 ∷ 0x1e ∷ 0 ∷ 0 ∷ 0 ∷ 0 ∷ 0
    ∷ 9 ∷ 0 ∷ 0xf ∷ 0x40 ∷ 0 ∷ 0 ∷ 1 ∷ 0 ∷ 0xa ∷ 0 ∷ 7 ∷ 0xa0 ∷ 0 ∷ 0x40 ∷ 0 ∷ 0 ∷ 0x81 ∷ 1 ∷ 0x20 ∷ 0x20 ∷
    0x83 ∷ 0x87 ∷ 0 ∷ 0 ∷ 1 ∷ 0 ∷ 0xa ∷ 0 ∷ 2 ∷ 0xa0 ∷ 0 ∷ 0x40 ∷ 0 ∷ 0 ∷ 0x7f ∷ [])
    (pos 65536 ∷ [])) 2
    ≡ Err (fault_at (codes "gvar") 59 why.GlyphVariation)
unfolding fitted_outline unfitted_fault begun_glyph glyph_data_of glyph_bytes_of header_of described
    simple_of ends_from end_at points_within points_of flags_from run_at coordinates_from coordinate_at
    within_words delta_at byte_in word_in signed_in slice_in blank ends_in_units varied_glyph
    gvar.glyph_data_of points_by_all varied_along contour inferred tuples_of tuples_from tuple_at
    tuple_header_at header_at shared_points_of peak_at sides_at points_at listed_at count_at numbers_from
    next_number number_run_at deltas_from next_delta delta_run_at bytes.byte_in bytes.word_in
    bytes.signed_in bytes.slice_in share_after share_of_tuple_axis simple_start instance_point
    moved_coordinate settled added placed appended shift_of within_point_limit composite_of records_from
    record_at known_glyph arguments_at argument_at transform_at unscaled program_of moved_record
fault_of_the_deltas_first = refl

-- 192 and 32,700 units
a_coordinate_past_16_bits : fitted_outline (its_fitter 16 scaling.Rounded (its_metrics 0)
    (0 ∷ 0 ∷ 0 ∷ 0 ∷ 0 ∷ 0xb ∷ 0 ∷ 0x16 ∷ [])
    (0 ∷ 1 ∷ 0 ∷ 0x40 ∷ 0 ∷ 0 ∷ 0 ∷ 0xc0 ∷ 0 ∷ 0x80 ∷ 0 ∷ 3 ∷ 0 ∷ 0 ∷ 0x33 ∷ 0x35 ∷ 0x33 ∷ 0x15 ∷ 0x40 ∷ 0x80
    ∷ 0x80 ∷ 0x80 ∷ 0 ∷ 1 ∷ 0 ∷ 0 ∷ 0 ∷ 0 ∷ 0 ∷ 0x40 ∷ 0 ∷ 0x40 ∷ 0 ∷ 3 ∷ 0 ∷ 0 ∷ 0x31 ∷ 0x35 ∷ 0x33 ∷ 0x15
    ∷ 0x40 ∷ 0x40 ∷ 0x40 ∷ 0 ∷ [])
    (0 ∷ 1 ∷ 0 ∷ 0 ∷ 0 ∷ 1 ∷ 0 ∷ 1 ∷ 0 ∷ 0 ∷ 0 ∷ 0x1c ∷ 0 ∷ 3 ∷ 0 ∷ 0 ∷ 0 ∷ 0 ∷ 0 ∷ 0x1e ∷ 0 ∷ 0 ∷ 0 ∷ 0 ∷ 0
    ∷ 0xa ∷ 0 ∷ 0xa ∷ 0x40 ∷ 0 ∷ 0 ∷ 1 ∷ 0 ∷ 0xa ∷ 0 ∷ 9 ∷ 0xa0 ∷ 0 ∷ 0x40 ∷ 0 ∷ 0 ∷ 0x81 ∷ 0x41 ∷ 0x7f ∷
    0xbc ∷ 0x7f ∷ 0xbc ∷ 0x83 ∷ 0x87 ∷ 0 ∷ [])
    (pos 65536 ∷ [])) 1
    ≡ Err (coordinate_fault 0)
unfolding fitted_outline unfitted_fault begun_glyph glyph_data_of glyph_bytes_of header_of described
    simple_of ends_from end_at points_within points_of flags_from run_at coordinates_from coordinate_at
    within_words delta_at byte_in word_in signed_in slice_in blank ends_in_units varied_glyph
    gvar.glyph_data_of points_by_all varied_along contour inferred tuples_of tuples_from tuple_at
    tuple_header_at header_at shared_points_of peak_at sides_at points_at listed_at count_at numbers_from
    next_number number_run_at deltas_from next_delta delta_run_at bytes.byte_in bytes.word_in
    bytes.signed_in bytes.slice_in share_after share_of_tuple_axis simple_start instance_point
    moved_coordinate settled
a_coordinate_past_16_bits = refl

-- an argument of 32,767 and one unit more
an_argument_past_16_bits : fitted_outline (its_fitter 16 scaling.Rounded (its_metrics 64)
    (0 ∷ 0 ∷ 0 ∷ 0 ∷ 0 ∷ 0xb ∷ 0 ∷ 0x14 ∷ [])
    (0 ∷ 1 ∷ 0 ∷ 0x40 ∷ 0 ∷ 0 ∷ 0 ∷ 0xc0 ∷ 0 ∷ 0x80 ∷ 0 ∷ 3 ∷ 0 ∷ 0 ∷ 0x33 ∷ 0x35 ∷ 0x33 ∷ 0x15 ∷ 0x40 ∷ 0x80
    ∷ 0x80 ∷ 0x80 ∷ 0xff ∷ 0xff ∷ 0 ∷ 0x40 ∷ 0 ∷ 0 ∷ 0 ∷ 0xc0 ∷ 0 ∷ 0x80 ∷ 0 ∷ 3 ∷ 0 ∷ 1 ∷ 0x7f ∷ 0xff ∷ 0 ∷
    0 ∷ [])
    (0 ∷ 1 ∷ 0 ∷ 0 ∷ 0 ∷ 1 ∷ 0 ∷ 1 ∷ 0 ∷ 0 ∷ 0 ∷ 0x1c ∷ 0 ∷ 3 ∷ 0 ∷ 0 ∷ 0 ∷ 0 ∷ 0 ∷ 0x1e ∷ 0 ∷ 0 ∷ 0 ∷ 0 ∷ 0
    ∷ 9 ∷ 0 ∷ 0x11 ∷ 0x40 ∷ 0 ∷ 0 ∷ 1 ∷ 0 ∷ 0xa ∷ 0 ∷ 7 ∷ 0xa0 ∷ 0 ∷ 0x40 ∷ 0 ∷ 0 ∷ 0x81 ∷ 1 ∷ 0x20 ∷ 0x20 ∷
    0x83 ∷ 0x87 ∷ 0 ∷ 0 ∷ 1 ∷ 0 ∷ 0xa ∷ 0 ∷ 5 ∷ 0xa0 ∷ 0 ∷ 0x40 ∷ 0 ∷ 0 ∷ 0 ∷ 1 ∷ 0x83 ∷ 0x84 ∷ 0 ∷ [])
    (pos 65536 ∷ [])) 2
    ≡ Err (coordinate_fault 32)
unfolding fitted_outline unfitted_fault begun_glyph glyph_data_of glyph_bytes_of header_of described
    simple_of ends_from end_at points_within points_of flags_from run_at coordinates_from coordinate_at
    within_words delta_at byte_in word_in signed_in slice_in blank ends_in_units varied_glyph
    gvar.glyph_data_of points_by_all varied_along contour inferred tuples_of tuples_from tuple_at
    tuple_header_at header_at shared_points_of peak_at sides_at points_at listed_at count_at numbers_from
    next_number number_run_at deltas_from next_delta delta_run_at bytes.byte_in bytes.word_in
    bytes.signed_in bytes.slice_in share_after share_of_tuple_axis simple_start instance_point
    moved_coordinate settled added placed appended shift_of within_point_limit composite_of records_from
    record_at known_glyph arguments_at argument_at transform_at unscaled program_of moved_record
an_argument_past_16_bits = refl
