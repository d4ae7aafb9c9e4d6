-- Worked values: control values, the places that programs read, and the work of deltas at an instance. The em has 1,024
-- units.
use Rattle.std.specs.Prelude.{◌≡◌, refl, ℕ, pos, negsuc, List, [], ◌∷◌, Some, None}
use Rattle.tt_axes.specs.Shares.{share_of_tuple_axis}
use Rattle.tt_deltas.specs.Along.{varied_along}
use Rattle.tt_deltas.specs.ControlValues.{values_by_all, varied_values}
use Rattle.tt_deltas.specs.Gvar as gvar
use Rattle.tt_deltas_inference.specs.Inference.{contour, inferred}
use Rattle.tt_face.specs.Faces.{FaceInstance}
use Rattle.tt_face.specs.Programs.{ProgramTables}
use Rattle.tt_fit.specs.DeltaCounting.{deltas_asked, deltas_by, control_deltas_by}
use Rattle.tt_fit.specs.Preparation.{begun_at}
use Rattle.tt_fit.specs.declared.programs.Fit.TheVariants as fit
use Rattle.tt_fit_laws.specs.InstanceRows.{its_metrics}
use Rattle.tt_glyf.specs.Bytes.{byte_in, word_in, signed_in, slice_in}
use Rattle.tt_glyf.specs.Composite.{transform_at, argument_at, arguments_at, unscaled, known_glyph, record_at, records_from, program_of, composite_of}
use Rattle.tt_glyf.specs.GlyphData.{glyph_data_of, header_of, described}
use Rattle.tt_glyf.specs.Loca.{Glyf, glyph_bytes_of}
use Rattle.tt_glyf.specs.Simple.{end_at, ends_from, points_within, points_of, simple_of}
use Rattle.tt_glyf.specs.Coordinates.{delta_at, within_words, coordinate_at, coordinates_from}
use Rattle.tt_glyf.specs.Flags.{run_at, flags_from}
use Rattle.tt_glyf.specs.Told.{told_size, components_of}
use Rattle.tt_metrics.specs.declared.head.LocaFormat.TheVariants.{Short}
use Rattle.tt_tuples.specs.Bytes as bytes
use Rattle.tt_tuples.specs.Deltas.{deltas_from, next_delta, delta_run_at}
use Rattle.tt_tuples.specs.Headers.{header_at, tuple_count, tuple_header_at, peak_at, sides_at}
use Rattle.tt_tuples.specs.PointNumbers.{points_at, listed_at, count_at, numbers_from, next_number, number_run_at}
use Rattle.tt_tuples.specs.Regions.{share_after}
use Rattle.tt_tuples.specs.Tuples.{tuples_of, tuples_from, tuple_at, shared_points_of}

-- Control values of 100, 200 and 300 units with deltas of 7, -7 and 0 by 44171 parts of 65536. They are 6702, 12498 and
-- 19200 64ths of a unit; at 41 pixels 268.34, 500.41 and 768.75
abbrev its_instance : List ℕ → FaceInstance
its_instance cvar = record {
  coordinates = pos 44171 ∷ [];
  gvar = record {
    table = 0 ∷ 1 ∷ 0 ∷ 0 ∷ 0 ∷ 1 ∷ 0 ∷ 1 ∷ 0 ∷ 0 ∷ 0 ∷ 28 ∷ 0 ∷ 3 ∷ 0 ∷ 0 ∷ 0 ∷ 0 ∷ 0 ∷ 30 ∷ 0 ∷ 0 ∷ 0 ∷ 0 ∷ 0 ∷ 7
        ∷ 0 ∷ 7 ∷ 64 ∷ 0 ∷ 0 ∷ 1 ∷ 0 ∷ 10 ∷ 0 ∷ 3 ∷ 160 ∷ 0 ∷ 64 ∷ 0 ∷ 0 ∷ 135 ∷ 135 ∷ 0 ∷ [];
    axes = 1;
  };
  cvar = cvar;
}

abbrev its_cvar : List ℕ
its_cvar = 0 ∷ 1 ∷ 0 ∷ 0 ∷ 0 ∷ 1 ∷ 0 ∷ 14 ∷ 0 ∷ 5 ∷ 160 ∷ 0 ∷ 64 ∷ 0 ∷ 0 ∷ 1 ∷ 7 ∷ 249 ∷ 128 ∷ []

abbrev its_programs : ProgramTables
its_programs = record { cvt = 0 ∷ 100 ∷ 0 ∷ 200 ∷ 1 ∷ 44 ∷ []; fpgm = []; prep = [] }

control_values : (begun_at (its_metrics 0) its_programs (Some (its_instance its_cvar)) 41 fit.Best).cvt
    ≡ pos 268 ∷ pos 500 ∷ pos 769 ∷ []
unfolding tuple_count varied_values values_by_all varied_along contour inferred tuples_of tuples_from tuple_at
    tuple_header_at header_at shared_points_of peak_at sides_at points_at listed_at count_at numbers_from
    next_number number_run_at deltas_from next_delta delta_run_at bytes.byte_in bytes.word_in
    bytes.signed_in bytes.slice_in share_after share_of_tuple_axis
control_values = refl

-- a delta is missing: no value moves
cut_cvar : (begun_at (its_metrics 0) its_programs (Some (its_instance (0 ∷ 1 ∷ 0 ∷ 0 ∷ 0 ∷ 1 ∷ 0 ∷ 14 ∷ 0 ∷ 5 ∷ 160 ∷ 0 ∷ 64 ∷ 0 ∷ 0 ∷ 1 ∷ 7 ∷ 249 ∷ []))) 41 fit.Best).cvt
    ≡ pos 256 ∷ pos 513 ∷ pos 769 ∷ []
unfolding tuple_count varied_values values_by_all varied_along contour inferred tuples_of tuples_from tuple_at
    tuple_header_at header_at shared_points_of peak_at sides_at points_at listed_at count_at numbers_from
    next_number number_run_at deltas_from next_delta delta_run_at bytes.byte_in bytes.word_in
    bytes.signed_in bytes.slice_in share_after share_of_tuple_axis
cut_cvar = refl

-- by the font's default: 256.25, 512.5 and 768.75
default_values : (begun_at (its_metrics 0) its_programs None 41 fit.Best).cvt ≡ pos 256 ∷ pos 513 ∷ pos 769 ∷ []
default_values = refl

-- what GETVARIATION pushes: with Best, and with no other fit
places : (begun_at (its_metrics 0) its_programs (Some (record (its_instance []) { coordinates = pos 32768 ∷ negsuc 52428 ∷ [] })) 16 fit.Best).instance
    ≡ pos 8192 ∷ negsuc 13107 ∷ []
places = refl

no_places : (begun_at (its_metrics 0) its_programs (Some (its_instance [])) 16 fit.Full).instance ≡ []
no_places = refl

-- one tuple, three values and one axis
control_work : control_deltas_by (Some (its_instance its_cvar)) its_programs.cvt ≡ 4
unfolding tuple_count
control_work = refl

-- one tuple for each glyph: the square has 4 + 1 + 5, and the glyph that is made of it 4 + 1 + 1 besides
abbrev its_tables : Glyf
its_tables = record {
  loca = 0 ∷ 0 ∷ 0 ∷ 0 ∷ 0 ∷ 0xb ∷ 0 ∷ 0x13 ∷ [];
  glyf = 0 ∷ 1 ∷ 0 ∷ 0x40 ∷ 0 ∷ 0 ∷ 0 ∷ 0xc0 ∷ 0 ∷ 0x80 ∷ 0 ∷ 3 ∷ 0 ∷ 0 ∷ 0x33 ∷ 0x35 ∷ 0x33 ∷ 0x15 ∷ 0x40 ∷ 0x80 ∷ 0x80 ∷ 0x80 ∷ 0xff ∷ 0xff ∷ 0 ∷ 0x40 ∷ 0 ∷ 0 ∷ 0 ∷ 0xc0 ∷ 0 ∷ 0x80 ∷ 0 ∷ 2 ∷ 0 ∷ 1 ∷ 0 ∷ 0 ∷ [];
  format = Short;
  glyphs = 3;
}

abbrev its_deltas : FaceInstance
its_deltas = record {
  coordinates = pos 65536 ∷ [];
  gvar = record { table = 0 ∷ 1 ∷ 0 ∷ 0 ∷ 0 ∷ 1 ∷ 0 ∷ 1 ∷ 0 ∷ 0 ∷ 0 ∷ 0x1c ∷ 0 ∷ 3 ∷ 0 ∷ 0 ∷ 0 ∷ 0 ∷ 0 ∷ 0x1e ∷ 0 ∷ 0 ∷ 0 ∷ 0 ∷ 0 ∷ 9 ∷ 0 ∷ 0x11 ∷ 0x40 ∷ 0 ∷ 0 ∷ 1 ∷ 0 ∷ 0xa ∷ 0 ∷ 7 ∷ 0xa0 ∷ 0 ∷ 0x40 ∷ 0 ∷ 0 ∷ 0x81 ∷ 1 ∷ 0x20 ∷ 0x20 ∷ 0x83 ∷ 0x87 ∷ 0 ∷ 0 ∷ 1 ∷ 0 ∷ 0xa ∷ 0 ∷ 6 ∷ 0xa0 ∷ 0 ∷ 0x40 ∷ 0 ∷ 0 ∷ 0x81 ∷ 0 ∷ 0x40 ∷ 0x81 ∷ 0x84 ∷ []; axes = 1 };
  cvar = [];
}

deltas_of_both : deltas_asked (Some its_deltas) its_tables 8 2 ≡ 16
unfolding deltas_asked deltas_by told_size components_of glyph_data_of glyph_bytes_of header_of described byte_in word_in
    signed_in slice_in gvar.glyph_data_of tuple_count composite_of records_from record_at known_glyph arguments_at
    argument_at transform_at unscaled program_of simple_of ends_from end_at points_within points_of flags_from run_at
    coordinates_from coordinate_at within_words delta_at
deltas_of_both = refl

-- with no level left, that of the glyph alone
deltas_without_a_level : deltas_asked (Some its_deltas) its_tables 0 2 ≡ 6
unfolding deltas_asked deltas_by told_size components_of glyph_data_of glyph_bytes_of header_of described byte_in word_in
    signed_in slice_in gvar.glyph_data_of tuple_count composite_of records_from record_at known_glyph arguments_at
    argument_at transform_at unscaled program_of
deltas_without_a_level = refl

-- by the font's default nothing
no_deltas : deltas_asked None its_tables 8 2 ≡ 0
unfolding deltas_asked
no_deltas = refl
