-- Worked values: a font whose programs are refused, at 16 pixels, by each fit. Glyph 1 is the square (64,0), (64,128),
-- (192,128), (192,0) with a program of SPVTL, which is not supported. Glyph 2 has glyph 1 as its one component, and
-- glyph 3 ends too early.
use Rattle.std.specs.Prelude.{◌≡◌, true, pos, neg_ℤ, codes, [], ◌∷◌, Some, None, Ok, Err, refl}
use Rattle.tt_core.specs.Faults.{Fault, fault_at, why_number}
use Rattle.tt_core.specs.declared.fault.Why.TheVariants as why
use Rattle.tt_core.specs.Limits.{level_limit}
use Rattle.tt_fit_hinting.specs.step.Runs.{run_within, run_outcome}
use Rattle.tt_fit_hinting.specs.machine.Work.{run_work, slowness, work_within}
use Rattle.tt_glyf.specs.Bytes.{byte_in, word_in, signed_in, slice_in}
use Rattle.tt_glyf.specs.Composite.{transform_at, argument_at, arguments_at, unscaled, known_glyph, record_at, records_from, program_of, composite_of}
use Rattle.tt_glyf.specs.Coordinates.{delta_at, within_words, coordinate_at, coordinates_from}
use Rattle.tt_glyf.specs.Flags.{run_at, flags_from}
use Rattle.tt_glyf.specs.GlyphData.{glyph_data_of, header_of, described}
use Rattle.tt_glyf.specs.Loca.{glyph_bytes_of}
use Rattle.tt_glyf.specs.Simple.{end_at, ends_from, points_within, points_of, simple_of}
use Rattle.tt_metrics.specs.declared.head.LocaFormat.TheVariants.{Short}
use Rattle.tt_metrics.specs.declared.heights.Heights.TheVariants.{Exact}
use Rattle.tt_metrics.specs.Metrics.{Metrics}
use Rattle.tt_fit.specs.declared.programs.Fit.TheVariants as fit
use Rattle.tt_fit.specs.declared.dropouts.DropoutsBy.TheVariants as by
use Rattle.tt_fit_outline.specs.Component.{shift_of}
use Rattle.tt_fit_outline.specs.Joining.{placed, appended, within_point_limit}
use Rattle.tt_fit.specs.Fallback.{Fallback, never, where_refused, everywhere, is_program_fault}
use Rattle.tt_fit.specs.Fitting.{Fitter, simple_start, begun_glyph, added, added_work, fitted_outline, unfitted_fault}
use Rattle.tt_fit_hinting.specs.GlyphZone.{on_grid_at}
use Rattle.tt_face.specs.Programs.{ProgramTables}
use Rattle.tt_fit.specs.Preparation.{left_by_programs, programs_work, prepared}
use Rattle.tt_fit_hinting.specs.Parts.{begun_parts}
use Rattle.tt_fit.specs.Rules.{of_profile}
use Rattle.tt_fit_hinting.specs.Hinting.{off, ready, run_of, by_program}
use Rattle.tt_fit_outline.specs.Scaling.{blank, scaled_outline, settled}
use Rattle.tt_fit_hinting.specs.Work.{program_work}
use Rattle.tt_fit_outline.specs.declared.grid.GridRule.TheVariants as grid_rule
use Rattle.tt_fit_outline.specs.declared.rules.Scaling.TheVariants as scaling

abbrev its_metrics : Metrics
its_metrics = record {
  head = record { units_per_em = 256; loca_format = Short };
  maxp = record { glyphs = 4; twilight = 0; storage = 0 };
  hhea = record { ascent = pos 256; descent = neg_ℤ (pos 64); line_gap = pos 0; long_metrics = 1 };
  hmtx = 1 ∷ 0 ∷ 0 ∷ 64 ∷ 0 ∷ 64 ∷ 0 ∷ 64 ∷ 0 ∷ 64 ∷ [];
  heights = Exact;
  kerning = None;
  advances = None;
}

abbrev its_fitter : Fallback → Fitter
its_fitter fallback = record {
  tables = record {
    loca = 0 ∷ 0 ∷ 0 ∷ 0 ∷ 0 ∷ 12 ∷ 0 ∷ 21 ∷ 0 ∷ 22 ∷ [];
    glyf = 0 ∷ 1 ∷ 0 ∷ 64 ∷ 0 ∷ 0 ∷ 0 ∷ 192 ∷ 0 ∷ 128 ∷ 0 ∷ 3 ∷ 0 ∷ 1 ∷ 6 ∷ 0x33 ∷ 0x35 ∷ 0x33 ∷ 0x15 ∷ 0x40 ∷ 0x80 ∷
        0x80 ∷ 0x80 ∷ 0 ∷ 255 ∷ 255 ∷ 0 ∷ 64 ∷ 0 ∷ 0 ∷ 0 ∷ 192 ∷ 0 ∷ 128 ∷ 0 ∷ 2 ∷ 0 ∷ 1 ∷ 0 ∷ 0 ∷ 0 ∷ 0 ∷ 0 ∷ 1 ∷ [];
    format = Short;
    glyphs = 4;
  };
  metrics = its_metrics;
  instance = None;
  ppem = 16;
  scaling = scaling.Exact;
  grid = grid_rule.Always;
  hinting = ready (begun_parts its_metrics [] 16 of_profile []);
  fallback = fallback;
  levels = level_limit;
  work = None;
  control_deltas = 0;
  dropouts = by.Nobody;
}

abbrev its_fault : Fault
its_fault = fault_at (codes "glyf") 14 why.OffProfile

program_is_refused : fitted_outline (its_fitter never) 1 ≡ Err its_fault
unfolding fitted_outline unfitted_fault begun_glyph glyph_data_of glyph_bytes_of header_of described simple_of ends_from end_at
    points_within points_of flags_from run_at coordinates_from coordinate_at within_words delta_at byte_in word_in
    signed_in slice_in blank simple_start scaled_outline settled by_program on_grid_at run_of run_outcome run_within
program_is_refused = refl

square_is_unfitted : unfitted_fault (its_fitter where_refused) 1 ≡ Some its_fault
unfolding unfitted_fault begun_glyph glyph_data_of glyph_bytes_of header_of described simple_of ends_from end_at
    points_within points_of flags_from run_at coordinates_from coordinate_at within_words delta_at byte_in word_in
    signed_in slice_in blank simple_start scaled_outline settled by_program on_grid_at run_of run_outcome run_within
    is_program_fault why_number program_work run_work work_within
square_is_unfitted = refl

composite_is_unfitted : unfitted_fault (its_fitter where_refused) 2 ≡ Some its_fault
unfolding unfitted_fault begun_glyph added glyph_data_of glyph_bytes_of header_of described simple_of ends_from end_at
    points_within points_of flags_from run_at coordinates_from coordinate_at within_words delta_at byte_in word_in
    signed_in slice_in blank simple_start scaled_outline settled by_program on_grid_at run_of run_outcome run_within
    composite_of records_from record_at known_glyph arguments_at argument_at transform_at unscaled program_of
    is_program_fault why_number added_work program_work run_work work_within
composite_is_unfitted = refl

composite_is_scaled : fitted_outline (its_fitter where_refused) 2 ≡ Ok (record {
  points = (pos 256, pos 0, true) ∷ (pos 256, pos 512, true) ∷ (pos 768, pos 512, true) ∷ (pos 768, pos 0, true) ∷ [];
  ends = 4 ∷ [];
  phantom = record {
    left = (pos 0, pos 0);
    right = (pos 1024, pos 0);
    ascent = (pos 0, pos 1024);
    descent = (pos 0, neg_ℤ (pos 256));
  };
  scan = None;
})
unfolding fitted_outline unfitted_fault begun_glyph added placed appended shift_of within_point_limit glyph_data_of glyph_bytes_of
    header_of described simple_of ends_from end_at points_within points_of flags_from run_at coordinates_from
    coordinate_at within_words delta_at byte_in word_in signed_in slice_in blank simple_start scaled_outline settled by_program
    on_grid_at run_of run_outcome run_within composite_of records_from record_at known_glyph arguments_at argument_at
    transform_at unscaled program_of is_program_fault why_number added_work program_work run_work work_within
composite_is_scaled = refl

short_is_refused : fitted_outline (its_fitter where_refused) 3 ≡ Err (fault_at (codes "glyf") 44 why.GlyphShort)
unfolding fitted_outline unfitted_fault begun_glyph glyph_data_of glyph_bytes_of header_of described byte_in word_in signed_in
    slice_in is_program_fault why_number
short_is_refused = refl

-- a font program of SPVTL
abbrev its_programs : ProgramTables
its_programs = record { cvt = []; fpgm = 6 ∷ []; prep = [] }

abbrev font_fault : Fault
font_fault = fault_at (codes "fpgm") 0 why.OffProfile

font_program_is_refused : prepared its_metrics its_programs None 16 fit.Full ≡ Err font_fault
unfolding prepared left_by_programs run_of run_outcome run_within
font_program_is_refused = refl

by_it_every_glyph_is_unfitted : prepared its_metrics its_programs None 16 fit.Fallback ≡ Ok
    (record { hinting = off; fallback = everywhere font_fault; work = None })
unfolding prepared left_by_programs run_of run_outcome run_within
by_it_every_glyph_is_unfitted = refl

-- with best: an opcode that nothing defines, whose step counts as work of 2
with_best_every_glyph_is_unfitted : prepared its_metrics (record its_programs { fpgm = 0xA0 ∷ [] }) None 16 fit.Best ≡ Ok
    (record { hinting = off; fallback = everywhere (fault_at (codes "fpgm") 0 why.BadOpcode); work = Some 49999998 })
unfolding prepared left_by_programs run_of run_outcome run_within programs_work run_work work_within slowness
with_best_every_glyph_is_unfitted = refl

-- this fault makes a glyph without a program unfitted too
empty_is_unfitted : unfitted_fault (its_fitter (everywhere font_fault)) 0 ≡ Some font_fault
unfolding unfitted_fault
empty_is_unfitted = refl
