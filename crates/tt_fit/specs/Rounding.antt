-- Worked values: a font with hinting on and off, at 16 pixels, 256 units in an em, each glyph 256 wide. Glyph 1 is the
-- square (64,0), (64,128), (192,128), (192,0) without a program. Its bearing is 72, so its advance begins at -8 units,
-- half a pixel left of 0. Glyph 2 is glyph 1 moved by 8 and -8 units, with the flags of its one record. Its own advance
-- begins at -4 units.
use Rattle.std.specs.Prelude.{◌≡◌, ℕ, Bool, true, ℤ, pos, neg_ℤ, ◌+ℤ◌, List, [], ◌∷◌, ◌++◌, Some, None, Ok, Err, refl}
use Rattle.tt_face.specs.Programs.{no_programs}
use Rattle.tt_glyf.specs.Bytes.{byte_in, word_in, signed_in, slice_in}
use Rattle.tt_glyf.specs.Composite.{transform_at, argument_at, arguments_at, unscaled, known_glyph, record_at, records_from, program_of, composite_of}
use Rattle.tt_glyf.specs.Coordinates.{delta_at, within_words, coordinate_at, coordinates_from}
use Rattle.tt_glyf.specs.Flags.{run_at, flags_from}
use Rattle.tt_glyf.specs.GlyphData.{glyph_data_of, header_of, described}
use Rattle.tt_glyf.specs.Loca.{glyph_bytes_of}
use Rattle.tt_glyf.specs.Simple.{end_at, ends_from, points_within, points_of, simple_of}
use Rattle.tt_metrics.specs.declared.head.LocaFormat.TheVariants.{Short}
use Rattle.tt_metrics.specs.declared.heights.Heights.TheVariants.{Exact}
use Rattle.tt_metrics.specs.Metrics.{Metrics}
use Rattle.tt_fit.specs.declared.programs.Fit.TheVariants as fit
use Rattle.tt_fit.specs.declared.dropouts.DropoutsBy.TheVariants as by
use Rattle.tt_fit.specs.Fallback.{never, where_refused}
use Rattle.tt_fit.specs.Fitting.{Fitter, simple_start, begun_glyph, added, fitted_outline, unfitted_fault}
use Rattle.tt_fit.specs.Preparation.{prepared}
use Rattle.tt_fit.specs.Rules.{rules_of}
use Rattle.tt_fit_outline.specs.declared.grid.GridRule.{GridRule}
use Rattle.tt_fit_outline.specs.declared.grid.GridRule.TheVariants as grid_rule
use Rattle.tt_fit_outline.specs.declared.rules.Scaling.TheVariants as scaling
use Rattle.tt_fit_outline.specs.Component.{shift_of}
use Rattle.tt_fit_hinting.specs.GlyphZone.{on_grid_at}
use Rattle.tt_fit_hinting.specs.Hinting.{Hinting, off, ready}
use Rattle.tt_fit_outline.specs.Joining.{placed, appended, within_point_limit}
use Rattle.tt_fit_outline.specs.Outline.{Outline, PhantomPoints}
use Rattle.tt_fit_hinting.specs.Parts.{begun_parts}
use Rattle.tt_fit_outline.specs.Scaling.{blank, coordinate_fault, scaled_outline, settled}

-- the advance is two bytes
abbrev its_metrics : ℕ → ℕ → Metrics
its_metrics high low = record {
  head = record { units_per_em = 256; loca_format = Short };
  maxp = record { glyphs = 3; twilight = 0; storage = 0 };
  hhea = record { ascent = pos 256; descent = neg_ℤ (pos 64); line_gap = pos 0; long_metrics = 1 };
  hmtx = high ∷ low ∷ 0 ∷ 0 ∷ 0 ∷ 72 ∷ 0 ∷ 68 ∷ [];
  heights = Exact;
  kerning = None;
  advances = None;
}

abbrev its_square : List ℕ
its_square =
    0 ∷ 1 ∷ 0 ∷ 64 ∷ 0 ∷ 0 ∷ 0 ∷ 192 ∷ 0 ∷ 128 ∷ 0 ∷ 3 ∷ 0 ∷ 0 ∷ 0x33 ∷ 0x35 ∷ 0x33 ∷ 0x15 ∷ 0x40 ∷ 0x80 ∷ 0x80 ∷ 0x80 ∷ []

-- the flags of the record are two bytes
abbrev its_fitter : ℕ → ℕ → GridRule → Hinting → Fitter
its_fitter high low grid hinting = record {
  tables = record {
    loca = 0 ∷ 0 ∷ 0 ∷ 0 ∷ 0 ∷ 11 ∷ 0 ∷ 19 ∷ [];
    glyf = its_square ++ 255 ∷ 255 ∷ 0 ∷ 64 ∷ 0 ∷ 0 ∷ 1 ∷ 0 ∷ 0 ∷ 128 ∷ high ∷ low ∷ 0 ∷ 1 ∷ 8 ∷ 248 ∷ [];
    format = Short;
    glyphs = 3;
  };
  metrics = its_metrics 1 0;
  instance = None;
  ppem = 16;
  scaling = scaling.Rounded;
  grid = grid;
  hinting = hinting;
  fallback = never;
  levels = 8;
  work = None;
  control_deltas = 0;
  dropouts = by.Programs;
}

abbrev its_hinting : Hinting
its_hinting = ready (begun_parts (its_metrics 1 0) [] 16 (rules_of fit.Best) [])

-- the square moved by this much along x and along y
abbrev square_at : ℤ → ℤ → List (ℤ × ℤ × Bool)
square_at x y =
    (x +ℤ pos 256, y, true) ∷ (x +ℤ pos 256, y +ℤ pos 512, true) ∷ (x +ℤ pos 768, y +ℤ pos 512, true)
    ∷ (x +ℤ pos 768, y, true) ∷ []

abbrev from_to : ℤ → ℤ → PhantomPoints
from_to left right = record {
  left = (left, pos 0);
  right = (right, pos 0);
  ascent = (pos 0, pos 1024);
  descent = (pos 0, neg_ℤ (pos 256));
}

abbrev square : ℤ → ℤ → PhantomPoints → Outline
square x y phantom = record { points = square_at x y; ends = 4 ∷ []; phantom = phantom; scan = None }

-- with hinting on: -32 goes up to 0, and 992 to 1024
ends_on_the_grid : fitted_outline (its_fitter 0 2 grid_rule.WhereHinted its_hinting) 1
    ≡ Ok (square (pos 0) (pos 0) (from_to (pos 0) (pos 1024)))
unfolding fitted_outline unfitted_fault begun_glyph glyph_data_of glyph_bytes_of header_of described simple_of ends_from end_at points_within
    points_of flags_from run_at coordinates_from coordinate_at within_words delta_at byte_in word_in signed_in slice_in
    blank simple_start scaled_outline settled on_grid_at
ends_on_the_grid = refl

-- with hinting off, and with another fit
ends_stay : fitted_outline (its_fitter 0 2 grid_rule.WhereHinted off) 1
    ≡ Ok (square (pos 0) (pos 0) (from_to (neg_ℤ (pos 32)) (pos 992)))
unfolding fitted_outline unfitted_fault begun_glyph glyph_data_of glyph_bytes_of header_of described simple_of ends_from end_at points_within
    points_of flags_from run_at coordinates_from coordinate_at within_words delta_at byte_in word_in signed_in slice_in
    blank simple_start scaled_outline settled
ends_stay = refl

ends_stay_with_others : fitted_outline (its_fitter 0 2 grid_rule.Always its_hinting) 1
    ≡ Ok (square (pos 0) (pos 0) (from_to (neg_ℤ (pos 32)) (pos 992)))
unfolding fitted_outline unfitted_fault begun_glyph glyph_data_of glyph_bytes_of header_of described simple_of ends_from end_at points_within
    points_of flags_from run_at coordinates_from coordinate_at within_words delta_at byte_in word_in signed_in slice_in
    blank simple_start scaled_outline settled
ends_stay_with_others = refl

-- ROUND_XY_TO_GRID with hinting on: 32 goes up to 64, and -32 to 0. The composite keeps its own scaled ends
offsets_go_up : fitted_outline (its_fitter 0 6 grid_rule.WhereHinted its_hinting) 2
    ≡ Ok (square (pos 64) (pos 0) (from_to (neg_ℤ (pos 16)) (pos 1008)))
unfolding fitted_outline unfitted_fault begun_glyph added placed appended shift_of within_point_limit glyph_data_of glyph_bytes_of
    header_of described composite_of records_from record_at known_glyph arguments_at argument_at transform_at unscaled
    program_of simple_of ends_from end_at points_within points_of flags_from run_at coordinates_from coordinate_at
    within_words delta_at byte_in word_in signed_in slice_in blank simple_start scaled_outline settled on_grid_at
offsets_go_up = refl

-- with hinting off the flag has no effect; with another fit halves go away from zero
offsets_stay : fitted_outline (its_fitter 0 6 grid_rule.WhereHinted off) 2
    ≡ Ok (square (pos 32) (neg_ℤ (pos 32)) (from_to (neg_ℤ (pos 16)) (pos 1008)))
unfolding fitted_outline unfitted_fault begun_glyph added placed appended shift_of within_point_limit glyph_data_of glyph_bytes_of
    header_of described composite_of records_from record_at known_glyph arguments_at argument_at transform_at unscaled
    program_of simple_of ends_from end_at points_within points_of flags_from run_at coordinates_from coordinate_at
    within_words delta_at byte_in word_in signed_in slice_in blank simple_start scaled_outline settled
offsets_stay = refl

offsets_go_away : fitted_outline (its_fitter 0 6 grid_rule.Always off) 2
    ≡ Ok (square (pos 64) (neg_ℤ (pos 64)) (from_to (neg_ℤ (pos 16)) (pos 1008)))
unfolding fitted_outline unfitted_fault begun_glyph added placed appended shift_of within_point_limit glyph_data_of glyph_bytes_of
    header_of described composite_of records_from record_at known_glyph arguments_at argument_at transform_at unscaled
    program_of simple_of ends_from end_at points_within points_of flags_from run_at coordinates_from coordinate_at
    within_words delta_at byte_in word_in signed_in slice_in blank simple_start scaled_outline settled
offsets_go_away = refl

-- USE_MY_METRICS: the ends of the component, which has no program
ends_of_the_component : fitted_outline (its_fitter 2 2 grid_rule.WhereHinted its_hinting) 2
    ≡ Ok (square (pos 32) (neg_ℤ (pos 32)) (from_to (pos 0) (pos 1024)))
unfolding fitted_outline unfitted_fault begun_glyph added placed appended shift_of within_point_limit glyph_data_of glyph_bytes_of
    header_of described composite_of records_from record_at known_glyph arguments_at argument_at transform_at unscaled
    program_of simple_of ends_from end_at points_within points_of flags_from run_at coordinates_from coordinate_at
    within_words delta_at byte_in word_in signed_in slice_in blank simple_start scaled_outline settled on_grid_at
ends_of_the_component = refl

-- At 300 pixels a unit is 75. An advance of 27970 units ends at 27962, which is 2097150: within the limit, but not on
-- the grid.
wide : Hinting → Fitter
wide hinting = record (its_fitter 0 2 grid_rule.WhereHinted hinting) { ppem = 300; metrics = its_metrics 0x6D 0x42 }

past_the_limit : fitted_outline (wide its_hinting) 1 ≡ Err (coordinate_fault 0)
unfolding wide fitted_outline unfitted_fault begun_glyph glyph_data_of glyph_bytes_of header_of described simple_of ends_from end_at
    points_within points_of flags_from run_at coordinates_from coordinate_at within_words delta_at byte_in word_in
    signed_in slice_in blank simple_start scaled_outline settled on_grid_at
past_the_limit = refl

-- without a font program and a control value program, hinting is off, and no work is used
nothing_is_run : prepared (its_metrics 1 0) no_programs None 16 fit.Best
    ≡ Ok (record { hinting = off; fallback = where_refused; work = Some 50000000 })
unfolding prepared
nothing_is_run = refl
