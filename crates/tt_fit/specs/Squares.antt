-- Worked values: outlines of three glyphs at 16 pixels, 256 units in an em, each 256 wide.
use Rattle.std.specs.Prelude.{◌≡◌, true, ℤ, pos, neg_ℤ, ◌+ℤ◌, codes, ℕ, List, [], ◌∷◌, None, Ok, Err, refl}
use Rattle.tt_core.specs.Faults.{fault_at}
use Rattle.tt_core.specs.declared.fault.Why.TheVariants as why
use Rattle.tt_core.specs.Limits.{level_limit}
use Rattle.tt_glyf.specs.Bytes.{byte_in, word_in, signed_in, slice_in}
use Rattle.tt_glyf.specs.Composite.{transform_at, argument_at, arguments_at, unscaled, known_glyph, record_at, records_from, program_of, composite_of}
use Rattle.tt_glyf.specs.Coordinates.{delta_at, within_words, coordinate_at, coordinates_from}
use Rattle.tt_glyf.specs.Flags.{run_at, flags_from}
use Rattle.tt_glyf.specs.GlyphData.{glyph_data_of, header_of, described}
use Rattle.tt_glyf.specs.Loca.{glyph_bytes_of}
use Rattle.tt_glyf.specs.Simple.{end_at, ends_from, points_within, points_of, simple_of}
use Rattle.tt_metrics.specs.declared.head.LocaFormat.TheVariants.{Short}
use Rattle.tt_metrics.specs.declared.heights.Heights.TheVariants.{Exact}
use Rattle.tt_metrics.specs.Metrics.{Metrics}
use Rattle.tt_fit.specs.declared.dropouts.DropoutsBy.TheVariants as by
use Rattle.tt_fit.specs.Fallback.{never}
use Rattle.tt_fit.specs.Fitting.{Fitter, simple_start, begun_glyph, added, fitted_outline, unfitted_fault}
use Rattle.tt_fit_hinting.specs.Hinting.{off}
use Rattle.tt_fit_outline.specs.Component.{shift_of}
use Rattle.tt_fit_outline.specs.Joining.{placed, appended, within_point_limit}
use Rattle.tt_fit_outline.specs.Outline.{PhantomPoints}
use Rattle.tt_fit_outline.specs.Scaling.{blank, scaled_outline, settled}
use Rattle.tt_fit_outline.specs.declared.grid.GridRule.TheVariants as grid_rule
use Rattle.tt_fit_outline.specs.declared.rules.Scaling.TheVariants as scaling

-- the bearing of glyph 1 alone is 64
abbrev its_metrics : Metrics
its_metrics = record {
  head = record { units_per_em = 256; loca_format = Short };
  maxp = record { glyphs = 3; twilight = 0; storage = 0 };
  hhea = record { ascent = pos 256; descent = neg_ℤ (pos 64); line_gap = pos 0; long_metrics = 1 };
  hmtx = 1 ∷ 0 ∷ 0 ∷ 0 ∷ 0 ∷ 64 ∷ 0 ∷ 0 ∷ [];
  heights = Exact;
  kerning = None;
  advances = None;
}

-- glyph 0 is empty, glyph 1 a square of four points, (64,0), (64,128), (192,128), (192,0), and glyph 2 is after it
abbrev its_fitter : List ℕ → Fitter
its_fitter third = record {
  tables = record {
    loca = 0 ∷ 0 ∷ 0 ∷ 0 ∷ 0 ∷ 11 ∷ 0 ∷ 22 ∷ [];
    glyf = 0 ∷ 1 ∷ 0 ∷ 64 ∷ 0 ∷ 0 ∷ 0 ∷ 192 ∷ 0 ∷ 128 ∷ 0 ∷ 3 ∷ 0 ∷ 0 ∷ 0x33 ∷ 0x35 ∷ 0x33 ∷ 0x15 ∷ 0x40 ∷ 0x80 ∷ 0x80 ∷
        0x80 ∷ third;
    format = Short;
    glyphs = 3;
  };
  metrics = its_metrics;
  instance = None;
  ppem = 16;
  scaling = scaling.Exact;
  grid = grid_rule.Always;
  hinting = off;
  fallback = never;
  levels = level_limit;
  work = None;
  dropouts = by.Nobody;
  control_deltas = 0;
}

abbrev its_phantom_points : ℤ → PhantomPoints
its_phantom_points left =
    record { left = (left, pos 0); right = (left +ℤ pos 1024, pos 0); ascent = (pos 0, pos 1024); descent = (pos 0, neg_ℤ (pos 256)) }

empty_is_blank : fitted_outline (its_fitter []) 0 ≡ Ok
    (record { points = []; ends = []; phantom = its_phantom_points (pos 0); scan = None })
unfolding fitted_outline unfitted_fault begun_glyph glyph_data_of blank
empty_is_blank = refl

square_is_scaled : fitted_outline (its_fitter []) 1 ≡ Ok (record {
  points = (pos 256, pos 0, true) ∷ (pos 256, pos 512, true) ∷ (pos 768, pos 512, true) ∷ (pos 768, pos 0, true) ∷ [];
  ends = 4 ∷ [];
  phantom = its_phantom_points (pos 0);
  scan = None;
})
unfolding fitted_outline unfitted_fault begun_glyph glyph_data_of glyph_bytes_of header_of described simple_of ends_from end_at points_within
    points_of flags_from run_at coordinates_from coordinate_at within_words delta_at byte_in word_in signed_in slice_in
    blank simple_start scaled_outline settled
square_is_scaled = refl

-- two components of glyph 1, the second moved by 64 to the right; the second gives its metrics
abbrev two_squares : List ℕ
two_squares = 255 ∷ 255 ∷ 0 ∷ 64 ∷ 0 ∷ 0 ∷ 1 ∷ 0 ∷ 0 ∷ 128 ∷ 0 ∷ 0x22 ∷ 0 ∷ 1 ∷ 0 ∷ 0 ∷ 2 ∷ 2 ∷ 0 ∷ 1 ∷ 64 ∷ 0 ∷ []

squares_are_joined : fitted_outline (its_fitter two_squares) 2 ≡ Ok (record {
  points = (pos 256, pos 0, true) ∷ (pos 256, pos 512, true) ∷ (pos 768, pos 512, true) ∷ (pos 768, pos 0, true)
      ∷ (pos 512, pos 0, true) ∷ (pos 512, pos 512, true) ∷ (pos 1024, pos 512, true) ∷ (pos 1024, pos 0, true) ∷ [];
  ends = 4 ∷ 8 ∷ [];
  phantom = its_phantom_points (pos 0);
  scan = None;
})
unfolding fitted_outline unfitted_fault begun_glyph added placed appended shift_of within_point_limit glyph_data_of glyph_bytes_of header_of described
    composite_of records_from record_at known_glyph arguments_at argument_at transform_at unscaled program_of simple_of
    ends_from end_at points_within points_of flags_from run_at coordinates_from coordinate_at within_words delta_at
    byte_in word_in signed_in slice_in blank simple_start scaled_outline settled
squares_are_joined = refl

-- one component, which is the glyph itself
abbrev itself : List ℕ
itself = 255 ∷ 255 ∷ 0 ∷ 64 ∷ 0 ∷ 0 ∷ 1 ∷ 0 ∷ 0 ∷ 128 ∷ 0 ∷ 2 ∷ 0 ∷ 2 ∷ 0 ∷ 0 ∷ []

itself_is_too_deep : fitted_outline (its_fitter itself) 2 ≡ Err (fault_at (codes "glyf") 32 why.ComponentDepth)
unfolding fitted_outline unfitted_fault begun_glyph added glyph_data_of glyph_bytes_of header_of described composite_of records_from record_at
    known_glyph arguments_at argument_at transform_at unscaled program_of byte_in word_in signed_in slice_in blank
itself_is_too_deep = refl
