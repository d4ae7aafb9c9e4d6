-- Apple TrueType Reference Manual, "The 'hhea' table" and "The 'hmtx' table": ascent, descent and advance widths in a
-- line of text. Layout in whole pixels and the size limits of a picture are this project's own rules (profile). A line
-- is laid out by the steps of its glyphs. Here they are the advances with the kerning, in whole pixels.
use Rattle.std.specs.Prelude.{◌≡◌, ℕ, ◌+◌, ◌*◌, ◌<◌, ◌≤◌, ◌||◌, ◌==◌, nat_lt, if◌then◌else◌, ℤ, pos, negsuc, neg_ℤ, ◌+ℤ◌, ◌*ℤ◌, ◌<ℤ◌, ◌≤ℤ◌, int_lt, unsigned_abs, List, [], ◌∷◌, length, take, map, sum, slice_index, chars, None, Result, Ok, Err, ◌⊎◌, refl}
use Rattle.std.specs.Int.{int_div_euclid}
use Rattle.std.specs.List.{range_with_len}
use Rattle.tt_core.specs.declared.fault.JobFault.{JobFault}
use Rattle.tt_core.specs.declared.fault.JobFault.TheVariants as job
use Rattle.tt_core.specs.Limits.{width_limit, height_limit}
use Rattle.tt_core.specs.Numbers.{rounded_quotient}
use Rattle.tt_core.specs.Outcomes.{◌>>=◌}
use Rattle.tt_cmap.specs.Maps.{CharacterMap, glyph_of_unit, units_by}
use Rattle.tt_line.specs.declared.extent.PictureExtent.{PictureExtent}
use Rattle.tt_line.specs.Steps.{linear_steps}
use Rattle.tt_metrics.specs.declared.head.LocaFormat.TheVariants.{Short}
use Rattle.tt_metrics.specs.declared.heights.Heights.{Heights}
use Rattle.tt_metrics.specs.declared.heights.Heights.TheVariants.{Exact, Rounded}
use Rattle.tt_metrics.specs.Metrics.{Metrics, units_per_em_of, ascent_of, descent_of, advance_of}

-- n / d for a positive d, rounded up to a whole number
abbrev pub ceiling_quotient : ℤ → ℤ → ℤ
ceiling_quotient n d = neg_ℤ (int_div_euclid (neg_ℤ n) d)

-- an advance in font units in pixels, at a size in pixels per em; rounded to the nearest pixel, a half upwards
abbrev pub units_in_pixels : Metrics → ℕ → ℕ → ℕ
units_in_pixels m ppem units = unsigned_abs (rounded_quotient (pos (units * ppem)) (pos (units_per_em_of m)))

-- the advance of a glyph in pixels
abbrev pub advance_in_pixels : Metrics → ℕ → ℕ → ℕ
advance_in_pixels m ppem g = units_in_pixels m ppem (advance_of m g)

-- n / d as rows of a picture (profile)
abbrev pub in_rows : Heights → ℤ → ℤ → ℤ
in_rows Exact n d = ceiling_quotient n d
in_rows Rounded n d = rounded_quotient n d

-- pixels from the base line up to the ascent
abbrev pub rise_of : Metrics → ℕ → ℤ
rise_of m ppem = in_rows m.heights (ascent_of m *ℤ pos ppem) (pos (units_per_em_of m))

-- pixels from the base line down to the descent
abbrev pub depth_of : Metrics → ℕ → ℤ
depth_of m ppem = in_rows m.heights (neg_ℤ (descent_of m) *ℤ pos ppem) (pos (units_per_em_of m))

-- the glyph of each unit of a text
abbrev pub text_glyphs : CharacterMap → List ℕ → List ℕ
text_glyphs cmap text = map (glyph_of_unit cmap) (units_by cmap (chars text))

-- the start of glyph i, in pixels: the sum of the steps of the i glyphs before it
abbrev pub pen_at : List ℕ → ℕ → ℕ
pen_at steps i = sum (take i steps)

-- each glyph with its pen, by the steps of the glyphs
abbrev pub glyphs_at_pens : List ℕ → List ℕ → List (ℕ × ℕ)
glyphs_at_pens glyphs steps = map (λ i. (slice_index glyphs i, pen_at steps i)) (range_with_len 0 (length glyphs))

-- the size of the picture of a line with its margins, by the steps of its glyphs
abbrev pub extent_by : List ℕ → ℕ → ℤ → ℤ → PictureExtent
extent_by steps margin rise depth = record {
  width = sum steps + 2 * margin;
  height = rise +ℤ depth +ℤ pos (2 * margin);
}

-- the same, by the advances and the kerning of its glyphs
abbrev pub extent_of : Metrics → ℕ → ℕ → List ℕ → PictureExtent
extent_of m ppem margin glyphs = extent_by (linear_steps m ppem glyphs) margin (rise_of m ppem) (depth_of m ppem)

-- a picture without a pixel is refused first, then one that is too large
unfoldable pub within_limits : PictureExtent → Result PictureExtent JobFault
within_limits e =
    if (e.width == 0) || int_lt e.height (pos 1) then Err job.EmptyPicture
    else (if nat_lt width_limit e.width || int_lt (pos height_limit) e.height then Err job.PictureLarge else Ok e)

-- a line after layout, in pixels: the picture's size, the distance of the base line below the upper margin, and each
-- unit's glyph and pen
pub record Placement : Type 0 where
  pub width : ℕ
  pub height : ℕ
  pub rise : ℤ
  pub glyphs : List (ℕ × ℕ)

abbrev pub placed_in : List ℕ → List ℕ → ℤ → PictureExtent → Placement
placed_in glyphs steps rise e = record {
  width = e.width;
  height = unsigned_abs e.height;
  rise = rise;
  glyphs = glyphs_at_pens glyphs steps;
}

-- the layout of some glyphs by their steps, with a margin, between the base line's distances from the top and from the
-- bottom, or the refusal
abbrev pub laid : List ℕ → List ℕ → ℕ → ℤ → ℤ → Result Placement JobFault
laid glyphs steps margin rise depth =
    within_limits (extent_by steps margin rise depth) >>= λ e. Ok (placed_in glyphs steps rise e)

-- the layout of some glyphs by any steps, at a size in pixels per em
abbrev pub laid_at : Metrics → ℕ → ℕ → List ℕ → List ℕ → Result Placement JobFault
laid_at m ppem margin glyphs steps = laid glyphs steps margin (rise_of m ppem) (depth_of m ppem)

-- the layout of some glyphs by their advances and their kerning
abbrev pub glyph_placement : Metrics → ℕ → ℕ → List ℕ → Result Placement JobFault
glyph_placement m ppem margin glyphs = laid_at m ppem margin glyphs (linear_steps m ppem glyphs)

-- the layout of a text at a size in pixels per em with a margin in pixels, or the refusal
unfoldable pub placement : Metrics → CharacterMap → List ℕ → ℕ → ℕ → Result Placement JobFault
placement m cmap text ppem margin = glyph_placement m ppem margin (text_glyphs cmap text)

-- a picture without a pixel
abbrev pub IsEmpty : PictureExtent → Type 0
IsEmpty e = (e.width < 1) ⊎ (e.height <ℤ pos 1)

-- a picture above the limits
abbrev pub IsLarge : PictureExtent → Type 0
IsLarge e = (width_limit < e.width) ⊎ (pos height_limit <ℤ e.height)

-- the defect of a refused picture
abbrev pub IsRefusal : PictureExtent → JobFault → Type 0
IsRefusal e job.EmptyPicture = IsEmpty e
IsRefusal e job.PictureLarge = (¬ IsEmpty e) × IsLarge e
IsRefusal e j = ⊥

-- the ranges of an accepted picture
pub record IsWithinLimits (e : PictureExtent) : Type 0 where
  pub some_width : 1 ≤ e.width
  pub width : e.width ≤ width_limit
  pub some_height : pos 1 ≤ℤ e.height
  pub height : e.height ≤ℤ pos height_limit

-- worked values: 256 units in an em, 300 above the base line and 100 below it, and advances of 256, 250 and 8
example : Metrics
example = record {
  head = record { units_per_em = 256; loca_format = Short };
  maxp = record { glyphs = 3; twilight = 0; storage = 0 };
  hhea = record { ascent = pos 300; descent = negsuc 99; line_gap = pos 0; long_metrics = 3 };
  hmtx = 1 ∷ 0 ∷ 0 ∷ 0 ∷ 0 ∷ 250 ∷ 0 ∷ 0 ∷ 0 ∷ 8 ∷ 0 ∷ 0 ∷ [];
  heights = Exact;
  kerning = None;
  advances = None;
}

rounded_up : map (λ n. ceiling_quotient n (pos 2)) (pos 7 ∷ negsuc 6 ∷ negsuc 7 ∷ []) ≡ pos 4 ∷ negsuc 2 ∷ negsuc 3 ∷ []
rounded_up = refl

a_little_below_zero : ceiling_quotient (negsuc 0) (pos 16384) ≡ pos 0
a_little_below_zero = refl

-- 16, 15.625 and 0.5
its_advances : map (advance_in_pixels example 16) (0 ∷ 1 ∷ 2 ∷ []) ≡ 16 ∷ 16 ∷ 1 ∷ []
unfolding example
its_advances = refl

its_steps : linear_steps example 16 (0 ∷ 1 ∷ 2 ∷ []) ≡ 16 ∷ 16 ∷ 1 ∷ []
unfolding example
its_steps = refl

-- 18.75 and 6.25
its_rise : rise_of example 16 ≡ pos 19
unfolding example
its_rise = refl

its_depth : depth_of example 16 ≡ pos 7
unfolding example
its_depth = refl

-- as rows: 18.5 and the like, and below 0
halves_in_rows : map (λ n. in_rows Rounded n (pos 2)) (pos 37 ∷ pos 36 ∷ pos 35 ∷ negsuc 0 ∷ negsuc 2 ∷ []) ≡ pos 19 ∷ pos 18 ∷ pos 18 ∷ pos 0 ∷ negsuc 0 ∷ []
halves_in_rows = refl

-- 18.75 is 19, and 6.25 is 6
rounded_example : Metrics
rounded_example = record example { heights = Rounded }

rounded_rise : rise_of rounded_example 16 ≡ pos 19
unfolding example rounded_example
rounded_rise = refl

rounded_depth : depth_of rounded_example 16 ≡ pos 6
unfolding example rounded_example
rounded_depth = refl

its_pens : glyphs_at_pens (2 ∷ 0 ∷ 2 ∷ []) (linear_steps example 16 (2 ∷ 0 ∷ 2 ∷ [])) ≡ (2, 0) ∷ (0, 1) ∷ (2, 17) ∷ []
unfolding example
its_pens = refl

its_placement : glyph_placement example 16 2 (2 ∷ 0 ∷ []) ≡ Ok (record { width = 21; height = 30; rise = pos 19; glyphs = (2, 0) ∷ (0, 1) ∷ [] })
unfolding example within_limits
its_placement = refl

no_glyph_and_no_margin : glyph_placement example 16 0 [] ≡ Err job.EmptyPicture
unfolding example within_limits
no_glyph_and_no_margin = refl

-- worked values: any steps, in a picture of four rows
by_steps : List ℕ → ℕ → Result Placement JobFault
by_steps steps margin = laid (1 ∷ 2 ∷ 1 ∷ []) steps margin (pos 3) (pos 1)

a_wider_step : by_steps (5 ∷ 4 ∷ 5 ∷ []) 0
    ≡ Ok (record { width = 14; height = 4; rise = pos 3; glyphs = (1, 0) ∷ (2, 5) ∷ (1, 9) ∷ [] })
unfolding by_steps within_limits
a_wider_step = refl

no_step_of_one : by_steps (0 ∷ 4 ∷ 0 ∷ []) 0
    ≡ Ok (record { width = 4; height = 4; rise = pos 3; glyphs = (1, 0) ∷ (2, 0) ∷ (1, 4) ∷ [] })
unfolding by_steps within_limits
no_step_of_one = refl

with_a_margin : by_steps (5 ∷ 4 ∷ 5 ∷ []) 2
    ≡ Ok (record { width = 18; height = 8; rise = pos 3; glyphs = (1, 0) ∷ (2, 5) ∷ (1, 9) ∷ [] })
unfolding by_steps within_limits
with_a_margin = refl

no_step_at_all : by_steps (0 ∷ 0 ∷ 0 ∷ []) 0 ≡ Err job.EmptyPicture
unfolding by_steps within_limits
no_step_at_all = refl

no_step_but_a_margin : by_steps (0 ∷ 0 ∷ 0 ∷ []) 3
    ≡ Ok (record { width = 6; height = 10; rise = pos 3; glyphs = (1, 0) ∷ (2, 0) ∷ (1, 0) ∷ [] })
unfolding by_steps within_limits
no_step_but_a_margin = refl

as_wide_as_may_be : by_steps (8192 ∷ 8192 ∷ 0 ∷ []) 0
    ≡ Ok (record { width = 16384; height = 4; rise = pos 3; glyphs = (1, 0) ∷ (2, 8192) ∷ (1, 16384) ∷ [] })
unfolding by_steps within_limits
as_wide_as_may_be = refl

wider_by_its_margin : by_steps (8192 ∷ 8192 ∷ 0 ∷ []) 1 ≡ Err job.PictureLarge
unfolding by_steps within_limits
wider_by_its_margin = refl

no_height_before_its_width : laid [] (20000 ∷ []) 0 (pos 3) (negsuc 2) ≡ Err job.EmptyPicture
unfolding within_limits
no_height_before_its_width = refl

the_largest : within_limits (record { width = 16384; height = pos 4096 }) ≡ Ok (record { width = 16384; height = pos 4096 })
unfolding within_limits
the_largest = refl

one_pixel_wider : within_limits (record { width = 16385; height = pos 1 }) ≡ Err job.PictureLarge
unfolding within_limits
one_pixel_wider = refl

empty_before_large : within_limits (record { width = 16385; height = pos 0 }) ≡ Err job.EmptyPicture
unfolding within_limits
empty_before_large = refl
