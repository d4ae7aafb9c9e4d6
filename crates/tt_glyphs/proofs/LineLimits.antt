-- A line that is laid out, or grown, is no larger than a picture may be.
use Rattle.std.proofs.Common.{◌≡◌, refl, subst, ℕ, ◌≤◌, ◌==◌, ◌||◌, nat_lt, Bool, true, false, ℤ, pos, int_lt, unsigned_abs, List, Option, None, Some, Ok, arith}
use Rattle.std.proofs.lemmas.Bool.{or_parts}
use Rattle.std.proofs.lemmas.Bool.Decides.{nat_tests}
use Rattle.std.proofs.lemmas.Int.{ints}
use Rattle.tt_core.specs.declared.fault.JobFault.TheVariants as job
use Rattle.tt_core.specs.Chains.{came-through, passed, passed-on}
use Rattle.tt_core.specs.Limits.{height_limit, width_limit}
use Rattle.tt_advances.specs.Lines.{advance_steps}
use Rattle.tt_face.specs.Faces.{Face}
use Rattle.tt_line.specs.declared.extent.PictureExtent.{PictureExtent}
use Rattle.tt_line.specs.Layout.{Placement, depth_of, extent_by, laid, laid_at, placed_in, placement, rise_of, text_glyphs, within_limits}
use Rattle.tt_line.specs.Steps.{linear_steps}
use Rattle.tt_picture.specs.declared.ink_box.InkBox.{InkBox}
use Rattle.tt_strike.specs.Grown.{grown, grown_line, grown_placement, lacking, not_large, with_sides}
use Rattle.tt_strike.specs.Job.{Job}
use Rattle.tt_strike.specs.Measures.{measured_line}
use Rattle.tt_strike.specs.Picture.{laid_out, outlines_tested, placed_by_steps, placed_by_units, setting_in, steps_in, text_placed}
use Rattle.tt_strike.specs.Refusals.{as_font}
use Rattle.tt_strike.specs.Work.{is_bounded}
use Rattle.tt_strike.proofs.Placed.{laid_by_units, of-job, placed_by_its_units, placed_by_its_steps, placed_of}

pub record LineFits (l : Placement) : Type 0 where
  pub width : l.width ≤ width_limit
  pub height : l.height ≤ height_limit

-- an extent that is not refused

record ExtentFits (e : PictureExtent) : Type 0 where
  width : e.width ≤ width_limit
  height : unsigned_abs e.height ≤ height_limit

not_over : (limit n : ℕ) → nat_lt limit n ≡ false → n ≤ limit
not_over limit n small = grind (arith, nat_tests, small)

not_high : (h : ℤ) → int_lt h (pos 1) ≡ false → int_lt (pos height_limit) h ≡ false → unsigned_abs h ≤ height_limit
not_high h some small = grind (arith, ints, some, small)

extent_fits : (e f : PictureExtent) → within_limits e ≡ Ok f → ExtentFits f
unfolding within_limits
extent_fits e f was =
    let some = passed-on ((e.width == 0) || int_lt e.height (pos 1)) job.EmptyPicture _ f was in
    let small = passed (nat_lt width_limit e.width || int_lt (pos height_limit) e.height) job.PictureLarge e f some.1 in
    let low = or_parts (e.width == 0) (int_lt e.height (pos 1)) some.0 in
    let high = or_parts (nat_lt width_limit e.width) (int_lt (pos height_limit) e.height) small.0 in
    let fits : ExtentFits e =
    record { width = not_over width_limit e.width high.0; height = not_high e.height low.1 high.1 } in
    subst ExtentFits small.1 fits

-- a line that is laid out

laid_fits : (glyphs steps : List ℕ) (margin : ℕ) (rise depth : ℤ) (l : Placement) → laid glyphs steps margin rise depth ≡ Ok l
    → LineFits l
laid_fits glyphs steps margin rise depth l was =
    let by_extent = came-through (within_limits (extent_by steps margin rise depth)) _ l was in
    let is : placed_in glyphs steps rise by_extent.value ≡ l = let rest = by_extent.rest in cc in
    let small = extent_fits (extent_by steps margin rise depth) by_extent.value by_extent.first in
    let fits : LineFits (placed_in glyphs steps rise by_extent.value) = record { width = small.width; height = small.height } in
    subst LineFits is fits

by_steps : (face : Face) (a : Job) (l : Placement) → placed_by_steps face a ≡ Ok l → LineFits l
unfolding placed_by_steps
by_steps face a l was =
    let gs = text_glyphs face.cmap a.text in
    let by_setting = came-through (as_font (setting_in face a)) _ l was in
    let s = by_setting.value in
    let by_outlines = came-through (outlines_tested s a.fit gs) _ l by_setting.rest in
    let line = of-job (laid_at face.metrics a.ppem a.margin gs (steps_in face.metrics a.ppem s gs)) l by_outlines.rest in
    laid_fits gs (steps_in face.metrics a.ppem s gs) a.margin (rise_of face.metrics a.ppem) (depth_of face.metrics a.ppem) l line

by_advances : (face : Face) (a : Job) (l : Placement) → placed_by_units face a ≡ Ok l → LineFits l
by_advances face a l was =
    let gs = text_glyphs face.cmap a.text in
    laid_fits gs (advance_steps face a.ppem gs) a.margin (rise_of face.metrics a.ppem) (depth_of face.metrics a.ppem) l
    (laid_by_units face a l was).laid

by_either : (bounded : Bool) (face : Face) (a : Job) (l : Placement) → is_bounded a.fit ≡ bounded → text_placed face a ≡ Ok l → LineFits l
by_either true face a l is was = by_steps face a l (rw (placed_by_its_steps face a is) at was)
by_either false face a l is was = by_advances face a l (rw (placed_by_its_units face a is) at was)

laid_out_fits : (face : Face) (a : Job) (l : Placement) → laid_out face a ≡ Ok l → LineFits l
laid_out_fits face a l was = by_either (is_bounded a.fit) face a l refl (placed_of face a l was)

-- a line that is grown

larger_fits : (l line : Placement) → not_large l ≡ Ok line → LineFits line
unfolding not_large
larger_fits l line is =
    let small = passed (nat_lt width_limit l.width || nat_lt height_limit l.height) job.PictureLarge l line is in
    let both = or_parts (nat_lt width_limit l.width) (nat_lt height_limit l.height) small.0 in
    let fits : LineFits l = record { width = not_over width_limit l.width both.0; height = not_over height_limit l.height both.1 } in
    subst LineFits small.1 fits

grown_fits : (l line : Placement) (ink : Option InkBox) → LineFits l → grown l ink ≡ Ok line → LineFits line
grown_fits l line None fits is = let same : l ≡ line = cc in subst LineFits same fits
grown_fits l line (Some b) fits is = larger_fits (with_sides l (lacking l.width l.height b)) line is

pub grown_line_fits : (face : Face) (a : Job) (line : Placement) → grown_placement face a ≡ Ok line → LineFits line
unfolding grown_placement grown_line
grown_line_fits face a line is =
    let by_line = came-through (laid_out face a) _ line is in
    let l = by_line.value in
    let by_measure = came-through (measured_line face a l) _ line by_line.rest in
    let ink = by_measure.value.ink in
    grown_fits l line ink (laid_out_fits face a l by_line.first) (of-job (grown l ink) line by_measure.rest)
