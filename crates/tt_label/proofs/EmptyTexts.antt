-- The label of a text without a character is as wide as two margins, and at least one column.
use Rattle.std.proofs.Common.{◌≡◌, ◌∙◌, refl, sym, ap, subst, ℕ, ◌+◌, ◌*◌, Bool, true, false, ◌||◌, ◌==◌, if◌then◌else◌, nat_lt, pos, int_lt, List, [], map, Option, None, Result, Ok, Err, arith}
use Rattle.std.proofs.lemmas.Str.{chars-nil}
use Rattle.tt_cmap.specs.Maps.{CharacterMap, glyph_of_unit, units_by}
use Rattle.tt_advances.specs.Found.{advances_tested}
use Rattle.tt_advances.specs.Lines.{advance_line, advance_step}
use Rattle.tt_core.specs.Chains.{came-through}
use Rattle.tt_core.specs.declared.fault.JobFault.{JobFault}
use Rattle.tt_core.specs.declared.fault.JobFault.TheVariants as fault
use Rattle.tt_core.specs.Limits.{height_limit, width_limit}
use Rattle.tt_face.specs.Faces.{Face}
use Rattle.tt_label.specs.LineLaws.{EmptyTextsAreColumns, IsOneLine, laid_with_a_pixel, line_with_a_pixel, outcome_with_a_pixel, with_a_pixel}
use Rattle.tt_label.proofs.OneLineDrawn.{ok_same, one_line_has_pixels}
use Rattle.tt_line.specs.declared.extent.PictureExtent.{PictureExtent}
use Rattle.tt_line.specs.Labels.{greater, label_lines}
use Rattle.tt_line.specs.Layout.{Placement, depth_of, extent_by, placed_in, rise_of, text_glyphs, within_limits}
use Rattle.tt_line.specs.Steps.{stepped}
use Rattle.tt_metrics.specs.Metrics.{Metrics}
use Rattle.tt_picture.specs.declared.ink_box.InkBox.{InkBox}
use Rattle.tt_picture.specs.Pictures.{Image, picture}
use Rattle.tt_picture.specs.Steps.{step_by}
use Rattle.tt_strike.specs.Grown.{grown, grown_line}
use Rattle.tt_strike.specs.Job.{Job, tested}
use Rattle.tt_strike.specs.Layouts.{steps_outcome}
use Rattle.tt_strike.specs.Measures.{Measure, characters_at, ink_of, line_ink, line_step, measure_by, measured_line}
use Rattle.tt_strike.specs.Picture.{advance_with, drawn, frame_of, line_shapes, made_line, outlines_tested, setting_in}
use Rattle.tt_strike.specs.Refusals.{as_font, as_job}
use Rattle.tt_strike.specs.Work.{is_bounded}
use Rattle.tt_strike.proofs.Placed.{of-job}

no_glyphs : (cmap : CharacterMap) (text : List ℕ) → text ≡ [] → text_glyphs cmap text ≡ []
no_glyphs cmap text none =
    ap (λ (t : List ℕ). text_glyphs cmap t) none ∙ ap (λ (cs : List ℕ). map (glyph_of_unit cmap) (units_by cmap cs)) chars-nil

no_steps : (bounded : Bool) (face : Face) (a : Job) (steps : List (ℕ × ℕ)) → is_bounded a.fit ≡ bounded
    → text_glyphs face.cmap a.text ≡ [] → steps_outcome face a ≡ Ok steps → steps ≡ []
unfolding steps_outcome
no_steps true face a steps is none was =
    let m = face.metrics in
    let gs = text_glyphs face.cmap a.text in
    let by_setting = came-through (as_font (setting_in face a)) _ steps (rw is at was) in
    let s = by_setting.value in
    let by_outlines = came-through (outlines_tested s a.fit gs) _ steps by_setting.rest in
    sym (ok_same (made_line m a.ppem s gs) steps by_outlines.rest)
    ∙ ap (λ (ns : List ℕ). stepped m (step_by m a.ppem (advance_with s gs)) ns) none
no_steps false face a steps is none was =
    let gs = text_glyphs face.cmap a.text in
    let found = came-through (as_font (advances_tested face gs)) _ steps (rw is at was) in
    sym (ok_same (advance_line face a.ppem gs) steps found.rest)
    ∙ ap (λ (ns : List ℕ). stepped face.metrics (advance_step face a.ppem) ns) none

-- a line without a glyph, of this width
record IsBare (columns : ℕ) (l : Placement) : Type 0 where
  pub glyphs : l.glyphs ≡ []
  pub width : l.width ≡ columns

-- an extent within the limits is not changed
same_extent : (empty large : Bool) (e f : PictureExtent)
    → ◌≡◌ {A = Result PictureExtent JobFault}
    (if empty then Err fault.EmptyPicture else (if large then Err fault.PictureLarge else Ok e)) (Ok f)
    → e ≡ f
same_extent true large e f was = absurd cc
same_extent false true e f was = absurd cc
same_extent false false e f was = cc

within_same : (e f : PictureExtent) → within_limits e ≡ Ok f → e ≡ f
unfolding within_limits
within_same e f was =
    same_extent ((e.width == 0) || int_lt e.height (pos 1)) (nat_lt width_limit e.width || int_lt (pos height_limit) e.height) e f was

bare_laid : (m : Metrics) (ppem margin : ℕ) (l : Placement) → laid_with_a_pixel m ppem margin [] ≡ Ok l
    → IsBare (greater 1 (2 * margin)) l
bare_laid m ppem margin l was =
    let e : PictureExtent = with_a_pixel (extent_by [] margin (rise_of m ppem) (depth_of m ppem)) in
    let through = came-through (within_limits e) (λ x. Ok (placed_in [] [] (rise_of m ppem) x)) l was in
    let same = within_same e through.value through.first in
    let placed = ok_same (placed_in [] [] (rise_of m ppem) through.value) l through.rest in
    let columns : 0 + 2 * margin ≡ 2 * margin = omega arith in
    record {
      glyphs = ap (λ (p : Placement). p.glyphs) (sym placed);
      width = ap (λ (p : Placement). p.width) (sym placed) ∙ ap (λ (x : PictureExtent). x.width) (sym same) ∙ ap (λ (n : ℕ). greater 1 n) columns;
    }

bare_line : (face : Face) (a : Job) (l : Placement) → a.text ≡ [] → line_with_a_pixel face a ≡ Ok l
    → IsBare (greater 1 (2 * a.margin)) l
unfolding line_with_a_pixel
bare_line face a l none was =
    let by_test = came-through (as_job (tested a)) _ l was in
    let by_steps = came-through (steps_outcome face a) _ l by_test.rest in
    let steps = by_steps.value in
    let empty = no_steps (is_bounded a.fit) face a steps refl (no_glyphs face.cmap a.text none) by_steps.first in
    let laid = of-job (laid_with_a_pixel face.metrics a.ppem a.margin steps) l by_steps.rest in
    bare_laid face.metrics a.ppem a.margin l
    (subst (λ (gs : List (ℕ × ℕ)). laid_with_a_pixel face.metrics a.ppem a.margin gs ≡ Ok l) empty laid)

-- it has no ink, so it is not enlarged

no_ink : (face : Face) (a : Job) (l : Placement) (m : Measure) → l.glyphs ≡ [] → measured_line face a l ≡ Ok m → m.ink ≡ None
unfolding measured_line
no_ink face a l m none was =
    let by_setting = came-through (as_font (setting_in face a)) _ m was in
    let s = by_setting.value in
    let by_shapes = came-through (line_shapes s a l) _ m by_setting.rest in
    let measure : Measure = measure_by face.metrics (line_step face a s l) a.margin (line_ink s l) l in
    let same : measure ≡ m = ok_same measure m by_shapes.rest in
    ap (λ (x : Measure). x.ink) (sym same)
    ∙ ap (λ (gs : List (ℕ × ℕ)). ink_of (characters_at face.metrics (line_step face a s l) (frame_of l a.margin) (line_ink s l) gs)) none

not_grown : (l m : Placement) (ink : Option InkBox) → ink ≡ None → grown l ink ≡ Ok m → l ≡ m
not_grown l m ink none was = ok_same l m (subst (λ (b : Option InkBox). grown l b ≡ Ok m) none was)

bare_grown : (face : Face) (a : Job) (l m : Placement) → l.glyphs ≡ [] → grown_line face a l ≡ Ok m → l ≡ m
unfolding grown_line
bare_grown face a l m none was =
    let by_measure = came-through (measured_line face a l) _ m was in
    let d = by_measure.value in
    not_grown l m d.ink (no_ink face a l d none by_measure.first) (of-job (grown l d.ink) m by_measure.rest)

drawn_width : (face : Face) (a : Job) (l : Placement) (i : Image) → drawn face a l ≡ Ok i → i.frame.width ≡ l.width
unfolding drawn
drawn_width face a l i was =
    let by_setting = came-through (as_font (setting_in face a)) _ i was in
    let s = by_setting.value in
    let by_shapes = came-through (line_shapes s a l) _ i by_setting.rest in
    ap (λ (x : Image). x.frame.width) (sym (ok_same (picture (frame_of l a.margin) by_shapes.value) i by_shapes.rest))

one_line : (text : List ℕ) → text ≡ [] → IsOneLine text
unfolding label_lines
one_line text none = subst (λ (t : List ℕ). IsOneLine t) (sym none) refl

columns_of : (face : Face) (a : Job) (i : Image) → a.text ≡ [] → outcome_with_a_pixel face a ≡ Ok i
    → i.frame.width ≡ greater 1 (2 * a.margin)
unfolding outcome_with_a_pixel
columns_of face a i none was =
    let by_line = came-through (line_with_a_pixel face a) _ i was in
    let l = by_line.value in
    let by_growth = came-through (grown_line face a l) _ i by_line.rest in
    let bare = bare_line face a l none by_line.first in
    let kept = bare_grown face a l by_growth.value bare.glyphs by_growth.first in
    drawn_width face a by_growth.value i by_growth.rest ∙ ap (λ (p : Placement). p.width) (sym kept) ∙ bare.width

pub empty_texts_are_columns : EmptyTextsAreColumns
empty_texts_are_columns face a how i none was =
    columns_of face a i none (sym (one_line_has_pixels face a how (one_line a.text none)) ∙ was)
