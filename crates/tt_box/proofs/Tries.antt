-- A text at a size, in a box.
use Rattle.std.proofs.Common.{◌≡◌, ◌∙◌, refl, sym, ℕ, ◌≤◌, true, false, List, [], ◌∷◌, length, Option, None, Some, Result, Ok, Err, arith}
use Rattle.std.proofs.lemmas.List.Elements.{All-head}
use Rattle.std.specs.Prelude.{All, IfSome}
use Rattle.tt_box.specs.Boxes.{BoxPlace, begun_cost, is_inside, laid_if_fits, shown_in_box, size_tried}
use Rattle.tt_box.specs.Views.{AreBoxed}
use Rattle.tt_core.specs.declared.draw_fault.DrawFault.{DrawFault}
use Rattle.tt_core.specs.declared.fault.JobFault.{JobFault}
use Rattle.tt_face.specs.Faces.{Face}
use Rattle.tt_fit.specs.Fitting.{Fitter}
use Rattle.tt_label.specs.Begun.{begun_outcome}
use Rattle.tt_label.specs.Gathered.{AreReady, gathered, units_glyphs, units_in}
use Rattle.tt_label.specs.Label.{joint, label_ink, some_line_shows}
use Rattle.tt_label.specs.Made.{AreAlike}
use Rattle.tt_label.specs.Views.{placements_of}
use Rattle.tt_label.proofs.Larger.{of_one_size}
use Rattle.tt_label.proofs.RowsPlaced.{HasSize}
use Rattle.tt_label.proofs.UnitGlyphs.{zero_numbers}
use Rattle.tt_label_rows.specs.declared.heights.RowHeights.{RowHeights}
use Rattle.tt_label_rows.specs.Heights.{row_heights}
use Rattle.tt_line.specs.Layout.{Placement}
use Rattle.tt_picture.specs.declared.ink_box.InkBox.{InkBox}
use Rattle.tt_picture.specs.Glyphs.{Glyph}
use Rattle.tt_picture.specs.Pictures.{image}
use Rattle.tt_picture.specs.Shapes.{crossings_in}
use Rattle.tt_rows.specs.declared.unit.RowUnit.{RowUnit}
use Rattle.tt_strike.specs.Costs.{cost_of}
use Rattle.tt_strike.specs.declared.laid.Laid.{Laid}
use Rattle.tt_strike.specs.Job.{Job, size_tested, tested}
use Rattle.tt_strike.specs.Made.{shapes_made}
use Rattle.tt_strike.specs.Measures.{line_ink}
use Rattle.tt_strike.specs.Picture.{frame_of, setting_in}
use Rattle.tt_strike.specs.Refusals.{Refused, job, refusal}
use Rattle.tt_strike.specs.Work.{is_bounded, line_fitter, work_left}
use Rattle.tt_strike.proofs.Costed.{costed}
use Rattle.tt_strike.proofs.Stopped.{stops}

-- what glyphs take that are not drawn
pub fitted_cost : (face : Face) (a : Job) (s : Fitter) (left : Option ℕ) → is_bounded a.fit ≡ true → left ≡ work_left s (units_glyphs face a)
    → cost_of left 0 ≡ begun_cost face a s
fitted_cost face a s left bounded work = rw (bounded, work) refl

pub made_cost : (face : Face) (a : Job) (s : Fitter) → is_bounded a.fit ≡ false → 0 ≡ begun_cost face a s
made_cost face a s unbounded = rw unbounded refl

-- ink that lies in the box, and ink that does not
pub inside_shown : (b : BoxPlace) (margin : ℕ) (maker : ℕ → Fitter) (ink other : Option InkBox) (lines : List Placement) → ink ≡ other
    → is_inside b.width b.height ink ≡ true
    → shown_in_box b margin maker other lines ≡ Some (image (frame_of (joint lines) margin) (some_line_shows maker margin lines))
inside_shown b margin maker ink other lines same inside = let there = rw same at inside in rw there refl

pub outside_not : (b : BoxPlace) (margin : ℕ) (maker : ℕ → Fitter) (ink other : Option InkBox) (lines : List Placement) → ink ≡ other
    → is_inside b.width b.height ink ≡ false → shown_in_box b margin maker other lines ≡ None
outside_not b margin maker ink other lines same outside = let there = rw same at outside in rw there refl

-- the size of their picture
pub joint_sized : (w h : ℕ) (ls : List Placement) → 1 ≤ length ls → All (HasSize w h) ls → ((joint ls).width ≡ w) × ((joint ls).height ≡ h)
joint_sized w h [] some all = absurd (omega (arith, some))
joint_sized w h (l ∷ ls) some all = All-head (HasSize w h) l ls all

-- the lines of a box are alike
pub alike_boxed : (b : BoxPlace) (lines : List Laid) → AreBoxed b lines → AreAlike (placements_of lines)
alike_boxed b lines are = of_one_size b.width b.height (placements_of lines) are.sizes

-- where a size stops
pub size_untested : (face : Face) (a : Job) (b : BoxPlace) (j : JobFault) → size_tested a.ppem ≡ Err j → size_tried face a b ≡ Err (job j)
unfolding size_tried tested
size_untested face a b j fails = rw fails refl

pub begun_stops_size : (face : Face) (a : Job) (b : BoxPlace) (e : DrawFault) → IfSome (refusal e) (λ r. begun_outcome face a ≡ Err r)
    → IfSome (refusal e) (λ r. size_tried face a b ≡ Err r)
unfolding size_tried
begun_stops_size face a b e = stops e (begun_outcome face a) (size_tried face a b) (λ r fails. rw fails refl)

pub shapes_stop_size : (face : Face) (a : Job) (b : BoxPlace) (s : Fitter) (h : RowHeights) (us : List (List RowUnit)) (lines : List Placement) (e : DrawFault)
    → begun_outcome face a ≡ Ok s → h ≡ row_heights face.metrics a.ppem → us ≡ units_in face a s → laid_if_fits h b us ≡ Some lines → setting_in face a ≡ Ok s
    → IfSome (refusal e) (λ r. shapes_made face a (gathered (units_glyphs face a)) ≡ Err r) → IfSome (refusal e) (λ r. size_tried face a b ≡ Err r)
unfolding size_tried
shapes_stop_size face a b s h us lines e begun high units fits there =
    let laid = rw (high, units) at fits in
    stops e (shapes_made face a (gathered (units_glyphs face a))) (size_tried face a b) (λ r fails.
    let told = rw there at fails in rw (begun, laid, told) refl)

-- and what it is
pub size_not_fitted : (face : Face) (a : Job) (b : BoxPlace) (s : Fitter) (h : RowHeights) (us : List (List RowUnit)) (n : ℕ)
    → begun_outcome face a ≡ Ok s → h ≡ row_heights face.metrics a.ppem → us ≡ units_in face a s → laid_if_fits h b us ≡ None → n ≡ begun_cost face a s
    → size_tried face a b ≡ Ok (record { shown = None; cost = n })
unfolding size_tried
size_not_fitted face a b s h us n begun high units fits cost =
    let laid = rw (high, units) at fits in rw (begun, laid, cost) refl

pub size_drawn : (face : Face) (a : Job) (b : BoxPlace) (s : Fitter) (h : RowHeights) (us : List (List RowUnit)) (lines : List Placement) (made : List Glyph) (n : ℕ)
    → begun_outcome face a ≡ Ok s → h ≡ row_heights face.metrics a.ppem → us ≡ units_in face a s → laid_if_fits h b us ≡ Some lines → setting_in face a ≡ Ok s
    → AreReady face a s (units_glyphs face a) made n
    → size_tried face a b ≡ Ok (record {
      shown = shown_in_box b a.margin (line_fitter s (units_glyphs face a)) (label_ink (line_ink s (gathered (units_glyphs face a))) a.margin lines) lines;
      cost = n;
    })
unfolding size_tried
size_drawn face a b s h us lines made n begun high units fits there ready =
    let d = ready.drawn in
    let gs = units_glyphs face a in
    let laid = rw (high, units) at fits in
    let few = rw ready.setting at d.few in
    let fitted = rw ready.setting at d.fitted in
    let seldom = rw ready.setting at d.seldom in
    let told = rw (zero_numbers gs) at (costed face a (gathered gs) s d.shapes there few fitted seldom) in
    let both : ◌≡◌ {A = Result ℕ Refused} (Ok n) (Ok (cost_of (work_left s gs) (crossings_in d.shapes))) = sym ready.cost ∙ told in
    let cost : cost_of (work_left s gs) (crossings_in d.shapes) ≡ n = cc in
    rw (begun, laid, few, fitted, seldom, cost) refl
