-- The steps of a text and what is made of them, its size and its pens: where each stops, and what each is.
use Rattle.std.proofs.Common.{◌≡◌, ◌∙◌, refl, sym, ap, ℕ, ◌+◌, ◌*◌, ◌≤◌, Bool, true, false, ◌||◌, ◌==◌, if◌then◌else◌, nat_lt, ℤ, pos, ◌+ℤ◌, int_lt, unsigned_abs, List, chars, map, sum, Result, Ok, Err, inr, subst, arith}
use Rattle.std.specs.Prelude.{IfSome}
use Rattle.std.proofs.lemmas.Int.{ints}
use Rattle.tt_cmap.specs.Maps.{units_by}
use Rattle.tt_core.specs.Chains.{came-through, passed-on}
use Rattle.tt_core.specs.declared.draw_fault.DrawFault.{DrawFault}
use Rattle.tt_core.specs.declared.draw_fault.DrawFault.TheVariants as draw
use Rattle.tt_core.specs.declared.fault.JobFault.{JobFault}
use Rattle.tt_core.specs.declared.fault.JobFault.TheVariants as job_of
use Rattle.tt_core.specs.Faults.{Fault}
use Rattle.tt_core.specs.Limits.{height_limit, width_limit}
use Rattle.tt_core.specs.Directory.{HasNo}
use Rattle.tt_core.specs.declared.font_fault.FontFault.{FontFault}
use Rattle.tt_core.specs.declared.font_fault.FontFault.TheVariants as font
use Rattle.tt_core.specs.Outcomes.{draw_fault_of_font, draw_font_fault, each, font_fault}
use Rattle.tt_advances.proofs.Advances.{plain_advances}
use Rattle.tt_advances.specs.Defects.{IsAdvanceDefect}
use Rattle.tt_advances.specs.Found.{advances_tested}
use Rattle.tt_advances.specs.Lines.{advance_line}
use Rattle.tt_face.specs.Faces.{Face, finds_advances}
use Rattle.tt_fit.specs.Fitting.{Fitter}
use Rattle.tt_fit.specs.outline.Outline.{Outline}
use Rattle.tt_line.specs.declared.extent.PictureExtent.{PictureExtent}
use Rattle.tt_line.specs.declared.measured.LineSize.{LineSize}
use Rattle.tt_line.specs.Layout.{text_glyphs, within_limits}
use Rattle.tt_line.specs.Steps.{linear_line, linear_steps}
use Rattle.tt_line.specs.Sizes.{extent_by_sum, line_size, size_of}
use Rattle.tt_metrics.specs.Metrics.{Metrics}
use Rattle.tt_picture.specs.Pixels.{Shape}
use Rattle.tt_picture.specs.Shapes.{glyph_shape}
use Rattle.tt_strike.specs.Defects.{IsLineDefect, IsMadeDefect, IsSettingDefect, TellsDefects}
use Rattle.tt_strike.specs.Fitted.{outlines_made}
use Rattle.tt_strike.specs.Job.{Job, tested}
use Rattle.tt_strike.specs.Layouts.{HasLayoutDefect, LayoutDefectBy, found_line, layout_by, layout_outcome, pens_at, pens_outcome, size_outcome, steps_outcome}
use Rattle.tt_strike.specs.Picture.{made_line, outlines_tested, setting_in}
use Rattle.tt_strike.specs.Refusals.{Refused, as_font, as_job, job, refusal}
use Rattle.tt_strike.specs.Strikes.{SizedFace, job_by}
use Rattle.tt_strike.specs.Work.{is_bounded, line_fitter}
use Rattle.tt_strike.proofs.Stopped.{stops, stops_after, test_passes, test_stops}
use Rattle.tt_strike.proofs.Telling.{no_line_defect}

-- a stop at the outlines stops the steps
no_steps : (face : Face) (a : Job) (r : Refused) → is_bounded a.fit ≡ true
    → outlines_made face a.ppem a.fit (text_glyphs face.cmap a.text) ≡ Err r → steps_outcome face a ≡ Err r
unfolding steps_outcome
no_steps face a r bounded fails =
    rw bounded (stops_after (as_font (setting_in face a)) (λ s. outlines_tested s a.fit (text_glyphs face.cmap a.text)) _ r fails)

pub units_stop_steps : (face : Face) (a : Job) (e : DrawFault) → is_bounded a.fit ≡ true
    → IfSome (refusal e) (λ r. outlines_made face a.ppem a.fit (text_glyphs face.cmap a.text) ≡ Err r)
    → IfSome (refusal e) (λ r. steps_outcome face a ≡ Err r)
units_stop_steps face a e bounded =
    stops e (outlines_made face a.ppem a.fit (text_glyphs face.cmap a.text)) (steps_outcome face a) (λ r fails. no_steps face a r bounded fails)

-- the steps of glyphs that are made, and those by advances
pub steps_by_outlines : (face : Face) (a : Job) (s : Fitter) (os : List Outline) (line : List (ℕ × ℕ)) → is_bounded a.fit ≡ true
    → setting_in face a ≡ Ok s → outlines_tested s a.fit (text_glyphs face.cmap a.text) ≡ Ok os
    → line ≡ made_line face.metrics a.ppem s (text_glyphs face.cmap a.text) → steps_outcome face a ≡ Ok line
unfolding steps_outcome
steps_by_outlines face a s os line bounded there made is = rw (bounded, there, made, is) refl

-- the steps by advances, once these are found, and their stop
pub steps_by_found : (face : Face) (a : Job) (line : List (ℕ × ℕ)) → is_bounded a.fit ≡ false
    → found_line face a.ppem (text_glyphs face.cmap a.text) ≡ Ok line → steps_outcome face a ≡ Ok line
unfolding steps_outcome
steps_by_found face a line other was =
    let gs = text_glyphs face.cmap a.text in
    let found = test_passes (advances_tested face gs) (advance_line face a.ppem gs) line was in
    rw (other, found.0) (ap Ok (sym found.1))

pub found_stop_steps : (face : Face) (a : Job) (e : FontFault) → is_bounded a.fit ≡ false
    → IfSome (font_fault e) (λ f. found_line face a.ppem (text_glyphs face.cmap a.text) ≡ Err f)
    → IfSome (refusal (draw_fault_of_font e)) (λ r. steps_outcome face a ≡ Err r)
unfolding steps_outcome
found_stop_steps face a (font.Font f) other fails =
    let gs = text_glyphs face.cmap a.text in
    rw (other, test_stops (advances_tested face gs) (advance_line face a.ppem gs) f fails) refl
found_stop_steps face a font.Memory other fails = tt

pub steps_by_advances : (face : Face) (a : Job) → is_bounded a.fit ≡ false → finds_advances face ≡ false
    → steps_outcome face a ≡ Ok (linear_line face.metrics a.ppem (text_glyphs face.cmap a.text))
unfolding steps_outcome
steps_by_advances face a other off =
    let plain = plain_advances face off in
    rw (other, plain.tested (text_glyphs face.cmap a.text)) (ap Ok (plain.line a.ppem (text_glyphs face.cmap a.text)))

-- a refused test stops the size and the pens, and so does a stop in the steps
pub test_stops_size : (face : Face) (a : Job) (j : JobFault) → tested a ≡ Err j → size_outcome face a ≡ Err (job j)
unfolding size_outcome
test_stops_size face a j fails = rw fails refl

pub test_stops_pens : (face : Face) (a : Job) (j : JobFault) → tested a ≡ Err j → pens_outcome face a ≡ Err (job j)
unfolding pens_outcome
test_stops_pens face a j fails = rw fails refl

pub steps_stop_size : (face : Face) (a : Job) (e : DrawFault) → tested a ≡ Ok tt
    → IfSome (refusal e) (λ r. steps_outcome face a ≡ Err r) → IfSome (refusal e) (λ r. size_outcome face a ≡ Err r)
unfolding size_outcome
steps_stop_size face a e passes stopped =
    stops e (steps_outcome face a) (size_outcome face a) (λ r fails. rw (passes, fails) refl) stopped

pub steps_stop_pens : (face : Face) (a : Job) (e : DrawFault) → tested a ≡ Ok tt
    → IfSome (refusal e) (λ r. steps_outcome face a ≡ Err r) → IfSome (refusal e) (λ r. pens_outcome face a ≡ Err r)
unfolding pens_outcome
steps_stop_pens face a e passes stopped =
    stops e (steps_outcome face a) (pens_outcome face a) (λ r fails. rw (passes, fails) refl) stopped

-- the size, the layout and the pens of a tested job by its steps
pub size_is : (face : Face) (a : Job) (steps : List (ℕ × ℕ)) → tested a ≡ Ok tt → steps_outcome face a ≡ Ok steps
    → size_outcome face a ≡ as_job (line_size face.metrics a.ppem a.margin (sum (map (λ g. g.1) steps)))
unfolding size_outcome
size_is face a steps passes made = rw (passes, made) refl

pub size_by_its_advances : (face : Face) (a : Job) → tested a ≡ Ok tt → is_bounded a.fit ≡ false → finds_advances face ≡ false
    → size_outcome face a ≡ as_job (line_size face.metrics a.ppem a.margin
    (sum (linear_steps face.metrics a.ppem (text_glyphs face.cmap a.text))))
size_by_its_advances face a passes other off =
    size_is face a (linear_line face.metrics a.ppem (text_glyphs face.cmap a.text)) passes (steps_by_advances face a other off)

pub layout_is : (face : Face) (a : Job) (steps : List (ℕ × ℕ)) (z : LineSize) → tested a ≡ Ok tt
    → steps_outcome face a ≡ Ok steps → line_size face.metrics a.ppem a.margin (sum (map (λ g. g.1) steps)) ≡ Ok z
    → layout_outcome face a ≡ Ok (layout_by z a.margin (units_by face.cmap (chars a.text)))
unfolding layout_outcome size_outcome
layout_is face a steps z passes made sized = rw (passes, made, sized) refl

pub size_stops_pens : (face : Face) (a : Job) (steps : List (ℕ × ℕ)) (j : JobFault) → tested a ≡ Ok tt
    → steps_outcome face a ≡ Ok steps → line_size face.metrics a.ppem a.margin (sum (map (λ g. g.1) steps)) ≡ Err j
    → pens_outcome face a ≡ Err (job j)
unfolding pens_outcome
size_stops_pens face a steps j passes made refused = rw (passes, made, refused) refl

pub pens_are : (face : Face) (a : Job) (steps : List (ℕ × ℕ)) (z : LineSize) → tested a ≡ Ok tt
    → steps_outcome face a ≡ Ok steps → line_size face.metrics a.ppem a.margin (sum (map (λ g. g.1) steps)) ≡ Ok z
    → pens_outcome face a ≡ Ok (pens_at (units_by face.cmap (chars a.text)) steps a.margin)
unfolding pens_outcome
pens_are face a steps z passes made sized = rw (passes, made, sized) refl

-- a fault of the job is none of the font
pub no_defect_of_job : {V : Type 0} (z : SizedFace) (text : List ℕ) (margin : ℕ) (r : Result V DrawFault) (j : JobFault)
    → r ≡ Err (draw.Job j)
    → TellsDefects draw_font_fault (HasLayoutDefect z.face (job_by z text margin) (text_glyphs z.face.cmap text)) r
no_defect_of_job z text margin r j is = rw is tt

-- what is told of a stop, and of a value, is told of all that is made of the value
pub told_on : {V W : Type 0} (IsOne : Fault → Type 0) (r : Result V DrawFault) (q : Result W DrawFault)
    (e : DrawFault) → r ≡ Err e → q ≡ Err e → TellsDefects draw_font_fault IsOne r → TellsDefects draw_font_fault IsOne q
told_on IsOne r q e was is tells = rw is (rw was at tells)

pub sound_on : {V W : Type 0} (IsOne : Fault → Type 0) (r : Result V DrawFault) (q : Result W DrawFault)
    (v : V) (w : W) → r ≡ Ok v → q ≡ Ok w → TellsDefects draw_font_fault IsOne r → TellsDefects draw_font_fault IsOne q
sound_on IsOne r q v w was is tells = rw is (rw was at tells)

-- a defect by which a text is not laid out is one of its line
line_by : (bounded : Bool) (face : Face) (a : Job) (gs : List ℕ) (f : Fault) → is_bounded a.fit ≡ bounded
    → LayoutDefectBy bounded face a gs f → IsLineDefect face a gs f
line_by true face a gs f is stands = stands
line_by false face a gs f is stands = inr (is, stands)

pub layout_is_line : (face : Face) (a : Job) (gs : List ℕ) (f : Fault) → HasLayoutDefect face a gs f → IsLineDefect face a gs f
layout_is_line face a gs f stands = line_by (is_bounded a.fit) face a gs f refl stands

-- where work is bounded the two are the same, and elsewhere it is one of the advances
pub bounded_tells : {V : Type 0} (face : Face) (a : Job) (gs : List ℕ) (r : Result V DrawFault) → is_bounded a.fit ≡ true
    → TellsDefects draw_font_fault (IsLineDefect face a gs) r → TellsDefects draw_font_fault (HasLayoutDefect face a gs) r
bounded_tells face a gs r bounded tells =
    subst (λ (b : Bool). TellsDefects draw_font_fault (LayoutDefectBy b face a gs) r) (sym bounded) tells

pub unbounded_tells : {V : Type 0} (face : Face) (a : Job) (gs : List ℕ) (r : Result V DrawFault) → is_bounded a.fit ≡ false
    → TellsDefects draw_font_fault (IsAdvanceDefect face gs) r → TellsDefects draw_font_fault (HasLayoutDefect face a gs) r
unbounded_tells face a gs r other tells =
    subst (λ (b : Bool). TellsDefects draw_font_fault (LayoutDefectBy b face a gs) r) (sym other) tells

-- the defect does not depend on the margin
told_at : {V : Type 0} (bounded : Bool) (z : SizedFace) (text : List ℕ) (m n : ℕ) (gs : List ℕ) (r : Result V DrawFault)
    → TellsDefects draw_font_fault (LayoutDefectBy bounded z.face (job_by z text m) gs) r
    → TellsDefects draw_font_fault (LayoutDefectBy bounded z.face (job_by z text n) gs) r
told_at true z text m n gs r tells = tells
told_at false z text m n gs r tells = tells

pub at_margin : {V : Type 0} (z : SizedFace) (text : List ℕ) (m n : ℕ) (gs : List ℕ) (r : Result V DrawFault)
    → TellsDefects draw_font_fault (HasLayoutDefect z.face (job_by z text m) gs) r
    → TellsDefects draw_font_fault (HasLayoutDefect z.face (job_by z text n) gs) r
at_margin z text m n gs r tells = told_at (is_bounded z.fit) z text m n gs r tells

-- a text whose glyphs are made, whatever their pens, has no defect
pub sound_line : (face : Face) (a : Job) (s : Fitter) (gs : List ℕ) (line : List (ℕ × ℕ)) (shapes : List Shape)
    → setting_in face a ≡ Ok s → HasNo (IsSettingDefect face a) → map (λ g. g.0) line ≡ gs
    → each (glyph_shape (line_fitter s gs)) line ≡ Ok shapes → HasNo (IsMadeDefect face a gs)
sound_line face a s gs line shapes there sound glyphs made =
    rw (← glyphs) (no_line_defect face a s line shapes there sound (rw glyphs made))

-- an extent that is not refused is unchanged, so a line's size is that of its extent
kept : (empty large : Bool) (e f : PictureExtent) → ◌≡◌ {A = Result PictureExtent JobFault}
    (if empty then Err job_of.EmptyPicture else (if large then Err job_of.PictureLarge else Ok e)) (Ok f) → f ≡ e
kept true large e f was = absurd cc
kept false true e f was = absurd cc
kept false false e f was = let same : e ≡ f = cc in sym same

extent_kept : (e f : PictureExtent) → within_limits e ≡ Ok f → f ≡ e
unfolding within_limits
extent_kept e f was =
    kept ((e.width == 0) || int_lt e.height (pos 1)) (nat_lt width_limit e.width || int_lt (pos height_limit) e.height) e f was

pub sized_is : (m : Metrics) (ppem margin n : ℕ) (z : LineSize) → line_size m ppem margin n ≡ Ok z
    → z ≡ size_of m ppem (extent_by_sum m ppem margin n)
sized_is m ppem margin n z was =
    let e = extent_by_sum m ppem margin n in
    let by_extent = came-through (within_limits e) _ z was in
    let same = extent_kept e by_extent.value by_extent.first in
    let is : size_of m ppem by_extent.value ≡ z = let rest = by_extent.rest in cc in
    sym is ∙ ap (size_of m ppem) same

-- so the steps of a line that is not too wide are together not wider
pub steps_fit : (m : Metrics) (ppem margin n : ℕ) (z : LineSize) → line_size m ppem margin n ≡ Ok z → z.width ≤ width_limit
    → n ≤ width_limit
steps_fit m ppem margin n z was fits =
    let wide : z.width ≡ n + 2 * margin = ap (λ (z : LineSize). z.width) (sized_is m ppem margin n z was) in
    omega (arith, wide, fits)

-- and its height is not below 1
high_enough : (empty large : Bool) (e f : PictureExtent) → ◌≡◌ {A = Result PictureExtent JobFault}
    (if empty || int_lt e.height (pos 1) then Err job_of.EmptyPicture else (if large then Err job_of.PictureLarge else Ok e)) (Ok f)
    → int_lt e.height (pos 1) ≡ false
high_enough true large e f was = absurd cc
high_enough false large e f was = (passed-on (int_lt e.height (pos 1)) job_of.EmptyPicture _ f was).0

whole : (h : ℤ) → int_lt h (pos 1) ≡ false → pos (unsigned_abs h) ≡ h
whole h is = grind (arith, ints)

pub positive_height : (m : Metrics) (ppem margin n : ℕ) (z : LineSize) → line_size m ppem margin n ≡ Ok z
    → pos z.height ≡ (z.rise +ℤ z.depth) +ℤ pos (2 * margin)
unfolding within_limits
positive_height m ppem margin n z was =
    let e = extent_by_sum m ppem margin n in
    let by_extent = came-through (within_limits e) _ z was in
    let high = high_enough (e.width == 0) (nat_lt width_limit e.width || int_lt (pos height_limit) e.height) e by_extent.value by_extent.first in
    rw (sized_is m ppem margin n z was) (whole e.height high)
