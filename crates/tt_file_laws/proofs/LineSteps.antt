-- A line without kerning: its glyphs at their pens, which the advances before them lead to.
use Rattle.std.proofs.Common.{◌≡◌, ◌∙◌, refl, sym, ap, ap₂, ℕ, suc, ◌+◌, ◌*◌, ◌/◌, ◌<◌, Bool, true, false, ◌||◌, ◌==◌, if◌then◌else◌, nat_lt, ℤ, pos, neg_ℤ, ◌+ℤ◌, ◌*ℤ◌, int_lt, unsigned_abs, List, [], ◌∷◌, chars, length, map, slice_index, sum, take, None, Result, Ok, Err, All, arith}
use Rattle.std.specs.List.{range_with_len}
use Rattle.std.proofs.lemmas.Int.{ints}
use Rattle.std.proofs.lemmas.List.Sums.{sum_by-cons}
use Rattle.tt_advances.proofs.Finding.{units_are}
use Rattle.tt_advances.specs.Found.{units_of}
use Rattle.tt_advances.specs.Lines.{advance_step, advance_steps}
use Rattle.tt_cmap.specs.declared.units.TextUnit.{TextUnit}
use Rattle.tt_cmap.specs.Maps.{CharacterMap, glyph_of_unit, strict, units_by, wide}
use Rattle.tt_cmap.specs.Units.{is_selector, plain_unit}
use Rattle.tt_cmap.proofs.UnitLaws.{characters-are-units, plain-texts}
use Rattle.tt_core.specs.Chains.{came-through}
use Rattle.tt_core.specs.declared.fault.JobFault.{JobFault}
use Rattle.tt_core.specs.declared.fault.JobFault.TheVariants as job
use Rattle.tt_core.specs.Limits.{height_limit, width_limit}
use Rattle.tt_core.specs.Numbers.{nearest_quotient, rounded_quotient}
use Rattle.tt_core.specs.Scales.{factor, rounded_scale, scaled_by}
use Rattle.tt_core.specs.declared.halves.Halves.TheVariants as halves
use Rattle.tt_face.specs.Faces.{Face}
use Rattle.tt_fit.specs.declared.programs.Fit.{Fit}
use Rattle.tt_fit.specs.Fitting.{Fitter}
use Rattle.tt_fit.proofs.WorkApart.{work-is-apart}
use Rattle.tt_glyphs.specs.Entries.{advance_by, fitter_units}
use Rattle.tt_glyphs.proofs.ListBegun.{setting_source}
use Rattle.tt_line.specs.declared.extent.PictureExtent.{PictureExtent}
use Rattle.tt_line.specs.Layout.{Placement, depth_of, extent_by, glyphs_at_pens, laid, laid_at, placed_in, rise_of, text_glyphs, units_in_pixels, within_limits}
use Rattle.tt_line.specs.Steps.{at_least, kerning_before, step_of_units, stepped}
use Rattle.tt_line.proofs.Stepped.{unkerned_before}
use Rattle.tt_metrics.specs.Metrics.{Metrics, units_per_em_of}
use Rattle.tt_picture.specs.Steps.{glyph_step, step_by}
use Rattle.tt_strike.specs.Job.{Job}
use Rattle.tt_strike.specs.Picture.{advance_with, outlines_tested, placed_by_steps, placed_by_units, setting_in, steps_in, text_placed}
use Rattle.tt_strike.specs.Refusals.{as_font}
use Rattle.tt_strike.specs.Work.{is_bounded, line_fitter}
use Rattle.tt_strike.proofs.Placed.{laid_by_units, of-font, of-job, placed_by_its_steps, placed_by_its_units}
use Rattle.tt_strike.proofs.Setting.{maker_alike}
use Rattle.tt_bitmap_font.specs.Characters.{glyphs_for}

-- the glyphs of a text without selectors

plain_units : (m : CharacterMap) (cs : List ℕ) → All (λ (c : ℕ). is_selector c ≡ false) cs → units_by m cs ≡ map plain_unit cs
plain_units (strict m) cs plain = characters-are-units cs
plain_units (wide m) cs plain = plain-texts cs plain

of_units : (f : TextUnit → ℕ) (cs : List ℕ) → map f (map plain_unit cs) ≡ map (λ (c : ℕ). f (plain_unit c)) cs
of_units f [] = refl
of_units f (c ∷ cs) = ap (λ (gs : List ℕ). f (plain_unit c) ∷ gs) (of_units f cs)

pub plain_glyphs : (m : CharacterMap) (text : List ℕ) → All (λ (c : ℕ). is_selector c ≡ false) (chars text)
    → text_glyphs m text ≡ glyphs_for m (chars text)
plain_glyphs m text plain =
    ap (λ (us : List TextUnit). map (glyph_of_unit m) us) (plain_units m (chars text) plain) ∙ of_units (glyph_of_unit m) (chars text)

-- the steps of a line

abbrev pub steps_of : Fit → Fitter → List ℕ → List ℕ → List ℕ
steps_of how s line gs = map (λ (g : ℕ). advance_by how (line_fitter s line g) g) gs

nothing_scaled : (pixels : ℕ)
    → scaled_by (record { pixels = pixels; units = 65536; halves = halves.AwayFromZero }) (pos 0) ≡ pos 0
nothing_scaled pixels = let none : 0 * pixels ≡ 0 = omega arith in rw none refl

step_alone : (m : Metrics) (ppem : ℕ) (s : Fitter) (line : List ℕ) (g : ℕ) (k : ℤ) → k ≡ pos 0
    → step_by m ppem (advance_with s line) g k ≡ glyph_step (line_fitter s line g) g
step_alone m ppem s line g k none =
    let scaled : scaled_by (rounded_scale ppem (units_per_em_of m)) (pos 0) ≡ pos 0 = nothing_scaled (factor ppem (units_per_em_of m)) in
    let alone : advance_with s line g +ℤ pos 0 ≡ advance_with s line g = omega (arith, ints) in
    rw (none, scaled, alone) refl

own_steps : (m : Metrics) (ppem : ℕ) (s : Fitter) (line gs : List ℕ) → m.kerning ≡ None
    → map (λ (p : ℕ × ℕ). p.1) (stepped m (step_by m ppem (advance_with s line)) gs)
    ≡ map (λ (g : ℕ). glyph_step (line_fitter s line g) g) gs
own_steps m ppem s line [] off = refl
own_steps m ppem s line (g ∷ gs) off =
    ap₂ (λ (n : ℕ) (ns : List ℕ). n ∷ ns) (step_alone m ppem s line g (kerning_before m g gs) (unkerned_before m g gs off))
    (own_steps m ppem s line gs off)

not_below : (n : ℕ) → int_lt (pos n) (pos 0) ≡ false
not_below n = grind (arith, ints)

quotient_of : (n d : ℕ) → rounded_quotient (pos n) (pos d) ≡ pos ((2 * n + d) / (2 * d))
quotient_of n d =
    ap (λ (b : Bool). if b then nearest_quotient (neg_ℤ (pos n)) (neg_ℤ (pos d)) else nearest_quotient (pos n) (pos d)) (not_below d)

-- the step of an advance without kerning
units_alone : (m : Metrics) (ppem units : ℕ) → step_of_units m ppem units (pos 0) ≡ units_in_pixels m ppem units
units_alone m ppem units =
    let em = units_per_em_of m in
    let sum : pos units +ℤ pos 0 ≡ pos units = omega (arith, ints) in
    ap (λ (n : ℤ). at_least 0 (rounded_quotient (n *ℤ pos ppem) (pos em))) sum
    ∙ ap (λ (n : ℤ). at_least 0 n) (quotient_of (units * ppem) em)
    ∙ ap (λ (b : Bool). if b then 0 else ((2 * (units * ppem) + em) / (2 * em))) (not_below ((2 * (units * ppem) + em) / (2 * em)))
    ∙ sym (ap (λ (n : ℤ). unsigned_abs n) (quotient_of (units * ppem) em))

found_steps : (face : Face) (ppem : ℕ) (gs : List ℕ) → face.metrics.kerning ≡ None
    → advance_steps face ppem gs ≡ map (λ (g : ℕ). units_in_pixels face.metrics ppem (units_of face g)) gs
found_steps face ppem [] off = refl
found_steps face ppem (g ∷ gs) off =
    let one : advance_step face ppem g (kerning_before face.metrics g gs) ≡ units_in_pixels face.metrics ppem (units_of face g) =
    ap (λ (k : ℤ). advance_step face ppem g k) (unkerned_before face.metrics g gs off) ∙ units_alone face.metrics ppem (units_of face g) in
    ap₂ (λ (n : ℕ) (ns : List ℕ). n ∷ ns) one (found_steps face ppem gs off)

same_steps : (f h : ℕ → ℕ) (gs : List ℕ) → ((g : ℕ) → f g ≡ h g) → map f gs ≡ map h gs
same_steps f h [] same = refl
same_steps f h (g ∷ gs) same = ap₂ (λ (n : ℕ) (ns : List ℕ). n ∷ ns) (same g) (same_steps f h gs same)

by_step : (b : Bool) (x y : ℕ) → b ≡ true → x ≡ (if b then x else y)
by_step true x y is = refl
by_step false x y is = absurd cc

by_advance : (b : Bool) (x y z : ℕ) → b ≡ false → y ≡ z → y ≡ (if b then x else z)
by_advance true x y z is same = absurd cc
by_advance false x y z is same = same

found : (face : Face) (a : Job) (s : Fitter) (line : List ℕ) (g : ℕ) → setting_in face a ≡ Ok s → is_bounded a.fit ≡ false
    → units_in_pixels face.metrics a.ppem (units_of face g) ≡ advance_by a.fit (line_fitter s line g) g
found face a s line g there other =
    let u = line_fitter s line g in
    let source = setting_source face a.ppem a.fit s there in
    let apart = work-is-apart s u (maker_alike s line g) in
    let units : fitter_units u g ≡ units_of face g =
    rw (apart.instance, apart.metrics, apart.tables, source.2, source.0) (units_are face s.tables g source.3) in
    let same : units_in_pixels face.metrics a.ppem (units_of face g) ≡ units_in_pixels u.metrics u.ppem (fitter_units u g) =
    rw (units, apart.metrics, apart.ppem, source.0, source.1) refl in
    by_advance (is_bounded a.fit) (glyph_step u g) (units_in_pixels face.metrics a.ppem (units_of face g))
    (units_in_pixels u.metrics u.ppem (fitter_units u g)) other same

-- the line

pub same_setting : {E : Type 0} (r : Result Fitter E) (s t : Fitter) → r ≡ Ok s → r ≡ Ok t → s ≡ t
same_setting r s t one other = cc

ok_same : {X E : Type 0} (x y : X) → ◌≡◌ {A = Result X E} (Ok x) (Ok y) → x ≡ y
ok_same x y is = cc

kept : (empty large : Bool) (e f : PictureExtent) → ◌≡◌ {A = Result PictureExtent JobFault}
    (if empty then Err job.EmptyPicture else (if large then Err job.PictureLarge else Ok e)) (Ok f) → f ≡ e
kept true large e f was = absurd cc
kept false true e f was = absurd cc
kept false false e f was = let same : e ≡ f = cc in sym same

extent_kept : (e f : PictureExtent) → within_limits e ≡ Ok f → f ≡ e
unfolding within_limits
extent_kept e f was =
    kept ((e.width == 0) || int_lt e.height (pos 1)) (nat_lt width_limit e.width || int_lt (pos height_limit) e.height) e f was

placed_is : (gs steps : List ℕ) (margin : ℕ) (rise depth : ℤ) (line : Placement) → laid gs steps margin rise depth ≡ Ok line
    → line ≡ placed_in gs steps rise (extent_by steps margin rise depth)
placed_is gs steps margin rise depth line was =
    let e = extent_by steps margin rise depth in
    let by_extent = came-through (within_limits e) _ line was in
    sym (ok_same (placed_in gs steps rise by_extent.value) line by_extent.rest)
    ∙ ap (placed_in gs steps rise) (extent_kept e by_extent.value by_extent.first)

-- the line of a job by these steps
abbrev pub IsLaidBy : Face → Job → List ℕ → List ℕ → Placement → Type 0
IsLaidBy face a gs steps line =
    line ≡ placed_in gs steps (rise_of face.metrics a.ppem) (extent_by steps a.margin (rise_of face.metrics a.ppem) (depth_of face.metrics a.ppem))

laid_by_steps : (face : Face) (a : Job) (s : Fitter) (line : Placement) → face.metrics.kerning ≡ None → is_bounded a.fit ≡ true
    → setting_in face a ≡ Ok s → placed_by_steps face a ≡ Ok line
    → IsLaidBy face a (text_glyphs face.cmap a.text) (steps_of a.fit s (text_glyphs face.cmap a.text) (text_glyphs face.cmap a.text)) line
unfolding placed_by_steps
laid_by_steps face a s line off bounded there was =
    let gs = text_glyphs face.cmap a.text in
    let m = face.metrics in
    let by_setting = came-through (as_font (setting_in face a)) _ line was in
    let t = by_setting.value in
    let same : t ≡ s = same_setting (setting_in face a) t s (of-font (setting_in face a) t by_setting.first) there in
    let by_outlines = came-through (outlines_tested t a.fit gs) _ line by_setting.rest in
    let laid = of-job (laid_at m a.ppem a.margin gs (steps_in m a.ppem t gs)) line by_outlines.rest in
    let placed = placed_is gs (steps_in m a.ppem t gs) a.margin (rise_of m a.ppem) (depth_of m a.ppem) line laid in
    let steps : steps_in m a.ppem t gs ≡ steps_of a.fit s gs gs =
    ap (λ (f : Fitter). steps_in m a.ppem f gs) same ∙ own_steps m a.ppem s gs gs off
    ∙ same_steps (λ g. glyph_step (line_fitter s gs g) g) (λ g. advance_by a.fit (line_fitter s gs g) g) gs
    (λ g. by_step (is_bounded a.fit) (glyph_step (line_fitter s gs g) g) _ bounded) in
    placed ∙ ap (λ (ns : List ℕ). placed_in gs ns (rise_of m a.ppem) (extent_by ns a.margin (rise_of m a.ppem) (depth_of m a.ppem))) steps

laid_by_found : (face : Face) (a : Job) (s : Fitter) (line : Placement) → face.metrics.kerning ≡ None → is_bounded a.fit ≡ false
    → setting_in face a ≡ Ok s → placed_by_units face a ≡ Ok line
    → IsLaidBy face a (text_glyphs face.cmap a.text) (steps_of a.fit s (text_glyphs face.cmap a.text) (text_glyphs face.cmap a.text)) line
laid_by_found face a s line off other there was =
    let gs = text_glyphs face.cmap a.text in
    let m = face.metrics in
    let placed = placed_is gs (advance_steps face a.ppem gs) a.margin (rise_of m a.ppem) (depth_of m a.ppem) line (laid_by_units face a line was).laid in
    let steps : advance_steps face a.ppem gs ≡ steps_of a.fit s gs gs =
    found_steps face a.ppem gs off
    ∙ same_steps (λ g. units_in_pixels m a.ppem (units_of face g)) (λ g. advance_by a.fit (line_fitter s gs g) g) gs
    (λ g. found face a s gs g there other) in
    placed ∙ ap (λ (ns : List ℕ). placed_in gs ns (rise_of m a.ppem) (extent_by ns a.margin (rise_of m a.ppem) (depth_of m a.ppem))) steps

laid_by : (bounded : Bool) (face : Face) (a : Job) (s : Fitter) (line : Placement) → is_bounded a.fit ≡ bounded
    → face.metrics.kerning ≡ None → setting_in face a ≡ Ok s → text_placed face a ≡ Ok line
    → IsLaidBy face a (text_glyphs face.cmap a.text) (steps_of a.fit s (text_glyphs face.cmap a.text) (text_glyphs face.cmap a.text)) line
laid_by true face a s line is off there placed =
    laid_by_steps face a s line off is there (sym (placed_by_its_steps face a is) ∙ placed)
laid_by false face a s line is off there placed =
    laid_by_found face a s line off is there (sym (placed_by_its_units face a is) ∙ placed)

pub line_is : (face : Face) (a : Job) (s : Fitter) (line : Placement) → face.metrics.kerning ≡ None → setting_in face a ≡ Ok s
    → text_placed face a ≡ Ok line
    → IsLaidBy face a (text_glyphs face.cmap a.text) (steps_of a.fit s (text_glyphs face.cmap a.text) (text_glyphs face.cmap a.text)) line
line_is face a s line off there placed = laid_by (is_bounded a.fit) face a s line refl off there placed

-- glyphs at their pens, from a pen on
abbrev pub from_pen : ℕ → List ℕ → List ℕ → List (ℕ × ℕ)
from_pen pen [] steps = []
from_pen pen (g ∷ gs) [] = []
from_pen pen (g ∷ gs) (n ∷ ns) = (g, pen) ∷ from_pen (pen + n) gs ns

abbrev at_pen : ℕ → ℕ → ℕ × ℕ
at_pen g pen = (g, pen)

pens_from : (at : ℕ → ℕ × ℕ) (a pen : ℕ) (gs steps : List ℕ) → length steps ≡ length gs
    → ((i : ℕ) → i < length gs → at (a + i) ≡ (slice_index gs i, pen + sum (take i steps)))
    → map at (range_with_len a (length gs)) ≡ from_pen pen gs steps
pens_from at a pen [] steps long are = refl
pens_from at a pen (g ∷ gs) [] long are = absurd (omega (arith, long))
pens_from at a pen (g ∷ gs) (n ∷ ns) long are =
    let start : a + 0 ≡ a = omega arith in
    let here : pen + sum (take 0 (n ∷ ns)) ≡ pen = omega arith in
    let first : at a ≡ (g, pen) = ap at (sym start) ∙ are 0 (omega arith) ∙ ap (at_pen g) here in
    ap₂ (λ (p : ℕ × ℕ) (ps : List (ℕ × ℕ)). p ∷ ps) first
    (pens_from at (a + 1) (pen + n) gs ns (omega (arith, long)) (λ i below.
    let place : (a + 1) + i ≡ a + suc i = omega arith in
    let more = sum_by-cons (λ (k : ℕ). k) n (take i ns) in
    let pens : pen + sum (n ∷ take i ns) ≡ (pen + n) + sum (take i ns) = omega (arith, more) in
    ap at place ∙ are (suc i) (omega (arith, below)) ∙ ap (at_pen (slice_index gs i)) pens))

pub at_pens_are : (gs steps : List ℕ) → length steps ≡ length gs → glyphs_at_pens gs steps ≡ from_pen 0 gs steps
at_pens_are gs steps long =
    pens_from (λ i. at_pen (slice_index gs i) (sum (take i steps))) 0 0 gs steps long (λ i below.
    let start : 0 + i ≡ i = omega arith in
    let pens : sum (take (0 + i) steps) ≡ 0 + sum (take i steps) = rw start (omega arith) in
    ap₂ (λ (x y : ℕ). at_pen (slice_index gs x) y) start pens)
