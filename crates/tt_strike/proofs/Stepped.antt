-- A text laid out by the steps of its glyphs: where each part of the work stops, and what it is refused for.
use Rattle.std.proofs.Common.{◌≡◌, ◌∙◌, refl, sym, ap, ℕ, zero, suc, ◌<◌, Bool, true, false, ◌||◌, ◌==◌, List, [], ◌∷◌, ◌++◌, length, map, slice_index, Option, Some, Result, Ok, Err, inl, inr, ◌⊎◌, arith}
use Rattle.std.specs.Prelude.{IfSome}
use Rattle.std.specs.List.{sum_by}
use Rattle.std.proofs.lemmas.Bool.Decides.{nat_tests}
use Rattle.std.proofs.lemmas.List.Sums.{sum-map}
use Rattle.std.proofs.lemmas.Option.{slice_get_within, slice_get-get_or}
use Rattle.tt_core.specs.Chains.{was-err}
use Rattle.tt_core.specs.declared.draw_fault.DrawFault.{DrawFault}
use Rattle.tt_core.specs.declared.draw_fault.DrawFault.TheVariants as draw
use Rattle.tt_core.specs.declared.fault.JobFault.{JobFault}
use Rattle.tt_core.specs.declared.fault.JobFault.TheVariants as job_of
use Rattle.tt_core.specs.declared.font_fault.FontFault.{FontFault}
use Rattle.tt_core.specs.declared.font_fault.FontFault.TheVariants as font
use Rattle.tt_core.specs.Faults.{Fault}
use Rattle.tt_core.specs.Outcomes.{FontGives, each, draw_fault_of_font, draw_font_fault, draw_job_fault, font_fault}
use Rattle.tt_core.proofs.Each.{each-failed}
use Rattle.tt_face.specs.Faces.{Face}
use Rattle.tt_fit.proofs.Standing.{faults-stand}
use Rattle.tt_fit.specs.Fitting.{Fitter, fitted_outline}
use Rattle.tt_fit.specs.declared.programs.Fit.{Fit}
use Rattle.tt_fit.specs.outline.Outline.{Outline}
use Rattle.tt_line.specs.Layout.{Placement, laid_at, text_glyphs, IsRefusal}
use Rattle.tt_picture.specs.Distinct.{distinct, distinct_after, is_among, with_glyph}
use Rattle.tt_picture.specs.Fitted.{AreFitted, FittedGlyph, fitted_chords, fitted_numbers}
use Rattle.tt_picture.specs.Steps.{glyph_chords, outlines_by}
use Rattle.tt_picture.proofs.Outlines.{chords_are}
use Rattle.tt_strike.specs.Defects.{IsGlyphDefect, IsMadeDefect, IsLineRefusal, steps_extent}
use Rattle.tt_strike.specs.Fitted.{outlines_made}
use Rattle.tt_strike.specs.Job.{Job, tested}
use Rattle.tt_strike.specs.Made.{text_shapes}
use Rattle.tt_strike.specs.Picture.{laid_out, outlines_in, outlines_tested, placed_by_steps, setting_in, steps_in}
use Rattle.tt_strike.specs.Refusals.{Refused, as_font, as_job, job, refusal}
use Rattle.tt_strike.specs.Refusals as outcome
use Rattle.tt_strike.specs.Work.{asked_tested, chords_in, is_bounded, line_fitter}
use Rattle.tt_strike.proofs.Placed.{placed_by_its_steps}
use Rattle.tt_strike.proofs.Stopped.{stops, stops_after}

-- a text that is tested is laid out by its steps
laid_by : (face : Face) (a : Job) → tested a ≡ Ok tt → is_bounded a.fit ≡ true → laid_out face a ≡ placed_by_steps face a
laid_by face a passes bounded = rw passes (placed_by_its_steps face a bounded)

-- a stop at the outlines, and at the extent of the picture
no_outlines : (face : Face) (a : Job) (r : Refused) → outlines_made face a.ppem a.fit (text_glyphs face.cmap a.text) ≡ Err r
    → placed_by_steps face a ≡ Err r
unfolding placed_by_steps
no_outlines face a r fails =
    stops_after (as_font (setting_in face a)) (λ s. outlines_tested s a.fit (text_glyphs face.cmap a.text)) _ r fails

pub units_stop_text : (face : Face) (a : Job) (e : DrawFault) → tested a ≡ Ok tt → is_bounded a.fit ≡ true
    → IfSome (refusal e) (λ r. outlines_made face a.ppem a.fit (text_glyphs face.cmap a.text) ≡ Err r)
    → IfSome (refusal e) (λ r. text_shapes face a ≡ Err r)
units_stop_text face a e passes bounded =
    stops e (outlines_made face a.ppem a.fit (text_glyphs face.cmap a.text)) (text_shapes face a)
    (λ r fails. rw (laid_by face a passes bounded, no_outlines face a r fails) refl)

pub extent_stops_text : (face : Face) (a : Job) (s : Fitter) (os : List Outline) (j : JobFault) → tested a ≡ Ok tt
    → is_bounded a.fit ≡ true → setting_in face a ≡ Ok s → outlines_tested s a.fit (text_glyphs face.cmap a.text) ≡ Ok os
    → laid_at face.metrics a.ppem a.margin (text_glyphs face.cmap a.text) (steps_in face.metrics a.ppem s (text_glyphs face.cmap a.text)) ≡ Err j
    → text_shapes face a ≡ Err (job j)
unfolding placed_by_steps
extent_stops_text face a s os j passes bounded there made refused =
    rw (laid_by face a passes bounded, there, made, refused) refl

-- and a text whose glyphs are made is laid out
pub laid_out_by_steps : (face : Face) (a : Job) (s : Fitter) (os : List Outline) (l : Placement) → tested a ≡ Ok tt
    → is_bounded a.fit ≡ true → setting_in face a ≡ Ok s → outlines_tested s a.fit (text_glyphs face.cmap a.text) ≡ Ok os
    → laid_at face.metrics a.ppem a.margin (text_glyphs face.cmap a.text) (steps_in face.metrics a.ppem s (text_glyphs face.cmap a.text)) ≡ Ok l
    → laid_out face a ≡ Ok l
unfolding placed_by_steps
laid_out_by_steps face a s os l passes bounded there made laid =
    laid_by face a passes bounded ∙ rw (there, made, laid) refl

-- the glyphs among the distinct ones of a text are glyphs of the text
abbrev IsAt : List ℕ → ℕ → Type 0
IsAt ns n = (i : ℕ) × (i < length ns) × (slice_index ns i ≡ n)

or_either : (a b : Bool) → (a || b) ≡ true → (a ≡ true) ⊎ (b ≡ true)
or_either true b is = inl refl
or_either false b is = inr is

or_last : (a : Bool) → (a || true) ≡ true
or_last true = refl
or_last false = refl

last_or_before : (n g : ℕ) (before : List ℕ) → is_among n (before ++ g ∷ []) ≡ true → (is_among n before ≡ true) ⊎ ((g == n) ≡ true)
last_or_before n g [] is = elim (or_either (g == n) false is) [
  | inl here ↦ inr here
  | inr never ↦ absurd cc
]
last_or_before n g (h ∷ hs) is = elim (or_either (h == n) (is_among n (hs ++ g ∷ [])) is) [
  | inl here ↦ inl (rw here refl)
  | inr later ↦ elim (last_or_before n g hs later) [
    | inl among ↦ inl (rw among (or_last (h == n)))
    | inr last ↦ inr last
  ]
]

with_or_before : (there : Bool) (n g : ℕ) (before : List ℕ) → is_among g before ≡ there → is_among n (with_glyph before g) ≡ true
    → (is_among n before ≡ true) ⊎ ((g == n) ≡ true)
with_or_before true n g before is among = inl (rw is at among)
with_or_before false n g before is among = last_or_before n g before (rw is at among)

first_at : (n g : ℕ) (gs : List ℕ) → (g == n) ≡ true → IsAt (g ∷ gs) n
first_at n g gs is = let same : g ≡ n = grind (arith, nat_tests) in (0, omega arith, same)

later_at : (n g : ℕ) (gs : List ℕ) → IsAt gs n → IsAt (g ∷ gs) n
later_at n g gs at = let below = at.1 in (suc at.0, omega arith, at.2)

met_at : (n : ℕ) (before gs : List ℕ) → is_among n (distinct_after before gs) ≡ true → (is_among n before ≡ true) ⊎ IsAt gs n
met_at n before [] is = inl is
met_at n before (g ∷ gs) is = elim (met_at n (with_glyph before g) gs is) [
  | inl among ↦ elim (with_or_before (is_among g before) n g before refl among) [
    | inl earlier ↦ inl earlier
    | inr here ↦ inr (first_at n g gs here)
  ]
  | inr at ↦ inr (later_at n g gs at)
]

at_of_text : (n : ℕ) (gs : List ℕ) → is_among n (distinct gs) ≡ true → IsAt gs n
at_of_text n gs is = elim (met_at n [] gs is) [
  | inl none ↦ absurd cc
  | inr at ↦ at
]

among_at : (ns : List ℕ) (i n : ℕ) → i < length ns → slice_index ns i ≡ n → is_among n ns ≡ true
among_at [] i n below is = absurd (omega arith)
among_at (m ∷ ns) zero n below is = let same : (m == n) ≡ true = grind (arith, nat_tests, is) in rw same refl
among_at (m ∷ ns) (suc i) n below is = rw (among_at ns i n (omega arith) is) (or_last (m == n))

some_same : {X : Type 0} (x y : X) → ◌≡◌ {A = Option X} (Some x) (Some y) → x ≡ y
some_same x y is = cc

-- the fault of an outline is a defect of the line
outline_defect : (maker : ℕ → Fitter) (gs : List ℕ) (f : Fault) → outlines_by maker (distinct gs) ≡ Err f → IsGlyphDefect maker gs f
outline_defect maker gs f fails =
    let there = each-failed (λ g. fitted_outline (maker g) g) (distinct gs) f fails in
    let below : there.0 < length (distinct gs) = slice_get_within (distinct gs) there.0 there.1 there.2 in
    let number : slice_index (distinct gs) there.0 ≡ there.1 = some_same _ there.1 (sym (slice_get-get_or (distinct gs) there.0 0 below) ∙ there.2) in
    let at = at_of_text there.1 gs (among_at (distinct gs) there.0 there.1 below number) in
    (at.0, at.1, rw at.2 (faults-stand (maker there.1) there.1 f there.3))

-- what the outlines tell
font_of : {X : Type 0} (r : Result X Fault) (f : Fault) → as_font r ≡ Err (outcome.font f) → r ≡ Err f
font_of (Ok x) f was = absurd cc
font_of (Err g) f was = cc

not_of_job : {X : Type 0} (r : Result X JobFault) (f : Fault) → as_job r ≡ Err (outcome.font f) → ⊥
not_of_job (Ok x) f was = absurd cc
not_of_job (Err j) f was = absurd cc

pub job_of_test : {X : Type 0} (r : Result X JobFault) (j : JobFault) → as_job r ≡ Err (job j) → r ≡ Err j
job_of_test (Ok x) j was = absurd cc
job_of_test (Err i) j was = cc

pub not_of_font : {X : Type 0} (r : Result X Fault) (j : JobFault) → as_font r ≡ Err (job j) → ⊥
not_of_font (Ok x) j was = absurd cc
not_of_font (Err f) j was = absurd cc

pub outlines_tell_defect : (face : Face) (a : Job) (s : Fitter) (gs : List ℕ) (e : DrawFault) → setting_in face a ≡ Ok s
    → IfSome (refusal e) (λ r. outlines_tested s a.fit gs ≡ Err r) → IfSome (draw_font_fault e) (IsMadeDefect face a gs)
outlines_tell_defect face a s gs (draw.Font f) there fails =
    let points = asked_tested a.fit s gs in
    elim (was-err (as_job points) _ (outcome.font f) fails) [
      | inl first ↦ absurd (not_of_job points f first)
      | inr later ↦ inr (rw there (outline_defect (line_fitter s gs) gs f (font_of (outlines_in s gs) f later.rest)))
    ]
outlines_tell_defect face a s gs (draw.Job j) there fails = tt
outlines_tell_defect face a s gs draw.Memory there fails = tt

-- a refused extent is a refusal of the text by its font
pub extent_by_steps_tells : (face : Face) (a : Job) (s : Fitter) (os : List Outline) (j : JobFault) → is_bounded a.fit ≡ true
    → setting_in face a ≡ Ok s → outlines_in s (text_glyphs face.cmap a.text) ≡ Ok os
    → IsRefusal (steps_extent face a s (text_glyphs face.cmap a.text)) j → IsLineRefusal face a j
extent_by_steps_tells face a s os job_of.SizeRange bounded there made stands = absurd stands
extent_by_steps_tells face a s os job_of.TextLong bounded there made stands = absurd stands
extent_by_steps_tells face a s os job_of.EmptyPicture bounded there made stands = rw (bounded, there, made) stands
extent_by_steps_tells face a s os job_of.PictureLarge bounded there made stands = rw (bounded, there, made) stands
extent_by_steps_tells face a s os job_of.MarginRange bounded there made stands = absurd stands
extent_by_steps_tells face a s os job_of.WorkLarge bounded there made stands = absurd stands

-- the chords of the made glyphs are those of the definition
pub chords_made : (s : Fitter) (gs : List ℕ) (fs : List FittedGlyph) → AreFitted (line_fitter s gs) fs
    → fitted_numbers fs ≡ distinct gs → fitted_chords fs ≡ chords_in s gs
chords_made s gs fs fitted numbers =
    let maker = line_fitter s gs in
    sym (sum-map _ fs) ∙ ap (λ ns. sum_by (λ n. n) ns) (chords_are maker fs fitted ∙ ap (λ ns. map (λ g. glyph_chords (maker g) g) ns) numbers)
    ∙ sum-map (λ g. glyph_chords (maker g) g) (distinct gs)

-- what the points and the outlines are, together
pub outlines_pass : (s : Fitter) (a : Job) (gs : List ℕ) (os : List Outline)
    → asked_tested a.fit s gs ≡ Ok tt → outlines_in s gs ≡ Ok os
    → outlines_tested s a.fit gs ≡ Ok os
outlines_pass s a gs os few made = rw (few, made) refl

-- a test of the job finds no defect
pub line_tells_no_defect : (P : Fault → Type 0) (r : Result (Unit {0}) JobFault) (e : DrawFault)
    → IfSome (refusal e) (λ x. as_job r ≡ Err x) → IfSome (draw_font_fault e) P
line_tells_no_defect P r (draw.Font f) fails = absurd (not_of_job r f fails)
line_tells_no_defect P r (draw.Job j) fails = tt
line_tells_no_defect P r draw.Memory fails = tt

-- a stop at the points, or at an outline
pub points_stop_outlines : (s : Fitter) (how : Fit) (gs : List ℕ) (e : DrawFault)
    → IfSome (refusal e) (λ r. as_job (asked_tested how s gs) ≡ Err r)
    → IfSome (refusal e) (λ r. outlines_tested s how gs ≡ Err r)
points_stop_outlines s how gs (draw.Font f) fails = rw fails refl
points_stop_outlines s how gs (draw.Job j) fails = rw fails refl
points_stop_outlines s how gs draw.Memory fails = tt

pub outline_stops_outlines : (s : Fitter) (how : Fit) (gs : List ℕ) (e : FontFault)
    → as_job (asked_tested how s gs) ≡ Ok tt
    → IfSome (font_fault e) (λ f. outlines_in s gs ≡ Err f)
    → IfSome (refusal (draw_fault_of_font e)) (λ r. outlines_tested s how gs ≡ Err r)
outline_stops_outlines s how gs (font.Font f) few fails = rw (few, fails) refl
outline_stops_outlines s how gs font.Memory few fails = tt
