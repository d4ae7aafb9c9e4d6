-- Which refusals of a job need the font.
use Rattle.std.proofs.Common.{◌≡◌, ℕ, ◌&&◌, ◌||◌, nat_lt, if◌then◌else◌, Bool, true, false, List, length, map, Option, Result, Ok, Err, inl, inr, ap, refl}
use Rattle.tt_advances.specs.Found.{advances_tested}
use Rattle.tt_advances.specs.Lines.{advance_steps}
use Rattle.tt_face.specs.declared.rules.Opening.{Opening}
use Rattle.tt_core.specs.declared.fault.JobFault.{JobFault}
use Rattle.tt_core.specs.declared.fault.JobFault.TheVariants as fault
use Rattle.tt_core.specs.Chains.{was-err}
use Rattle.tt_core.specs.Faults.{Fault}
use Rattle.tt_core.specs.Limits.{font_limit, margin_limit, point_work_limit, size_limit}
use Rattle.tt_core.specs.Outcomes.{◌>>=◌}
use Rattle.tt_fit.specs.declared.programs.Fit.{Fit}
use Rattle.tt_fit.specs.Fitting.{Fitter}
use Rattle.tt_line.specs.Layout.{Placement, depth_of, extent_by, laid_at, rise_of, text_glyphs, within_limits}
use Rattle.tt_line.specs.declared.extent.PictureExtent.{PictureExtent}
use Rattle.tt_metrics.specs.Metrics.{Metrics}
use Rattle.tt_picture.specs.Pixels.{Shape}
use Rattle.tt_strike.specs.Job.{Job, margin_tested, size_tested, tested, text_tested}
use Rattle.tt_strike.specs.Picture.{drawn, edges_tested, line_shapes, outlines_in, outlines_tested, pictured, pictured_by, placed_by_steps, placed_by_units, points_tested, setting_in, shapes_in, steps_in, text_placed}
use Rattle.tt_strike.specs.Refusals.{Refused, as_font, as_job, job, large, needs_font}
use Rattle.tt_face.specs.Faces.{Face}
use Rattle.tt_face.specs.Instance.{Asked, face_at_instance}
use Rattle.tt_strike.specs.Work.{asked_tested, chord_limit, chords_in, counts_tested, deltas_in, edges_limited, is_bounded, lays_after_glyphs, points_in, work_tested}
use Rattle.tt_render_streams.specs.File.{as_file}
use Rattle.tt_render_run.specs.Run.{run_outcome}
use Rattle.tt_render_run.proofs.Files.{no_image}

-- one test with one refusal
of_test : (need fails : Bool) (why j : JobFault) → needs_font why ≡ need
    → ◌≡◌ {A = Result (Unit {0}) JobFault} (if fails then Err why else Ok tt) (Err j) → needs_font j ≡ need
of_test need true why j is refused = let same : why ≡ j = cc in rw (← same) is
of_test need false why j is refused = absurd cc

size_early : (ppem : ℕ) (j : JobFault) → size_tested ppem ≡ Err j → needs_font j ≡ false
unfolding size_tested
size_early ppem j refused = of_test false (nat_lt ppem 1 || nat_lt size_limit ppem) fault.SizeRange j refl refused

margin_early : (margin : ℕ) (j : JobFault) → margin_tested margin ≡ Err j → needs_font j ≡ false
unfolding margin_tested
margin_early margin j refused = of_test false (nat_lt margin_limit margin) fault.MarginRange j refl refused

text_early : (text : List ℕ) (j : JobFault) → text_tested text ≡ Err j → needs_font j ≡ false
unfolding text_tested
text_early text j refused = of_test false _ fault.TextLong j refl refused

-- the tests before the font is read
pub tested_early : (a : Job) (j : JobFault) → tested a ≡ Err j → needs_font j ≡ false
unfolding tested
tested_early a j refused = elim (was-err (size_tested a.ppem) _ j refused) [
  | inl first ↦ size_early a.ppem j first
  | inr later ↦ elim (was-err (margin_tested a.margin) _ j later.rest) [
    | inl second ↦ margin_early a.margin j second
    | inr last ↦ text_early a.text j last.rest
  ]
]

-- the tests by the font
job_alone : {X : Type 0} (r : Result X JobFault) (j : JobFault) → as_job r ≡ Err (job j) → r ≡ Err j
job_alone (Ok x) j refused = absurd cc
job_alone (Err k) j refused = let same : k ≡ j = cc in ap Err same

no_font : {X : Type 0} (r : Result X Fault) (j : JobFault) → as_font r ≡ Err (job j) → ⊥
no_font (Ok x) j refused = cc
no_font (Err f) j refused = cc

work_late : (how : Fit) (limit work : ℕ) (j : JobFault) → as_job (work_tested how limit work) ≡ Err (job j)
    → needs_font j ≡ true
unfolding work_tested
work_late how limit work j refused =
    of_test true (is_bounded how && nat_lt limit work) fault.WorkLarge j refl (job_alone _ j refused)

-- points first, and then deltas
counts_late : (how : Fit) (points deltas : ℕ) (j : JobFault) → as_job (counts_tested how points deltas) ≡ Err (job j)
    → needs_font j ≡ true
unfolding counts_tested
counts_late how points deltas j refused =
    elim (was-err (work_tested how point_work_limit points) _ j (job_alone _ j refused)) [
      | inl first ↦ work_late _ _ _ j (ap as_job first)
      | inr later ↦ work_late _ _ _ j (ap as_job later.rest)
    ]

by_limits : {X : Type 0} (empty tall : Bool) (e : X) (j : JobFault)
    → ◌≡◌ {A = Result X JobFault} (if empty then Err fault.EmptyPicture else (if tall then Err fault.PictureLarge else Ok e))
    (Err j) → needs_font j ≡ true
by_limits true tall e j refused = let same : fault.EmptyPicture ≡ j = cc in rw (← same) refl
by_limits false true e j refused = let same : fault.PictureLarge ≡ j = cc in rw (← same) refl
by_limits false false e j refused = absurd cc

extent_late : (e : PictureExtent) (j : JobFault) → within_limits e ≡ Err j → needs_font j ≡ true
unfolding within_limits
extent_late e j refused = by_limits _ _ _ j refused

laid_late : (m : Metrics) (ppem margin : ℕ) (gs steps : List ℕ) (j : JobFault) → laid_at m ppem margin gs steps ≡ Err j
    → needs_font j ≡ true
laid_late m ppem margin gs steps j refused =
    let e = extent_by steps margin (rise_of m ppem) (depth_of m ppem) in
    elim (was-err (within_limits e) _ j refused) [
      | inl first ↦ extent_late e j first
      | inr none ↦ let placed = none.rest in absurd cc
    ]

edges_late : (s : Fitter) (a : Job) (line : Placement) (glyphs : List Shape) (j : JobFault)
    → as_job (edges_tested s a line glyphs) ≡ Err (job j) → needs_font j ≡ true
unfolding edges_limited
edges_late s a line glyphs j refused =
    let gs = map (λ (g : ℕ × ℕ). g.0) line.glyphs in
    elim (was-err (work_tested a.fit chord_limit (chords_in s gs)) _ j (job_alone _ j refused)) [
      | inl first ↦ work_late _ _ _ j (ap as_job first)
      | inr later ↦ work_late _ _ _ j (ap as_job later.rest)
    ]

shapes_late : (s : Fitter) (a : Job) (line : Placement) (j : JobFault) → line_shapes s a line ≡ Err (job j)
    → needs_font j ≡ true
shapes_late s a line j refused = elim (was-err (as_job (points_tested s a line)) _ (job j) refused) [
  | inl first ↦ counts_late _ _ _ j first
  | inr later ↦ elim (was-err (as_font (shapes_in s line)) _ (job j) later.rest) [
    | inl second ↦ absurd (no_font (shapes_in s line) j second)
    | inr made ↦ elim (was-err (as_job (edges_tested s a line made.value)) _ (job j) made.rest) [
      | inl third ↦ edges_late s a line made.value j third
      | inr none ↦ let made = none.rest in absurd cc
    ]
  ]
]

drawn_late : (face : Face) (a : Job) (line : Placement) (j : JobFault) → drawn face a line ≡ Err (job j)
    → needs_font j ≡ true
unfolding drawn
drawn_late face a line j refused = elim (was-err (as_font (setting_in face a)) _ (job j) refused) [
  | inl first ↦ absurd (no_font (setting_in face a) j first)
  | inr set ↦ elim (was-err (line_shapes set.value a line) _ (job j) set.rest) [
    | inl second ↦ shapes_late set.value a line j second
    | inr none ↦ let made = none.rest in absurd cc
  ]
]

outlines_late : (s : Fitter) (how : Fit) (gs : List ℕ) (j : JobFault) → outlines_tested s how gs ≡ Err (job j)
    → needs_font j ≡ true
outlines_late s how gs j refused =
    elim (was-err (as_job (asked_tested how s gs)) _ (job j) refused) [
      | inl first ↦ counts_late how (points_in s gs) (deltas_in s gs) j first
      | inr later ↦ absurd (no_font (outlines_in s gs) j later.rest)
    ]

steps_late : (face : Face) (a : Job) (j : JobFault) → placed_by_steps face a ≡ Err (job j) → needs_font j ≡ true
unfolding placed_by_steps
steps_late face a j refused =
    let gs = text_glyphs face.cmap a.text in
    elim (was-err (as_font (setting_in face a)) _ (job j) refused) [
      | inl first ↦ absurd (no_font (setting_in face a) j first)
      | inr set ↦ elim (was-err (outlines_tested set.value a.fit gs) _ (job j) set.rest) [
        | inl second ↦ outlines_late set.value a.fit gs j second
        | inr made ↦ laid_late face.metrics a.ppem a.margin gs (steps_in face.metrics a.ppem set.value gs) j (job_alone _ j made.rest)
      ]
    ]

units_late : (face : Face) (a : Job) (j : JobFault) → placed_by_units face a ≡ Err (job j) → needs_font j ≡ true
unfolding placed_by_units
units_late face a j refused =
    let gs = text_glyphs face.cmap a.text in
    elim (was-err (as_font (advances_tested face gs)) _ (job j) refused) [
      | inl first ↦ absurd (no_font (advances_tested face gs) j first)
      | inr found ↦ laid_late face.metrics a.ppem a.margin gs (advance_steps face a.ppem gs) j (job_alone _ j found.rest)
    ]

placed_late : (bounded : Bool) (face : Face) (a : Job) (j : JobFault)
    → (if bounded then placed_by_steps face a else placed_by_units face a) ≡ Err (job j) → needs_font j ≡ true
placed_late true face a j refused = steps_late face a j refused
placed_late false face a j refused = units_late face a j refused

pictured_late : (face : Face) (a : Job) (j : JobFault) → pictured_by face a ≡ Err (job j) → needs_font j ≡ true
unfolding pictured_by text_placed
pictured_late face a j refused =
    elim (was-err (text_placed face a) _ (job j) refused) [
      | inl first ↦ placed_late (lays_after_glyphs a.fit) face a j first
      | inr later ↦ drawn_late face a later.value j later.rest
    ]

font_late : (big : Bool) (made : Result (List ℕ) Refused) (j : JobFault)
    → (if big then Err large else made) ≡ Err (job j) → made ≡ Err (job j)
font_late true made j refused = absurd cc
font_late false made j refused = refused

-- a job that passed its tests is refused by the font
pub run_late : (r : Opening) (i : Option Asked) (a : Job) (file : List ℕ) (j : JobFault) → tested a ≡ Ok tt
    → run_outcome r i a file ≡ Err (job j) → needs_font j ≡ true
unfolding run_outcome pictured
run_late r i a file j good refused =
    let behind = rw good at refused in
    let image = as_font (face_at_instance file r i) >>= λ face. pictured_by face a in
    let made = font_late (nat_lt font_limit (length file)) (as_file image) j behind in
    elim (was-err (as_font (face_at_instance file r i)) _ (job j) (no_image image (job j) made)) [
      | inl first ↦ absurd (no_font (face_at_instance file r i) j first)
      | inr later ↦ pictured_late later.value a j later.rest
    ]
