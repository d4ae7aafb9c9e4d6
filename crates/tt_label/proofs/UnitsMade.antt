-- A text whose glyphs are fitted or made before its rows are laid out.
use Rattle.std.proofs.Common.{◌≡◌, ◌∙◌, refl, sym, ap, ℕ, ℤ, ◌+◌, ◌≤◌, true, false, List, [], ◌∷◌, length, map, Vec, Global, Option, None, Some, Result, Ok, Err, inl, inr, arith}
use Rattle.std.proofs.lemmas.List.{length-map}
use Rattle.std.proofs.lemmas.List.Elements.{All-cons, All-head, All-nil, All-tail}
use Rattle.std.proofs.lemmas.List.Sums.{sum_by-cons}
use Rattle.std.specs.List.{flat_map, sum_by}
use Rattle.std.specs.Prelude.{All, IfSome}
use Rattle.tt_advances.specs.Found.{advances_tested}
use Rattle.tt_advances.specs.Lines.{advance_step}
use Rattle.tt_core.specs.declared.draw_fault.DrawFault.{DrawFault}
use Rattle.tt_core.specs.Chains.{came-through, was-err}
use Rattle.tt_core.specs.declared.font_fault.FontFault.{FontFault}
use Rattle.tt_core.specs.declared.font_fault.FontFault.TheVariants as fault
use Rattle.tt_core.specs.Faults.{Fault}
use Rattle.tt_core.specs.Limits.{text_limit}
use Rattle.tt_core.specs.declared.fault.JobFault.{JobFault}
use Rattle.tt_core.specs.Outcomes.{◌>>=◌, IfTold, draw_fault_of_font, font_fault}
use Rattle.tt_face.specs.Faces.{Face}
use Rattle.tt_fit.specs.Fitting.{Fitter}
use Rattle.tt_fit.specs.outline.Outline.{Outline}
use Rattle.tt_label.specs.Gathered.{gathered, unit_step, units_glyphs, units_in, units_made}
use Rattle.tt_label_rows.specs.Units.{all_glyphs, stepped_lines, stepped_units, text_units, unit_glyphs}
use Rattle.tt_label.proofs.Joined.{each_short}
use Rattle.tt_metrics.specs.Metrics.{Metrics}
use Rattle.tt_rows.specs.Rows.{one_at_least}
use Rattle.tt_line.specs.Layout.{Placement}
use Rattle.tt_picture.specs.Glyphs.{Glyph}
use Rattle.tt_picture.specs.Steps.{step_by}
use Rattle.tt_rows.specs.declared.unit.RowUnit.{RowUnit}
use Rattle.tt_label.specs.Begun.{begun_outcome}
use Rattle.tt_strike.specs.Fitted.{outlines_made}
use Rattle.tt_strike.specs.Job.{Job, tested}
use Rattle.tt_strike.specs.Made.{AreMade, shapes_made}
use Rattle.tt_strike.specs.Picture.{advance_with, outlines_tested, setting_in}
use Rattle.tt_strike.specs.Refusals.{Refused, as_font, font, job, refusal}
use Rattle.tt_strike.specs.Strikes.{SizedFace, job_by, job_with}
use Rattle.tt_strike.specs.Work.{is_bounded}
use Rattle.tt_strike.proofs.Stopped.{stops}

-- the steps of the units
pub bounded_step : (face : Face) (a : Job) (s : Fitter) → is_bounded a.fit ≡ true
    → units_in face a s ≡ stepped_lines face.metrics (step_by face.metrics a.ppem (advance_with s (units_glyphs face a))) (text_units face.cmap a.text)
bounded_step face a s is = rw is refl

pub unbounded_step : (face : Face) (a : Job) (s : Fitter) → is_bounded a.fit ≡ false
    → units_in face a s ≡ stepped_lines face.metrics (advance_step face a.ppem) (text_units face.cmap a.text)
unbounded_step face a s is = rw is refl

-- where the making of the glyphs stops
no_units : (face : Face) (a : Job) (r : Refused) → is_bounded a.fit ≡ true → outlines_made face a.ppem a.fit (units_glyphs face a) ≡ Err r
    → units_made face a ≡ Err r
no_units face a r bounded fails = elim (was-err (as_font (setting_in face a)) _ r fails) [
  | inl first ↦ rw (bounded, first) refl
  | inr later ↦ rw (bounded, later.first, later.rest) refl
]

pub outlines_stop_units : (face : Face) (a : Job) (e : DrawFault) → is_bounded a.fit ≡ true
    → IfSome (refusal e) (λ r. outlines_made face a.ppem a.fit (units_glyphs face a) ≡ Err r)
    → IfSome (refusal e) (λ r. units_made face a ≡ Err r)
outlines_stop_units face a e bounded =
    stops e (outlines_made face a.ppem a.fit (units_glyphs face a)) (units_made face a) (λ r fails. no_units face a r bounded fails)

pub outlines_make_units : (face : Face) (a : Job) (s : Fitter) (os : List Outline) → is_bounded a.fit ≡ true → setting_in face a ≡ Ok s
    → outlines_tested s a.fit (units_glyphs face a) ≡ Ok os → units_made face a ≡ Ok s
outlines_make_units face a s os bounded there made = rw (bounded, there, made) refl

-- the same where work is not bounded
broke : (face : Face) (a : Job) (r : Refused) → is_bounded a.fit ≡ false → advances_tested face (units_glyphs face a) ≡ Ok tt
    → shapes_made face a (gathered (units_glyphs face a)) ≡ Err r → units_made face a ≡ Err r
broke face a r unbounded found fails = elim (was-err (as_font (setting_in face a)) _ r fails) [
  | inl first ↦ rw (unbounded, found, first) refl
  | inr later ↦ rw (unbounded, found, later.first, later.rest) refl
]

-- advances that are not found
not_found : (face : Face) (a : Job) (f : Fault) → is_bounded a.fit ≡ false → advances_tested face (units_glyphs face a) ≡ Err f
    → units_made face a ≡ Err (font f)
not_found face a f unbounded fails = rw (unbounded, fails) refl

pub units_stop_units : (face : Face) (a : Job) (e : FontFault) → is_bounded a.fit ≡ false
    → IfSome (font_fault e) (λ f. advances_tested face (units_glyphs face a) ≡ Err f)
    → IfSome (refusal (draw_fault_of_font e)) (λ r. units_made face a ≡ Err r)
units_stop_units face a (fault.Font f) unbounded fails = not_found face a f unbounded fails
units_stop_units face a fault.Memory unbounded fails = tt

pub shapes_stop_units : (face : Face) (a : Job) (e : DrawFault) → is_bounded a.fit ≡ false → advances_tested face (units_glyphs face a) ≡ Ok tt
    → IfSome (refusal e) (λ r. shapes_made face a (gathered (units_glyphs face a)) ≡ Err r)
    → IfSome (refusal e) (λ r. units_made face a ≡ Err r)
shapes_stop_units face a e unbounded found =
    stops e (shapes_made face a (gathered (units_glyphs face a))) (units_made face a) (λ r fails. broke face a r unbounded found fails)

pub shapes_make_units : (face : Face) (a : Job) (gs : List Glyph) → is_bounded a.fit ≡ false → advances_tested face (units_glyphs face a) ≡ Ok tt
    → (made : AreMade face a (gathered (units_glyphs face a)) gs) → units_made face a ≡ Ok made.setting
shapes_make_units face a gs unbounded found made = rw (unbounded, found, made.opened, made.few, made.fitted, made.seldom) refl

-- rows whose advances are found
pub rows_found : (face : Face) (ppem : ℕ) (ls lines : List (List RowUnit))
    → (advances_tested face (all_glyphs ls) >>= λ u. Ok (stepped_lines face.metrics (advance_step face ppem) ls)) ≡ Ok lines
    → (advances_tested face (all_glyphs ls) ≡ Ok tt) × (lines ≡ stepped_lines face.metrics (advance_step face ppem) ls)
rows_found face ppem ls lines found =
    let both = came-through (advances_tested face (all_glyphs ls)) _ lines found in
    let last = both.rest in
    let same : stepped_lines face.metrics (advance_step face ppem) ls ≡ lines = cc in (both.first, sym same)

-- lines with steps are as long as those without
length_stepped : (m : Metrics) (step : ℕ → ℤ → ℕ) (us : List RowUnit) → length (stepped_units m step us) ≡ length us
length_stepped m step [] = refl
length_stepped m step (u ∷ us) = let rest = length_stepped m step us in omega (arith, rest)

abbrev its : List (Vec RowUnit Global) → List (List RowUnit)
its ls = map (λ (v : Vec RowUnit Global). v.items) ls

-- the same lengths
abbrev lengths : List (List RowUnit) → List ℕ
lengths ls = map (λ (us : List RowUnit). length us) ls

lengths_stepped : (m : Metrics) (step : ℕ → ℤ → ℕ) (ls : List (List RowUnit)) → lengths (stepped_lines m step ls) ≡ lengths ls
lengths_stepped m step [] = refl
lengths_stepped m step (us ∷ ls) = rw (length_stepped m step us, lengths_stepped m step ls) refl

-- facts of the lengths of lines
short_of : (ls : List (Vec RowUnit Global)) → All (λ (n : ℕ). n ≤ text_limit) (lengths (its ls)) → All (λ (v : Vec RowUnit Global). length v.items ≤ text_limit) ls
short_of [] all = All-nil (λ (v : Vec RowUnit Global). length v.items ≤ text_limit)
short_of (l ∷ ls) all =
    All-cons (λ (v : Vec RowUnit Global). length v.items ≤ text_limit) l ls
    (All-head (λ (n : ℕ). n ≤ text_limit) (length l.items) (lengths (its ls)) all)
    (short_of ls (All-tail (λ (n : ℕ). n ≤ text_limit) (length l.items) (lengths (its ls)) all))

to_short : (ls : List (Vec RowUnit Global)) → All (λ (v : Vec RowUnit Global). length v.items ≤ text_limit) ls → All (λ (n : ℕ). n ≤ text_limit) (lengths (its ls))
to_short [] all = All-nil (λ (n : ℕ). n ≤ text_limit)
to_short (l ∷ ls) all =
    let P : Vec RowUnit Global → Type 0 = λ v. length v.items ≤ text_limit in
    All-cons (λ (n : ℕ). n ≤ text_limit) (length l.items) (lengths (its ls)) (All-head P l ls all) (to_short ls (All-tail P l ls all))

rows_of_lengths : (ls : List (Vec RowUnit Global)) → sum_by (λ (v : Vec RowUnit Global). one_at_least (length v.items)) ls ≡ sum_by one_at_least (lengths (its ls))
rows_of_lengths [] = refl
rows_of_lengths (l ∷ ls) =
    sum_by-cons (λ (v : Vec RowUnit Global). one_at_least (length v.items)) l ls ∙ ap (λ n. one_at_least (length l.items) + n) (rows_of_lengths ls)
    ∙ sym (sum_by-cons one_at_least (length l.items) (lengths (its ls)))

pub lines_as_short : (m : Metrics) (step : ℕ → ℤ → ℕ) (ls ms : List (Vec RowUnit Global)) → its ms ≡ stepped_lines m step (its ls)
    → length (flat_map (λ (v : Vec RowUnit Global). v.items) ls) ≤ text_limit → All (λ (v : Vec RowUnit Global). length v.items ≤ text_limit) ms
lines_as_short m step ls ms are few =
    let same : lengths (its ms) ≡ lengths (its ls) = ap lengths are ∙ lengths_stepped m step (its ls) in
    short_of ms (rw same (to_short ls (each_short (λ (v : Vec RowUnit Global). v.items) ls text_limit few)))

pub rows_as_few : (m : Metrics) (step : ℕ → ℤ → ℕ) (ls ms : List (Vec RowUnit Global)) → its ms ≡ stepped_lines m step (its ls)
    → sum_by (λ (v : Vec RowUnit Global). one_at_least (length v.items)) ls ≤ text_limit
    → sum_by (λ (v : Vec RowUnit Global). one_at_least (length v.items)) ms ≤ text_limit
rows_as_few m step ls ms are few =
    let same : lengths (its ms) ≡ lengths (its ls) = ap lengths are ∙ lengths_stepped m step (its ls) in
    let all : sum_by (λ (v : Vec RowUnit Global). one_at_least (length v.items)) ms ≡ sum_by (λ (v : Vec RowUnit Global). one_at_least (length v.items)) ls =
    rows_of_lengths ms ∙ ap (sum_by one_at_least) same ∙ sym (rows_of_lengths ls) in
    omega (arith, all, few)

pub count_as_many : (m : Metrics) (step : ℕ → ℤ → ℕ) (ls ms : List (Vec RowUnit Global)) → its ms ≡ stepped_lines m step (its ls) → length ms ≡ length ls
count_as_many m step ls ms are =
    sym (length-map ms (λ (v : Vec RowUnit Global). v.items)) ∙ ap length are ∙ length-map (its ls) (stepped_units m step) ∙ length-map ls (λ (v : Vec RowUnit Global). v.items)

-- a job that is refused by its tests, and one that is not
pub untested_begins : (face : Face) (a : Job) (j : JobFault) → tested a ≡ Err j → begun_outcome face a ≡ Err (job j)
untested_begins face a j fails = rw fails refl

pub begun_stops : {X : Type 0} (face : Face) (a : Job) (result : Result X DrawFault) → tested a ≡ Ok tt
    → IfTold refusal result (λ r. units_made face a ≡ Err r) → IfTold refusal result (λ r. begun_outcome face a ≡ Err r)
begun_stops face a (Ok x) passes fails = tt
begun_stops face a (Err e) passes fails = stops e (units_made face a) (begun_outcome face a) (λ r told. rw (passes, told) refl) fails

-- the gathered line of a job whose text is dropped
pub stopped_textless : (z : SizedFace) (text : List ℕ) (margin k : ℕ) (gs : List ℕ) (l : Placement) (e : DrawFault) → k ≡ margin → l ≡ gathered gs
    → IfSome (refusal e) (λ r. shapes_made z.face (job_with z k) l ≡ Err r)
    → IfSome (refusal e) (λ r. shapes_made z.face (job_by z text margin) (gathered gs) ≡ Err r)
stopped_textless z text margin k gs l e at one fails = rw one at fails

-- steps change no glyph
same_glyphs : (m : Metrics) (step : ℕ → ℤ → ℕ) (us : List RowUnit) → unit_glyphs (stepped_units m step us) ≡ unit_glyphs us
same_glyphs m step [] = refl
same_glyphs m step (u ∷ us) = ap (λ (gs : List ℕ). u.glyph ∷ gs) (same_glyphs m step us)

stepped_glyphs : (m : Metrics) (step : ℕ → ℤ → ℕ) (ls : List (List RowUnit)) → all_glyphs (stepped_lines m step ls) ≡ all_glyphs ls
stepped_glyphs m step [] = refl
stepped_glyphs m step (us ∷ ls) = rw (same_glyphs m step us, stepped_glyphs m step ls) refl

pub units_in_glyphs : (face : Face) (a : Job) (s : Fitter) → all_glyphs (units_in face a s) ≡ units_glyphs face a
units_in_glyphs face a s = stepped_glyphs face.metrics (unit_step face a s) (text_units face.cmap a.text)

-- glyphs that are made for a tested job
pub begun_is : (face : Face) (a : Job) (s : Fitter) → tested a ≡ Ok tt → units_made face a ≡ Ok s → begun_outcome face a ≡ Ok s
begun_is face a s passes made = rw (passes, made) refl
