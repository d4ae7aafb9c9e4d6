-- A request for the bitmaps of a list, up to the test of its points.
use Rattle.std.proofs.Common.{◌≡◌, ◌∙◌, ap, refl, sym, ℕ, List, [], ◌∷◌, map, All, Option, Result, Ok, Err, arith}
use Rattle.std.specs.Prelude.{IfSome}
use Rattle.std.proofs.lemmas.List.Elements.{All-cons, All-head, All-tail}
use Rattle.tt_core.specs.declared.draw_fault.DrawFault.{DrawFault}
use Rattle.tt_core.specs.declared.draw_fault.DrawFault.TheVariants as draw
use Rattle.tt_core.specs.declared.fault.JobFault.{JobFault}
use Rattle.tt_core.specs.declared.font_fault.FontFault.{FontFault}
use Rattle.tt_core.specs.declared.font_fault.FontFault.TheVariants as font
use Rattle.tt_core.specs.Chains.{came-through}
use Rattle.tt_core.specs.Faults.{Fault}
use Rattle.tt_core.specs.Outcomes.{FontGives, draw_fault_of_font, draw_font_fault}
use Rattle.tt_face.specs.Faces.{Face, FaceInstance, glyphs_in}
use Rattle.tt_face.specs.Programs.{ProgramTables}
use Rattle.tt_fit.specs.declared.programs.Fit.{Fit}
use Rattle.tt_fit.specs.Fitting.{Fitter}
use Rattle.tt_fit.specs.Preparation.{fitter_of, prepared}
use Rattle.tt_glyf.specs.Loca.{Glyf}
use Rattle.tt_metrics.specs.Metrics.{Metrics}
use Rattle.tt_strike.specs.Job.{size_tested}
use Rattle.tt_strike.specs.Programs.{programs_in}
use Rattle.tt_strike.specs.Picture.{setting}
use Rattle.tt_strike.specs.Refusals.{as_job, job, refusal}
use Rattle.tt_glyphs.specs.declared.ruled.TriedGlyph.{TriedGlyph}
use Rattle.tt_glyphs.specs.Entries.{known}
use Rattle.tt_glyphs.specs.Requests.{GlyphJob, count_tested, fitter_for_request, points_of_list_tested, request_begun}
use Rattle.tt_glyphs.specs.Tried.{AreTriedBy, tried_glyph, tried_numbers}

pub size_stops : (face : Face) (a : GlyphJob) (j : JobFault) → size_tested a.ppem ≡ Err j → request_begun face a ≡ Err (job j)
unfolding request_begun
size_stops face a j fails = rw fails refl

pub count_stops : (face : Face) (a : GlyphJob) (j : JobFault) → size_tested a.ppem ≡ Ok tt → count_tested a.glyphs ≡ Err j
    → request_begun face a ≡ Err (job j)
unfolding request_begun
count_stops face a j sized fails = rw (sized, fails) refl

pub setting_stops : (face : Face) (a : GlyphJob) (e : FontFault) → size_tested a.ppem ≡ Ok tt → count_tested a.glyphs ≡ Ok tt
    → FontGives {X = Fitter} (λ f. f) (Err e) (setting face a.ppem a.fit)
    → IfSome (refusal (draw_fault_of_font e)) (λ r. request_begun face a ≡ Err r)
unfolding request_begun fitter_for_request
setting_stops face a (font.Font f) sized few fails = rw (sized, few, fails) refl
setting_stops face a font.Memory sized few fails = tt

pub points_stop : (face : Face) (a : GlyphJob) (s : Fitter) (e : DrawFault) → size_tested a.ppem ≡ Ok tt
    → count_tested a.glyphs ≡ Ok tt → setting face a.ppem a.fit ≡ Ok s
    → IfSome (refusal e) (λ r. as_job (points_of_list_tested a.fit s (known s a.glyphs)) ≡ Err r)
    → IfSome (refusal e) (λ r. request_begun face a ≡ Err r)
unfolding request_begun fitter_for_request
points_stop face a s (draw.Font f) sized few there fails = rw (sized, few, there, fails) refl
points_stop face a s (draw.Job j) sized few there fails = rw (sized, few, there, fails) refl
points_stop face a s draw.Memory sized few there fails = tt

pub begun_is : (face : Face) (a : GlyphJob) (s : Fitter) → size_tested a.ppem ≡ Ok tt → count_tested a.glyphs ≡ Ok tt
    → setting face a.ppem a.fit ≡ Ok s → as_job (points_of_list_tested a.fit s (known s a.glyphs)) ≡ Ok tt
    → request_begun face a ≡ Ok s
unfolding request_begun fitter_for_request
begun_is face a s sized few there points = rw (sized, few, there, points) refl

-- glyphs that are tried by the fitters of their numbers
abbrev of_number : (ℕ → Fitter) → ℕ → TriedGlyph
of_number maker n = tried_glyph (maker n) n

pub numbers_tried : (maker : ℕ → Fitter) (ns : List ℕ) → tried_numbers (map (of_number maker) ns) ≡ ns
numbers_tried maker [] = refl
numbers_tried maker (n ∷ ns) = rw (numbers_tried maker ns) refl

pub tried_themselves : (maker : ℕ → Fitter) (ns : List ℕ) → AreTriedBy maker (map (of_number maker) ns)
tried_themselves maker [] = refl
tried_themselves maker (n ∷ ns) = ap (λ (ts : List TriedGlyph). of_number maker n ∷ ts) (tried_themselves maker ns)

-- charging points finds no defect of the font
pub charging_tells : (P : Fault → Type 0) (tested : Result (Unit {0}) JobFault) (e : DrawFault)
    → IfSome (refusal e) (λ r. as_job tested ≡ Err r) → IfSome (draw_font_fault e) P
charging_tells P (Ok u) (draw.Font f) fails = absurd cc
charging_tells P (Err j) (draw.Font f) fails = absurd cc
charging_tells P tested (draw.Job j) fails = tt
charging_tells P tested draw.Memory fails = tt

-- the fitter of a face has its metrics and its size
of_setting : (m : Metrics) (tables : Glyf) (programs : ProgramTables) (i : Option FaceInstance) (ppem : ℕ) (how : Fit) (s : Fitter)
    → fitter_of m tables programs i ppem how ≡ Ok s → (s.metrics ≡ m) × (s.ppem ≡ ppem) × (s.instance ≡ i) × (s.tables ≡ tables)
unfolding fitter_of
of_setting m tables programs i ppem how s was =
    let by_hints = came-through (prepared m programs i ppem how) _ s was in
    let rest = by_hints.rest in
    let metrics : s.metrics ≡ m = cc in
    let size : s.ppem ≡ ppem = cc in
    let instance : s.instance ≡ i = cc in
    let glyphs : s.tables ≡ tables = cc in (metrics, size, instance, glyphs)

pub setting_source : (face : Face) (ppem : ℕ) (how : Fit) (s : Fitter) → setting face ppem how ≡ Ok s
    → (s.metrics ≡ face.metrics) × (s.ppem ≡ ppem) × (s.instance ≡ face.instance) × (glyphs_in face ≡ Ok s.tables)
unfolding setting
setting_source face ppem how s was =
    let by_tables = came-through (glyphs_in face) _ s was in
    let by_programs = came-through (programs_in face how) _ s by_tables.rest in
    let is = of_setting face.metrics by_tables.value by_programs.value face.instance ppem how s by_programs.rest in
    (is.0, is.1, is.2, by_tables.first ∙ ap Ok (sym is.3))

-- a fact of the numbers of some glyphs
pub numbers_hold : (P : ℕ → Type 0) (ts : List TriedGlyph) → All P (tried_numbers ts) → All (λ (t : TriedGlyph). P t.number) ts
numbers_hold P [] all = λ k d below. absurd (omega (arith, below))
numbers_hold P (t ∷ ts) all =
    All-cons (λ (z : TriedGlyph). P z.number) t ts (All-head P t.number (tried_numbers ts) all)
    (numbers_hold P ts (All-tail P t.number (tried_numbers ts) all))
