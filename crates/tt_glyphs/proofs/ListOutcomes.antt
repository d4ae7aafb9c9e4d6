-- The answer of a call for the bitmaps of a list, by the steps of the call.
use Rattle.std.proofs.Common.{◌≡◌, ◌∙◌, ap, inl, refl, ℕ, List, Result, Ok, Err}
use Rattle.std.specs.Prelude.{IfOk, IfSome, IsOkAnd}
use Rattle.tt_core.specs.declared.draw_fault.DrawFault.{DrawFault}
use Rattle.tt_core.specs.declared.draw_fault.DrawFault.TheVariants as draw
use Rattle.tt_core.specs.declared.fault.JobFault.{JobFault}
use Rattle.tt_core.specs.Directory.{HasNo}
use Rattle.tt_core.specs.Faults.{Fault}
use Rattle.tt_core.specs.Outcomes.{◌>>=◌, GivesUnless, IfTold, draw_font_fault, draw_job_fault}
use Rattle.tt_face.specs.Faces.{Face}
use Rattle.tt_fit.specs.declared.programs.Fit.{Fit}
use Rattle.tt_fit.specs.Fitting.{Fitter}
use Rattle.tt_fit.specs.outline.Outline.{Outline}
use Rattle.tt_metrics.specs.Metrics.{glyphs_of}
use Rattle.tt_strike.specs.Defects.{IsSettingDefect, TellsDefects}
use Rattle.tt_strike.specs.Makers.{job_at}
use Rattle.tt_strike.specs.Picture.{outlines_in, setting}
use Rattle.tt_strike.specs.Refusals.{as_font, as_job, refusal}
use Rattle.tt_glyphs.specs.Defects.{AreSound, IsListDefect, IsListRefusal, TellGlyphDefects}
use Rattle.tt_glyphs.specs.declared.tried.TriedList.{TriedList}
use Rattle.tt_glyphs.specs.Entries.{entries, known}
use Rattle.tt_glyphs.specs.Lists.{IsTriedList}
use Rattle.tt_glyphs.specs.Requests.{Bitmaps, GlyphJob, bitmaps_by, bitmaps_outcome, bitmaps_tested, edges_of_list_tested, request_begun, sound_outcome}
use Rattle.tt_glyphs.proofs.ListFacts.{begun_refused, edges_refused, entries_sound, entries_tell, outcome_begun, sound_begun}

-- a stop before the glyphs are drawn
pub stops : (face : Face) (a : GlyphJob) (e : DrawFault) → IfSome (refusal e) (λ r. request_begun face a ≡ Err r)
    → IfSome (refusal e) (λ r. bitmaps_outcome face a ≡ Err r)
stops face a (draw.Font f) fails = outcome_begun face a ∙ rw fails refl
stops face a (draw.Job j) fails = outcome_begun face a ∙ rw fails refl
stops face a draw.Memory fails = tt

pub stops_sound : (face : Face) (a : GlyphJob) (e : DrawFault) → IfSome (refusal e) (λ r. request_begun face a ≡ Err r)
    → IfSome (refusal e) (λ r. sound_outcome face a ≡ Err r)
stops_sound face a (draw.Font f) fails = sound_begun face a ∙ rw fails refl
stops_sound face a (draw.Job j) fails = sound_begun face a ∙ rw fails refl
stops_sound face a draw.Memory fails = tt

pub stops_tell : (face : Face) (a : GlyphJob) (e : DrawFault) → IfSome (refusal e) (λ r. request_begun face a ≡ Err r)
    → IfSome (draw_job_fault e) (IsListRefusal face a)
stops_tell face a (draw.Font f) fails = tt
stops_tell face a (draw.Job j) fails = begun_refused face a j fails
stops_tell face a draw.Memory fails = tt

-- a list whose glyphs are drawn
pub drawn_gives : (face : Face) (a : GlyphJob) (s : Fitter) (r : Result Bitmaps DrawFault) → request_begun face a ≡ Ok s
    → GivesUnless refusal (λ b. b) r (bitmaps_tested a.fit a.glyphs s) → GivesUnless refusal (λ b. b) r (bitmaps_outcome face a)
drawn_gives face a s (Ok b) begun gives = outcome_begun face a ∙ rw begun gives
drawn_gives face a s (Err (draw.Font f)) begun gives = outcome_begun face a ∙ rw begun gives
drawn_gives face a s (Err (draw.Job j)) begun gives = outcome_begun face a ∙ rw begun gives
drawn_gives face a s (Err draw.Memory) begun gives = tt

pub sound_gives : (face : Face) (a : GlyphJob) (s : Fitter) (os : List Outline) (r : Result Bitmaps DrawFault)
    → request_begun face a ≡ Ok s → outlines_in s (known s a.glyphs) ≡ Ok os
    → GivesUnless refusal (λ b. b) r (bitmaps_tested a.fit a.glyphs s) → GivesUnless refusal (λ b. b) r (sound_outcome face a)
sound_gives face a s os (Ok b) begun made gives = sound_begun face a ∙ rw (begun, made) gives
sound_gives face a s os (Err (draw.Font f)) begun made gives = sound_begun face a ∙ rw (begun, made) gives
sound_gives face a s os (Err (draw.Job j)) begun made gives = sound_begun face a ∙ rw (begun, made) gives
sound_gives face a s os (Err draw.Memory) begun made gives = tt

-- a refused glyph
pub refused_gives : (face : Face) (a : GlyphJob) (s : Fitter) (f : Fault) → request_begun face a ≡ Ok s
    → outlines_in s (known s a.glyphs) ≡ Err f → sound_outcome face a ≡ as_font (Err f)
refused_gives face a s f begun refused = sound_begun face a ∙ rw (begun, refused) refl

pub drawn_tells : (face : Face) (a : GlyphJob) (s : Fitter) (r : Result Bitmaps DrawFault) → request_begun face a ≡ Ok s
    → GivesUnless refusal (λ b. b) r (bitmaps_tested a.fit a.glyphs s) → IfTold draw_job_fault r (IsListRefusal face a)
drawn_tells face a s (Ok b) begun gives = tt
drawn_tells face a s (Err (draw.Font f)) begun gives = tt
drawn_tells face a s (Err (draw.Job j)) begun gives = edges_refused face a s j begun gives
drawn_tells face a s (Err draw.Memory) begun gives = tt

-- drawing finds no defect of the font
pub drawing_tells : {V : Type 0} (P : Fault → Type 0) (r : Result V DrawFault) → HasNo P → IfTold draw_font_fault r (λ _. ⊥)
    → TellsDefects draw_font_fault P r
drawing_tells P (Ok v) none sound = none
drawing_tells P (Err (draw.Font f)) none sound = absurd sound
drawing_tells P (Err (draw.Job j)) none sound = tt
drawing_tells P (Err draw.Memory) none sound = tt

-- the bitmaps of a list that is drawn
made_of : (tested : Result (Unit {0}) JobFault) (wanted b : Bitmaps) → (as_job tested >>= λ u. Ok wanted) ≡ Ok b → b ≡ wanted
made_of (Ok u) wanted b was = cc
made_of (Err j) wanted b was = absurd cc

entries_made : (how : Fit) (gs : List ℕ) (s : Fitter) (b : Bitmaps) → bitmaps_tested how gs s ≡ Ok b
    → b.entries ≡ entries how s gs
entries_made how gs s b was =
    let same = made_of (edges_of_list_tested how s (known s gs)) (bitmaps_by how gs s) b was in rw same refl

pub drawn_defects : (face : Face) (a : GlyphJob) (s : Fitter) (r : Result Bitmaps DrawFault) → setting face a.ppem a.fit ≡ Ok s
    → GivesUnless refusal (λ b. b) r (bitmaps_tested a.fit a.glyphs s)
    → IfOk r (λ b. IsOkAnd (setting face a.ppem a.fit) (λ s. TellGlyphDefects s a.glyphs b.entries))
drawn_defects face a s (Ok b) there gives =
    rw (there, entries_made a.fit a.glyphs s b gives) (entries_tell a.fit s a.glyphs)
drawn_defects face a s (Err e) there gives = tt

pub drawn_sound : (a : GlyphJob) (s : Fitter) (os : List Outline) (count : ℕ) (r : Result Bitmaps DrawFault)
    → glyphs_of s.metrics ≡ count → outlines_in s (known s a.glyphs) ≡ Ok os
    → GivesUnless refusal (λ b. b) r (bitmaps_tested a.fit a.glyphs s) → IfOk r (λ b. AreSound count b.entries)
drawn_sound a s os count (Ok b) same made gives =
    rw (entries_made a.fit a.glyphs s b gives, ← same) (entries_sound a.fit s a.glyphs os made)
drawn_sound a s os count (Err e) same made gives = tt

-- the fitter of a tried list has the metrics of the face
pub metrics_of : (face : Face) (a : GlyphJob) (s : Fitter) (l : TriedList) → IsTriedList face a s l → s.metrics ≡ face.metrics
metrics_of face a s l is = is.source.metrics ∙ ap (λ (f : Face). f.metrics) is.of

-- a defect of the tables and programs is one of the list
pub stops_defect : (face : Face) (a : GlyphJob) (e : DrawFault) → IfSome (draw_font_fault e) (IsSettingDefect face (job_at a.ppem a.fit))
    → IfSome (draw_font_fault e) (IsListDefect face a)
stops_defect face a (draw.Font f) stands = inl stands
stops_defect face a (draw.Job j) stands = tt
stops_defect face a draw.Memory stands = tt
