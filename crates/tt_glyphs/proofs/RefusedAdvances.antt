-- A glyph whose advance is refused at an instance without HVAR has no outline, so glyphs that are made have advances.
use Rattle.std.proofs.Common.{◌≡◌, ◌∙◌, refl, sym, subst, ℕ, Bool, true, false, not, ◌&&◌, List, Option, Some, None, Result, Ok, Err, slice_index, inl, inr}
use Rattle.std.specs.Prelude.{IsOkAnd, is_some}
use Rattle.std.proofs.lemmas.Option.{slice_get-get_or, slice_get_within}
use Rattle.tt_advances.specs.Defects.{IsAdvanceDefect, RefusesOne}
use Rattle.tt_advances.specs.Found.{glyph_units, units_by}
use Rattle.tt_core.specs.Chains.{came-through, was-err}
use Rattle.tt_core.specs.Directory.{HasNo}
use Rattle.tt_core.specs.Faults.{Fault}
use Rattle.tt_face.specs.Faces.{Face, FaceInstance, glyphs_in}
use Rattle.tt_fit.proofs.Standing.{faults-stand}
use Rattle.tt_fit.proofs.WorkApart.{work-is-apart}
use Rattle.tt_fit.specs.Fitting.{Fitter, begun_glyph, fitted_outline}
use Rattle.tt_fit_variation.specs.Advance.{advance_without_hvar, deltas_of}
use Rattle.tt_glyf.specs.GlyphData.{glyph_data_of}
use Rattle.tt_glyf.specs.Loca.{Glyf}
use Rattle.tt_glyphs.proofs.ListBegun.{setting_source}
use Rattle.tt_glyphs.proofs.ListFacts.{sound_begun}
use Rattle.tt_glyphs.specs.Defects.{IsListDefect}
use Rattle.tt_glyphs.specs.Listed.{known_of}
use Rattle.tt_glyphs.specs.Requests.{Bitmaps, GlyphJob, fitter_for_request, request_begun, request_tested, sound_outcome}
use Rattle.tt_metrics.specs.Metrics.{Metrics, advance_of, glyphs_of}
use Rattle.tt_strike.proofs.Placed.{of-font}
use Rattle.tt_strike.proofs.Setting.{maker_alike}
use Rattle.tt_strike.specs.Defects.{IsMadeDefect}
use Rattle.tt_strike.specs.Job.{Job}
use Rattle.tt_strike.specs.Makers.{job_at}
use Rattle.tt_strike.specs.Picture.{setting, setting_in}
use Rattle.tt_strike.specs.Refusals.{as_font, as_job}
use Rattle.tt_strike.specs.Work.{line_fitter}

-- the glyph's own bytes and its deltas are read before its outline is begun
refused_outline : (i : FaceInstance) (s : Fitter) (g advance : ℕ) (f : Fault) → s.instance ≡ Some i
    → advance_without_hvar i.gvar i.coordinates s.tables g advance ≡ Err f → fitted_outline s g ≡ Err f
unfolding advance_without_hvar fitted_outline begun_glyph
refused_outline i s g advance f is refused = elim (was-err (glyph_data_of s.tables g) _ f refused) [
  | inl bytes ↦ rw bytes refl
  | inr later ↦ elim (was-err (deltas_of i.gvar i.coordinates g later.value) _ f later.rest) [
    | inl deltas ↦ rw (later.first, is, deltas) refl
    | inr never ↦ let bad = never.rest in absurd cc
  ]
]

by_data : (there : Bool) (i : FaceInstance) (m : Metrics) (s : Fitter) (g : ℕ) (f : Fault) → not there ≡ true → s.instance ≡ Some i
    → units_by there i m s.tables g ≡ Err f → fitted_outline s g ≡ Err f
by_data true i m s g f finds is refused = absurd cc
by_data false i m s g f finds is refused = refused_outline i s g (advance_of m g) f is refused

not_made : (o : Option FaceInstance) (m : Metrics) (s : Fitter) (g : ℕ) (f : Fault) → is_some o && not (is_some m.advances) ≡ true
    → s.instance ≡ o → glyph_units o m s.tables g ≡ Err f → fitted_outline s g ≡ Err f
unfolding glyph_units
not_made None m s g f finds is refused = absurd cc
not_made (Some i) m s g f finds is refused = by_data (is_some m.advances) i m s g f finds is refused

-- so glyphs without a defect have advances without one
pub advances_made : (face : Face) (a : Job) (s : Fitter) (gs : List ℕ) → setting_in face a ≡ Ok s → HasNo (IsMadeDefect face a gs)
    → HasNo (IsAdvanceDefect face gs)
advances_made face a s gs there none = λ f defect. elim defect.1 [
  | inl tables ↦ none f (inl (inl tables))
  | inr refused ↦
      let source = setting_source face a.ppem a.fit s there in
      let P : Result Glyf Fault → Type 0 = λ r. IsOkAnd r (λ t. RefusesOne (glyph_units face.instance face.metrics t) gs f) in
      let one = subst P source.3 refused in
      let g = one.1 in
      let t = line_fitter s gs g in
      let alike = work-is-apart s t (maker_alike s gs g) in
      let fails : glyph_units face.instance face.metrics t.tables g ≡ Err f = rw alike.tables one.3 in
      let outline = not_made face.instance face.metrics t g f defect.0 (alike.instance ∙ source.2) fails in
      let below = slice_get_within gs one.0 g one.2 in
      let read = slice_get-get_or gs one.0 0 below in
      let there_is = one.2 in
      let number : slice_index gs one.0 ≡ g = cc in
      none f (inr (rw there (one.0, below, rw number (faults-stand t g f outline))))
]

-- a list that is made has a fitter
sound_setting : (face : Face) (a : GlyphJob) (b : Bitmaps) → sound_outcome face a ≡ Ok b → (s : Fitter) × (setting face a.ppem a.fit ≡ Ok s)
unfolding request_begun fitter_for_request
sound_setting face a b was =
    let begun = came-through (request_begun face a) _ b (sym (sound_begun face a) ∙ was) in
    let tested = came-through (as_job (request_tested a)) _ begun.value begun.first in
    let there = came-through (as_font (setting face a.ppem a.fit)) _ begun.value tested.rest in
    (there.value, of-font (setting face a.ppem a.fit) there.value there.first)

pub list_advances : (face : Face) (a : GlyphJob) (b : Bitmaps) → sound_outcome face a ≡ Ok b → HasNo (IsListDefect face a)
    → HasNo (IsAdvanceDefect face (known_of (glyphs_of face.metrics) a.glyphs))
list_advances face a b was none =
    let set = sound_setting face a b was in
    advances_made face (job_at a.ppem a.fit) set.0 (known_of (glyphs_of face.metrics) a.glyphs) set.1 none
