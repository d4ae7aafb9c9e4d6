-- The defects reported by the steps of a drawing, joined.
use Rattle.std.proofs.Common.{◌≡◌, ◌∙◌, sym, ℕ, true, false, List, map, Option, Result, Ok, Err, inl, inr, subst}
use Rattle.std.specs.Prelude.{IsOkAnd, IfSome}
use Rattle.tt_core.specs.Chains.{came-through, was-err}
use Rattle.tt_face.specs.declared.rules.Opening.{Opening}
use Rattle.tt_core.specs.Faults.{Fault}
use Rattle.tt_core.specs.Directory.{HasNo}
use Rattle.tt_core.specs.declared.font_fault.FontFault.{FontFault}
use Rattle.tt_core.specs.declared.font_fault.FontFault.TheVariants as fault
use Rattle.tt_fit.specs.Fitting.{Fitter}
use Rattle.tt_fit.specs.declared.programs.Fit.{Fit}
use Rattle.tt_face.specs.Programs.{ProgramTables}
use Rattle.tt_fit.specs.Preparation.{prepared, fitter_of}
use Rattle.tt_core.specs.Outcomes.{FontGives, draw_font_fault, each, font_fault}
use Rattle.tt_glyf.specs.Loca.{Glyf}
use Rattle.tt_line.specs.Layout.{text_glyphs}
use Rattle.tt_metrics.specs.Metrics.{Metrics}
use Rattle.tt_strike.specs.Job.{Job}
use Rattle.tt_face.specs.Defects.{IsGlyphTableDefect}
use Rattle.tt_face.specs.Instance.{Asked, IsDefectAtInstance, face_at_instance}
use Rattle.tt_advances.specs.Defects.{IsAdvanceDefect}
use Rattle.tt_core.specs.declared.draw_fault.DrawFault.{DrawFault}
use Rattle.tt_core.specs.declared.draw_fault.DrawFault.TheVariants as draw
use Rattle.tt_strike.specs.Defects.{IsProgramTableDefect, IsSettingDefect, IsGlyphDefect, IsLineDefect, IsMadeDefect, IsRunDefect}
use Rattle.tt_strike.specs.Work.{is_bounded, line_fitter}
use Rattle.tt_face.specs.Faces.{Face, FaceInstance}
use Rattle.tt_strike.specs.Programs.{programs_in}
use Rattle.tt_picture.specs.Shapes.{glyph_shape}
use Rattle.tt_strike.specs.Picture.{setting_in}
use Rattle.tt_picture.specs.Pixels.{Shape}
use Rattle.tt_strike.proofs.Drawn.{defect_of_line, no_defect_of_line}

-- a report about a fitter, with the fit of the job
pub failed_by : {fit : Fit} (m : Metrics) (tables : Glyf) (programs : ProgramTables) (i : Option FaceInstance) (ppem : ℕ) (asked : Fit)
    (e : FontFault) → FontGives {X = Fitter} (λ f. f) (Err e) (fitter_of m tables programs i ppem fit) → fit ≡ asked
    → FontGives {X = Fitter} (λ f. f) (Err e) (fitter_of m tables programs i ppem asked)
failed_by m tables programs i ppem asked e fails same =
    let P : Fit → Type 0 = λ fit. FontGives {X = Fitter} (λ f. f) (Err e) (fitter_of m tables programs i ppem fit) in
    subst P same fails

pub made_by : {fit : Fit} (m : Metrics) (tables : Glyf) (programs : ProgramTables) (i : Option FaceInstance) (ppem : ℕ) (asked : Fit)
    (s : Fitter) → fitter_of m tables programs i ppem fit ≡ Ok s → fit ≡ asked
    → fitter_of m tables programs i ppem asked ≡ Ok s
made_by m tables programs i ppem asked s made same =
    let P : Fit → Type 0 = λ fit. fitter_of m tables programs i ppem fit ≡ Ok s in subst P same made

-- a fitter without a result has the fault of its programs
preparation-fault : (m : Metrics) (tables : Glyf) (programs : ProgramTables) (i : Option FaceInstance) (ppem : ℕ) (how : Fit) (f : Fault)
    → fitter_of m tables programs i ppem how ≡ Err f → prepared m programs i ppem how ≡ Err f
unfolding fitter_of
preparation-fault m tables programs i ppem how f fails = elim (was-err (prepared m programs i ppem how) _ f fails) [
  | inl preparing ↦ preparing
  | inr later ↦ let never = later.rest in absurd (cc)
]

-- a fault of preparing the programs is a defect of the fitter
pub preparing_tells : (face : Face) (a : Job) (tables : Glyf) (programs : ProgramTables)
    → programs_in face a.fit ≡ Ok programs → (e : FontFault) → FontGives {X = Fitter} (λ f. f) (Err e)
    (fitter_of face.metrics tables programs face.instance a.ppem a.fit) → IfSome (font_fault e) (IsSettingDefect face a)
preparing_tells face a tables programs there (fault.Font f) fails =
    inr (inr (rw there (preparation-fault face.metrics tables programs face.instance a.ppem a.fit f fails)))
preparing_tells face a tables programs there fault.Memory fails = tt

-- a fitter with a result has programs without a fault
prepared-without-fault : (m : Metrics) (tables : Glyf) (programs : ProgramTables) (i : Option FaceInstance) (ppem : ℕ) (how : Fit)
    (s : Fitter) (f : Fault) → fitter_of m tables programs i ppem how ≡ Ok s
    → prepared m programs i ppem how ≡ Err f → ⊥
unfolding fitter_of
prepared-without-fault m tables programs i ppem how s f made fails =
    let by_hints = came-through (prepared m programs i ppem how) _ s made in
    let first = by_hints.first in
    absurd (cc)

pub no_setting_defect : (face : Face) (a : Job) (tables : Glyf) (programs : ProgramTables) (s : Fitter)
    → HasNo (IsGlyphTableDefect face) → HasNo (IsProgramTableDefect face a.fit)
    → programs_in face a.fit ≡ Ok programs → fitter_of face.metrics tables programs face.instance a.ppem a.fit ≡ Ok s
    → HasNo (IsSettingDefect face a)
no_setting_defect face a tables programs s good kept there made = λ fault defect. elim defect [
  | inl of_tables ↦ good fault of_tables
  | inr (inl of_programs) ↦ kept fault of_programs
  | inr (inr preparing) ↦
      let P : Result ProgramTables Fault → Type 0 = λ r. IsOkAnd r
      (λ t. prepared face.metrics t face.instance a.ppem a.fit ≡ Err fault) in
      prepared-without-fault face.metrics tables programs face.instance a.ppem a.fit s fault made (subst P there preparing)
]

-- a glyph's fault is one of the line
pub glyph_tells : {X : Type 0} (view : X → List Shape) (face : Face) (a : Job) (s : Fitter) (gs : List (ℕ × ℕ))
    → setting_in face a ≡ Ok s → (e : FontFault) → FontGives view (Err e)
    (each (glyph_shape (line_fitter s (map (λ g. g.0) gs))) gs)
    → IfSome (font_fault e) (IsMadeDefect face a (map (λ g. g.0) gs))
glyph_tells view face a s gs there (fault.Font f) fails = inr (rw there
    (defect_of_line (line_fitter s (map (λ g. g.0) gs)) gs f fails))
glyph_tells view face a s gs there fault.Memory fails = tt

pub no_line_defect : (face : Face) (a : Job) (s : Fitter) (gs : List (ℕ × ℕ)) (shapes : List Shape)
    → setting_in face a ≡ Ok s → HasNo (IsSettingDefect face a) → each (glyph_shape (line_fitter s (map (λ g. g.0) gs))) gs
    ≡ Ok shapes
    → HasNo (IsMadeDefect face a (map (λ g. g.0) gs))
no_line_defect face a s gs shapes there good made = λ fault defect. elim defect [
  | inl of_setting ↦ good fault of_setting
  | inr glyph ↦
      let P : Result Fitter Fault → Type 0 = λ r. IsOkAnd r
      (λ s. IsGlyphDefect (line_fitter s (map (λ g. g.0) gs)) (map (λ g. g.0) gs) fault) in
      no_defect_of_line (line_fitter s (map (λ g. g.0) gs)) gs shapes made fault (subst P there glyph)
]

-- a stop in opening the fitter is a defect of the line
pub setting_tells : (face : Face) (a : Job) (gs : List ℕ) (e : FontFault) → IfSome (font_fault e)
    (IsSettingDefect face a) → IfSome (font_fault e) (IsMadeDefect face a gs)
setting_tells face a gs (fault.Font f) stands = inl stands
setting_tells face a gs fault.Memory stands = tt

-- with best, a defect of the line is one of its glyphs
pub made_tells : (face : Face) (a : Job) (gs : List ℕ) (e : DrawFault) → IfSome (draw_font_fault e) (IsMadeDefect face a gs)
    → IfSome (draw_font_fault e) (IsLineDefect face a gs)
made_tells face a gs (draw.Font f) stands = inl stands
made_tells face a gs (draw.Job j) stands = tt
made_tells face a gs draw.Memory stands = tt

pub made_sound : (face : Face) (a : Job) (gs : List ℕ) → is_bounded a.fit ≡ true → HasNo (IsMadeDefect face a gs)
    → HasNo (IsLineDefect face a gs)
made_sound face a gs bounded none = λ fault defect. elim defect [
  | inl made ↦ none fault made
  | inr units ↦ let never : true ≡ false = sym bounded ∙ units.0 in absurd cc
]

-- with other fits it is one of the advances, or of the glyphs
pub units_tell : (face : Face) (a : Job) (gs : List ℕ) (e : DrawFault) → is_bounded a.fit ≡ false
    → IfSome (draw_font_fault e) (IsAdvanceDefect face gs) → IfSome (draw_font_fault e) (IsLineDefect face a gs)
units_tell face a gs (draw.Font f) other stands = inr (other, stands)
units_tell face a gs (draw.Job j) other stands = tt
units_tell face a gs draw.Memory other stands = tt

pub both_sound : (face : Face) (a : Job) (gs : List ℕ) → HasNo (IsMadeDefect face a gs) → HasNo (IsAdvanceDefect face gs)
    → HasNo (IsLineDefect face a gs)
both_sound face a gs made advances = λ fault defect. elim defect [
  | inl one ↦ made fault one
  | inr units ↦ advances fault units.1
]

-- a defect of the line is one of the font
pub no_run_defect : (r : Opening) (i : Option Asked) (a : Job) (file : List ℕ) (face : Face) (gs : List ℕ)
    → face_at_instance file r i ≡ Ok face → HasNo (IsDefectAtInstance file r i) → gs ≡ text_glyphs face.cmap a.text
    → HasNo (IsLineDefect face a gs) → HasNo (IsRunDefect r i a file)
no_run_defect r i a file face gs there good glyphs none = λ fault defect. elim defect [
  | inl of_face ↦ good fault of_face
  | inr of_line ↦
      let P : Result Face Fault → Type 0 = λ o. IsOkAnd o (λ face. IsLineDefect face a
      (text_glyphs face.cmap a.text) fault) in
      none fault (rw glyphs (subst P there of_line))
]

pub line_tells : (r : Opening) (i : Option Asked) (a : Job) (file : List ℕ) (face : Face) (gs : List ℕ) (f : Fault)
    → face_at_instance file r i ≡ Ok face → gs ≡ text_glyphs face.cmap a.text → IsLineDefect face a gs f → IsRunDefect r i a file f
line_tells r i a file face gs f there glyphs stands = inr (rw there (rw (← glyphs) stands))
