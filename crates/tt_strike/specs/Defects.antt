-- The defects that a call can meet in a font.
use Rattle.std.specs.Prelude.{◌≡◌, ◌<◌, List, ℕ, length, map, slice_index, Option, Result, Ok, Err, IsOkAnd, IfSome, Bool, true, false, ◌⊎◌}
use Rattle.tt_face.specs.declared.rules.Opening.{Opening}
use Rattle.tt_core.specs.Faults.{Fault}
use Rattle.tt_core.specs.Directory.{HasNo}
use Rattle.tt_face.specs.Defects.{IsGlyphTableDefect, HasProgramPastEnd}
use Rattle.tt_face.specs.Faces.{Face}
use Rattle.tt_face.specs.Instance.{Asked}
use Rattle.tt_fit.specs.declared.programs.Fit.{Fit}
use Rattle.tt_fit.specs.declared.programs.Fit.TheVariants as fit
use Rattle.tt_fit.specs.Defects.{IsOutlineDefect}
use Rattle.tt_fit.specs.DeltaCounting.{delta_limit}
use Rattle.tt_fit.specs.Fitting.{Fitter}
use Rattle.tt_fit.specs.Preparation.{prepared}
use Rattle.tt_line.specs.declared.extent.PictureExtent.{PictureExtent}
use Rattle.tt_line.specs.Layout.{Placement, depth_of, extent_by, rise_of, text_glyphs, IsRefusal}
use Rattle.tt_core.specs.declared.fault.JobFault.{JobFault}
use Rattle.tt_core.specs.declared.fault.JobFault.TheVariants as fault
use Rattle.tt_core.specs.Limits.{point_work_limit}
use Rattle.tt_advances.specs.Defects.{IsAdvanceDefect}
use Rattle.tt_advances.specs.Found.{advances_tested}
use Rattle.tt_advances.specs.Lines.{advance_extent}
use Rattle.tt_strike.specs.Job.{Job, IsFontDefect, IsTestRefusal}
use Rattle.tt_strike.specs.Programs.{programs_in}
use Rattle.tt_strike.specs.Refusals.{needs_font}
use Rattle.tt_strike.specs.Picture.{outlines_in, setting_in, shapes_in, steps_in, text_placed}
use Rattle.tt_picture.specs.Shapes.{crossings_in}
use Rattle.tt_strike.specs.Work.{chord_limit, chords_in, crossings_allowed, deltas_in, is_bounded, lays_after_glyphs, line_fitter, points_in, work_left}

-- a defect of one of some glyphs, or of a component reached from it, by the fitter of each
abbrev pub IsGlyphDefect : (ℕ → Fitter) → List ℕ → Fault → Type 0
IsGlyphDefect maker glyphs fault = (i : ℕ) × (i < length glyphs)
    × IsOutlineDefect (maker (slice_index glyphs i)) (slice_index glyphs i) fault

-- a defect of the programs' places; without fitting they are not read
abbrev pub IsProgramTableDefect : Face → Fit → Fault → Type 0
IsProgramTableDefect face fit.None fault = ⊥
IsProgramTableDefect face fit.Full fault = HasProgramPastEnd face.directory fault
IsProgramTableDefect face fit.Fallback fault = HasProgramPastEnd face.directory fault
IsProgramTableDefect face fit.Best fault = HasProgramPastEnd face.directory fault

-- this fault of the font program or the control value program at the size; with fallback and best it is recorded, and
-- no defect
abbrev pub IsPreparationDefect : Face → Job → Fault → Type 0
IsPreparationDefect face a fault = IsOkAnd (programs_in face a.fit)
    (λ programs. prepared face.metrics programs face.instance a.ppem a.fit ≡ Err fault)

-- a defect of the fitter's tables and programs
abbrev pub IsSettingDefect : Face → Job → Fault → Type 0
IsSettingDefect face a fault = IsGlyphTableDefect face fault
    ⊎ IsProgramTableDefect face a.fit fault ⊎ IsPreparationDefect face a fault

-- a defect that stops some glyphs from being made
abbrev pub IsMadeDefect : Face → Job → List ℕ → Fault → Type 0
IsMadeDefect face a glyphs fault = IsSettingDefect face a fault ⊎ IsOkAnd (setting_in face a)
    (λ s. IsGlyphDefect (line_fitter s glyphs) glyphs fault)

-- a defect that stops some glyphs from being laid out by their advances
abbrev pub IsUnitsDefect : Face → Job → List ℕ → Fault → Type 0
IsUnitsDefect face a glyphs fault = (lays_after_glyphs a.fit ≡ false) × IsAdvanceDefect face glyphs fault

-- a defect that stops some glyphs from being drawn
abbrev pub IsLineDefect : Face → Job → List ℕ → Fault → Type 0
IsLineDefect face a glyphs fault = IsMadeDefect face a glyphs fault ⊎ IsUnitsDefect face a glyphs fault

-- a defect of the tables needed for every text, of the instance, or of this text's glyphs
abbrev pub IsRunDefect : Opening → Option Asked → Job → List ℕ → Fault → Type 0
IsRunDefect r i a file fault = IsFontDefect (λ face a. IsLineDefect face a (text_glyphs face.cmap a.text)) r i a file fault

-- Ok means that there is no defect, and an error's fault is one
abbrev pub TellsDefects : {V E : Type 0} → (E → Option Fault) → (Fault → Type 0) → Result V E → Type 0
TellsDefects told IsOne (Ok v) = HasNo IsOne
TellsDefects told IsOne (Err e) = IfSome (told e) IsOne

-- the extent of a text's picture by the steps of its glyphs
abbrev pub steps_extent : Face → Job → Fitter → List ℕ → PictureExtent
steps_extent face a s gs =
    extent_by (steps_in face.metrics a.ppem s gs) a.margin (rise_of face.metrics a.ppem) (depth_of face.metrics a.ppem)

-- a fact of the extent of a text's picture: by the steps of its glyphs, once they are made, or by advances, once they are
-- found
abbrev pub HasExtentBy : Bool → Face → Job → (PictureExtent → Type 0) → Type 0
HasExtentBy true face a P =
    let gs = text_glyphs face.cmap a.text in
    IsOkAnd (setting_in face a) (λ s. IsOkAnd (outlines_in s gs) (λ outlines. P (steps_extent face a s gs)))
HasExtentBy false face a P =
    let gs = text_glyphs face.cmap a.text in
    IsOkAnd (advances_tested face gs) (λ u. P (advance_extent face a.ppem a.margin gs))

abbrev pub HasExtent : Face → Job → (PictureExtent → Type 0) → Type 0
HasExtent face a P = HasExtentBy (lays_after_glyphs a.fit) face a P

-- the headers of some glyphs state too many points or deltas, each glyph once
abbrev pub AsksTooMuch : Fitter → List ℕ → Type 0
AsksTooMuch s gs = (point_work_limit < points_in s gs) ⊎ (delta_limit < deltas_in s gs)

-- the glyphs of a job do
abbrev pub HasTooManyPoints : Face → Job → List ℕ → Type 0
HasTooManyPoints face a gs = IsOkAnd (setting_in face a) (λ s. AsksTooMuch s gs)

-- some glyphs have too many chords, each glyph once
abbrev pub HasTooManyChords : Face → Job → List ℕ → Type 0
HasTooManyChords face a gs = IsOkAnd (setting_in face a) (λ s. chord_limit < chords_in s gs)

-- the glyphs of a line that is laid out have more crossings, in its picture and outside, than the work that remains
-- allows
abbrev pub CrossesTooOften : Face → Job → Placement → Type 0
CrossesTooOften face a line = IsOkAnd (setting_in face a) (λ s. IsOkAnd (shapes_in s line)
    (λ glyphs. crossings_allowed (work_left s (map (λ g. g.0) line.glyphs)) < crossings_in glyphs))

-- a line that is laid out has too many edges to be drawn, or these cross too often
abbrev pub HasTooManyEdges : Face → Job → Placement → Type 0
HasTooManyEdges face a line = HasTooManyChords face a (map (λ g. g.0) line.glyphs) ⊎ CrossesTooOften face a line

-- the job's work is bounded, and its text exceeds it: the points or deltas of its glyphs, or the edges of its line
abbrev pub IsTooMuchWork : Face → Job → Type 0
IsTooMuchWork face a = (is_bounded a.fit ≡ true) × (HasTooManyPoints face a (text_glyphs face.cmap a.text)
    ⊎ IsOkAnd (text_placed face a) (HasTooManyEdges face a))

-- the fact by the font that refuses a job: the extent of its picture, or the work of its glyphs
abbrev pub IsFontRefusal : Face → Job → JobFault → Type 0
IsFontRefusal face a fault.EmptyPicture = HasExtent face a (λ e. IsRefusal e fault.EmptyPicture)
IsFontRefusal face a fault.PictureLarge = HasExtent face a (λ e. IsRefusal e fault.PictureLarge)
IsFontRefusal face a fault.WorkLarge = IsTooMuchWork face a
IsFontRefusal face a j = ⊥

-- the fact that refuses a line, with its font or without
abbrev pub IsRefusedLine : Bool → Face → Job → JobFault → Type 0
IsRefusedLine true face a j = IsFontRefusal face a j
IsRefusedLine false face a j = IsTestRefusal a j

abbrev pub IsLineRefusal : Face → Job → JobFault → Type 0
IsLineRefusal face a j = IsRefusedLine (needs_font j) face a j
