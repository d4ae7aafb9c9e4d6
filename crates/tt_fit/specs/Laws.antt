-- Laws of the definitions. An outline has no defect, and a fault names one. A fit that falls back gives the outline of
-- its programs alone, or the one without programs. The last laws give the dropout rules.
use Rattle.std.specs.Prelude.{◌≡◌, ◌≢◌, ℕ, ◌≤◌, ◌==◌, Bool, true, false, ℤ, List, [], ◌∷◌, ◌++◌, length, All, Option, Some, None, Result, Ok, Err, refl}
use Rattle.tt_core.specs.Directory.{HasNo}
use Rattle.tt_core.specs.Faults.{Fault}
use Rattle.tt_core.specs.Limits.{work_limit}
use Rattle.tt_core.specs.Outcomes.{◌>>=◌}
use Rattle.tt_core.specs.Scales.{scaled_by}
use Rattle.tt_core.specs.declared.halves.Halves.TheVariants as halves
use Rattle.tt_core.specs.declared.scaling.Scale.{Scale}
use Rattle.tt_fit_hinting.specs.machine.Parts.{Parts}
use Rattle.tt_fit_hinting.specs.machine.Work.{enough, spent}
use Rattle.tt_deltas.specs.Glyphs.{VariedPoints}
use Rattle.tt_deltas.specs.Units.{moved_sixty_fourths, moved_units}
use Rattle.tt_deltas.specs.declared.varied.Varied.{Varied}
use Rattle.tt_glyf.specs.Loca.{Glyf, glyph_offset}
use Rattle.tt_glyf.specs.Raw.{Raw, SimpleGlyph, simple}
use Rattle.tt_glyf.specs.declared.raw.RawPoint.{RawPoint}
use Rattle.tt_metrics.specs.Metrics.{Metrics}
use Rattle.tt_state.specs.declared.graphics_state.ScanControl.{ScanControl}
use Rattle.tt_state.specs.declared.point.Point.{Point}
use Rattle.tt_fit.specs.declared.programs.Fit.{Fit}
use Rattle.tt_fit.specs.declared.programs.Fit.TheVariants as fit
use Rattle.tt_fit.specs.Default.{simple_program}
use Rattle.tt_fit.specs.Defects.{IsOutlineDefect}
use Rattle.tt_fit.specs.Dropouts.{default_rules, none_ran, scan_rules, scan_left, dropouts_of}
use Rattle.tt_fit.specs.Fallback.{never, where_refused, is_program_fault}
use Rattle.tt_fit.specs.ControlValues.{places_of}
use Rattle.tt_fit.specs.Fitting.{Begun, Fitter, with_hinting, size_of, start, default_units, default_phantom, ends_of, fine_phantom, begun_glyph, outline_at, glyph_work, unfitted_fault, fitted_outline, after_glyph}
use Rattle.tt_fit_hinting.specs.Hinting.{off, ready, run_of}
use Rattle.tt_fit_hinting.specs.GlyphZone.{untouched, phantom_zone, glyph_zone}
use Rattle.tt_fit_outline.specs.Outline.{Outline, PhantomPoints}
use Rattle.tt_face.specs.Faces.{FaceInstance}
use Rattle.tt_face.specs.Programs.{ProgramTables}
use Rattle.tt_fit.specs.Preparation.{font_program, control_value_program, with_definitions, begun_at, left_at, work_at, fitter_with, fitter_of}
use Rattle.tt_fit.specs.Rules.{falls_back}
use Rattle.tt_fit_outline.specs.Scaling.{scaled_outline}
use Rattle.tt_fit_outline.specs.Units.{with_units}
use Rattle.tt_fit_outline.specs.declared.rules.Scaling.TheVariants as scaling
use Rattle.tt_fit_variation.specs.Advance.{deltas_of}
use Rattle.tt_fit_variation.specs.Ends.{moved_ends}
use Rattle.tt_fit_variation.specs.Fine.{fine_scaled}
use Rattle.tt_fit.specs.Work.{IsEnough}

-- a glyph with an outline has no defect, nor do its components
abbrev pub OutlinesAreWhole : Type 0
OutlinesAreWhole = (s : Fitter) (g : ℕ) (o : Outline) → fitted_outline s g ≡ Ok o → HasNo (IsOutlineDefect s g)

-- a fault in place of an outline names a defect of the glyph or its components
abbrev pub OutlineFaultsStand : Type 0
OutlineFaultsStand = (s : Fitter) (g : ℕ) (fault : Fault) → fitted_outline s g ≡ Err fault → IsOutlineDefect s g fault

-- the fitter by the programs alone, by the rules of a fit: the first fault is the answer
abbrev pub fitter_by_programs : Metrics → Glyf → ProgramTables → Option FaceInstance → ℕ → Fit → Result Fitter Fault
fitter_by_programs m tables programs instance ppem how =
    left_at m programs instance ppem how >>= λ hinting. Ok (fitter_with m tables instance ppem how hinting never None)

-- the fitter without programs
abbrev pub fitter_without_programs : Metrics → Glyf → Option FaceInstance → ℕ → Fit → Fitter
fitter_without_programs m tables instance ppem how = fitter_with m tables instance ppem how off never None

-- the outline of a glyph of a font at a size by its programs alone
abbrev pub outline_by_programs : Metrics → Glyf → ProgramTables → Option FaceInstance → ℕ → Fit → ℕ → Result Outline Fault
outline_by_programs m tables programs instance ppem how g =
    fitter_by_programs m tables programs instance ppem how >>= λ s. fitted_outline s g

-- the outline of this glyph without programs
abbrev pub outline_without_programs : Metrics → Glyf → Option FaceInstance → ℕ → Fit → ℕ → Result Outline Fault
outline_without_programs m tables instance ppem how g =
    fitted_outline (fitter_without_programs m tables instance ppem how) g

-- the job's remaining work covers the programs of a glyph
abbrev pub HasWork : Fitter → ℕ → Type 0
HasWork s g = IsEnough (glyph_work s g s.work)

-- the job's budget covers the font's two programs
abbrev pub ProgramsHaveWork : Metrics → ProgramTables → Option FaceInstance → ℕ → Fit → Type 0
ProgramsHaveWork m programs instance ppem how = IsEnough (work_at m programs instance ppem how)

-- with a fit that falls back, a glyph that has an outline by the programs has this one
abbrev pub FallbackFits : Type 0
FallbackFits = (m : Metrics) (tables : Glyf) (programs : ProgramTables) (instance : Option FaceInstance) (ppem : ℕ) (how : Fit)
    (s : Fitter) (g : ℕ)
    (o : Outline) → falls_back how ≡ true → fitter_of m tables programs instance ppem how ≡ Ok s
    → ProgramsHaveWork m programs instance ppem how → HasWork s g
    → outline_by_programs m tables programs instance ppem how g ≡ Ok o
    → (fitted_outline s g ≡ Ok o) × (unfitted_fault s g ≡ None)

-- after a program's fault the glyph is made as without programs, and the fault is recorded
abbrev pub FallbackScales : Type 0
FallbackScales = (m : Metrics) (tables : Glyf) (programs : ProgramTables) (instance : Option FaceInstance) (ppem : ℕ) (how : Fit)
    (s : Fitter) (g : ℕ)
    (fault : Fault) → falls_back how ≡ true → fitter_of m tables programs instance ppem how ≡ Ok s
    → ProgramsHaveWork m programs instance ppem how → HasWork s g
    → outline_by_programs m tables programs instance ppem how g ≡ Err fault → is_program_fault fault ≡ true
    → (fitted_outline s g ≡ outline_without_programs m tables instance ppem how g) × (unfitted_fault s g ≡ Some fault)

-- any other fault is unchanged
abbrev pub FallbackRefuses : Type 0
FallbackRefuses = (m : Metrics) (tables : Glyf) (programs : ProgramTables) (instance : Option FaceInstance) (ppem : ℕ) (how : Fit)
    (alone s : Fitter) (g : ℕ) (fault : Fault) → falls_back how ≡ true
    → fitter_of m tables programs instance ppem how ≡ Ok s
    → ProgramsHaveWork m programs instance ppem how → HasWork s g
    → fitter_by_programs m tables programs instance ppem how ≡ Ok alone → fitted_outline alone g ≡ Err fault
    → is_program_fault fault ≡ false
    → (fitted_outline s g ≡ Err fault) × (unfitted_fault s g ≡ None)

-- a fault of the font program or the control value program makes every glyph unfitted
abbrev pub FallbackUnfitsAll : Type 0
FallbackUnfitsAll = (m : Metrics) (tables : Glyf) (programs : ProgramTables) (instance : Option FaceInstance) (ppem : ℕ)
    (how : Fit) (s : Fitter)
    (g : ℕ) (fault : Fault) → falls_back how ≡ true → fitter_of m tables programs instance ppem how ≡ Ok s
    → ProgramsHaveWork m programs instance ppem how → fitter_by_programs m tables programs instance ppem how ≡ Err fault
    → (fitted_outline s g ≡ outline_without_programs m tables instance ppem how g) × (unfitted_fault s g ≡ Some fault)

-- with another fit no glyph is unfitted
abbrev pub OthersNeverFallBack : Type 0
OthersNeverFallBack = (m : Metrics) (tables : Glyf) (programs : ProgramTables) (instance : Option FaceInstance) (ppem : ℕ)
    (how : Fit)
    (s : Fitter) (g : ℕ) → falls_back how ≡ false → fitter_of m tables programs instance ppem how ≡ Ok s
    → unfitted_fault s g ≡ None

-- the programs of Fallback alone give what Full gives
abbrev pub FullIsByPrograms : Type 0
FullIsByPrograms = (m : Metrics) (tables : Glyf) (programs : ProgramTables) (instance : Option FaceInstance) (ppem : ℕ)
    → fitter_of m tables programs instance ppem fit.Full ≡ fitter_by_programs m tables programs instance ppem fit.Fallback

-- Fallback without programs gives what None gives
abbrev pub NoneIsWithoutPrograms : Type 0
NoneIsWithoutPrograms = (m : Metrics) (tables : Glyf) (programs : ProgramTables) (instance : Option FaceInstance) (ppem : ℕ)
    → fitter_of m tables programs instance ppem fit.None ≡ Ok (fitter_without_programs m tables instance ppem fit.Fallback)

-- With every fit but Best no program can read the instance: the two programs begin as by the default, but for the control
-- values that cvar moves
abbrev pub OthersReadNoInstance : Type 0
OthersReadNoInstance = (m : Metrics) (programs : ProgramTables) (i : FaceInstance) (ppem : ℕ) (how : Fit)
    → how ≢ fit.Best → begun_at m programs (Some i) ppem how
    ≡ record (begun_at m programs None ppem how) { cvt = (begun_at m programs (Some i) ppem how).cvt }

-- with Best the programs read the place on each axis
abbrev pub BestReadsPlaces : Type 0
BestReadsPlaces = (m : Metrics) (programs : ProgramTables) (i : FaceInstance) (ppem : ℕ)
    → (begun_at m programs (Some i) ppem fit.Best).instance ≡ places_of (Some i)

-- Work. Unbounded work is always enough, and refuses no glyph.
abbrev pub UnboundedIsEnough : Type 0
UnboundedIsEnough = (s : Fitter) (g : ℕ) → glyph_work s g None ≡ enough None

-- with every fit but Best a job's work is unbounded, and so is that of the font's two programs
abbrev pub OthersAreUnbounded : Type 0
OthersAreUnbounded = (m : Metrics) (tables : Glyf) (programs : ProgramTables) (instance : Option FaceInstance) (ppem : ℕ)
    (how : Fit) (s : Fitter)
    → how ≢ fit.Best → fitter_of m tables programs instance ppem how ≡ Ok s
    → (s.work ≡ None) × ProgramsHaveWork m programs instance ppem how

-- with unbounded work the fitter after a glyph is unchanged
abbrev pub UnboundedStays : Type 0
UnboundedStays = (s : Fitter) (g : ℕ) → s.work ≡ None → HasWork s g × (after_glyph s g ≡ s)

-- a glyph whose programs exceed the remaining work is made without them, and has that fault
abbrev pub SpentWorkUnfits : Type 0
SpentWorkUnfits = (s : Fitter) (g : ℕ) (fault : Fault) → s.fallback ≡ where_refused
    → glyph_work s g s.work ≡ spent fault
    → (fitted_outline s g ≡ outline_at (with_hinting s off) s.levels g) × (unfitted_fault s g ≡ Some fault)

-- where the font's two programs exceed the job's work, every glyph is made without programs, and has that fault
abbrev pub SpentProgramsUnfitAll : Type 0
SpentProgramsUnfitAll = (m : Metrics) (tables : Glyf) (programs : ProgramTables) (instance : Option FaceInstance) (ppem : ℕ)
    (how : Fit) (s : Fitter)
    (g : ℕ) (fault : Fault) → falls_back how ≡ true → fitter_of m tables programs instance ppem how ≡ Ok s
    → work_at m programs instance ppem how ≡ spent fault
    → (fitted_outline s g ≡ outline_without_programs m tables instance ppem how g) × (unfitted_fault s g ≡ Some fault)

-- at most this much work remains
abbrev pub Fewer : ℕ → Option ℕ → Type 0
Fewer left after = (rest : ℕ) × (after ≡ Some rest) × (rest ≤ left)

-- with Best a job begins with at most its limit, and no glyph increases the remaining work
abbrev pub BestIsBounded : Type 0
BestIsBounded = (m : Metrics) (tables : Glyf) (programs : ProgramTables) (instance : Option FaceInstance) (ppem : ℕ) (s : Fitter)
    → fitter_of m tables programs instance ppem fit.Best ≡ Ok s → Fewer work_limit s.work

abbrev pub WorkFalls : Type 0
WorkFalls = (s : Fitter) (g left : ℕ) → s.work ≡ Some left → Fewer left (after_glyph s g).work

-- Originals. A point that a program measures in font units is its place there, scaled
abbrev pub IsScaledBy : Scale → Point → Type 0
IsScaledBy scale p = (p.org_x ≡ scaled_by scale p.units_x) × (p.org_y ≡ scaled_by scale p.units_y)

-- the points of a simple glyph by the font's default, scaled, with its phantom points
abbrev pub scaled_simple : Fitter → ℕ → SimpleGlyph → Result Outline Fault
scaled_simple s g d = start s (default_phantom s d.x_min g) g
    >>= scaled_outline (size_of s) (glyph_offset s.tables g) d.points d.ends

-- by the font's default, so are all points that a simple glyph's program measures
abbrev pub OriginalsAreScaled : Type 0
OriginalsAreScaled = (s : Fitter) (g : ℕ) (d : SimpleGlyph) (o : Outline) (grid : PhantomPoints)
    → s.scaling ≡ scaling.Rounded → scaled_simple s g d ≡ Ok o
    → All (IsScaledBy (size_of s).scale) (glyph_zone (simple_program s g d).units o grid)

-- without an instance a simple glyph is begun for this program; unless it is empty, with these points
pub record BeginsScaled (s : Fitter) (g : ℕ) (d : SimpleGlyph) (b : Begun) : Type 0 where
  pub program : b.program ≡ simple_program s g d
  pub outline : (length d.code == 0) ≡ false → scaled_simple s g d ≡ Ok b.outline

abbrev pub DefaultsBeginScaled : Type 0
DefaultsBeginScaled = (s : Fitter) (g : ℕ) (d : SimpleGlyph) (b : Begun)
    → s.instance ≡ None → begun_glyph s g (simple d) ≡ Ok b → BeginsScaled s g d b

-- At an instance the places in font units are whole units. The points themselves are scaled from 64ths of a unit
abbrev pub moved_place : Scale → Varied → Varied → ℤ × ℤ
moved_place scale x y = (fine_scaled scale (moved_sixty_fourths x), fine_scaled scale (moved_sixty_fourths y))

abbrev pub moved_original : Scale → Bool → Varied → Varied → Point
moved_original scale on x y =
    with_units (moved_units x, moved_units y) (untouched (moved_place scale x y) (moved_place scale x y) on)

abbrev pub moved_originals : Scale → List RawPoint → List Varied → List Varied → List Point
moved_originals scale [] xs ys = []
moved_originals scale (p ∷ ps) [] ys = []
moved_originals scale (p ∷ ps) (x ∷ xs) [] = []
moved_originals scale (p ∷ ps) (x ∷ xs) (y ∷ ys) = moved_original scale p.on x y ∷ moved_originals scale ps xs ys

-- the points of a simple glyph's zone are these, by the glyph's deltas, and so are the phantom points, unless its program
-- is empty
pub record BeginsMoved (i : FaceInstance) (s : Fitter) (g : ℕ) (d : SimpleGlyph) (b : Begun) : Type 0 where
  pub deltas : VariedPoints
  pub found : deltas_of i.gvar i.coordinates g (simple d) ≡ Ok deltas
  pub zone : (grid : PhantomPoints) → glyph_zone b.program.units b.outline grid
      ≡ moved_originals (size_of s).scale d.points deltas.xs deltas.ys
      ++ phantom_zone (moved_ends (default_units s d.x_min g) (ends_of s (length d.points) deltas)) b.outline.phantom grid
  pub phantom : (length d.code == 0) ≡ false → b.outline.phantom ≡ fine_phantom s g d deltas

abbrev pub OriginalsAreMoved : Type 0
OriginalsAreMoved = (i : FaceInstance) (s : Fitter) (g : ℕ) (d : SimpleGlyph) (b : Begun)
    → s.scaling ≡ scaling.Rounded → s.instance ≡ Some i → begun_glyph s g (simple d) ≡ Ok b → BeginsMoved i s g d b

-- With every fit but Best no program measures in font units, and halves round upwards
abbrev pub OthersMeasureInPixels : Type 0
OthersMeasureInPixels = (m : Metrics) (tables : Glyf) (programs : ProgramTables) (instance : Option FaceInstance)
    (ppem : ℕ) (how : Fit) (s : Fitter) → how ≢ fit.Best → fitter_of m tables programs instance ppem how ≡ Ok s
    → ((g : ℕ) (raw : Raw) (b : Begun) → begun_glyph s g raw ≡ Ok b → b.program.units ≡ None)
    × ((size_of s).scale.halves ≡ halves.Up)

-- Dropouts. With every fit but Best none are filled
abbrev pub OthersFillNone : Type 0
OthersFillNone = (m : Metrics) (tables : Glyf) (programs : ProgramTables) (instance : Option FaceInstance) (ppem : ℕ) (how : Fit)
    (s : Fitter)
    (unfitted : Option Fault) (o : Outline) → how ≢ fit.Best → fitter_of m tables programs instance ppem how ≡ Ok s
    → dropouts_of s unfitted o ≡ None

-- with every fit a glyph leaves the rules for later glyphs unchanged
abbrev pub RulesStay : Type 0
RulesStay = (s : Fitter) (g : ℕ) (unfitted : Option Fault) (o : Outline)
    → dropouts_of (after_glyph s g) unfitted o ≡ dropouts_of s unfitted o

-- with Best an unfitted glyph has the rules of scan type 1
abbrev pub UnfittedByTypeOne : Type 0
UnfittedByTypeOne = (m : Metrics) (tables : Glyf) (programs : ProgramTables) (instance : Option FaceInstance) (ppem : ℕ)
    (s : Fitter) (fault : Fault)
    (o : Outline) → fitter_of m tables programs instance ppem fit.Best ≡ Ok s
    → dropouts_of s (Some fault) o ≡ Some default_rules

-- a font program and a control value program that are both empty
pub record AreEmpty (programs : ProgramTables) : Type 0 where
  pub fpgm : programs.fpgm ≡ []
  pub prep : programs.prep ≡ []

-- with them every glyph has the rules of scan type 1
abbrev pub EmptyByTypeOne : Type 0
EmptyByTypeOne = (m : Metrics) (tables : Glyf) (programs : ProgramTables) (instance : Option FaceInstance) (ppem : ℕ) (s : Fitter)
    (unfitted : Option Fault) (o : Outline) → AreEmpty programs
    → fitter_of m tables programs instance ppem fit.Best ≡ Ok s
    → dropouts_of s unfitted o ≡ Some default_rules

-- with Best, the two programs run without a fault, and the control value program switches glyph programs off
pub record SwitchedOff (m : Metrics) (programs : ProgramTables) (instance : Option FaceInstance) (ppem : ℕ) : Type 0 where
  pub font : Parts
  pub left : Parts
  pub by_font : run_of (font_program programs.fpgm) (begun_at m programs instance ppem fit.Best) ≡ Ok font
  pub by_values : run_of (control_value_program programs.prep)
      (with_definitions (begun_at m programs instance ppem fit.Best) font) ≡ Ok left
  pub skips : left.skip_glyphs ≡ true

-- then every glyph has these rules too
abbrev pub SkippedByTypeOne : Type 0
SkippedByTypeOne = (m : Metrics) (tables : Glyf) (programs : ProgramTables) (instance : Option FaceInstance) (ppem : ℕ) (s : Fitter)
    (unfitted : Option Fault) (o : Outline) → SwitchedOff m programs instance ppem
    → fitter_of m tables programs instance ppem fit.Best ≡ Ok s → dropouts_of s unfitted o ≡ Some default_rules

-- With Best, hinting is on. The scan control of an outline is that of the last program run for it, or else that of the
-- control value program.
pub record LeftScan (m : Metrics) (tables : Glyf) (programs : ProgramTables) (instance : Option FaceInstance) (ppem : ℕ)
    (s : Fitter) (o : Outline)
    (scan : ScanControl) : Type 0 where
  pub made : fitter_of m tables programs instance ppem fit.Best ≡ Ok s
  pub parts : Parts
  pub hinting : s.hinting ≡ ready parts
  pub left : scan_left o.scan parts.state.scan ≡ scan

-- then a fitted glyph has the rules of the scan control, with dots where no program was run for it
abbrev pub FittedByScan : Type 0
FittedByScan = (m : Metrics) (tables : Glyf) (programs : ProgramTables) (instance : Option FaceInstance) (ppem : ℕ) (s : Fitter)
    (o : Outline)
    (scan : ScanControl) → LeftScan m tables programs instance ppem s o scan → dropouts_of s None o ≡ scan_rules
    (none_ran o.scan) scan

-- where the scan control is off, the glyph's dropouts are not filled
abbrev pub OffFillsNone : Type 0
OffFillsNone = (m : Metrics) (tables : Glyf) (programs : ProgramTables) (instance : Option FaceInstance) (ppem : ℕ) (s : Fitter)
    (o : Outline)
    (scan : ScanControl) → LeftScan m tables programs instance ppem s o scan → scan.on ≡ false
    → dropouts_of s None o ≡ None

-- scan types other than 0, 1, 4 and 5 fill none either
abbrev pub OtherTypesFillNone : Type 0
OtherTypesFillNone = (m : Metrics) (tables : Glyf) (programs : ProgramTables) (instance : Option FaceInstance) (ppem : ℕ)
    (s : Fitter) (o : Outline)
    (scan : ScanControl) → LeftScan m tables programs instance ppem s o scan
    → scan.scan_type ≢ 0 → scan.scan_type ≢ 1 → scan.scan_type ≢ 4 → scan.scan_type ≢ 5 → dropouts_of s None o ≡ None

-- worked value: control values are no program
values_are_no_program : (cvt : List ℕ) → AreEmpty (record { cvt = cvt; fpgm = []; prep = [] })
values_are_no_program cvt = record { fpgm = refl; prep = refl }
