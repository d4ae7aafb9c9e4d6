-- Laws of hinting. Where it is off, the outline is that of a font without programs and without rounded offsets. Where it
-- is on, the ends of a simple glyph's advance are whole pixels.
use Rattle.std.specs.Prelude.{◌≡◌, ◌≢◌, ℕ, zero, suc, ◌-◌, ◌^◌, true, false, ℤ, pos, neg_ℤ, ◌-ℤ◌, ◌*ℤ◌, bit_and, [], map, Option, Some, None, Result, Ok, Err, refl}
use Rattle.tt_core.specs.Faults.{Fault}
use Rattle.tt_core.specs.declared.fault.Why.TheVariants as why
use Rattle.tt_core.specs.Outcomes.{◌>>=◌}
use Rattle.tt_glyf.specs.Format.{round_xy_to_grid}
use Rattle.tt_glyf.specs.GlyphData.{glyph_data_of}
use Rattle.tt_glyf.specs.Loca.{Glyf}
use Rattle.tt_glyf.specs.Raw.{Raw, SimpleGlyph, empty, simple, composite}
use Rattle.tt_glyf.specs.declared.raw.Record.{Record}
use Rattle.tt_metrics.specs.Metrics.{Metrics}
use Rattle.tt_face.specs.Faces.{FaceInstance}
use Rattle.tt_face.specs.Programs.{ProgramTables}
use Rattle.tt_fit.specs.declared.programs.Fit.{Fit}
use Rattle.tt_fit.specs.declared.programs.Fit.TheVariants as fit
use Rattle.tt_fit.specs.Fitting.{Fitter, with_hinting, size_of, glyph_grid, made, unfitted_fault, is_hinted, fitted_outline}
use Rattle.tt_fit.specs.Laws.{AreEmpty, SwitchedOff}
use Rattle.tt_fit.specs.Preparation.{fitter_of}
use Rattle.tt_fit_outline.specs.declared.grid.Grid.TheVariants as rounding
use Rattle.tt_fit_outline.specs.declared.grid.GridRule.{GridRule}
use Rattle.tt_fit_outline.specs.declared.grid.GridRule.TheVariants as grid_rule
use Rattle.tt_fit_hinting.specs.GlyphZone.{on_grid_at}
use Rattle.tt_fit_hinting.specs.Hinting.{off}
use Rattle.tt_fit_outline.specs.Joining.{placed}
use Rattle.tt_fit_outline.specs.Outline.{Outline, PhantomPoints}
use Rattle.tt_fit_outline.specs.Scaling.{glyf_fault}
use Rattle.tt_fit_outline.specs.Steps.{at_least_zero, step_of}

-- with Best, halves go up where hinting is on; with every other fit they go away from zero, whatever the hinting
abbrev pub BestRoundsWhereHinted : Type 0
BestRoundsWhereHinted = (m : Metrics) (tables : Glyf) (programs : ProgramTables) (instance : Option FaceInstance) (ppem : ℕ)
    (s : Fitter)
    → fitter_of m tables programs instance ppem fit.Best ≡ Ok s → s.grid ≡ grid_rule.WhereHinted

abbrev pub OthersRoundAlways : Type 0
OthersRoundAlways = (m : Metrics) (tables : Glyf) (programs : ProgramTables) (instance : Option FaceInstance) (ppem : ℕ)
    (how : Fit) (s : Fitter)
    → how ≢ fit.Best → fitter_of m tables programs instance ppem how ≡ Ok s → glyph_grid s ≡ rounding.Away

-- with Best, hinting is off for every glyph of a font whose two programs are both empty
abbrev pub EmptyIsOff : Type 0
EmptyIsOff = (m : Metrics) (tables : Glyf) (programs : ProgramTables) (instance : Option FaceInstance) (ppem : ℕ) (s : Fitter)
    (g : ℕ)
    → AreEmpty programs → fitter_of m tables programs instance ppem fit.Best ≡ Ok s → is_hinted s g ≡ false

-- and no glyph of such a font is unfitted
abbrev pub LeftoversFit : Type 0
LeftoversFit = (m : Metrics) (tables : Glyf) (programs : ProgramTables) (instance : Option FaceInstance) (ppem : ℕ) (s : Fitter)
    (g : ℕ)
    → AreEmpty programs → fitter_of m tables programs instance ppem fit.Best ≡ Ok s → unfitted_fault s g ≡ None

-- hinting is off where the control value program switched glyph programs off
abbrev pub SwitchedIsOff : Type 0
SwitchedIsOff = (m : Metrics) (tables : Glyf) (programs : ProgramTables) (instance : Option FaceInstance) (ppem : ℕ) (s : Fitter)
    (g : ℕ)
    → SwitchedOff m programs instance ppem → fitter_of m tables programs instance ppem fit.Best ≡ Ok s
    → is_hinted s g ≡ false

-- and for an unfitted glyph
abbrev pub UnfittedIsOff : Type 0
UnfittedIsOff = (s : Fitter) (g : ℕ) (fault : Fault) → unfitted_fault s g ≡ Some fault → is_hinted s g ≡ false

-- a record without ROUND_XY_TO_GRID; its other flags of 16 bits are unchanged
abbrev pub without_rounding : Record → Record
without_rounding r = record r { flags = bit_and r.flags (2 ^ 16 - 1 - round_xy_to_grid) }

-- a glyph without a program, whose records have no such flag
abbrev pub plain : Raw → Raw
plain empty = empty
plain (simple d) = simple (record d { code = [] })
plain (composite d) = composite (record d { records = map without_rounding d.records; code = [] })

-- a glyph's outline where all glyphs are like this, by how a record extends the outline so far
abbrev pub plain_by : Fitter → (Record → Outline → Result Outline Fault) → ℕ → Result Outline Fault
plain_by s add g = glyph_data_of s.tables g >>= λ d. made s add g (plain d)

-- the outline after one record of such a font
unfoldable pub plain_added : Fitter → ℕ → Record → Outline → Result Outline Fault
plain_added s zero r o = Err (glyf_fault r.at why.ComponentDepth)
plain_added s (suc levels) r o = plain_by s (plain_added s levels) r.glyph >>= λ component.
    placed (glyph_grid s) (size_of s) r component o

abbrev pub plain_outline : Fitter → ℕ → ℕ → Result Outline Fault
plain_outline s levels g = plain_by s (plain_added s levels) g

-- Where hinting is off, the outline is the one that all programs empty and no ROUND_XY_TO_GRID would give. Either rule
-- for whole pixels gives it.
abbrev pub OffIsPlain : Type 0
OffIsPlain = (s : Fitter) (g : ℕ) (how : GridRule) → s.grid ≡ grid_rule.WhereHinted → is_hinted s g ≡ false
    → fitted_outline s g ≡ plain_outline (record (with_hinting s off) { grid = how }) s.levels g

-- a distance of whole pixels
abbrev pub IsWhole : ℤ → Type 0
IsWhole v = (n : ℤ) × (v ≡ pos 64 *ℤ n)

-- on the grid, the ends of an advance are whole pixels
abbrev pub EndsAreWhole : Type 0
EndsAreWhole = (at : ℕ) (p q : PhantomPoints) → on_grid_at rounding.Up at p ≡ Ok q
    → IsWhole q.left.0 × IsWhole q.right.0

-- With hinting on, a simple glyph without a program has ends of whole pixels. Its step is their difference, or 0.
pub record HasWholeStep (o : Outline) : Type 0 where
  pub left : ℤ
  pub right : ℤ
  pub from : o.phantom.left.0 ≡ pos 64 *ℤ left
  pub to : o.phantom.right.0 ≡ pos 64 *ℤ right
  pub step : step_of o ≡ at_least_zero (right -ℤ left)

abbrev pub SimpleStepsAreWhole : Type 0
SimpleStepsAreWhole = (s : Fitter) (g : ℕ) (d : SimpleGlyph) (o : Outline) → s.grid ≡ grid_rule.WhereHinted
    → is_hinted s g ≡ true → glyph_data_of s.tables g ≡ Ok (simple d) → d.code ≡ [] → fitted_outline s g ≡ Ok o
    → HasWholeStep o

-- worked values: the flags 0x2, 0x4 and 0x200 of a record that is moved by 8 units
abbrev its_record : Record
its_record = record
    { at = 32; flags = 0x206; glyph = 1; arg1 = pos 8; arg2 = neg_ℤ (pos 8); xx = pos 16384; yx = pos 0; xy = pos 0; yy = pos 16384 }

two_flags_stay : (without_rounding its_record).flags ≡ 0x202
two_flags_stay = refl

no_flag_is_lost : (without_rounding (record its_record { flags = 0xFFFF })).flags ≡ 0xFFFB
no_flag_is_lost = refl
