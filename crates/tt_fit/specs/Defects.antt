-- The possible defects of a glyph's outline at a size, each with its fault, whatever the order of the tests. OpenType,
-- "The 'glyf' table", "Composite Glyph Description"; the limits are profile.
use Rattle.std.specs.Prelude.{◌≡◌, ℕ, zero, suc, ◌+◌, ◌<◌, Bool, true, false, ℤ, pos, unsigned_abs, ◌+ℤ◌, ◌<ℤ◌, ◌≤ℤ◌, List, [], length, take, Option, Some, None, Result, Err, IsOkAnd, ◌⊎◌}
use Rattle.std.specs.List.{slice_get}
use Rattle.tt_core.specs.Faults.{Fault}
use Rattle.tt_core.specs.declared.fault.Why.TheVariants as why
use Rattle.tt_core.specs.Limits.{coordinate_limit, point_limit}
use Rattle.tt_axes.specs.Rounding.{whole_units}
use Rattle.tt_deltas.specs.declared.varied.Varied.{Varied}
use Rattle.tt_deltas.specs.Glyphs.{VariedPoints}
use Rattle.tt_deltas.specs.Units.{moved_sixty_fourths, moved_units}
use Rattle.tt_face.specs.Faces.{FaceInstance}
use Rattle.tt_glyf.specs.Format.{args_are_xy_values, has}
use Rattle.tt_glyf.specs.declared.raw.RawPoint.{RawPoint}
use Rattle.tt_glyf.specs.declared.raw.Record.{Record}
use Rattle.tt_glyf.specs.Defects.{IsGlyphDefect}
use Rattle.tt_glyf.specs.GlyphData.{glyph_data_of}
use Rattle.tt_glyf.specs.Loca.{glyph_offset}
use Rattle.tt_glyf.specs.Raw.{Raw, empty, simple, composite}
use Rattle.tt_fit_hinting.specs.machine.Parts.{Parts}
use Rattle.tt_fit_outline.specs.Component.{shift_of, landed}
use Rattle.tt_fit.specs.Fitting.{Begun, Fitter, size_of, start, glyph_grid, joined, default_phantom, default_units, ends_of, units_at, fine_phantom, begun_glyph, added, outline_at, glyph_fitter}
use Rattle.tt_fit_outline.specs.declared.grid.Grid.{Grid}
use Rattle.tt_fit_outline.specs.declared.grid.Grid.TheVariants as rounding
use Rattle.tt_fit_hinting.specs.GlyphZone.{GlyphProgram, program_in_glyf, on_grid, on_grid_at}
use Rattle.tt_fit_hinting.specs.Parts.{parts_with}
use Rattle.tt_fit_outline.specs.Outline.{PhantomPoints, Outline}
use Rattle.tt_fit_hinting.specs.Hinting.{Hinting, off, ready, is_run, run_of}
use Rattle.tt_fit_outline.specs.Scaling.{glyf_fault, coordinate_fault, scaled_phantom}
use Rattle.tt_fit_outline.specs.Size.{FontSize, scale}
use Rattle.tt_fit_variation.specs.Advance.{deltas_of}
use Rattle.tt_fit_variation.specs.Ends.{EndDeltas, end_limit, moved_ends}
use Rattle.tt_fit_variation.specs.Fine.{fine_scaled}
use Rattle.tt_fit_variation.specs.Moved.{is_unit}

-- a coordinate is past the limit
abbrev pub PassesLimit : ℤ → Type 0
PassesLimit v = coordinate_limit < unsigned_abs v

-- the x or the y of a place is past the limit
abbrev pub LeavesLimit : ℤ → ℤ → Type 0
LeavesLimit x y = PassesLimit x ⊎ PassesLimit y

-- a phantom point lies past the limit; the fault is reported at this offset in glyf
abbrev pub IsPhantomDefect : ℕ → PhantomPoints → Fault → Type 0
IsPhantomDefect at p fault =
    (LeavesLimit p.left.0 p.left.1 ⊎ LeavesLimit p.right.0 p.right.1 ⊎ LeavesLimit p.ascent.0 p.ascent.1
    ⊎ LeavesLimit p.descent.0 p.descent.1)
    × (fault ≡ coordinate_fault at)

-- a phantom point of a glyph lies past the limit; the fault is reported at the glyph's first byte
abbrev pub IsStartDefect : Fitter → PhantomPoints → ℕ → Fault → Type 0
IsStartDefect s phantom g fault = IsPhantomDefect (glyph_offset s.tables g) phantom fault

-- a scaled point lies past the limit
abbrev pub IsScaledDefect : FontSize → ℕ → List RawPoint → Fault → Type 0
IsScaledDefect z at points fault =
    (i : ℕ) × (p : RawPoint) × (slice_get points i ≡ Some p) × LeavesLimit (scale z p.x) (scale z p.y)
    × (fault ≡ coordinate_fault at)

-- no point has this number
abbrev pub LacksPoint : List (ℤ × ℤ × Bool) → ℤ → Type 0
LacksPoint points number = (number <ℤ pos 0) ⊎ (pos (length points) ≤ℤ number)

-- a record matches two points, and the component's or the assembled one is missing
abbrev pub IsMatchDefect : Record → List (ℤ × ℤ × Bool) → List (ℤ × ℤ × Bool) → Fault → Type 0
IsMatchDefect r component points fault =
    (has r.flags args_are_xy_values ≡ false) × (LacksPoint component r.arg2 ⊎ LacksPoint points r.arg1)
    × (fault ≡ glyf_fault r.at why.MatchPoint)

-- a point of the component, transformed and moved, lies past the limit
abbrev pub IsLandingDefect : Grid → FontSize → Record → List (ℤ × ℤ × Bool) → List (ℤ × ℤ × Bool) → Fault → Type 0
IsLandingDefect grid z r component points fault = IsOkAnd (shift_of grid z r component points) (λ by.
    (i : ℕ) × (p : ℤ × ℤ × Bool) × (slice_get component i ≡ Some p)
    × LeavesLimit (landed z.scale.halves r by p).0 (landed z.scale.halves r by p).1 × (fault ≡ coordinate_fault r.at))

-- together they are more points than a glyph may have
abbrev pub IsCountDefect : Record → List (ℤ × ℤ × Bool) → List (ℤ × ℤ × Bool) → Fault → Type 0
IsCountDefect r component points fault =
    (point_limit < length points + length component) × (fault ≡ glyf_fault r.at why.PointLimit)

-- a component cannot be added to what is assembled so far
abbrev pub IsPlacingDefect : Grid → FontSize → Record → Outline → Outline → Fault → Type 0
IsPlacingDefect grid z r component o fault =
    IsMatchDefect r component.points o.points fault
    ⊎ IsLandingDefect grid z r component.points o.points fault
    ⊎ IsCountDefect r component.points o.points fault

-- the outline assembled before record i
abbrev pub assembled_before : (Record → Outline → Result Outline Fault) → Outline → List Record → ℕ
    → Result Outline Fault
assembled_before add o records i = joined add (take i records) o

-- one of the records is bad, by a test of a record and the outline assembled before it
abbrev pub IsRecordsDefect : (Record → Outline → Result Outline Fault) → (Record → Result Outline Fault → Fault → Type 0)
    → Outline → List Record → Fault → Type 0
IsRecordsDefect add IsOne o records fault =
    (i : ℕ) × (r : Record) × (slice_get records i ≡ Some r) × IsOne r (assembled_before add o records i) fault

-- the end of an advance, the ascent or the descent exceeds the limit on the grid
abbrev pub IsGridDefect : ℕ → PhantomPoints → Fault → Type 0
IsGridDefect at p fault =
    (PassesLimit p.left.0 ⊎ PassesLimit p.right.0 ⊎ PassesLimit p.ascent.1 ⊎ PassesLimit p.descent.1)
    × (fault ≡ coordinate_fault at)

-- a simple glyph without a program: halves go up, and a phantom point exceeds the limit on the grid
abbrev pub IsEndsDefect : Grid → ℕ → List ℕ → Outline → Fault → Type 0
IsEndsDefect by at code o fault =
    (by ≡ rounding.Up) × (code ≡ []) × IsGridDefect at (on_grid rounding.Up o.phantom) fault

-- a glyph's program is run, and a phantom point exceeds the limit on the grid, or the program has a fault
abbrev pub IsProgramDefect : Parts → GlyphProgram → Outline → Fault → Type 0
IsProgramDefect parts p o fault = (is_run p ≡ true) × (IsGridDefect p.glyph_at (on_grid p.grid o.phantom) fault
    ⊎ IsOkAnd (on_grid_at p.grid p.glyph_at o.phantom) (λ grid.
    run_of (program_in_glyf p) (parts_with parts p.units o grid) ≡ Err fault))

abbrev pub IsHintingDefect : Hinting → GlyphProgram → Outline → Fault → Type 0
IsHintingDefect off p o fault = ⊥
IsHintingDefect (ready parts) p o fault = IsProgramDefect parts p o fault

-- a simple glyph without points: its phantom points, or those on the grid, lie past the limit
abbrev pub IsSimpleStartDefect : Fitter → PhantomPoints → ℕ → List ℕ → Fault → Type 0
IsSimpleStartDefect s phantom g code fault =
    IsStartDefect s phantom g fault
    ⊎ IsOkAnd (start s phantom g) (λ o. IsEndsDefect (glyph_grid s) (glyph_offset s.tables g) code o fault)

-- a glyph by the font's default: a phantom point or a point lies past the limit
abbrev pub IsDefaultDefect : Fitter → ℕ → Raw → Fault → Type 0
IsDefaultDefect s g empty fault = IsStartDefect s (default_phantom s (pos 0) g) g fault
IsDefaultDefect s g (simple d) fault =
    IsSimpleStartDefect s (default_phantom s d.x_min g) g d.code fault
    ⊎ IsScaledDefect (size_of s) (glyph_offset s.tables g) d.points fault
IsDefaultDefect s g (composite d) fault = IsStartDefect s (default_phantom s d.x_min g) g fault

-- at an instance: a phantom point's coordinate in font units is past its limit
abbrev pub PassesEndLimit : ℤ → Type 0
PassesEndLimit v = end_limit < unsigned_abs v

abbrev pub IsUnitsDefect : ℕ → PhantomPoints → EndDeltas → Fault → Type 0
IsUnitsDefect at p d fault =
    (PassesEndLimit (moved_ends p d).left.0 ⊎ PassesEndLimit (moved_ends p d).right.0
    ⊎ PassesEndLimit (moved_ends p d).ascent.1 ⊎ PassesEndLimit (moved_ends p d).descent.1)
    × (fault ≡ coordinate_fault at)

-- a number is no int16
abbrev pub LeavesUnits : ℤ → Type 0
LeavesUnits v = is_unit v ≡ false

-- a coordinate in font units is no int16, or lies past the limit when it is scaled
abbrev pub IsCoordinateDefect : FontSize → Varied → Type 0
IsCoordinateDefect z v = LeavesUnits (moved_units v) ⊎ PassesLimit (fine_scaled z.scale (moved_sixty_fourths v))

-- a point of a simple glyph at an instance
abbrev pub IsPointDefect : FontSize → ℕ → List RawPoint → List Varied → List Varied → Fault → Type 0
IsPointDefect z at points xs ys fault =
    (i : ℕ) × (p : RawPoint) × (x : Varied) × (y : Varied) × (slice_get points i ≡ Some p)
    × (slice_get xs i ≡ Some x) × (slice_get ys i ≡ Some y) × (IsCoordinateDefect z x ⊎ IsCoordinateDefect z y)
    × (fault ≡ coordinate_fault at)

-- an offset of a component at an instance is no int16
abbrev pub IsOffsetDefect : Record → Varied → Varied → Fault → Type 0
IsOffsetDefect r x y fault =
    (has r.flags args_are_xy_values ≡ true)
    × (LeavesUnits (r.arg1 +ℤ whole_units x.delta) ⊎ LeavesUnits (r.arg2 +ℤ whole_units y.delta))
    × (fault ≡ coordinate_fault r.at)

abbrev pub IsOffsetsDefect : List Record → List Varied → List Varied → Fault → Type 0
IsOffsetsDefect records xs ys fault =
    (i : ℕ) × (r : Record) × (x : Varied) × (y : Varied) × (slice_get records i ≡ Some r)
    × (slice_get xs i ≡ Some x) × (slice_get ys i ≡ Some y) × IsOffsetDefect r x y fault

-- a composite or an empty glyph without points, with its deltas
abbrev pub IsWholeStartDefect : Fitter → ℤ → ℕ → ℕ → VariedPoints → Fault → Type 0
IsWholeStartDefect s x_min g n v fault =
    IsUnitsDefect (glyph_offset s.tables g) (default_units s x_min g) (ends_of s n v) fault
    ⊎ IsOkAnd (units_at s x_min g n v) (λ units. IsStartDefect s (scaled_phantom (size_of s) units) g fault)

-- a glyph with its deltas: a phantom point, a point or an offset is out of range
abbrev pub IsVariedDefect : Fitter → ℕ → Raw → VariedPoints → Fault → Type 0
IsVariedDefect s g empty v fault = IsWholeStartDefect s (pos 0) g 0 v fault
IsVariedDefect s g (simple d) v fault =
    IsUnitsDefect (glyph_offset s.tables g) (default_units s d.x_min g) (ends_of s (length d.points) v) fault
    ⊎ IsSimpleStartDefect s (fine_phantom s g d v) g d.code fault
    ⊎ IsPointDefect (size_of s) (glyph_offset s.tables g) d.points v.xs v.ys fault
IsVariedDefect s g (composite d) v fault =
    IsWholeStartDefect s d.x_min g (length d.records) v fault ⊎ IsOffsetsDefect d.records v.xs v.ys fault

-- a glyph cannot be begun; at an instance its deltas cannot be read, or it is out of range with them
abbrev pub IsBegunDefectBy : Option FaceInstance → Fitter → ℕ → Raw → Fault → Type 0
IsBegunDefectBy None s g raw fault = IsDefaultDefect s g raw fault
IsBegunDefectBy (Some i) s g raw fault =
    (deltas_of i.gvar i.coordinates g raw ≡ Err fault)
    ⊎ IsOkAnd (deltas_of i.gvar i.coordinates g raw) (λ v. IsVariedDefect s g raw v fault)

abbrev pub IsBegunDefect : Fitter → ℕ → Raw → Fault → Type 0
IsBegunDefect s g raw fault = IsBegunDefectBy s.instance s g raw fault

-- a glyph that is begun has no outline: one of its records is bad, or its program is
abbrev pub IsFinishingDefect : Fitter → (Record → Outline → Result Outline Fault)
    → (Record → Result Outline Fault → Fault → Type 0) → Begun → Fault → Type 0
IsFinishingDefect s add IsOne b fault =
    IsRecordsDefect add IsOne b.outline b.records fault
    ⊎ IsOkAnd (joined add b.records b.outline) (λ o. IsHintingDefect s.hinting b.program o fault)

-- a readable glyph has no outline
abbrev pub IsMakingDefect : Fitter → (Record → Outline → Result Outline Fault)
    → (Record → Result Outline Fault → Fault → Type 0) → ℕ → Raw → Fault → Type 0
IsMakingDefect s add IsOne g raw fault =
    IsBegunDefect s g raw fault ⊎ IsOkAnd (begun_glyph s g raw) (λ b. IsFinishingDefect s add IsOne b fault)

-- a glyph cannot be read, or has no outline
abbrev pub IsDefectBy : Fitter → (Record → Outline → Result Outline Fault)
    → (Record → Result Outline Fault → Fault → Type 0) → ℕ → Fault → Type 0
IsDefectBy s add IsOne g fault =
    IsGlyphDefect s.tables g fault ⊎ IsOkAnd (glyph_data_of s.tables g) (λ d. IsMakingDefect s add IsOne g d fault)

-- a record is bad with this many levels of components: no level remains for its component, or the component is bad, or
-- cannot be placed
unfoldable pub IsBadComponent : Fitter → ℕ → Record → Result Outline Fault → Fault → Type 0
IsBadComponent s zero r before fault = fault ≡ glyf_fault r.at why.ComponentDepth
IsBadComponent s (suc levels) r before fault =
    IsDefectBy s (added s levels) (IsBadComponent s levels) r.glyph fault
    ⊎ IsOkAnd before (λ o. IsOkAnd (outline_at s levels r.glyph) (λ component.
    IsPlacingDefect (glyph_grid s) (size_of s) r component o fault))

-- a defect of a glyph, or of a component reached from it
abbrev pub IsDefectAt : Fitter → ℕ → ℕ → Fault → Type 0
IsDefectAt s levels g fault = IsDefectBy s (added s levels) (IsBadComponent s levels) g fault

-- a defect of a character's glyph as it is made; an unfitted glyph has only defects that exist without programs
unfoldable pub IsOutlineDefect : Fitter → ℕ → Fault → Type 0
IsOutlineDefect s g fault = IsDefectAt (glyph_fitter s g) s.levels g fault
