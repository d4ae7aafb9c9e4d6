-- OpenType, "The 'glyf' table": a glyph by the font's default, as a font without variations has it. The definitions of
-- Fitting give the same where a fitter has no instance.
use Rattle.std.specs.Prelude.{◌≡◌, ℕ, zero, suc, pos, List, None, Option, Result, Err}
use Rattle.tt_core.specs.Faults.{Fault}
use Rattle.tt_core.specs.declared.fault.Why.TheVariants as why
use Rattle.tt_core.specs.Outcomes.{◌>>=◌}
use Rattle.tt_glyf.specs.declared.raw.RawPoint.{RawPoint}
use Rattle.tt_glyf.specs.declared.raw.Record.{Record}
use Rattle.tt_glyf.specs.GlyphData.{glyph_data_of}
use Rattle.tt_glyf.specs.Loca.{glyph_offset}
use Rattle.tt_glyf.specs.Raw.{Raw, SimpleGlyph, CompositeGlyph, empty, simple, composite}
use Rattle.tt_fit.specs.Fitting.{Fitter, size_of, start, glyph_grid, simple_start, glyph_program, joined, default_phantom, default_units, outline_at, outline_work}
use Rattle.tt_fit.specs.Work.{joined_work}
use Rattle.tt_fit_hinting.specs.GlyphZone.{GlyphProgram}
use Rattle.tt_fit_hinting.specs.Hinting.{hinted}
use Rattle.tt_fit_hinting.specs.Work.{if_ok, hinted_work}
use Rattle.tt_fit_hinting.specs.machine.Work.{Worked, enough, then_work}
use Rattle.tt_fit_outline.specs.Joining.{placed}
use Rattle.tt_fit_outline.specs.Outline.{Outline}
use Rattle.tt_fit_outline.specs.Scaling.{glyf_fault, scaled_outline}
use Rattle.tt_fit_outline.specs.Units.{units_by}

-- the program of a simple glyph, whose originals may be measured in font units, and the program of a composite one
abbrev pub simple_program : Fitter → ℕ → SimpleGlyph → GlyphProgram
simple_program s g d =
    glyph_program s g d.code d.code_at (units_by s.scaling d.points (default_units s d.x_min g))

abbrev pub composite_program : Fitter → ℕ → CompositeGlyph → GlyphProgram
composite_program s g d = glyph_program s g d.code d.code_at None

-- the outline of a simple glyph, begun without points: its points scaled, and its program over them
abbrev pub simple_outline : Fitter → ℕ → List RawPoint → List ℕ → GlyphProgram → Outline → Result Outline Fault
simple_outline s g points ends program o = scaled_outline (size_of s) (glyph_offset s.tables g) points ends o >>=
    hinted s.hinting program

-- the outline of a glyph, by how a record extends the outline so far
abbrev pub made : Fitter → (Record → Outline → Result Outline Fault) → ℕ → Raw → Result Outline Fault
made s add g empty = start s (default_phantom s (pos 0) g) g
made s add g (simple d) = simple_start s (default_phantom s d.x_min g) g d.code
    >>= simple_outline s g d.points d.ends (simple_program s g d)
made s add g (composite d) = start s (default_phantom s d.x_min g) g >>= joined add d.records >>= hinted s.hinting
    (composite_program s g d)

abbrev pub outline_by : Fitter → (Record → Outline → Result Outline Fault) → ℕ → Result Outline Fault
outline_by s add g = glyph_data_of s.tables g >>= made s add g

-- the outline after one record with this many levels of components
unfoldable pub added : Fitter → ℕ → Record → Outline → Result Outline Fault
added s zero r o = Err (glyf_fault r.at why.ComponentDepth)
added s (suc levels) r o = outline_by s (added s levels) r.glyph >>= λ component. placed (glyph_grid s) (size_of s) r component o

-- the outline of a glyph, with this many levels of components
abbrev pub default_outline : Fitter → ℕ → ℕ → Result Outline Fault
default_outline s levels g = outline_by s (added s levels) g

-- the work of a simple glyph's program, and of a composite glyph's, begun without points
abbrev pub simple_work : Fitter → ℕ → List RawPoint → List ℕ → GlyphProgram → Outline → Option ℕ → Worked
simple_work s g points ends program o = if_ok (scaled_outline (size_of s) (glyph_offset s.tables g) points ends o)
    (hinted_work s.hinting program)

abbrev pub composite_work : Fitter → (Record → Outline → Result Outline Fault) → (Record → Option ℕ → Worked)
    → List Record → GlyphProgram → Outline → Option ℕ → Worked
composite_work s add work records program o left =
    then_work (joined_work add work records o left) (if_ok (joined add records o) (hinted_work s.hinting program))

-- the work of a glyph's programs, by how a record extends the outline so far, and by the record's work
abbrev pub made_work : Fitter → (Record → Outline → Result Outline Fault) → (Record → Option ℕ → Worked) → ℕ → Raw
    → Option ℕ → Worked
made_work s add work g empty = enough
made_work s add work g (simple d) = if_ok (simple_start s (default_phantom s d.x_min g) g d.code)
    (simple_work s g d.points d.ends (simple_program s g d))
made_work s add work g (composite d) = if_ok (start s (default_phantom s d.x_min g) g)
    (composite_work s add work d.records (composite_program s g d))

abbrev pub work_by : Fitter → (Record → Outline → Result Outline Fault) → (Record → Option ℕ → Worked) → ℕ → Option ℕ
    → Worked
work_by s add work g = if_ok (glyph_data_of s.tables g) (made_work s add work g)

-- the work of a record with this many levels of components: its component's work
unfoldable pub added_work : Fitter → ℕ → Record → Option ℕ → Worked
added_work s zero r left = enough left
added_work s (suc levels) r left = work_by s (added s levels) (added_work s levels) r.glyph left

-- the work of a glyph, with this many levels of components
abbrev pub default_work : Fitter → ℕ → ℕ → Option ℕ → Worked
default_work s levels g = work_by s (added s levels) (added_work s levels) g

-- Where a fitter has no instance, each glyph has the default's outline, the default's fault and the default's work
abbrev pub DefaultsAreUnvaried : Type 0
DefaultsAreUnvaried = (s : Fitter) (levels g : ℕ) → s.instance ≡ None
    → outline_at s levels g ≡ default_outline s levels g

abbrev pub DefaultsCostTheSame : Type 0
DefaultsCostTheSame = (s : Fitter) (levels g : ℕ) (left : Option ℕ) → s.instance ≡ None
    → outline_work s levels g left ≡ default_work s levels g left
