-- OpenType, "The 'glyf' table" and "gvar": the outline of a glyph at a size, with its components made first, in the order
-- of their records. A glyph is begun by the font's default or at an instance. All that follows sees no instance.
use Rattle.std.specs.Prelude.{◌≡◌, ℕ, zero, suc, ◌-◌, ◌≤◌, ◌==◌, Bool, if◌then◌else◌, ℤ, pos, is_some, List, [], ◌∷◌, length, Option, Some, None, Result, Ok, Err, refl}
use Rattle.tt_core.specs.Faults.{Fault}
use Rattle.tt_core.specs.declared.fault.Why.TheVariants as why
use Rattle.tt_core.specs.Limits.{size_limit}
use Rattle.tt_core.specs.Outcomes.{◌>>=◌}
use Rattle.tt_deltas.specs.Glyphs.{VariedPoints}
use Rattle.tt_face.specs.Faces.{FaceInstance}
use Rattle.tt_fit_hinting.specs.machine.Work.{Worked, enough, then_work}
use Rattle.tt_glyf.specs.declared.raw.RawPoint.{RawPoint}
use Rattle.tt_glyf.specs.declared.raw.Record.{Record}
use Rattle.tt_glyf.specs.GlyphData.{glyph_data_of}
use Rattle.tt_glyf.specs.Loca.{Glyf, glyph_offset}
use Rattle.tt_glyf.specs.Raw.{Raw, SimpleGlyph, CompositeGlyph, empty, simple, composite}
use Rattle.tt_metrics.specs.Metrics.{Metrics, units_per_em_of, loca_format_of, glyphs_of}
use Rattle.tt_fit.specs.declared.dropouts.DropoutsBy.{DropoutsBy}
use Rattle.tt_fit.specs.declared.dropouts.DropoutsBy.TheVariants as by
use Rattle.tt_fit_outline.specs.Joining.{placed}
use Rattle.tt_fit.specs.Fallback.{Fallback, never, where_refused, everywhere, unfitted_by, hinting_for}
use Rattle.tt_fit_outline.specs.Outline.{PhantomPoints, Outline}
use Rattle.tt_fit_outline.specs.declared.grid.Grid.{Grid}
use Rattle.tt_fit_outline.specs.declared.grid.GridRule.{GridRule}
use Rattle.tt_fit_hinting.specs.GlyphZone.{GlyphProgram, ends_on_grid}
use Rattle.tt_fit_hinting.specs.Hinting.{Hinting, IsHinting, is_on, grid_by, hinted}
use Rattle.tt_fit_outline.specs.Scaling.{glyf_fault, phantom_points, phantom_units, scaled_phantom, blank, outline_in_place, scaled_outline}
use Rattle.tt_fit_outline.specs.Size.{FontSize, size_by}
use Rattle.tt_fit_outline.specs.Units.{Units, units_by}
use Rattle.tt_fit_outline.specs.declared.rules.Scaling.{Scaling}
use Rattle.tt_fit_variation.specs.Advance.{deltas_of}
use Rattle.tt_fit_variation.specs.Ends.{EndDeltas, end_deltas, ends_in_units, fine_ends}
use Rattle.tt_fit_variation.specs.Moved.{InstancePoint, instance_places, instance_points, instance_units}
use Rattle.tt_fit_variation.specs.Records.{moved_records}
use Rattle.tt_fit_hinting.specs.Work.{if_ok, hinted_work}
use Rattle.tt_fit.specs.Work.{joined_work, left_in}

-- The inputs of outlines: a font's glyph data and metrics, its instance if that is not the default, the pixels per em, the
-- scaling, and when distances are rounded to whole pixels. Then the state after its programs, which glyphs are unfitted,
-- and the depth limit of components. Then the job's remaining work (None if unbounded), the work of the deltas of control
-- values, and the source of the dropout rules.
pub record Fitter : Type 0 where
  pub tables : Glyf
  pub metrics : Metrics
  pub instance : Option FaceInstance
  pub ppem : ℕ
  pub scaling : Scaling
  pub grid : GridRule
  pub hinting : Hinting
  pub fallback : Fallback
  pub levels : ℕ
  pub work : Option ℕ
  pub control_deltas : ℕ
  pub dropouts : DropoutsBy

-- the glyph data belongs to the metrics, the size is supported, and the hinting is one that programs can give
pub record IsFitter (s : Fitter) : Type 0 where
  pub format : s.tables.format ≡ loca_format_of s.metrics
  pub glyphs : s.tables.glyphs ≡ glyphs_of s.metrics
  pub low : 1 ≤ s.ppem
  pub high : s.ppem ≤ size_limit
  pub hinting : IsHinting s.hinting

-- this fitter with other hinting, no glyph unfitted, work that is neither bounded nor counted, and no dropouts
abbrev pub with_hinting : Fitter → Hinting → Fitter
with_hinting s hinting =
    record s { hinting = hinting; fallback = never; work = None; control_deltas = 0; dropouts = by.Nobody }

abbrev pub size_of : Fitter → FontSize
size_of s = size_by s.scaling s.ppem (units_per_em_of s.metrics)

-- a glyph without points, with its phantom points
abbrev pub start : Fitter → PhantomPoints → ℕ → Result Outline Fault
start s phantom g = blank (glyph_offset s.tables g) phantom

-- each record in order, by how a record extends the outline so far
abbrev pub joined : (Record → Outline → Result Outline Fault) → List Record → Outline → Result Outline Fault
joined add [] o = Ok o
joined add (r ∷ rs) o = add r o >>= joined add rs

-- the grid of a glyph and its components
abbrev pub glyph_grid : Fitter → Grid
glyph_grid s = grid_by s.grid s.hinting

-- a simple glyph without points, by its program; without a program its phantom points may be on the grid
unfoldable pub simple_start : Fitter → PhantomPoints → ℕ → List ℕ → Result Outline Fault
simple_start s phantom g code = start s phantom g >>= λ o.
    if length code == 0 then ends_on_grid (glyph_grid s) (glyph_offset s.tables g) o else Ok o

abbrev pub glyph_program : Fitter → ℕ → List ℕ → ℕ → Option Units → GlyphProgram
glyph_program s g code code_at units =
    record { code = code; code_at = code_at; glyph_at = glyph_offset s.tables g; grid = glyph_grid s; units = units }

-- A glyph that is begun: its own points in their places, the components that are added to them, and its program
pub record Begun : Type 0 where
  pub outline : Outline
  pub records : List Record
  pub program : GlyphProgram

-- a glyph without points, components and a program
abbrev pub empty_begun : Fitter → ℕ → Outline → Begun
empty_begun s g o = record { outline = o; records = []; program = glyph_program s g [] 0 None }

-- a simple glyph, whose program may measure originals in these font units
abbrev pub simple_begun : Fitter → ℕ → SimpleGlyph → List RawPoint → PhantomPoints → Outline → Begun
simple_begun s g d points phantom o = record {
  outline = o;
  records = [];
  program = glyph_program s g d.code d.code_at (units_by s.scaling points phantom);
}

-- a composite glyph with these components
abbrev pub composite_begun : Fitter → ℕ → List ℕ → ℕ → List Record → Outline → Begun
composite_begun s g code code_at records o =
    record { outline = o; records = records; program = glyph_program s g code code_at None }

-- the phantom points by the font's default, in font units and in 26.6 pixels
abbrev pub default_units : Fitter → ℤ → ℕ → PhantomPoints
default_units s x_min g = phantom_units s.metrics x_min g

abbrev pub default_phantom : Fitter → ℤ → ℕ → PhantomPoints
default_phantom s x_min g = phantom_points (size_of s) s.metrics x_min g

-- a glyph by the font's default
abbrev pub begun_by_default : Fitter → ℕ → Raw → Result Begun Fault
begun_by_default s g empty = start s (default_phantom s (pos 0) g) g >>= λ o. Ok (empty_begun s g o)
begun_by_default s g (simple d) = simple_start s (default_phantom s d.x_min g) g d.code
    >>= λ o. scaled_outline (size_of s) (glyph_offset s.tables g) d.points d.ends o
    >>= λ all. Ok (simple_begun s g d d.points (default_units s d.x_min g) all)
begun_by_default s g (composite d) =
    start s (default_phantom s d.x_min g) g >>= λ o. Ok (composite_begun s g d.code d.code_at d.records o)

-- at an instance: the deltas of the phantom points, which follow so many points or components
abbrev pub ends_of : Fitter → ℕ → VariedPoints → EndDeltas
ends_of s n v = end_deltas (is_some s.metrics.advances) n v

-- the phantom points in font units
abbrev pub units_at : Fitter → ℤ → ℕ → ℕ → VariedPoints → Result PhantomPoints Fault
units_at s x_min g n v = ends_in_units (glyph_offset s.tables g) (default_units s x_min g) (ends_of s n v)

-- those of a simple glyph in 26.6 pixels
abbrev pub fine_phantom : Fitter → ℕ → SimpleGlyph → VariedPoints → PhantomPoints
fine_phantom s g d v = fine_ends (size_of s).scale (default_units s d.x_min g) (ends_of s (length d.points) v)

-- a composite or an empty glyph without points: its phantom points are scaled from whole font units
abbrev pub whole_start : Fitter → ℤ → ℕ → ℕ → VariedPoints → Result Outline Fault
whole_start s x_min g n v = units_at s x_min g n v >>= λ units. start s (scaled_phantom (size_of s) units) g

-- a simple glyph without points, whose phantom points are scaled from parts of a unit: these in font units besides
pub record FineStart : Type 0 where
  pub units : PhantomPoints
  pub outline : Outline

abbrev pub fine_start : Fitter → ℕ → SimpleGlyph → VariedPoints → Result FineStart Fault
fine_start s g d v = units_at s d.x_min g (length d.points) v >>= λ units.
    simple_start s (fine_phantom s g d v) g d.code >>= λ o. Ok (record { units = units; outline = o })

-- a simple glyph with its points in their places
abbrev pub simple_moved : Fitter → ℕ → SimpleGlyph → FineStart → List InstancePoint → Begun
simple_moved s g d b ps =
    simple_begun s g d (instance_units ps) b.units (outline_in_place (instance_places ps) d.ends b.outline)

abbrev pub empty_varied : Fitter → ℕ → VariedPoints → Result Begun Fault
empty_varied s g v = whole_start s (pos 0) g 0 v >>= λ o. Ok (empty_begun s g o)

abbrev pub simple_varied : Fitter → ℕ → SimpleGlyph → VariedPoints → Result Begun Fault
simple_varied s g d v = fine_start s g d v >>= λ b.
    instance_points (size_of s) (glyph_offset s.tables g) d.points v.xs v.ys >>= λ ps. Ok (simple_moved s g d b ps)

abbrev pub composite_varied : Fitter → ℕ → CompositeGlyph → VariedPoints → Result Begun Fault
composite_varied s g d v = whole_start s d.x_min g (length d.records) v >>= λ o.
    moved_records d.records v.xs v.ys >>= λ records.
    Ok (composite_begun s g d.code d.code_at records o)

abbrev pub begun_varied : Fitter → ℕ → Raw → VariedPoints → Result Begun Fault
begun_varied s g empty v = empty_varied s g v
begun_varied s g (simple d) v = simple_varied s g d v
begun_varied s g (composite d) v = composite_varied s g d v

-- a fault of the glyph's deltas comes first
abbrev pub begun_at_instance : FaceInstance → Fitter → ℕ → Raw → Result Begun Fault
begun_at_instance i s g raw = deltas_of i.gvar i.coordinates g raw >>= begun_varied s g raw

abbrev pub begun_by : Option FaceInstance → Fitter → ℕ → Raw → Result Begun Fault
begun_by None s g raw = begun_by_default s g raw
begun_by (Some i) s g raw = begun_at_instance i s g raw

unfoldable pub begun_glyph : Fitter → ℕ → Raw → Result Begun Fault
begun_glyph s g raw = begun_by s.instance s g raw

-- the outline of a glyph that is begun, by how a record extends the outline so far: its components are added, and its
-- program is run
abbrev pub finished : Fitter → (Record → Outline → Result Outline Fault) → Begun → Result Outline Fault
finished s add b = joined add b.records b.outline >>= hinted s.hinting b.program

abbrev pub made : Fitter → (Record → Outline → Result Outline Fault) → ℕ → Raw → Result Outline Fault
made s add g raw = begun_glyph s g raw >>= finished s add

abbrev pub outline_by : Fitter → (Record → Outline → Result Outline Fault) → ℕ → Result Outline Fault
outline_by s add g = glyph_data_of s.tables g >>= made s add g

-- the outline after one record with this many levels of components: its component's own outline is placed
unfoldable pub added : Fitter → ℕ → Record → Outline → Result Outline Fault
added s zero r o = Err (glyf_fault r.at why.ComponentDepth)
added s (suc levels) r o = outline_by s (added s levels) r.glyph >>= λ component. placed (glyph_grid s) (size_of s) r component o

-- the outline of a glyph, with this many levels of components
abbrev pub outline_at : Fitter → ℕ → ℕ → Result Outline Fault
outline_at s levels g = outline_by s (added s levels) g

-- the work of a glyph that is begun: that of its components, and that of its program
abbrev pub finished_work : Fitter → (Record → Outline → Result Outline Fault) → (Record → Option ℕ → Worked) → Begun
    → Option ℕ → Worked
finished_work s add work b left =
    then_work (joined_work add work b.records b.outline left)
    (if_ok (joined add b.records b.outline) (hinted_work s.hinting b.program))

-- the work of a glyph's programs, by how a record extends the outline so far, and by the record's work
abbrev pub made_work : Fitter → (Record → Outline → Result Outline Fault) → (Record → Option ℕ → Worked) → ℕ → Raw
    → Option ℕ → Worked
made_work s add work g raw = if_ok (begun_glyph s g raw) (finished_work s add work)

abbrev pub work_by : Fitter → (Record → Outline → Result Outline Fault) → (Record → Option ℕ → Worked) → ℕ → Option ℕ
    → Worked
work_by s add work g = if_ok (glyph_data_of s.tables g) (made_work s add work g)

-- the work of a record with this many levels of components: its component's work
unfoldable pub added_work : Fitter → ℕ → Record → Option ℕ → Worked
added_work s zero r left = enough left
added_work s (suc levels) r left = work_by s (added s levels) (added_work s levels) r.glyph left

-- the work of a glyph, with this many levels of components
abbrev pub outline_work : Fitter → ℕ → ℕ → Option ℕ → Worked
outline_work s levels g = work_by s (added s levels) (added_work s levels) g

-- the work of a character's glyph
abbrev pub glyph_work : Fitter → ℕ → Option ℕ → Worked
glyph_work s g = outline_work (with_hinting s s.hinting) s.levels g

-- the fault that makes a character's glyph and its components unfitted
unfoldable pub unfitted_fault : Fitter → ℕ → Option Fault
unfitted_fault s g =
    unfitted_by s.fallback (glyph_work s g s.work) (outline_at (with_hinting s s.hinting) s.levels g)

-- the job's remaining work after a glyph; unchanged where a refused program is the answer, or none is run
abbrev pub left_after_glyph : Fallback → Worked → Option ℕ → Option ℕ
left_after_glyph never worked left = left
left_after_glyph where_refused worked left = left_in worked
left_after_glyph (everywhere fault) worked left = left

-- the fitter for the glyphs after a character's glyph
unfoldable pub after_glyph : Fitter → ℕ → Fitter
after_glyph s g = record s { work = left_after_glyph s.fallback (glyph_work s g s.work) s.work }

-- this fitter with other work remaining
abbrev pub with_work : Fitter → Option ℕ → Fitter
with_work s left = record s { work = left }

-- a job's remaining work after a cost; none remains where there was less
abbrev pub work_less : ℕ → Option ℕ → Option ℕ
work_less cost None = None
work_less cost (Some left) = Some (left - cost)

-- this fitter after a cost
abbrev pub charged_fitter : Fitter → ℕ → Fitter
charged_fitter s cost = record s { work = work_less cost s.work }

-- the fitter that makes a character's glyph
abbrev pub glyph_fitter : Fitter → ℕ → Fitter
glyph_fitter s g = with_hinting s (hinting_for (unfitted_fault s g) s.hinting)

-- Hinting is on for a character's glyph and its components: the glyph is fitted, and the font has programs that have
-- not switched glyph programs off.
abbrev pub is_hinted : Fitter → ℕ → Bool
is_hinted s g = is_on (glyph_fitter s g).hinting

-- the outline of a character's glyph, or the fault that comes first
unfoldable pub fitted_outline : Fitter → ℕ → Result Outline Fault
fitted_outline s g = outline_at (glyph_fitter s g) s.levels g

-- worked values: some work is charged, none, all, more than there is, and work that is not bounded
some_is_charged : work_less 40 (Some 100) ≡ Some 60
some_is_charged = refl

none_is_charged : work_less 0 (Some 100) ≡ Some 100
none_is_charged = refl

all_is_charged : work_less 40 (Some 40) ≡ Some 0
all_is_charged = refl

more_than_remains : work_less 40 (Some 39) ≡ Some 0
more_than_remains = refl

not_bounded : work_less 40 None ≡ None
not_bounded = refl
