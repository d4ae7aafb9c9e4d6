-- A glyph at an instance, step by step.
use Rattle.std.proofs.Common.{◌≡◌, ℕ, List, length, Ok, Err, refl}
use Rattle.tt_core.specs.Faults.{Fault}
use Rattle.tt_core.specs.declared.scaling.Scale.{Scale}
use Rattle.tt_deltas.specs.Glyphs.{VariedPoints}
use Rattle.tt_face.specs.Faces.{FaceInstance}
use Rattle.tt_fit.specs.Fitting.{Fitter, begun_at_instance, composite_begun, fine_phantom, fine_start, simple_start, units_at, whole_start}
use Rattle.tt_fit_outline.specs.Outline.{Outline, PhantomPoints}
use Rattle.tt_fit_variation.specs.Ends.{EndDeltas, fine_ends}
use Rattle.tt_fit_variation.specs.Glyph.{composite_deltas}
use Rattle.tt_fit_variation.specs.Records.{moved_records}
use Rattle.tt_glyf.specs.Raw.{CompositeGlyph, SimpleGlyph, composite}
use Rattle.tt_glyf.specs.declared.raw.Record.{Record}

pub composite_done : (i : FaceInstance) (s : Fitter) (g : ℕ) (d : CompositeGlyph) (v : VariedPoints) (o : Outline)
    (records : List Record) → composite_deltas i.gvar i.coordinates g d.records ≡ Ok v
    → whole_start s d.x_min g (length d.records) v ≡ Ok o → moved_records d.records v.xs v.ys ≡ Ok records
    → begun_at_instance i s g (composite d) ≡ Ok (composite_begun s g d.code d.code_at records o)
composite_done i s g d v o records deltas starts moves = rw (deltas, starts, moves) refl

-- a simple glyph that cannot be begun for its phantom points on the grid
pub fine_refused : (s : Fitter) (g : ℕ) (d : SimpleGlyph) (v : VariedPoints) (units : PhantomPoints) (f : Fault)
    → units_at s d.x_min g (length d.points) v ≡ Ok units
    → simple_start s (fine_phantom s g d v) g d.code ≡ Err f → fine_start s g d v ≡ Err f
fine_refused s g d v units f of_units fails = rw (of_units, fails) refl

pub fine_same : (scale scale-2 : Scale) (u u-2 : PhantomPoints) (m m-2 : EndDeltas) → scale ≡ scale-2 → u ≡ u-2
    → m ≡ m-2 → fine_ends scale u m ≡ fine_ends scale-2 u-2 m-2
fine_same scale scale-2 u u-2 m m-2 same-scale same-units same-moves = rw (same-scale, same-units, same-moves) refl
