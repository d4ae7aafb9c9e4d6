-- OpenType, "gvar": the points of a glyph with the deltas of an instance. The points of a simple glyph are its own; a
-- composite glyph has one for each component; four phantom points follow. Only points of contours have coordinates that
-- deltas are inferred by, so that others have 0.
use Rattle.std.specs.Prelude.{ℕ, ℤ, pos, ◌++◌, List, [], ◌∷◌, map, Result}
use Rattle.tt_core.specs.Faults.{Fault}
use Rattle.tt_deltas.specs.declared.varied.Varied.{Varied}
use Rattle.tt_deltas.specs.Glyphs.{VariedPoints, varied_glyph}
use Rattle.tt_deltas.specs.Gvar.{Gvar}
use Rattle.tt_glyf.specs.declared.raw.RawPoint.{RawPoint}
use Rattle.tt_glyf.specs.declared.raw.Record.{Record}

-- a coordinate that has not moved
abbrev pub still : ℤ → Varied
still v = record { at = v; delta = pos 0 }

abbrev pub four_ends : List Varied
four_ends = still (pos 0) ∷ still (pos 0) ∷ still (pos 0) ∷ still (pos 0) ∷ []

abbrev pub still_x : RawPoint → Varied
still_x p = still p.x

abbrev pub still_y : RawPoint → Varied
still_y p = still p.y

-- a component has a number, but no coordinate by which deltas are inferred
abbrev pub still_part : Record → Varied
still_part r = still (pos 0)

-- the coordinates of a simple glyph before its deltas
abbrev pub simple_points : List RawPoint → VariedPoints
simple_points points = record { xs = map still_x points ++ four_ends; ys = map still_y points ++ four_ends }

abbrev pub parts_still : List Record → List Varied
parts_still records = map still_part records ++ four_ends

-- those of a composite glyph
abbrev pub composite_points : List Record → VariedPoints
composite_points records = record { xs = parts_still records; ys = parts_still records }

-- the points of simple glyph g, the components of composite glyph g, and an empty glyph's phantom points
abbrev pub simple_deltas : Gvar → List ℤ → ℕ → List RawPoint → List ℕ → Result VariedPoints Fault
simple_deltas gvar coordinates g points ends = varied_glyph gvar g coordinates ends (simple_points points)

abbrev pub composite_deltas : Gvar → List ℤ → ℕ → List Record → Result VariedPoints Fault
composite_deltas gvar coordinates g records = varied_glyph gvar g coordinates [] (composite_points records)
