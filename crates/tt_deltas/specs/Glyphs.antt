-- OpenType, "gvar", "'glyphVariationData' table": the points of a glyph at an instance. All tuples that hold are added
-- up; deltas are inferred by the original coordinates, tuple by tuple. The points are those of a simple glyph, or a
-- composite glyph's components, and four phantom points.
use Rattle.std.specs.Prelude.{ℕ, ℤ, List, [], ◌∷◌, length, Option, Some, None, Result, Ok}
use Rattle.tt_core.specs.Outcomes.{◌>>=◌}
use Rattle.tt_core.specs.Faults.{Fault}
use Rattle.tt_tuples.specs.declared.source.TupleTable.TheVariants as table
use Rattle.tt_tuples.specs.PointNumbers.{TuplePoints, all_points, listed}
use Rattle.tt_tuples.specs.Sources.{Source, Tuple}
use Rattle.tt_tuples.specs.Tuples.{tuples_of}
use Rattle.tt_deltas.specs.Along.{AreNumbers, varied_along}
use Rattle.tt_deltas.specs.Gvar.{GlyphData, Gvar, glyph_data_of, shared_bytes_of}
use Rattle.tt_deltas.specs.declared.varied.Varied.{Varied}

-- the coordinates of points along both axes
pub record VariedPoints : Type 0 where
  pub xs : List Varied
  pub ys : List Varied

-- the numbers of named points; none: all points
abbrev pub numbers_of : TuplePoints → Option (List ℕ)
numbers_of all_points = None
numbers_of (listed numbers) = Some numbers

-- the points after a tuple
abbrev pub varied_by : List ℕ → VariedPoints → Tuple → VariedPoints
varied_by ends v t = record {
  xs = varied_along t.share (numbers_of t.points) t.xs ends v.xs;
  ys = varied_along t.share (numbers_of t.points) t.ys ends v.ys;
}

abbrev pub after_tuples : List ℕ → VariedPoints → List Tuple → VariedPoints
after_tuples ends v [] = v
after_tuples ends v (t ∷ ts) = after_tuples ends (varied_by ends v t) ts

-- the points after tuples that are read
unfoldable pub points_by_all : List ℕ → VariedPoints → Result (List Tuple) Fault → Result VariedPoints Fault
points_by_all ends v tuples = tuples >>= λ ts. Ok (after_tuples ends v ts)

-- the source of a glyph's tuples
abbrev pub source_for : Gvar → List ℤ → ℕ → GlyphData → Source
source_for g coordinates points d =
    record {
      store = record { table = table.Gvar; start = d.start; bytes = d.bytes };
      shared = shared_bytes_of g;
      coordinates = coordinates;
      points = points;
    }

abbrev pub varied_with : Gvar → List ℤ → List ℕ → VariedPoints → Option GlyphData → Result VariedPoints Fault
varied_with g coordinates ends v None = Ok v
varied_with g coordinates ends v (Some d) =
    points_by_all ends v (tuples_of (source_for g coordinates (length v.xs) d))

-- the points of glyph n
unfoldable pub varied_glyph : Gvar → ℕ → List ℤ → List ℕ → VariedPoints → Result VariedPoints Fault
varied_glyph g n coordinates ends v = glyph_data_of g n >>= varied_with g coordinates ends v

-- a tuple with a delta on each axis for each named point
pub record IsFor (points : ℕ) (t : Tuple) : Type 0 where
  pub xs : AreNumbers (numbers_of t.points) (length t.xs) points
  pub ys : AreNumbers (numbers_of t.points) (length t.ys) points
