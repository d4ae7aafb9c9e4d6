-- Apple TrueType Reference Manual, "Graphics State" (projection vector, freedom vector, dual projection vector): the
-- parts of a vector.
use Rattle.std.specs.Prelude.{◌&&◌, if◌then◌else◌, pos}
use Rattle.std.specs.Ordering.{int_eq}
use Rattle.tt_state.specs.Vectors.{Pair, pair}
use Rattle.tt_state.specs.declared.vector.Vector.{Vector}
use Rattle.tt_state.specs.declared.vector.Vector.TheVariants as vector

abbrev pub pair_of : Vector → Pair
pair_of vector.X = pair (pos 16384) (pos 0)
pair_of vector.Y = pair (pos 0) (pos 16384)
pair_of (vector.Off s) = s

-- the vector with these parts
unfoldable pub vector_of : Pair → Vector
vector_of p =
    if int_eq p.x (pos 16384) && int_eq p.y (pos 0) then vector.X
    else (if int_eq p.x (pos 0) && int_eq p.y (pos 16384) then vector.Y else vector.Off p)
