-- Not from the standard: how the points are read in one list. A point's y holds the point's flag until the y is read.
-- All x are read first, then all y.
use Rattle.std.specs.Prelude.{◌≡◌, ℕ, ◌<◌, ℤ, pos, unsigned_abs, List, [], ◌∷◌, map, Result, Ok}
use Rattle.tt_core.specs.Faults.{Fault}
use Rattle.tt_core.specs.Outcomes.{◌>>=◌}
use Rattle.tt_glyf.specs.declared.coordinates.DeltaAxis.{DeltaAxis}
use Rattle.tt_glyf.specs.declared.coordinates.DeltaAxis.TheVariants as axis
use Rattle.tt_glyf.specs.declared.raw.RawPoint.{RawPoint}
use Rattle.tt_glyf.specs.Bytes.{GlyphBytes, Listing, after}
use Rattle.tt_glyf.specs.Coordinates.{AxisFlags, Coordinate, coordinate_at, origin, x_axis, y_axis}
use Rattle.tt_glyf.specs.Flags.{flags_of}
use Rattle.tt_glyf.specs.Format.{has, on_curve_point}

-- a point with this flag and unread coordinates
abbrev pub held : ℕ → RawPoint
held flag = record { x = pos 0; y = pos flag; on = has flag on_curve_point }

-- the flag that a point holds
abbrev pub held_flag : RawPoint → ℕ
held_flag p = unsigned_abs p.y

-- a point's y holds a byte
abbrev pub HoldsFlag : RawPoint → Type 0
HoldsFlag p = (p.y ≡ pos (held_flag p)) × (held_flag p < 256)

abbrev pub put_x : RawPoint → ℤ → RawPoint
put_x p v = record p { x = v }

abbrev pub put_y : RawPoint → ℤ → RawPoint
put_y p v = record p { y = v }

-- points that hold the given flags
abbrev pub all_held : Listing ℕ → Listing RawPoint
all_held flags = record { items = map held flags.items; next = flags.next }

unfoldable pub held_of : GlyphBytes → ℕ → ℕ → Result (Listing RawPoint) Fault
held_of g at points = flags_of g at points >>= λ flags. Ok (all_held flags)

-- points that hold flags, after their coordinates along an axis are put in; the last argument is the preceding
-- coordinate
unfoldable pub placed_from : GlyphBytes → AxisFlags → (RawPoint → ℤ → RawPoint) → List RawPoint → Coordinate
    → Result (Listing RawPoint) Fault
placed_from g a put [] before = Ok (record { items = []; next = before.next })
placed_from g a put (p ∷ ps) before = do
  c ← coordinate_at g a (held_flag p) before
  after (put p c.value ∷ []) (placed_from g a put ps c)

-- the flags of the deltas along an axis, and where their sums are put
abbrev pub flags_along : DeltaAxis → AxisFlags
flags_along axis.X = x_axis
flags_along axis.Y = y_axis

abbrev pub put_along : DeltaAxis → RawPoint → ℤ → RawPoint
put_along axis.X = put_x
put_along axis.Y = put_y

-- points that hold flags, after their coordinates along an axis are put in
abbrev pub along : GlyphBytes → DeltaAxis → Listing RawPoint → Result (Listing RawPoint) Fault
along g a list = placed_from g (flags_along a) (put_along a) list.items (origin list.next)

-- equal to points_of
unfoldable pub placed_of : GlyphBytes → ℕ → ℕ → Result (List RawPoint) Fault
placed_of g at points = do
  begun ← held_of g at points
  xs ← along g axis.X begun
  ys ← along g axis.Y xs
  Ok ys.items
