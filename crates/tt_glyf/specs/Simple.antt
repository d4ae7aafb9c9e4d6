-- OpenType, "The 'glyf' table", "Simple Glyph Description": the last point of each contour, the program, the flags, the
-- coordinates. Equal neighbouring ends give a contour without points, and bytes after the last coordinate are ignored
-- (profile).
use Rattle.std.specs.Prelude.{ℕ, zero, suc, ◌+◌, ◌-◌, nat_lt, if◌then◌else◌, ℤ, List, [], ◌∷◌, length, slice_index, Result, Ok, Err}
use Rattle.tt_core.specs.Faults.{Fault}
use Rattle.tt_core.specs.declared.fault.Why.TheVariants as why
use Rattle.tt_core.specs.Limits.{point_limit}
use Rattle.tt_core.specs.Outcomes.{◌>>=◌}
use Rattle.tt_glyf.specs.declared.raw.RawPoint.{RawPoint}
use Rattle.tt_glyf.specs.Bytes.{GlyphBytes, Listing, word_in, slice_in, glyph_fault, after}
use Rattle.tt_glyf.specs.Format.{word_size, header_size, has, on_curve_point}
use Rattle.tt_glyf.specs.Coordinates.{coordinates_of, x_axis, y_axis}
use Rattle.tt_glyf.specs.Raw.{Raw, simple}
use Rattle.tt_glyf.specs.Flags.{flags_of}

-- an end, if it is not below the preceding end
abbrev pub rising : GlyphBytes → ℕ → ℕ → ℕ → Result ℕ Fault
rising g at before e = if nat_lt e before then Err (glyph_fault g at why.ContourOrder) else Ok e

-- the end of a contour, at an offset
unfoldable pub end_at : GlyphBytes → ℕ → ℕ → Result ℕ Fault
end_at g at before = word_in g at >>= rising g at before

-- the ends of the given number of contours; `before` is the preceding end
unfoldable pub ends_from : GlyphBytes → ℕ → ℕ → ℕ → Result (Listing ℕ) Fault
ends_from g at zero before = Ok (record { items = []; next = at })
ends_from g at (suc contours) before = do
  e ← end_at g at before
  after (e ∷ []) (ends_from g (at + word_size) contours e)

-- the ends, which follow the header
abbrev pub ends_of : GlyphBytes → ℕ → Result (Listing ℕ) Fault
ends_of g contours = ends_from g header_size contours 0

-- the number of points, from the last end
abbrev pub point_count : List ℕ → ℕ
point_count ends = slice_index ends (length ends - 1) + 1

-- a number of points above the limit is refused, at the word of the last contour's end, the last word of the list
-- (profile)
unfoldable pub points_within : GlyphBytes → Listing ℕ → Result ℕ Fault
points_within g ends =
    if nat_lt point_limit (point_count ends.items) then Err (glyph_fault g (ends.next - word_size) why.PointLimit)
    else Ok (point_count ends.items)

-- points with these flags and coordinates
abbrev pub points_from : List ℕ → List ℤ → List ℤ → List RawPoint
points_from (flag ∷ flags) (x ∷ xs) (y ∷ ys) =
    record { x = x; y = y; on = has flag on_curve_point } ∷ points_from flags xs ys
points_from flags xs ys = []

-- the given number of points from an offset on: the flags, all x, then all y
unfoldable pub points_of : GlyphBytes → ℕ → ℕ → Result (List RawPoint) Fault
points_of g at points = do
  flags ← flags_of g at points
  xs ← coordinates_of g x_axis flags.items flags.next
  ys ← coordinates_of g y_axis flags.items xs.next
  Ok (points_from flags.items xs.items ys.items)

-- the part of a simple glyph after its header
unfoldable pub simple_of : GlyphBytes → ℤ → ℕ → Result Raw Fault
simple_of g x_min contours = do
  ends ← ends_of g contours
  points ← points_within g ends
  size ← word_in g ends.next
  code ← slice_in g (ends.next + word_size) size
  points ← points_of g (ends.next + word_size + size) points
  Ok (simple (record {
    x_min = x_min;
    points = points;
    ends = ends.items;
    code = code;
    code_at = g.start + (ends.next + word_size);
  }))
