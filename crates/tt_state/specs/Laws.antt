-- Lemmas about the definitions: the states of SROUND, vectors on the axes, and the parts of a unit vector. Apple
-- TrueType Reference Manual, "Instruction Set" (SROUND) and "Graphics State" (vectors).
use Rattle.std.specs.Prelude.{◌≡◌, ℕ, ◌+◌, ◌-◌, ◌*◌, ◌/◌, ◌%◌, ◌^◌, ◌<◌, ◌≤◌, ◌==◌, if◌then◌else◌, ℤ, pos, negsuc, ◌-ℤ◌, ◌*ℤ◌, unsigned_abs}
use Rattle.tt_state.specs.Axes.{pair_of, vector_of}
use Rattle.tt_state.specs.Sround.{a_pixel, super_of}
use Rattle.tt_state.specs.Vectors.{Pair, pair, square, part, unit, project, along, dot}

-- bits 7 and 6 of the byte: half a pixel, a pixel or two pixels
abbrev pub whole_period_of : ℕ → ℕ
whole_period_of byte = if byte / 64 == 0 then 32 else (if byte / 64 == 2 then 128 else 64)

-- bits 3 to 0: for 0, the period less one; for any other n, n - 4 eighths of the period
abbrev pub whole_threshold_of : ℕ → ℤ
whole_threshold_of byte =
    if byte % 16 == 0 then pos (whole_period_of byte - 1)
    else pos (whole_period_of byte / 8) *ℤ (pos (byte % 16) -ℤ pos 4)

-- with the grid of a pixel nothing is cut: quarters and eighths of the period are whole
abbrev pub PixelsAreWhole : Type 0
PixelsAreWhole = (byte : ℕ) → super_of a_pixel byte ≡ record {
  period = whole_period_of byte;
  phase = whole_period_of byte / 4 * (byte / 16 % 4);
  threshold = whole_threshold_of byte;
}

abbrev pub x_axis : Pair
x_axis = pair (pos 16384) (pos 0)

abbrev pub y_axis : Pair
y_axis = pair (pos 0) (pos 16384)

-- on the x axis, a projection is the x coordinate, a distance moves x alone, and the dot product with itself is 1
pub record OnX (x y d : ℤ) : Type 0 where
  pub projected : project x_axis x y ≡ x
  pub moved : along x_axis d ≡ pair d (pos 0)
  pub whole : dot x_axis x_axis ≡ pos 16384

-- on the y axis, a projection is the y coordinate, a distance moves y alone, and the dot product with itself is 1
pub record OnY (x y d : ℤ) : Type 0 where
  pub projected : project y_axis x y ≡ y
  pub moved : along y_axis d ≡ pair (pos 0) d
  pub whole : dot y_axis y_axis ≡ pos 16384

-- the axes, in both directions, are unit vectors already
pub record AxesAreUnits : Type 0 where
  pub x : unit (pos 16384) (pos 0) ≡ x_axis
  pub y : unit (pos 0) (pos 16384) ≡ y_axis
  pub minus_x : unit (negsuc 16383) (pos 0) ≡ pair (negsuc 16383) (pos 0)
  pub minus_y : unit (pos 0) (negsuc 16383) ≡ pair (pos 0) (negsuc 16383)

-- a is the greatest whole number with a a l at most 2^28 s
pub record IsGreatest (a s l : ℕ) : Type 0 where
  pub low : a * a * l ≤ 2 ^ 28 * s
  pub high : 2 ^ 28 * s < (a + 1) * (a + 1) * l

-- the magnitude of a part is the greatest whole number for a vector no longer than 1
abbrev pub PartsAreGreatest : Type 0
PartsAreGreatest = (v : ℤ) (l : ℕ) → 0 < l → square v ≤ l → IsGreatest (unsigned_abs (part v l)) (square v) l

-- a vector made of parts has these parts
abbrev pub VectorsKeepParts : Type 0
VectorsKeepParts = (p : Pair) → pair_of (vector_of p) ≡ p
