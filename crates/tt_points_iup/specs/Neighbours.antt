-- Apple TrueType Reference Manual, "Instruction set" (IUP[a]): the nearest touched points of a point, by their numbers
-- in its contour.
use Rattle.std.specs.Prelude.{◌≡◌, ℕ, ◌+◌, ◌-◌, ◌<◌, nat_lt, true, false, if◌then◌else◌, List, length, get_or, refl}
use Rattle.tt_state.specs.declared.graphics_state.Axis.{Axis}
use Rattle.tt_state.specs.declared.point.Point.{Point}
use Rattle.tt_points_zones.specs.Points.{is_touched}

-- the number of the point k places further round a contour of n points
abbrev pub round_from : ℕ → ℕ → ℕ → ℕ
round_from n i k = if nat_lt (i + k) n then i + k else (i + k) - n

-- the point k places further round is touched
pub record IsTouchedAt (axis : Axis) (ps : List Point) (d : Point) (i k : ℕ) : Type 0 where
  pub other : 0 < k
  pub once : k < length ps
  pub touched : is_touched axis (get_or ps (round_from (length ps) i k) d) ≡ true

-- the nearest touched point after a point: none is touched between the two
pub record IsNextTouched (axis : Axis) (ps : List Point) (d : Point) (i k : ℕ) : Type 0 where
  pub there : IsTouchedAt axis ps d i k
  pub nearest : (j : ℕ) → 0 < j → j < k → is_touched axis (get_or ps (round_from (length ps) i j) d) ≡ false

-- the nearest touched point before a point: none further round is touched
pub record IsLastTouched (axis : Axis) (ps : List Point) (d : Point) (i k : ℕ) : Type 0 where
  pub there : IsTouchedAt axis ps d i k
  pub nearest : (j : ℕ) → k < j → j < length ps → is_touched axis (get_or ps (round_from (length ps) i j) d) ≡ false

-- the nearest touched points before and after a point; perhaps one point
pub record HasNeighbours (axis : Axis) (ps : List Point) (d : Point) (i : ℕ) : Type 0 where
  pub before : ℕ
  pub last : IsLastTouched axis ps d i before
  pub after : ℕ
  pub next : IsNextTouched axis ps d i after

-- worked values
goes_round : round_from 5 3 2 ≡ 0
goes_round = refl

stays : round_from 5 3 1 ≡ 4
stays = refl
