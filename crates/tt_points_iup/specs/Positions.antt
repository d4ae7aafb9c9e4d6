-- Positions with coordinates within the limit, and the meaning of the code's types.
use Rattle.std.specs.Prelude.{◌≡◌, ◌<◌, ◌≤◌, ◌^◌, ℤ, ◌-ℤ◌, unsigned_abs, Option, Some, None}
use Rattle.tt_core.specs.Limits.{coordinate_limit}
use Rattle.tt_state.specs.declared.point.Point.{Point}
use Rattle.tt_points_zones.specs.declared.zones.Originals.{Originals}
use Rattle.tt_points_iup.specs.Interpolation as is
use Rattle.tt_points_iup.specs.declared.counted.PlainPoint.{PlainPoint}
use Rattle.tt_points_iup.specs.declared.place.Along.{Along}
use Rattle.tt_points_iup.specs.declared.place.AxisPosition.{AxisPosition}

pub record IsPosition (by : Originals) (p : is.AxisPosition) : Type 0 where
  pub from : unsigned_abs p.from ≤ coordinate_limit
  pub org : unsigned_abs p.org ≤ coordinate_limit
  pub cur : unsigned_abs p.cur ≤ coordinate_limit
  pub in_pixels : by.units ≡ None → p.from ≡ p.org

abbrev pub position_of : AxisPosition → is.AxisPosition
position_of p = record { from = p.from; org = p.org; cur = p.cur }

-- two positions, with the multiplier and the divisor for a share of the way between them
pub record AreNeighbours (along : Along) (lo hi : is.AxisPosition) (multiplier divisor : ℤ) : Type 0 where
  pub low : IsPosition along.originals lo
  pub high : IsPosition along.originals hi
  pub multiplied : multiplier
      ≡ is.multiplier along.originals.units along.originals.halves (hi.cur -ℤ lo.cur) (hi.from -ℤ lo.from)
  pub divided : divisor ≡ is.divisor along.originals.units (hi.from -ℤ lo.from)
  pub few : unsigned_abs multiplier < 2 ^ 38

-- a found point, with its touches
abbrev pub point_of : Option PlainPoint → Option Point
point_of None = None
point_of (Some p) = Some p.point
