-- No part of the standard: a point after a change to another, which may be the same point. With this an instruction on
-- both computes all before it writes. Coordinates are in 26.6 pixels.
use Rattle.std.specs.Prelude.{ℤ, Bool, ◌&&◌, if◌then◌else◌}
use Rattle.std.specs.Ordering.{int_eq}
use Rattle.tt_state.specs.declared.graphics_state.Zone.{Zone}
use Rattle.tt_state.specs.declared.point.Point.{Point}
use Rattle.tt_points.specs.ControlValues.{is_same}

-- whether point n of zone a is point p of zone b
abbrev pub is_one : Zone → ℤ → Zone → ℤ → Bool
is_one a n b p = is_same a b && int_eq n p

-- point number n of zone a, after point number p of zone b has become q; r is the point before
abbrev pub seen : Zone → ℤ → Point → Zone → ℤ → Point → Point
seen a n r b p q = if is_one a n b p then q else r
