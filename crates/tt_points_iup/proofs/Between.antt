-- The neighbours of a point in the order of their originals.
use Rattle.std.proofs.Common.{◌≡◌, true, false, refl}
use Rattle.std.specs.Prelude.{int_lt}
use Rattle.tt_state.specs.declared.point.Point.{Point}
use Rattle.tt_points_iup.specs.declared.place.Along.{Along}
use Rattle.tt_points_iup.specs.Interpolation.{AxisPosition, interpolated, placed_between, position_at}

pub exchanged : (along : Along) (before after p : Point) (a b lo hi : AxisPosition) → a ≡ position_at along before
    → b ≡ position_at along after → lo ≡ b → hi ≡ a → int_lt b.from a.from ≡ true
    → placed_between along lo hi p ≡ interpolated along before after p
unfolding interpolated
exchanged along before after p a b lo hi first second low high less =
    rw (low, high, first, second, rw (first, second) at less) refl

pub in_order : (along : Along) (before after p : Point) (a b lo hi : AxisPosition) → a ≡ position_at along before
    → b ≡ position_at along after → lo ≡ a → hi ≡ b → int_lt b.from a.from ≡ false
    → placed_between along lo hi p ≡ interpolated along before after p
unfolding interpolated
in_order along before after p a b lo hi first second low high less =
    rw (low, high, first, second, rw (first, second) at less) refl
