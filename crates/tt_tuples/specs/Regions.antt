-- OpenType, "OpenType Font Variations Common Table Formats": the region of a tuple, and how much of the tuple holds at
-- the coordinates of an instance.
use Rattle.std.specs.Prelude.{◌≡◌, refl, ℕ, zero, suc, ◌*◌, ℤ, pos, negsuc, ◌*ℤ◌, Option, Some, None, List, [], ◌∷◌, length}
use Rattle.std.specs.Option.{unwrap_or}
use Rattle.tt_core.specs.Numbers.{signed_at}
use Rattle.tt_axes.specs.declared.region.RegionEnds.{RegionEnds}
use Rattle.tt_axes.specs.Coordinates.{coordinate_at}
use Rattle.tt_axes.specs.Shares.{share_of_tuple_axis, whole_share}

-- number i of a list of 2.14, in 1/65536
abbrev pub fixed_at : List ℕ → ℕ → ℤ
fixed_at b i = unwrap_or (signed_at b (2 * i)) (pos 0) *ℤ pos 4

-- the bytes of a region's ends, a 2.14 for each axis
pub record RegionSides : Type 0 where
  pub start : List ℕ
  pub end : List ℕ

-- the bytes of a tuple's peak, and of its ends where it has its own
pub record Region : Type 0 where
  pub peak : List ℕ
  pub sides : Option RegionSides

-- the ends on axis i
abbrev pub ends_on : Option RegionSides → ℕ → Option RegionEnds
ends_on None i = None
ends_on (Some s) i = Some (record { start = fixed_at s.start i; end = fixed_at s.end i })

-- how much holds, after the given number of axes
unfoldable pub share_after : List ℤ → Region → ℕ → ℕ
share_after coordinates r zero = whole_share
share_after coordinates r (suc i) =
    share_of_tuple_axis (share_after coordinates r i) (coordinate_at coordinates i) (fixed_at r.peak i) (ends_on r.sides i)

-- how much of a tuple holds, after all axes
abbrev pub share_of : List ℤ → Region → ℕ
share_of coordinates r = share_after coordinates r (length coordinates)

-- worked values: a peak at 1, and one at 1/2 with ends at 1/4 and 3/4
abbrev at_one : Region
at_one = record { peak = 0x40 ∷ 0 ∷ []; sides = None }

abbrev between : Region
between =
    record { peak = 0x20 ∷ 0 ∷ []; sides = Some (record { start = 0x10 ∷ 0 ∷ []; end = 0x30 ∷ 0 ∷ [] }) }

abbrev shares : Region → List ℤ → List ℕ
shares r [] = []
shares r (c ∷ cs) = share_of (c ∷ []) r ∷ shares r cs

along_to_a_peak : shares at_one (negsuc 65535 ∷ pos 0 ∷ pos 16450 ∷ pos 32768 ∷ pos 65536 ∷ [])
    ≡ 0 ∷ 0 ∷ 16450 ∷ 32768 ∷ 65536 ∷ []
unfolding share_after share_of_tuple_axis
along_to_a_peak = refl

-- nothing at the ends
in_a_region : shares between (pos 16384 ∷ pos 22938 ∷ pos 32768 ∷ pos 42598 ∷ pos 49152 ∷ pos 65536 ∷ [])
    ≡ 0 ∷ 26216 ∷ 65536 ∷ 26216 ∷ 0 ∷ 0 ∷ []
unfolding share_after share_of_tuple_axis
in_a_region = refl

-- past a peak below 1
past_a_peak : shares (record { peak = 0x20 ∷ 0 ∷ []; sides = None }) (pos 49152 ∷ pos 32768 ∷ []) ≡ 0 ∷ 65536 ∷ []
unfolding share_after share_of_tuple_axis
past_a_peak = refl

-- a peak of 0 has no effect on its axis
on_two_axes : share_of (pos 32768 ∷ negsuc 52428 ∷ []) (record { peak = 0x40 ∷ 0 ∷ 0 ∷ 0 ∷ []; sides = None }) ≡ 32768
unfolding share_after share_of_tuple_axis
on_two_axes = refl

-- two thirds: 13173 of 21844, then 32932 of 45876, each rounded
thirds : share_of (pos 13173 ∷ pos 32932 ∷ []) (record { peak = 0x15 ∷ 0x55 ∷ 0x2C ∷ 0xCD ∷ []; sides = None }) ≡ 28370
unfolding share_after share_of_tuple_axis
thirds = refl
