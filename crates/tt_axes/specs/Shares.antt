-- OpenType, "OpenType Font Variations Common Table Formats", "Algorithm for interpolation of instance values": how much
-- of a variation holds, in 1/65536. Axis by axis the share stays or becomes smaller. A tuple's region is not tested, a
-- store's region is (profile).
use Rattle.std.specs.Prelude.{◌≡◌, refl, ℕ, ◌+◌, ◌*◌, ◌/◌, ◌≤◌, ℤ, pos, negsuc, ◌-ℤ◌, int_lt, int_le, unsigned_abs, Bool, ◌&&◌, ◌||◌, not, if◌then◌else◌, Option, Some, None, [], ◌∷◌, map}
use Rattle.std.specs.Int.{int_max, int_min}
use Rattle.std.specs.Ordering.{int_eq}
use Rattle.tt_axes.specs.declared.region.RegionEnds.{RegionEnds}

-- the whole
abbrev pub whole_share : ℕ
whole_share = 65536

-- a share times part / whole, rounded to the nearest whole number, a half up
abbrev pub portion : ℕ → ℕ → ℕ → ℕ
portion share part whole = (2 * (share * part) + whole) / (2 * whole)

abbrev pub distance : ℤ → ℤ → ℕ
distance a b = unsigned_abs (a -ℤ b)

-- in a region: nothing at its ends, and the share at its peak
abbrev pub share_between : ℕ → ℤ → ℤ → RegionEnds → ℕ
share_between share c peak e =
    if int_le c e.start || int_le e.end c then 0
    else let end = (if int_lt c peak then e.start else e.end) in portion share (distance c end) (distance peak end)

-- without a region: nothing at 0, the share at the peak, and nothing past the peak
abbrev pub share_to_peak : ℕ → ℤ → ℤ → ℕ
share_to_peak share c peak =
    if int_lt c (int_min (pos 0) peak) || int_lt (int_max (pos 0) peak) c then 0
    else portion share (unsigned_abs c) (unsigned_abs peak)

abbrev pub share_towards : ℕ → ℤ → ℤ → Option RegionEnds → ℕ
share_towards share c peak None = share_to_peak share c peak
share_towards share c peak (Some e) = share_between share c peak e

-- what an axis with a coordinate leaves of a tuple's share. An axis whose peak is 0 has no effect
unfoldable pub share_of_tuple_axis : ℕ → ℤ → ℤ → Option RegionEnds → ℕ
share_of_tuple_axis share c peak ends =
    if int_eq peak (pos 0) then share
    else if int_eq c (pos 0) then 0
    else if int_eq c peak then share
    else share_towards share c peak ends

-- whether a region of a store has an effect: its peak is between its ends and not 0, and 0 is not strictly between them
abbrev pub has_effect : ℤ → RegionEnds → Bool
has_effect peak e =
    int_le e.start peak && int_le peak e.end && not (int_lt e.start (pos 0) && int_lt (pos 0) e.end)
    && not (int_eq peak (pos 0))

-- what an axis with a coordinate leaves of the share of a store's region
unfoldable pub share_of_region_axis : ℕ → ℤ → ℤ → RegionEnds → ℕ
share_of_region_axis share c peak e =
    if not (has_effect peak e) then share
    else if int_eq c peak then share
    else share_between share c peak e

-- no axis makes a share larger
abbrev pub SharesFall : Type 0
SharesFall = (share : ℕ) (c peak : ℤ) (ends : Option RegionEnds) → share_of_tuple_axis share c peak ends ≤ share

abbrev pub RegionSharesFall : Type 0
RegionSharesFall = (share : ℕ) (c peak : ℤ) (e : RegionEnds) → share_of_region_axis share c peak e ≤ share

-- nothing holds at the ends of a region
abbrev pub NothingAtEnds : Type 0
NothingAtEnds = (share : ℕ) (peak : ℤ) (e : RegionEnds) → (share_between share e.start peak e ≡ 0) × (share_between share e.end peak e ≡ 0)

-- all of a share stays at the peak
abbrev pub AllAtPeak : Type 0
AllAtPeak = (share : ℕ) (peak : ℤ) (ends : Option RegionEnds) (e : RegionEnds) → (share_of_tuple_axis share peak peak ends ≡ share)
    × (share_of_region_axis share peak peak e ≡ share)

-- worked values. A peak of 1, of 1/2 and of -1, without a region
abbrev from_to : ℤ → ℤ → RegionEnds
from_to a b = record { start = a; end = b }

to_a_peak_of_1 : map (λ c. share_of_tuple_axis 65536 c (pos 65536) None) (pos 65536 ∷ pos 32768 ∷ pos 21845 ∷ pos 0 ∷ negsuc 32767 ∷ [])
    ≡ 65536 ∷ 32768 ∷ 21845 ∷ 0 ∷ 0 ∷ []
unfolding share_of_tuple_axis
to_a_peak_of_1 = refl

past_a_peak : map (λ c. share_of_tuple_axis 65536 c (pos 32768) None) (pos 16450 ∷ pos 32768 ∷ pos 32769 ∷ [])
    ≡ 32900 ∷ 65536 ∷ 0 ∷ []
unfolding share_of_tuple_axis
past_a_peak = refl

to_a_peak_below_0 : map (λ c. share_of_tuple_axis 40000 c (negsuc 65535) None) (negsuc 65535 ∷ negsuc 32767 ∷ pos 1 ∷ [])
    ≡ 40000 ∷ 20000 ∷ 0 ∷ []
unfolding share_of_tuple_axis
to_a_peak_below_0 = refl

-- an axis whose peak is 0 has no effect; one whose coordinate is 0 ends a tuple, in a region across 0 too
no_peak : map (λ c. share_of_tuple_axis 12345 c (pos 0) None) (pos 0 ∷ negsuc 0 ∷ []) ≡ 12345 ∷ 12345 ∷ []
unfolding share_of_tuple_axis
no_peak = refl

across_0 : map (λ c. share_of_tuple_axis 65536 c (pos 65536) (Some (from_to (negsuc 65535) (pos 65536)))) (pos 0 ∷ negsuc 32767 ∷ [])
    ≡ 0 ∷ 16384 ∷ []
unfolding share_of_tuple_axis
across_0 = refl

-- a region from 1/4 to 3/4 whose peak is 1/2: its ends, and each side; a half goes up
a_region_of_its_own : map (λ c. share_of_tuple_axis 65536 c (pos 32768) (Some (from_to (pos 16384) (pos 49152))))
    (pos 16384 ∷ pos 22938 ∷ pos 32768 ∷ pos 42598 ∷ pos 49152 ∷ []) ≡ 0 ∷ 26216 ∷ 65536 ∷ 26216 ∷ 0 ∷ []
unfolding share_of_tuple_axis
a_region_of_its_own = refl

a_half_goes_up : map (λ s. share_of_tuple_axis s (pos 1) (pos 2) (Some (from_to (pos 0) (pos 4)))) (1 ∷ 3 ∷ []) ≡ 1 ∷ 2 ∷ []
unfolding share_of_tuple_axis
a_half_goes_up = refl

-- a store's region across 0, one whose peak is past an end, and one without a peak have no effect
without_effect : map (λ (e : RegionEnds). share_of_region_axis 65536 (negsuc 32767) (pos 65536) e)
    (from_to (negsuc 65535) (pos 65536) ∷ from_to (pos 0) (pos 65535) ∷ from_to (pos 65537) (pos 70000) ∷ [])
    ≡ 65536 ∷ 65536 ∷ 65536 ∷ []
unfolding share_of_region_axis
without_effect = refl

in_a_region : map (λ c. share_of_region_axis 65536 c (pos 65536) (from_to (pos 0) (pos 65536)))
    (pos 65536 ∷ pos 44171 ∷ pos 1 ∷ pos 0 ∷ negsuc 0 ∷ []) ≡ 65536 ∷ 44171 ∷ 1 ∷ 0 ∷ 0 ∷ []
unfolding share_of_region_axis
in_a_region = refl

at_the_coordinate_0 : share_of_region_axis 65536 (pos 0) (pos 0) (from_to (pos 0) (pos 65536)) ≡ 65536
unfolding share_of_region_axis
at_the_coordinate_0 = refl
