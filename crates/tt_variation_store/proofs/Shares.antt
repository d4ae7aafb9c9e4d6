-- The share of a region falls from axis to axis.
use Rattle.std.proofs.Common.{◌≡◌, ℕ, zero, suc, ◌+◌, ◌-◌, ◌<◌, ◌≤◌, List, length, ℤ, Bool, true, false, refl, arith, zero-add}
use Rattle.std.specs.Prelude.{nat_lt, if◌then◌else◌}
use Rattle.tt_axes.specs.declared.region.RegionEnds.{RegionEnds}
use Rattle.tt_axes.specs.Shares.{whole_share, share_of_region_axis, RegionSharesFall}
use Rattle.tt_variation_store.specs.Laws.{SharesAreParts, WholeAtPeaks, OneAxisEnds}
use Rattle.tt_variation_store.specs.Regions.{RegionList, axis_place, coordinate_in, ends_in, region_count, share_after, region_share}
use Rattle.tt_axes.specs.Coordinates.{coordinate_at}

falls : RegionSharesFall → (l : RegionList) (region : ℕ) (coordinates : List ℤ) (i more : ℕ)
    → share_after l region coordinates (more + i) ≤ share_after l region coordinates i
falls fall l region coordinates i zero = rw zero-add (omega arith)
falls fall l region coordinates i (suc more) =
    let axis = more + i in
    let one : suc more + i ≡ suc axis = omega arith in
    let next = fall (share_after l region coordinates axis) (coordinate_at coordinates axis)
    (coordinate_in l.table (axis_place l region axis + 2)) (ends_in l.table (axis_place l region axis)) in
    rw one (omega (arith, next, falls fall l region coordinates i more))

-- a share that is 0 stays 0
stays-0 : RegionSharesFall → (l : RegionList) (region : ℕ) (coordinates : List ℤ) (i n : ℕ) → i ≤ n
    → share_after l region coordinates i ≡ 0 → share_after l region coordinates n ≡ 0
stays-0 fall l region coordinates i n below none =
    let all : n ≡ (n - i) + i = omega (arith, below) in
    let least = falls fall l region coordinates i (n - i) in
    rw all (omega (arith, none, least))

none-by : (b : Bool) (n share : ℕ) → n ≡ 0 → share ≡ 0 → share ≡ (if b then n else 0)
none-by true n share none gone = cc
none-by false n share none gone = gone

-- after an axis that leaves nothing, the share of the region is nothing
pub nothing-holds : RegionSharesFall → (l : RegionList) (region : ℕ) (coordinates : List ℤ) (axis share : ℕ)
    → axis < length coordinates → share ≡ share_after l region coordinates (suc axis) → share ≡ 0
    → share ≡ region_share l region coordinates
nothing-holds fall l region coordinates axis share within is none =
    let here : share_after l region coordinates (suc axis) ≡ 0 = cc in
    let all = stays-0 fall l region coordinates (suc axis) (length coordinates) (omega arith) here in
    none-by (nat_lt region (region_count l)) (share_after l region coordinates (length coordinates)) share all none

part-by : (b : Bool) (n most : ℕ) → n ≤ most → (if b then n else 0) ≤ most
part-by true n most less = less
part-by false n most less = omega arith

pub parts : RegionSharesFall → SharesAreParts
parts fall l region coordinates =
    let n = length coordinates in
    let all : n ≡ n + 0 = omega arith in
    let least = falls fall l region coordinates 0 n in
    part-by (nat_lt region (region_count l)) (share_after l region coordinates n) whole_share (rw all least)

-- the first axes, each at its peak, leave the whole
whole-after : ((share : ℕ) (peak : ℤ) (e : RegionEnds) → share_of_region_axis share peak peak e ≡ share)
    → (l : RegionList) (region : ℕ) (coordinates : List ℤ) (n : ℕ)
    → ((axis : ℕ) → axis < n → coordinate_at coordinates axis ≡ coordinate_in l.table (axis_place l region axis + 2))
    → share_after l region coordinates n ≡ whole_share
whole-after stays l region coordinates zero at = refl
whole-after stays l region coordinates (suc n) at =
    let here = at n (omega arith) in
    let before = whole-after stays l region coordinates n (λ axis below. at axis (omega (arith, below))) in
    rw (here, stays) before

pub peaks : ((share : ℕ) (peak : ℤ) (e : RegionEnds) → share_of_region_axis share peak peak e ≡ share) → WholeAtPeaks
peaks stays l region coordinates at = whole-after stays l region coordinates (length coordinates) at

either-0 : (b : Bool) (n none : ℕ) → n ≡ none → (if b then n else none) ≡ none
either-0 true n none is = is
either-0 false n none is = refl

pub one-ends : RegionSharesFall → OneAxisEnds
one-ends fall l region coordinates axis below leaves =
    let all = stays-0 fall l region coordinates (suc axis) (length coordinates) (omega (arith, below))
    (leaves (share_after l region coordinates axis)) in
    either-0 (nat_lt region (region_count l)) (share_after l region coordinates (length coordinates)) 0 all
