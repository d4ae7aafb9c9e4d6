-- The share of a tuple, axis by axis. Where nothing is left, the other axes have no effect.
use Rattle.std.proofs.Common.{◌≡◌, ℕ, zero, suc, ◌+◌, ◌-◌, ◌<◌, ◌≤◌, ℤ, pos, List, refl, arith, add-zero, add-one}
use Rattle.tt_axes.specs.declared.region.RegionEnds.{RegionEnds}
use Rattle.tt_axes.specs.Coordinates.{coordinate_at}
use Rattle.tt_axes.specs.Shares.{AllAtPeak, SharesFall, share_of_tuple_axis, whole_share}
use Rattle.tt_tuples.specs.Regions.{Region, ends_on, fixed_at, share_after}

more-axes : SharesFall → (cs : List ℤ) (r : Region) (k d : ℕ) → share_after cs r k ≡ 0 → share_after cs r (k + d) ≡ 0
unfolding share_after
more-axes falls cs r k zero none = rw add-zero none
more-axes falls cs r k (suc d) none =
    let next : k + suc d ≡ suc (k + d) = omega arith in
    let before = more-axes falls cs r k d none in
    let less = falls (share_after cs r (k + d)) (coordinate_at cs (k + d)) (fixed_at r.peak (k + d)) (ends_on r.sides (k + d)) in
    rw next (omega (arith, before, less))

pub nothing-stays : SharesFall → (cs : List ℤ) (r : Region) (k n : ℕ) → k ≤ n → share_after cs r k ≡ 0
    → share_after cs r n ≡ 0
nothing-stays falls cs r k n le none =
    let all : k + (n - k) ≡ n = omega arith in
    rw all at (more-axes falls cs r k (n - k) none)

pub no_axis : (cs : List ℤ) (r : Region) → share_after cs r 0 ≡ whole_share
unfolding share_after
no_axis cs r = refl

pub one_more_axis : (cs : List ℤ) (r : Region) (i : ℕ) → share_after cs r (i + 1)
    ≡ share_of_tuple_axis (share_after cs r i) (coordinate_at cs i) (fixed_at r.peak i) (ends_on r.sides i)
unfolding share_after
one_more_axis cs r i = rw add-one refl

pub part-holds : SharesFall → (cs : List ℤ) (r : Region) (i : ℕ) → share_after cs r i ≤ whole_share
unfolding share_after
part-holds falls cs r zero = omega arith
part-holds falls cs r (suc i) =
    let before = part-holds falls cs r i in
    let less = falls (share_after cs r i) (coordinate_at cs i) (fixed_at r.peak i) (ends_on r.sides i) in
    omega arith

-- any ends
no_ends : RegionEnds
no_ends = record { start = pos 0; end = pos 0 }

pub all-holds : AllAtPeak → (cs : List ℤ) (r : Region) (i n : ℕ) → i ≤ n
    → ((k : ℕ) → k < n → coordinate_at cs k ≡ fixed_at r.peak k) → share_after cs r i ≡ whole_share
unfolding share_after
all-holds at cs r zero n le same = refl
all-holds at cs r (suc i) n le same =
    let before = all-holds at cs r i n (omega arith) same in
    let here = same i (omega arith) in
    rw (here, before) (at whole_share (fixed_at r.peak i) (ends_on r.sides i) no_ends).0
