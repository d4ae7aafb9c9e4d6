-- Lemmas about the definitions: how much of a tuple holds, and facts about all tuples that are read.
use Rattle.std.specs.Prelude.{◌≡◌, ℕ, ◌<◌, ◌≤◌, ℤ, List, length, All, Ok}
use Rattle.tt_axes.specs.Coordinates.{coordinate_at}
use Rattle.tt_axes.specs.Shares.{whole_share}
use Rattle.tt_tuples.specs.Headers.{tuple_count}
use Rattle.tt_tuples.specs.Regions.{Region, fixed_at, share_after, share_of}
use Rattle.tt_tuples.specs.Sources.{IsTuple, Source, Tuple}
use Rattle.tt_tuples.specs.Tuples.{tuples_of}

-- no more than the whole of a tuple holds
abbrev pub PartsHold : Type 0
PartsHold = (coordinates : List ℤ) (r : Region) → share_of coordinates r ≤ whole_share

-- the whole holds where each coordinate is that of the peak
abbrev pub AllHoldsAtPeak : Type 0
AllHoldsAtPeak = (coordinates : List ℤ) (r : Region)
    → ((i : ℕ) → i < length coordinates → coordinate_at coordinates i ≡ fixed_at r.peak i)
    → share_of coordinates r ≡ whole_share

-- an axis that leaves nothing decides
abbrev pub NothingHolds : Type 0
NothingHolds = (coordinates : List ℤ) (r : Region) (axes : ℕ) → axes ≤ length coordinates
    → share_after coordinates r axes ≡ 0 → share_of coordinates r ≡ 0

-- the tuples that are read are whole, and no more than the header's count
abbrev pub TuplesAreWhole : Type 0
TuplesAreWhole = (s : Source) (ts : List Tuple) → tuples_of s ≡ Ok ts
    → All (IsTuple s) ts × (length ts ≤ tuple_count s.store.table s.store.bytes)
