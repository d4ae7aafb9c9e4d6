-- Lemmas about the definitions.
use Rattle.std.specs.Prelude.{◌≡◌, ℕ, ◌+◌, ◌<◌, ◌≤◌, List, length, ℤ}
use Rattle.tt_axes.specs.Coordinates.{coordinate_at}
use Rattle.tt_axes.specs.Shares.{whole_share}
use Rattle.tt_variation_store.specs.Regions.{RegionList, axis_place, coordinate_in, share_by, share_after, region_share}

-- no region's share is above the whole
abbrev pub SharesAreParts : Type 0
SharesAreParts = (l : RegionList) (region : ℕ) (coordinates : List ℤ) → region_share l region coordinates ≤ whole_share

-- where each axis is at a region's peak, everything holds
abbrev pub WholeAtPeaks : Type 0
WholeAtPeaks = (l : RegionList) (region : ℕ) (coordinates : List ℤ)
    → ((axis : ℕ) → axis < length coordinates → coordinate_at coordinates axis ≡ coordinate_in l.table (axis_place l region axis + 2))
    → share_after l region coordinates (length coordinates) ≡ whole_share

-- where one axis leaves nothing, nothing holds
abbrev pub OneAxisEnds : Type 0
OneAxisEnds = (l : RegionList) (region : ℕ) (coordinates : List ℤ) (axis : ℕ) → axis < length coordinates
    → ((share : ℕ) → share_by l.table (axis_place l region axis) share (coordinate_at coordinates axis) ≡ 0)
    → region_share l region coordinates ≡ 0
