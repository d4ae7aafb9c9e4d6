-- The share in a region, by the side of the peak.
use Rattle.std.proofs.Common.{◌≡◌, ℕ, ℤ, true, false, refl}
use Rattle.std.specs.Prelude.{int_lt, int_le}
use Rattle.tt_axes.specs.declared.region.RegionEnds.{RegionEnds}
use Rattle.tt_axes.specs.Shares.{distance, portion, share_between}

pub before-peak : (s n m : ℕ) (c p : ℤ) (e : RegionEnds) → int_le c e.start ≡ false → int_le e.end c ≡ false → int_lt c p ≡ true
    → n ≡ distance c e.start → m ≡ distance p e.start → portion s n m ≡ share_between s c p e
before-peak s n m c p e above below before part whole = rw (above, below, before, part, whole) refl

pub past-peak : (s n m : ℕ) (c p : ℤ) (e : RegionEnds) → int_le c e.start ≡ false → int_le e.end c ≡ false → int_lt c p ≡ false
    → n ≡ distance c e.end → m ≡ distance p e.end → portion s n m ≡ share_between s c p e
past-peak s n m c p e above below before part whole = rw (above, below, before, part, whole) refl
