-- Laws of coordinates: the default has coordinate 0, and a greater place never has a smaller coordinate.
use Rattle.std.specs.Prelude.{◌≡◌, ℕ, ◌-◌, ◌≤◌, true, ℤ, pos, ◌≤ℤ◌, unsigned_abs, List, [], Some, None, Ok}
use Rattle.tt_axes.specs.Avar.{from_of, mapped, pair_above, to_of}
use Rattle.tt_axes.specs.Axes.{coordinate_on}
use Rattle.tt_axes.specs.Coordinates.{are_zero}
use Rattle.tt_axes.specs.declared.axis.VariationAxis.{VariationAxis}
use Rattle.tt_axes.specs.Instances.{coordinates_in}

-- without a named instance and values, all coordinates before avar are 0
abbrev pub DefaultsAreZero : Type 0
DefaultsAreZero = (fvar : List ℕ) (coordinates : List ℤ) → coordinates_in fvar None [] ≡ Ok coordinates → are_zero coordinates ≡ true

abbrev pub DefaultIsZero : Type 0
DefaultIsZero = (a : VariationAxis) → coordinate_on a a.default ≡ pos 0

abbrev pub CoordinatesAreNear : Type 0
CoordinatesAreNear = (a : VariationAxis) (v : ℤ) → unsigned_abs (coordinate_on a v) ≤ 65536

abbrev pub CoordinatesRise : Type 0
CoordinatesRise = (a : VariationAxis) (v w : ℤ) → v ≤ℤ w → coordinate_on a v ≤ℤ coordinate_on a w

-- a list of avar with a pair from 0 to 0, before the first pair that is above 0, keeps 0; so does a list without a pair above 0
abbrev pub ZeroIsKept : Type 0
ZeroIsKept = (avar : List ℕ) (at j : ℕ) → pair_above avar at (pos 0) ≡ Some j → from_of avar at (j - 1) ≡ pos 0
    → to_of avar at (j - 1) ≡ pos 0 → mapped avar at (pos 0) ≡ pos 0

abbrev pub NoPairKeeps : Type 0
NoPairKeeps = (avar : List ℕ) (at : ℕ) (c : ℤ) → pair_above avar at c ≡ None → mapped avar at c ≡ c
