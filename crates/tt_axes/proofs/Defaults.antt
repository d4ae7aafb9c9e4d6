-- The default's coordinates are 0, before avar and after a list that keeps 0.
use Rattle.std.proofs.Common.{◌≡◌, ℕ, ◌-◌, ◌≤◌, ◌<◌, ℤ, pos, Bool, true, false, List, [], ◌∷◌, map, Some, None, Ok, refl, arith}
use Rattle.std.specs.Prelude.{◌-ℤ◌, neg_ℤ, unsigned_abs, int_lt, if◌then◌else◌}
use Rattle.std.proofs.lemmas.Int.{ints}
use Rattle.std.proofs.Math.IntN.{zero-*ℤ}
use Rattle.tt_core.proofs.Quotients.{nearest_at_most}
use Rattle.tt_core.specs.Numbers.{nearest_quotient}
use Rattle.tt_core.specs.Scales.{away_quotient}
use Rattle.tt_axes.specs.Rounding.{product_quotient}
use Rattle.std.specs.List.{range_with_len}
use Rattle.std.specs.Ordering.{int_eq}
use Rattle.tt_axes.proofs.Rising.{default-zero}
use Rattle.tt_axes.specs.Avar.{between_pairs, from_of, mapped, pair_above, to_of}
use Rattle.tt_axes.specs.Axes.{axis_of}
use Rattle.tt_axes.specs.Coordinates.{are_zero}
use Rattle.tt_axes.specs.Fvar.{axis_count}
use Rattle.tt_axes.specs.Instances.{coordinate_of, coordinates_in}

zero-each : (fvar : List ℕ) (is : List ℕ) → are_zero (map (coordinate_of fvar None []) is) ≡ true
zero-each fvar [] = refl
zero-each fvar (i ∷ is) = rw (default-zero (axis_of fvar i)) (zero-each fvar is)

pub all-zero : (fvar : List ℕ) (coordinates : List ℤ) → coordinates_in fvar None [] ≡ Ok coordinates → are_zero coordinates ≡ true
unfolding coordinates_in
all-zero fvar coordinates is =
    let same : map (coordinate_of fvar None []) (range_with_len 0 (axis_count fvar)) ≡ coordinates = cc in
    rw (← same) (zero-each fvar (range_with_len 0 (axis_count fvar)))

pub no-pair : (avar : List ℕ) (at : ℕ) (c : ℤ) → pair_above avar at c ≡ None → mapped avar at c ≡ c
unfolding mapped
no-pair avar at c none = rw none refl

no-magnitude : (q : ℤ) → unsigned_abs q ≤ 0 → q ≡ pos 0
no-magnitude q none = omega (arith, ints)

zero-nearest : (d : ℤ) → 0 < unsigned_abs d → nearest_quotient (pos 0) (pos (unsigned_abs d)) ≡ pos 0
zero-nearest d some =
    no-magnitude (nearest_quotient (pos 0) (pos (unsigned_abs d)))
    (nearest_at_most (pos 0) (pos (unsigned_abs d)) 0 (omega (arith, ints, some)) (omega arith))

either-zero : (b : Bool) → ◌≡◌ {A = ℤ} (if b then neg_ℤ (pos 0) else pos 0) (pos 0)
either-zero true = refl
either-zero false = refl

zero-quotient : (d : ℤ) → 0 < unsigned_abs d → away_quotient (pos 0) d ≡ pos 0
zero-quotient d some = rw (zero-nearest d some) (either-zero (int_lt d (pos 0)))

zero-product : (t d : ℤ) → 0 < unsigned_abs d → product_quotient (pos 0) t d ≡ pos 0
zero-product t d some = rw (zero-*ℤ t) (zero-quotient d some)

some-span : (f : ℤ) → int_eq f (pos 0) ≡ false → 0 < unsigned_abs (f -ℤ pos 0)
some-span f other = grind (arith, ints)

zero-between : (f t : ℤ) (same : Bool) → int_eq f (pos 0) ≡ same → between_pairs (pos 0) (pos 0) f (pos 0) t ≡ pos 0
zero-between f t true ef = rw ef refl
zero-between f t false ef = rw (ef, zero-product (t -ℤ pos 0) (f -ℤ pos 0) (some-span f ef)) refl

pub zero-kept : (avar : List ℕ) (at j : ℕ) → pair_above avar at (pos 0) ≡ Some j → from_of avar at (j - 1) ≡ pos 0
    → to_of avar at (j - 1) ≡ pos 0 → mapped avar at (pos 0) ≡ pos 0
unfolding mapped
zero-kept avar at j found from to =
    rw (found, from, to, zero-between (from_of avar at j) (to_of avar at j) (int_eq (from_of avar at j) (pos 0)) refl) refl
