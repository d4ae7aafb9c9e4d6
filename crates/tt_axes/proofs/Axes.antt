-- The coordinate of a place, by the side of the default.
use Rattle.std.proofs.Common.{◌≡◌, ℕ, ◌≤◌, ℤ, pos, true, false, refl, w32, arith}
use Rattle.std.specs.Prelude.{int_lt, int_le, neg_ℤ, ◌-ℤ◌}
use Rattle.std.proofs.Common.{to_z, of_z}
use Rattle.std.proofs.lemmas.Int.{ints}
use Rattle.tt_axes.specs.Axes.{coordinate_on}
use Rattle.tt_axes.specs.declared.axis.VariationAxis.{VariationAxis}
use Rattle.tt_axes.specs.Shares.{distance, portion, whole_share}

pub above-default : (a : VariationAxis) (v : ℤ) (n s m k : ℕ) → int_lt a.default v ≡ true → int_le a.greatest v ≡ false
    → n ≡ portion s m k → s ≡ whole_share → m ≡ distance v a.default → k ≡ distance a.greatest a.default → pos n ≡ coordinate_on a v
unfolding coordinate_on
above-default a v n s m k above within part whole from most = rw (above, within, part, whole, from, most) refl

pub below-default : (a : VariationAxis) (v : ℤ) (n s m k : ℕ) → int_lt a.default v ≡ false → int_lt v a.default ≡ true → int_le v a.least ≡ false
    → n ≡ portion s m k → s ≡ whole_share → m ≡ distance v a.default → k ≡ distance a.least a.default → neg_ℤ (pos n) ≡ coordinate_on a v
unfolding coordinate_on
below-default a v n s m k above below within part whole from most = rw (above, below, within, part, whole, from, most) refl

pub unsigned : (n : ℕ) → n ≤ 65536 → to_z w32 n ≡ pos n
unsigned n small = omega (arith, ints)

pub turned : (n : ℕ) → n ≤ 65536 → to_z w32 (of_z w32 (pos 0 -ℤ to_z w32 n)) ≡ neg_ℤ (pos n)
turned n small = omega (arith, ints)
