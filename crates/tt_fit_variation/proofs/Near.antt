-- A distance in 64ths of a font unit is near the distance in whole ones.
use Rattle.std.proofs.Common.{◌≡◌, ℕ, ◌+◌, ◌*◌, ◌^◌, ◌≤◌, true, ℤ, pos, negsuc, ◌+ℤ◌, ◌-ℤ◌, ◌*ℤ◌, ◌≤ℤ◌, ◌<ℤ◌, unsigned_abs, arith}
use Rattle.std.specs.Int.{int_div_euclid}
use Rattle.std.proofs.lemmas.Int.{ints}
use Rattle.tt_axes.specs.Rounding.{sixty_fourths, whole_units}
use Rattle.tt_fit_variation.specs.Ends.{end_limit}
use Rattle.tt_fit_variation.specs.Moved.{is_unit}

units-below : (v : ℤ) → (pos 131072 *ℤ int_div_euclid v (pos 131072)) ≤ℤ v
units-below (pos a) = omega (arith, ints)
units-below (negsuc a) = omega (arith, ints)

units-above : (v : ℤ) → v <ℤ (pos 131072 *ℤ int_div_euclid v (pos 131072) +ℤ pos 131072)
units-above (pos a) = omega (arith, ints)
units-above (negsuc a) = omega (arith, ints)

fine-below : (v : ℤ) → (pos 2048 *ℤ int_div_euclid v (pos 2048)) ≤ℤ v
fine-below (pos a) = omega (arith, ints)
fine-below (negsuc a) = omega (arith, ints)

fine-above : (v : ℤ) → v <ℤ (pos 2048 *ℤ int_div_euclid v (pos 2048) +ℤ pos 2048)
fine-above (pos a) = omega (arith, ints)
fine-above (negsuc a) = omega (arith, ints)

-- 64ths are less than 33 off 64 whole units
pub near-64ths : (d : ℤ) → unsigned_abs (sixty_fourths d -ℤ pos 64 *ℤ whole_units d) ≤ 33
near-64ths d =
    let a = units-below (pos 2 *ℤ d +ℤ pos 65536) in
    let b = units-above (pos 2 *ℤ d +ℤ pos 65536) in
    let x = fine-below (pos 2 *ℤ d +ℤ pos 1024) in
    let y = fine-above (pos 2 *ℤ d +ℤ pos 1024) in
    omega (arith, ints, a, b, x, y)

pub fine-is-near : (v d : ℤ) (most : ℕ) → unsigned_abs (v +ℤ whole_units d) ≤ most
    → unsigned_abs (pos 64 *ℤ v +ℤ sixty_fourths d) ≤ 64 * most + 33
fine-is-near v d most within = let near = near-64ths d in omega (arith, ints, near, within)

unit-within : (v : ℤ) → is_unit v ≡ true → unsigned_abs v ≤ 32768
unit-within v is = grind (arith, ints)

-- what is an int16 in whole units is near enough in 64ths
pub unit_near : (at d : ℤ) → is_unit (at +ℤ whole_units d) ≡ true → unsigned_abs (pos 64 *ℤ at +ℤ sixty_fourths d) ≤ 2 ^ 24
unit_near at d is =
    let near = fine-is-near at d 32768 (unit-within (at +ℤ whole_units d) is) in
    omega (arith, near)

-- so is a phantom point within its limit
pub end_near : (v d : ℤ) → unsigned_abs (v +ℤ whole_units d) ≤ end_limit → unsigned_abs (pos 64 *ℤ v +ℤ sixty_fourths d) ≤ 2 ^ 24
end_near v d within =
    let near = fine-is-near v d end_limit within in
    omega (arith, near)
