-- Scaled points that cannot exceed the limit.
use Rattle.std.proofs.Common.{◌≡◌, ℕ, ◌*◌, ◌<◌, ◌≤◌, suc, Bool, true, false, ℤ, pos, negsuc, unsigned_abs, List, [], ◌∷◌, map, All, Ok, refl, arith}
use Rattle.std.specs.Prelude.{int_lt}
use Rattle.std.proofs.lemmas.Bool.Decides.{nat_tests}
use Rattle.std.proofs.lemmas.Int.{ints}
use Rattle.std.proofs.lemmas.List.Elements.{All-head, All-tail}
use Rattle.tt_core.specs.declared.halves.Halves.{Halves}
use Rattle.tt_core.specs.declared.halves.Halves.TheVariants as halves
use Rattle.tt_core.specs.Outcomes.{each}
use Rattle.tt_core.specs.Scales.{quotient}
use Rattle.tt_core.proofs.Quotients.{nearest_at_most}
use Rattle.tt_glyf.specs.declared.raw.RawPoint.{RawPoint}
use Rattle.tt_fit_outline.specs.Outline.{IsPoint}
use Rattle.tt_fit_outline.specs.Scaling.{is_coordinate, scaled_by_scale, scaled_point, settled}
use Rattle.tt_fit_outline.specs.Size.{FontSize}

-- n / u is at most `most` in magnitude where n is at most u times `most` in magnitude
pub quotient-within : (h : Halves) (n : ℤ) (u most : ℕ) → 0 < u → unsigned_abs n ≤ u * most
    → unsigned_abs (quotient h n (pos u)) ≤ most
quotient-within halves.Up n u most some within =
    let positive : int_lt (pos u) (pos 0) ≡ false = grind (arith, ints) in
    rw positive (nearest_at_most n (pos u) most (omega (arith, ints)) within)
quotient-within halves.AwayFromZero (pos a) u most some within =
    let positive : int_lt (pos u) (pos 0) ≡ false = grind (arith, ints) in
    let forward : int_lt (pos a) (pos 0) ≡ false = grind (arith, ints) in
    rw (forward, positive) (nearest_at_most (pos a) (pos u) most (omega (arith, ints)) within)
quotient-within halves.AwayFromZero (negsuc a) u most some within =
    let positive : int_lt (pos u) (pos 0) ≡ false = grind (arith, ints) in
    let near = nearest_at_most (pos (suc a)) (pos u) most (omega (arith, ints)) within in
    rw positive (omega (arith, ints, near))

settled-within : (at : ℕ) (p : ℤ × ℤ × Bool) → IsPoint p → settled at p ≡ Ok p
unfolding settled
settled-within at p is =
    let left = is.0 in
    let right = is.1 in
    let x : is_coordinate p.0 ≡ true = grind (arith, nat_tests) in
    let y : is_coordinate p.1 ≡ true = grind (arith, nat_tests) in
    rw (x, y) refl

-- each is scaled, and none is refused
pub each-within : (z : FontSize) (at : ℕ) (ps : List RawPoint) → All IsPoint (map (scaled_by_scale z.scale) ps)
    → each (scaled_point z at) ps ≡ Ok (map (scaled_by_scale z.scale) ps)
each-within z at [] all = refl
each-within z at (p ∷ ps) all =
    let first = settled-within at (scaled_by_scale z.scale p) (All-head IsPoint _ _ all) in
    let rest = each-within z at ps (All-tail IsPoint (scaled_by_scale z.scale p) (map
    (scaled_by_scale z.scale) ps) all) in
    rw (first, rest) refl
