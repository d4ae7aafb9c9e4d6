use Rattle.std.proofs.Common.{◌≡◌, Bool, true, false, ℤ, pos, int_eq, SFits, w64, refl, rules, arith}
use Rattle.std.proofs.lemmas.Bool.Decides.{Decides-int_eq}
use Rattle.std.proofs.lemmas.Int.{ints, to_z-of_z}
use Rattle.tt_points_loops.proofs.moving.interpolated.Goals as goal

not_so : (b : Bool) → (b ≡ true → ⊥) → b ≡ false
not_so true not = absurd (not refl)
not_so false not = refl

is_some : (range : ℤ) → (range ≡ pos 0 → ⊥) → int_eq range (pos 0) ≡ false
is_some range some = not_so (int_eq range (pos 0)) (λ none. some ((Decides-int_eq range (pos 0)).0 none))

pub returns-clause-exact : goal.returns-clause-exact
returns-clause-exact c =
    let range : SFits w64 c.unscaled-range.result.0 = omega (arith, ints, c.unscaled-range.ensures.few) in
    let product : SFits w64 c.product.result = search rules in
    let result : SFits w64 c.quotient.result = search rules in
    let is_range = c.unscaled-range.ensures.exact in
    let some = rw is_range at (is_some c.unscaled-range.result.0 (λ none. c.if-range-eq0.false (rw none refl))) in
    let stretched = simp to_z-of_z at c.quotient.ensures.exact in
    simp to_z-of_z (rw (
      some,
      stretched,
      c.product.ensures.exact,
      c.unscaled-o.ensures.exact,
      is_range,
      c.current_distance-now.ensures.exact,
    ) refl)
