use Rattle.std.proofs.Common.{◌≡◌, Bool, true, false, ℤ, pos, ◌*ℤ◌, int_eq, SFits, w64, refl, rules, arith}
use Rattle.std.proofs.lemmas.Bool.Decides.{Decides-int_eq}
use Rattle.std.proofs.lemmas.Int.{ints, to_z-of_z}
use Rattle.tt_core.specs.Scales.{quotient}
use Rattle.tt_points_iup.proofs.place.factor.Goals as goal

not-so : (b : Bool) → (b ≡ true → ⊥) → b ≡ false
not-so true wrong = absurd (wrong refl)
not-so false wrong = refl

is-some : (range : ℤ) → (range ≡ pos 0 → ⊥) → int_eq range (pos 0) ≡ false
is-some range some = not-so (int_eq range (pos 0)) (λ none. some ((Decides-int_eq range (pos 0)).0 none))

pub returns-clause-exact : goal.returns-clause-exact
returns-clause-exact c =
    let way : SFits w64 c.args.way.0 = omega (arith, ints, c.requires.way) in
    let range : SFits w64 c.args.range.0 = omega (arith, ints, c.requires.range) in
    let larger : SFits w64 (pos 65536 *ℤ c.args.way.0) = omega (arith, ints, c.requires.way) in
    let result : SFits w64 c.quotient.result = search rules in
    let exact : c.quotient.result ≡ quotient c.args.halves (pos 65536 *ℤ c.args.way.0) c.args.range.0 =
    simp to_z-of_z at c.quotient.ensures.exact in
    let some : int_eq c.args.range.0 (pos 0) ≡ false =
    is-some c.args.range.0 (λ none. c.if-range-eq0.false (rw none refl)) in
    simp to_z-of_z (rw (some, exact) refl)
