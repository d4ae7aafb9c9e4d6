use Rattle.std.proofs.Common.{SFits, w16, w32, w64, refl, rules}
use Rattle.std.proofs.lemmas.Int.{to_z-of_z}
use Rattle.tt_fit_outline.proofs.component.product_rounded.Goals as goal

pub returns-clause-exact : goal.returns-clause-exact
returns-clause-exact c =
    let factor : SFits w16 c.args.factor = search rules in
    let v : SFits w32 c.args.v = search rules in
    let product : SFits w64 c.times.result = search rules in
    let rounded : SFits w64 c.quotient.result = search rules in
    let is = simp to_z-of_z at c.times.ensures.exact in
    let exact = simp to_z-of_z at c.quotient.ensures.exact in
    simp to_z-of_z (rw (exact, is) refl)
