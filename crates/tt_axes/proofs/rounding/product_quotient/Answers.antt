use Rattle.std.proofs.Common.{◌≤◌, ◌*◌, ◌*ℤ◌, SFits, w64, unsigned_abs, rules}
use Rattle.std.proofs.lemmas.Int.{to_z-of_z, unsigned_abs-mul}
use Rattle.tt_axes.proofs.rounding.product_quotient.Goals as goal

pub returns-clause-exact : goal.returns-clause-exact
returns-clause-exact c =
    let ra = c.ranges.a in
    let rb = c.ranges.b in
    let rc = c.ranges.c in
    let product : SFits w64 (c.args.a *ℤ c.args.b) = search rules in
    let q : SFits w64 c.quotient.result = search rules in
    simp to_z-of_z (simp to_z-of_z at c.quotient.ensures.exact)

pub returns-clause-within : goal.returns-clause-within
returns-clause-within c = λ most less.
    let ra = c.ranges.a in
    let rb = c.ranges.b in
    let rc = c.ranges.c in
    let product : SFits w64 (c.args.a *ℤ c.args.b) = search rules in
    let q : SFits w64 c.quotient.result = search rules in
    let size : unsigned_abs (c.args.a *ℤ c.args.b) ≤ unsigned_abs c.args.c * most = rw unsigned_abs-mul less in
    simp to_z-of_z ((simp to_z-of_z at (c.quotient.ensures.within most)) size)
