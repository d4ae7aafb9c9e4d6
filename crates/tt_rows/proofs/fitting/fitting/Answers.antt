use Rattle.std.proofs.Common.{◌≡◌, ◌∙◌, sym, ap, ◌+◌, ◌<◌, ◌≤◌, false, true, drop, get_or, length, arith, rules}
use Rattle.tt_rows.specs.Breaks.{no_unit}
use Rattle.tt_rows.specs.Rows.{fits_at, fitting_from}
use Rattle.tt_rows.proofs.Fits.{all_fit, none_fits, one_fits}
use Rattle.tt_rows.proofs.fitting.fitting.Goals as goal

pub loop-i-preserved : goal.loop-i-preserved
loop-i-preserved c =
    let at = c.loop-i in
    let us = c.args.units.now in
    let below : at.i < length us = omega (arith, c.loop-i-test.true) in
    let fits : fits_at c.args.room at.pen (get_or us at.i no_unit) ≡ true = sym c.fits_at.ensures ∙ c.if-not-fits_at.false in
    let step = one_fits c.args.room at.pen at.i us below fits in
    let kerned : c.from-pen.result ≡ (get_or us at.i no_unit).kerned = search rules in
    let same : fitting_from c.args.room (at.pen + c.from-pen.result) (drop (at.i + 1) us)
    ≡ fitting_from c.args.room (at.pen + (get_or us at.i no_unit).kerned) (drop (at.i + 1) us)
    = ap (λ n. fitting_from c.args.room (at.pen + n) (drop (at.i + 1) us)) kerned in
    let walk = at.invariant.walk in
    let pen = at.invariant.pen in
    record { walk = omega (arith, step, walk, same); pen = omega (arith, pen) }

pub returns-then-not-fits_at-clause-exact : goal.returns-then-not-fits_at-clause-exact
returns-then-not-fits_at-clause-exact c =
    let at = c.loop-i in
    let us = c.args.units.now in
    let below : at.i < length us = omega (arith, c.loop-i-test.true) in
    let over : fits_at c.args.room at.pen (get_or us at.i no_unit) ≡ false = sym c.fits_at.ensures ∙ c.if-not-fits_at.true in
    let none = none_fits c.args.room at.pen at.i us below over in
    let walk = at.invariant.walk in
    omega (arith, none, walk)

pub returns-clause-exact : goal.returns-clause-exact
returns-clause-exact c =
    let at = c.loop-i in
    let us = c.args.units.now in
    let over : length us ≤ at.i = omega (arith, c.loop-i-test.false) in
    let none = all_fit c.args.room at.pen at.i us over in
    let walk = at.invariant.walk in
    omega (arith, none, walk)
