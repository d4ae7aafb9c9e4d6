use Rattle.std.proofs.Common.{◌≡◌, ◌∙◌, ◌<◌, [], chars, length, refl, sym, ap, arith, rules}
use Rattle.std.proofs.lemmas.List.{append-nil}
use Rattle.tt_cmap.specs.Maps.{units_by}
use Rattle.tt_rows.proofs.RowUnits.{as_many, one_unit}
use Rattle.tt_rows.proofs.units.row_units.Goals as goal

pub loop-unit-init : goal.loop-unit-init
loop-unit-init c =
    let from : c.into_iter-unit-iterator.result ≡ units_by c.args.cmap.now (chars c.args.text.now) = cc in
    let empty : c.in_ok-made.made.items ≡ [] = search rules in
    record { made = rw (empty, from) refl; count = omega (arith, ap length from, c.requires.plain) }

pub loop-unit-preserved : goal.loop-unit-preserved
loop-unit-preserved c =
    let at = c.loop-unit in
    let was = at.invariant in
    let steps = c.in-Some.ensures.steps in
    let below : at.i < length c.args.plain.now = let count = was.count in let long = ap length steps in omega arith in
    let kerned : at.i < length c.args.kerned.now = omega (arith, c.requires.kerned) in
    record {
      made = rw c.in_ok-push.ensures.items (one_unit c.in-Some.unit _ c.args.plain.now c.args.kerned.now at.i at.made.items below kerned
          ∙ (rw steps at was.made));
      count = let count = was.count in let long = ap length steps in omega arith;
    }

pub returns-clause-exact : goal.returns-clause-exact
returns-clause-exact c =
    let at = c.loop-unit in
    sym (append-nil at.made.items) ∙ (rw c.in-None.ensures.steps.0 at at.invariant.made)

pub returns-clause-count : goal.returns-clause-count
returns-clause-count c =
    ap length (returns-clause-exact c)
    ∙ as_many (units_by c.args.cmap.now (chars c.args.text.now)) c.args.plain.now c.args.kerned.now c.requires.plain c.requires.kerned
