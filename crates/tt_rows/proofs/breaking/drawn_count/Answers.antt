use Rattle.std.proofs.Common.{◌≡◌, ◌∙◌, sym, ap, subst, ◌-◌, true, false, get_or, length, take, arith}
use Rattle.tt_rows.specs.Breaks.{no_unit}
use Rattle.tt_rows.specs.Classes.{is_blank}
use Rattle.tt_rows.specs.Widths.{drawn}
use Rattle.tt_rows.proofs.RowLoops.{all_units, drop_blank, keep_letter}
use Rattle.tt_rows.proofs.breaking.drawn_count.Goals as goal

pub loop-count-init : goal.loop-count-init
loop-count-init c = record { left = all_units c.args.units.now; few = omega arith }

pub loop-count-preserved : goal.loop-count-preserved
loop-count-preserved c =
    let at = c.loop-count in
    let was = at.invariant in
    let us = c.args.units.now in
    let blank : is_blank (get_or us (at.count - 1) no_unit).character ≡ true = sym c.is_blank.ensures ∙ c.if-not-is_blank.false in
    record {
      left = sym (drop_blank us at.count c.loop-count-test.true was.few blank) ∙ was.left;
      few = let few = was.few in omega (arith, few);
    }

pub returns-then-not-is_blank-clause-exact : goal.returns-then-not-is_blank-clause-exact
returns-then-not-is_blank-clause-exact c =
    let at = c.loop-count in
    let us = c.args.units.now in
    let letter : is_blank (get_or us (at.count - 1) no_unit).character ≡ false = sym c.is_blank.ensures ∙ c.if-not-is_blank.true in
    sym (keep_letter us at.count c.loop-count-test.true at.invariant.few letter) ∙ ap length at.invariant.left

pub returns-clause-exact : goal.returns-clause-exact
returns-clause-exact c =
    let at = c.loop-count in
    let us = c.args.units.now in
    let none : at.count ≡ 0 = omega (arith, c.loop-count-test.false) in
    let left : drawn (take 0 us) ≡ drawn us = subst (λ n. drawn (take n us) ≡ drawn us) none at.invariant.left in
    ap length left
