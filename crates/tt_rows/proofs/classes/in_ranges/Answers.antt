use Rattle.std.proofs.Common.{◌≡◌, ◌∙◌, [], drop, get_or, false, true, sym, arith}
use Rattle.std.proofs.lemmas.List.{drop_all}
use Rattle.tt_rows.specs.Classes.{in_range}
use Rattle.tt_rows.proofs.Ranges.{one_range}
use Rattle.tt_rows.proofs.classes.in_ranges.Goals as goal

pub loop-range-preserved : goal.loop-range-preserved
loop-range-preserved c =
    let rs = c.args.ranges.now in
    let next = one_range rs c.loop-range.range-index c.args.c c.loop-range-test.true in
    let out : in_range c.args.c (get_or rs c.loop-range.range-index (0, 0)) ≡ false =
    sym c.in_range.ensures ∙ c.if-in_range.false in
    sym (rw out at next) ∙ c.loop-range.invariant

pub returns-then-in_range : goal.returns-then-in_range
returns-then-in_range c =
    let rs = c.args.ranges.now in
    let next = one_range rs c.loop-range.range-index c.args.c c.loop-range-test.true in
    let in_it : in_range c.args.c (get_or rs c.loop-range.range-index (0, 0)) ≡ true =
    sym c.in_range.ensures ∙ c.if-in_range.true in
    sym (rw in_it at next) ∙ c.loop-range.invariant

pub returns : goal.returns
returns c =
    let none : drop c.loop-range.range-index c.args.ranges.now ≡ [] =
    drop_all c.loop-range.range-index c.args.ranges.now (omega (arith, c.loop-range-test.false)) in
    rw none at c.loop-range.invariant
