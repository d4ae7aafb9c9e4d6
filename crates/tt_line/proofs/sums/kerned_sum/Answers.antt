use Rattle.std.proofs.Common.{◌<◌, chars, length, arith}
use Rattle.tt_cmap.specs.Maps.{has_pairs, units_by}
use Rattle.tt_cmap.proofs.UnitLaws.{units-are-few}
use Rattle.tt_line.proofs.Walks.{at-the-end, some-left}
use Rattle.tt_line.proofs.sums.kerned_sum.Goals as goal

pub overflow_add-sum : goal.overflow_add-sum
overflow_add-sum c =
    let m = c.args.known.now.cmap in
    let us = units_by m (chars c.args.text.now) in
    let left : length c.loop-unit.yielded < length us =
    some-left c.loop-unit.yielded c.loop-unit.unit-iterator _ us c.in-Some.unit c.in-Some.ensures.steps c.loop-unit.invariant.split in
    let few = units-are-few (has_pairs m) (chars c.args.text.now) in
    omega arith

pub overflow_add-result : goal.overflow_add-result
overflow_add-result c =
    let m = c.args.known.now.cmap in
    let us = units_by m (chars c.args.text.now) in
    let all = at-the-end c.loop-unit.yielded c.loop-unit.unit-iterator us c.in-None.ensures.steps.0 c.loop-unit.invariant.split in
    let bound = rw all at c.loop-unit.invariant.bound in
    let few = units-are-few (has_pairs m) (chars c.args.text.now) in
    let one = c.step_after-2.ensures.bound in
    omega (arith, bound, few, one, c.from.ensures, c.requires.text)

pub returns-clause-bound : goal.returns-clause-bound
returns-clause-bound c =
    let m = c.args.known.now.cmap in
    let us = units_by m (chars c.args.text.now) in
    let all = at-the-end c.loop-unit.yielded c.loop-unit.unit-iterator us c.in-None.ensures.steps.0 c.loop-unit.invariant.split in
    let bound = rw all at c.loop-unit.invariant.bound in
    let few = units-are-few (has_pairs m) (chars c.args.text.now) in
    let one = c.step_after-2.ensures.bound in
    omega (arith, bound, few, one, c.from.ensures, c.requires.text)
