use Rattle.std.proofs.Common.{◌≡◌, ◌<◌, ◌∙◌, length, chars, arith, rules}
use Rattle.std.proofs.lemmas.List.{length_push}
use Rattle.tt_cmap.specs.Maps.{glyph_of_unit, has_pairs, units_by}
use Rattle.tt_cmap.proofs.UnitLaws.{units-are-few}
use Rattle.tt_line.specs.Layout.{advance_in_pixels}
use Rattle.tt_line.proofs.Pens.{next_pen}
use Rattle.tt_line.proofs.Walks.{at-the-end, goes-on, some-left}
use Rattle.tt_line.proofs.sums.sum_of_advances.Goals as goal

pub overflow_add-sum : goal.overflow_add-sum
overflow_add-sum c =
    let m = c.args.known.now.cmap in
    let us = units_by m (chars c.args.text.now) in
    let left : length c.loop-unit.yielded < length us =
    some-left c.loop-unit.yielded c.loop-unit.unit-iterator _ us c.in-Some.unit c.in-Some.ensures.steps c.loop-unit.invariant.split in
    let few = units-are-few (has_pairs m) (chars c.args.text.now) in
    omega arith

pub loop-unit-preserved : goal.loop-unit-preserved
loop-unit-preserved c =
    let m = c.args.known.now.cmap in
    let us = units_by m (chars c.args.text.now) in
    let was = c.loop-unit.invariant in
    let f = advance_in_pixels c.args.known.now.metrics c.args.known.now.ppem in
    let g = glyph_of_unit m in
    let glyph : c.step.result.glyph ≡ g c.in-Some.unit = rw was.same at c.step.ensures.glyph in
    let advance : c.step.result.advance ≡ f c.step.result.glyph = rw was.same at c.step.ensures.advance in
    let wide : c.from-sum.result ≡ c.step.result.advance = search rules in
    record {
      split = goes-on c.loop-unit.yielded c.loop-unit.unit-iterator _ us c.in-Some.unit c.in-Some.ensures.steps was.split;
      sum = rw wide (next_pen f g c.loop-unit.yielded c.in-Some.unit c.step.result.glyph c.loop-unit.sum c.step.result.advance was.sum glyph advance);
      same = c.step.ensures.same ∙ was.same;
      bound = let more = length_push c.loop-unit.yielded c.in-Some.unit in
          let bound = was.bound in let one = c.step.ensures.bound in omega (arith, more, bound, one, wide);
    }

pub returns-clause-exact : goal.returns-clause-exact
returns-clause-exact c =
    let us = units_by c.args.known.now.cmap (chars c.args.text.now) in
    let all = at-the-end c.loop-unit.yielded c.loop-unit.unit-iterator us c.in-None.ensures.steps.0 c.loop-unit.invariant.split in
    rw (← all) c.loop-unit.invariant.sum

pub returns-clause-bound : goal.returns-clause-bound
returns-clause-bound c =
    let m = c.args.known.now.cmap in
    let us = units_by m (chars c.args.text.now) in
    let all = at-the-end c.loop-unit.yielded c.loop-unit.unit-iterator us c.in-None.ensures.steps.0 c.loop-unit.invariant.split in
    let bound = rw all at c.loop-unit.invariant.bound in
    let few = units-are-few (has_pairs m) (chars c.args.text.now) in
    omega (arith, bound, few, c.requires)
