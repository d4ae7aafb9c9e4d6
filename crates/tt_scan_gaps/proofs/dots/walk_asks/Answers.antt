use Rattle.std.proofs.Common.{◌∙◌, sym, ◌+◌, ◌-◌, length}
use Rattle.std.specs.List.{flat_map, range_with_len}
use Rattle.tt_scan_gaps.specs.Gaps.{some_asks}
use Rattle.tt_scan_gaps.specs.Walk.{step_marks, walk_marks}
use Rattle.tt_scan_gaps.proofs.SmallContours.{all_steps, no_steps, one_holds, other_left, steps_from}
use Rattle.tt_scan_gaps.proofs.dots.walk_asks.Goals as goal

pub loop-k-init : goal.loop-k-init
loop-k-init c = record { rest = all_steps c.args.steps.now }

pub loop-k-preserved : goal.loop-k-preserved
loop-k-preserved c =
    let w = c.args.steps.now in
    let k = c.loop-k.k in
    record {
      rest = other_left (some_asks (step_marks w k)) (some_asks (flat_map (step_marks w) (range_with_len (k + 1) (length w - (k + 1)))))
          (some_asks (walk_marks w)) (sym c.step_asks.ensures ∙ c.if-step_asks.false)
          (sym (steps_from w k c.loop-k-test.true) ∙ c.loop-k.invariant.rest);
    }

pub returns-then-step_asks : goal.returns-then-step_asks
returns-then-step_asks c =
    let w = c.args.steps.now in
    let k = c.loop-k.k in
    one_holds (some_asks (step_marks w k)) (some_asks (flat_map (step_marks w) (range_with_len (k + 1) (length w - (k + 1)))))
    (some_asks (walk_marks w)) (sym c.step_asks.ensures ∙ c.if-step_asks.true)
    (sym (steps_from w k c.loop-k-test.true) ∙ c.loop-k.invariant.rest)

pub returns : goal.returns
returns c = sym (no_steps c.args.steps.now c.loop-k.k c.loop-k-test.false) ∙ c.loop-k.invariant.rest
