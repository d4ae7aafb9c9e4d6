use Rattle.std.proofs.Common.{◌≡◌, ◌∙◌, sym, ap, ℕ, ◌<◌, ◌≤◌, get_or, length, refl, SFits, w32, arith}
use Rattle.std.proofs.lemmas.Int.{ints, to_z-of_z}
use Rattle.std.proofs.lemmas.List.{length-map}
use Rattle.tt_label_rows.proofs.SteppedUnits.{all_stepped, at_zero, kerning_is, one_stepped}
use Rattle.tt_line.specs.Steps.{step_in_pixels}
use Rattle.tt_rows.specs.Breaks.{no_unit}
use Rattle.tt_label_rows.proofs.steps.stepped_line.Goals as goal

pub kerning_at-kerning-requires : goal.kerning_at-kerning-requires
kerning_at-kerning-requires c =
    let many = ap length c.in_ok-line.ensures.exact ∙ length-map c.args.units.now at_zero in
    rw c.deref.ensures.value (omega (arith, many, c.loop-i-test.true))

pub loop-i-init : goal.loop-i-init
loop-i-init c = rw c.in_ok-made.ensures.items refl

pub loop-i-preserved : goal.loop-i-preserved
loop-i-preserved c =
    let at = c.loop-i in
    let us = c.args.units.now in
    let m = c.args.metrics.now in
    let step = step_in_pixels m c.args.ppem in
    let below : at.i < length us = omega (arith, c.loop-i-test.true) in
    let line = c.in_ok-line.ensures.exact in
    let kerning = rw c.deref.ensures.value at c.kerning_at-kerning.ensures.exact ∙ kerning_is m us c.in_ok-line.line.items at.i below line in
    let near : SFits w32 c.kerning_at-kerning.result = omega (arith, ints, c.kerning_at-kerning.ensures.bound) in
    let kerned = simp to_z-of_z at c.step-in-loop-i.ensures.exact in
    rw c.in_ok-push.ensures.items (one_stepped m step us at.made.items at.i _ below (rw (c.step.ensures.exact, kerned, kerning) refl) ∙ at.invariant)

pub returns : goal.returns
returns c =
    let at = c.loop-i in
    let us = c.args.units.now in
    let m = c.args.metrics.now in
    sym (all_stepped m (step_in_pixels m c.args.ppem) us at.made.items at.i (omega (arith, c.loop-i-test.false))) ∙ at.invariant
