use Rattle.std.proofs.Common.{◌≡◌, ◌<◌, sym, ◌∙◌, length, reverse, if◌then◌else◌, rules, arith, SFits, w32, w64, pos}
use Rattle.std.proofs.lemmas.Int.{ints, to_z-of_z}
use Rattle.tt_scan_gaps.specs.Walk.{others}
use Rattle.tt_scan_gaps.specs.declared.mark.Step.TheVariants as step
use Rattle.tt_scan_gaps.proofs.Walks.{way_at_cross, way_length, way_past_end}
use Rattle.tt_scan_gaps.proofs.stub.way.Goals as goal

pub returns-in-Cross : goal.returns-in-Cross
returns-in-Cross c =
    let y : SFits w64 c.args.y = c.ranges.y in
    let same = simp to_z-of_z at c.loop-m.invariant in
    let count = way_length c.args.steps.now c.args.k c.args.forward c.requires in
    let within : c.loop-m.m < length (if c.args.forward then others c.args.steps.now c.args.k else reverse (others c.args.steps.now c.args.k)) = rw count c.loop-m-test.true in
    let here = way_at_cross c.args.y c.loop-m.far (if c.args.forward then others c.args.steps.now c.args.k else reverse (others c.args.steps.now c.args.k))
    c.loop-m.m c.in-Cross.next within (sym (c.other.ensures (step.End (pos 0))) ∙ c.in-Cross.is) in
    sym here ∙ same

pub loop-m-preserved : goal.loop-m-preserved
loop-m-preserved c =
    let y : SFits w64 c.args.y = c.ranges.y in
    let same = simp to_z-of_z at c.loop-m.invariant in
    let h : SFits w32 c.in-End.h = omega (arith, ints, c.other.type_inv) in
    let wide : SFits w64 c.from.result = search rules in
    let is : c.from.result ≡ c.in-End.h = simp to_z-of_z at c.from.ensures in
    let count = way_length c.args.steps.now c.args.k c.args.forward c.requires in
    let within : c.loop-m.m < length (if c.args.forward then others c.args.steps.now c.args.k else reverse (others c.args.steps.now c.args.k)) = rw count c.loop-m-test.true in
    let past = way_past_end c.args.y c.loop-m.far (if c.args.forward then others c.args.steps.now c.args.k else reverse (others c.args.steps.now c.args.k))
    c.loop-m.m c.in-End.h within (sym (c.other.ensures (step.End (pos 0))) ∙ c.in-End.is) in
    let far = rw is at (simp to_z-of_z at c.abs_diff.ensures) in
    simp to_z-of_z (rw (c.max-far.ensures, far) (sym past ∙ same))
