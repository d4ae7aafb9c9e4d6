use Rattle.std.proofs.Common.{◌≡◌, ◌∙◌, ℕ, ◌+◌, ◌<◌, ◌≤◌, sym, drop, get_or, length, map, SFits, w32, of_z, to_z, refl, arith, rules}
use Rattle.std.proofs.lemmas.Int.{to_z-of_z}
use Rattle.tt_line.specs.Steps.{kerning_before, step_in_pixels}
use Rattle.tt_line.proofs.Kerned.{at_end, at_start, not_after, not_yet, one_kerned, step_here}
use Rattle.tt_line.proofs.steps.kern.Goals as goal

pub loop-i-init : goal.loop-i-init
loop-i-init c = record {
  kerned = sym (at_start c.args.metrics.now (step_in_pixels c.args.metrics.now c.args.ppem) c.args.line.now);
}

pub step-requires-clause-known : goal.step-requires-clause-known
step-requires-clause-known c =
    let ps = c.args.line.now in
    let i = c.loop-i.i in
    let within : i < length ps = omega (arith, c.loop-i-test.true) in
    let read : get_or c.loop-i.line i (0, 0) ≡ get_or ps i (0, 0) =
    rw c.loop-i.invariant.kerned (not_yet c.args.metrics.now (step_in_pixels c.args.metrics.now c.args.ppem) i ps within) in
    rw read (c.requires.known i (0, 0) within)

pub loop-i-preserved : goal.loop-i-preserved
unfolding step_here
loop-i-preserved c =
    let ps = c.args.line.now in
    let i = c.loop-i.i in
    let m = c.args.metrics.now in
    let f = step_in_pixels m c.args.ppem in
    let within : i < length ps = omega (arith, c.loop-i-test.true) in
    let read : get_or c.loop-i.line i (0, 0) ≡ get_or ps i (0, 0) = rw c.loop-i.invariant.kerned (not_yet m f i ps within) in
    let after : drop (i + 1) c.loop-i.line ≡ drop (i + 1) ps = rw c.loop-i.invariant.kerned (not_after m f i ps within) in
    let kerning : c.kerning_at-kerning.result ≡ kerning_before m (get_or ps i (0, 0)).0 (map (λ (p : ℕ × ℕ). p.0) (drop (i + 1) ps))
    = rw (read, after) at c.kerning_at-kerning.ensures.exact in
    let fits : SFits w32 c.kerning_at-kerning.result = search rules in
    -- by an equation of its own: once the step is unfolded, simp finds neither to_z nor of_z
    let same : to_z w32 (of_z w32 c.kerning_at-kerning.result) ≡ c.kerning_at-kerning.result = simp to_z-of_z refl in
    let step : c.step.result ≡ step_here m f i ps = rw (same, read, kerning) at c.step.ensures.exact in
    record { kerned = rw (read, step, c.loop-i.invariant.kerned) (one_kerned m f i ps within) }

pub returns : goal.returns
returns c =
    let ps = c.args.line.now in
    let over : length ps ≤ c.loop-i.i = omega (arith, c.loop-i-test.false) in
    c.loop-i.invariant.kerned ∙ at_end c.args.metrics.now (step_in_pixels c.args.metrics.now c.args.ppem) c.loop-i.i ps over
