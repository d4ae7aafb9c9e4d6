use Rattle.std.proofs.Common.{ℕ, ◌≤◌, All, refl, arith}
use Rattle.tt_core.specs.Limits.{width_limit}
use Rattle.tt_strike.proofs.sized.SizedFace.measure_by.Goals as goal

pub characters-requires-clause-pens : goal.characters-requires-clause-pens
characters-requires-clause-pens c =
    let line = c.args.laid.now.line in
    let within : All (λ (g : ℕ × ℕ). g.1 ≤ width_limit) line.glyphs.items = λ k d below.
    let wide = line.wide.1 in omega (arith, line.pens k d below, wide) in
    rw c.deref-2.ensures.value within

pub returns-clause-exact : goal.returns-clause-exact
returns-clause-exact c = λ step ink steps same.
    let characters = rw (c.frame-frame.ensures.exact, c.deref-2.ensures.value) at c.in_ok-characters.ensures step ink steps same in
    rw (c.measure_of.ensures.exact, c.frame-frame.ensures.exact, characters) refl

pub returns-clause-unfitted : goal.returns-clause-unfitted
returns-clause-unfitted c = rw c.measure_of.ensures.report (rw c.deref.ensures.value at c.in_ok-report.ensures.unfitted)

pub returns-clause-cost : goal.returns-clause-cost
returns-clause-cost c = rw c.measure_of.ensures.report c.in_ok-report.ensures.cost
