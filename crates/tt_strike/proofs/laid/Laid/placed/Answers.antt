use Rattle.std.proofs.Common.{ℕ, ◌≤◌, All, arith}
use Rattle.tt_core.specs.Limits.{width_limit}
use Rattle.tt_strike.proofs.laid.Laid.placed.Goals as goal

pub invariant_of-result-clause-pens : goal.invariant_of-result-clause-pens
invariant_of-result-clause-pens c =
    let line = c.args.self.now.line in
    let within : All (λ (g : ℕ × ℕ). g.1 ≤ width_limit) line.glyphs.items = λ k d below.
    let wide = line.wide.1 in omega (arith, line.pens k d below, wide) in
    rw c.deref.ensures.value within
