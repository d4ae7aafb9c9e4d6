use Rattle.std.proofs.Common.{SFits, w16, rules}
use Rattle.std.proofs.lemmas.Int.{to_z-of_z}
use Rattle.tt_deltas_inference.proofs.Choices.{exchanged, in_order}
use Rattle.tt_deltas_inference.proofs.point.NamedNeighbours.of.Goals as goal

pub returns-then-after-before : goal.returns-then-after-before
returns-then-after-before c = λ p.
    let a : SFits w16 c.args.before.at = search rules in
    let b : SFits w16 c.args.after.at = search rules in
    rw (c.ordered.ensures.low, c.ordered.ensures.high)
    (exchanged c.args.before c.args.after p (simp to_z-of_z at c.if-after-before.true))

pub returns-else-after-before : goal.returns-else-after-before
returns-else-after-before c = λ p.
    let a : SFits w16 c.args.before.at = search rules in
    let b : SFits w16 c.args.after.at = search rules in
    rw (c.ordered-else-after-before.ensures.low, c.ordered-else-after-before.ensures.high)
    (in_order c.args.before c.args.after p (simp to_z-of_z at c.if-after-before.false))
