use Rattle.std.proofs.Common.{SFits, w32, rules}
use Rattle.std.proofs.lemmas.Int.{to_z-of_z}
use Rattle.tt_axes.proofs.Axes.{above-default, below-default, turned, unsigned}
use Rattle.tt_axes.proofs.axis.VariationAxis.coordinate.Goals as goal

pub returns-then-self-place-clause-exact : goal.returns-then-self-place-clause-exact
returns-then-self-place-clause-exact c =
    let fp = c.ranges.place in
    let fd : SFits w32 c.args.self.default = search rules in
    let fg : SFits w32 c.args.self.greatest = search rules in
    rw (unsigned c.portion.result.parts c.portion.result.most)
    (above-default c.args.self c.args.place _ _ _ _ (simp to_z-of_z at c.if-self-place.true) (simp to_z-of_z at c.if-self-place-2.false)
    c.portion.ensures.exact c.whole.ensures (simp to_z-of_z at c.abs_diff-part.ensures) (simp to_z-of_z at c.abs_diff.ensures))

pub returns-then-place-self-clause-exact : goal.returns-then-place-self-clause-exact
returns-then-place-self-clause-exact c =
    let fp = c.ranges.place in
    let fd : SFits w32 c.args.self.default = search rules in
    let fl : SFits w32 c.args.self.least = search rules in
    rw (turned c.portion-then-place-self.result.parts c.portion-then-place-self.result.most)
    (below-default c.args.self c.args.place _ _ _ _ (simp to_z-of_z at c.if-self-place.false) (simp to_z-of_z at c.if-place-self.true)
    (simp to_z-of_z at c.if-place-self-2.false) c.portion-then-place-self.ensures.exact c.whole-then-place-self.ensures
    (simp to_z-of_z at c.abs_diff-part-then-place-self.ensures) (simp to_z-of_z at c.abs_diff-then-place-self.ensures))
