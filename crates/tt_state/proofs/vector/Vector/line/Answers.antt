use Rattle.std.proofs.Common.{SFits, w32, rules, refl}
use Rattle.std.proofs.lemmas.Int.{to_z-of_z}
use Rattle.tt_state.proofs.vector.Vector.line.Goals as goal

pub returns-then-turned : goal.returns-then-turned
returns-then-turned c =
    let fx : SFits w32 c.args.from.0 = search rules in
    let fy : SFits w32 c.args.from.1 = search rules in
    let tx : SFits w32 c.args.to.0 = search rules in
    let ty : SFits w32 c.args.to.1 = search rules in
    let dx = simp to_z-of_z at c.difference-dx.ensures in
    let dy = simp to_z-of_z at c.difference-dy.ensures in
    rw (c.unit_of.ensures, c.negated.ensures, dx, dy, c.if-turned.true) refl
