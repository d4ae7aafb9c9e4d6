use Rattle.std.proofs.Common.{SFits, w64, refl}
use Rattle.std.proofs.lemmas.Int.{to_z-of_z}
use Rattle.tt_arc.proofs.bounds.points_box.Goals as goal

pub box_of-requires : goal.box_of-requires
box_of-requires c =
    let dx : SFits w64 c.args.dx = c.ranges.dx in
    let dy : SFits w64 c.args.dy = c.ranges.dy in
    rw c.deref.ensures.value (simp to_z-of_z c.requires)

pub returns-clause-exact : goal.returns-clause-exact
returns-clause-exact c =
    let dx : SFits w64 c.args.dx = c.ranges.dx in
    let dy : SFits w64 c.args.dy = c.ranges.dy in
    let made = simp to_z-of_z at c.box_of.ensures.exact in
    rw (made, c.deref.ensures.value) refl
