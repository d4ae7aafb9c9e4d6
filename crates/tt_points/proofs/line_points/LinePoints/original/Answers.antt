use Rattle.std.proofs.Common.{SFits, w32, rules}
use Rattle.std.proofs.lemmas.Int.{to_z-of_z}
use Rattle.tt_points.proofs.line_points.LinePoints.original.Goals as goal

pub returns : goal.returns
returns c =
    let from_x : SFits w32 c.args.self.from.org_x = search rules in
    let from_y : SFits w32 c.args.self.from.org_y = search rules in
    let to_x : SFits w32 c.args.self.to.org_x = search rules in
    let to_y : SFits w32 c.args.self.to.org_y = search rules in
    simp to_z-of_z at c.line.ensures
