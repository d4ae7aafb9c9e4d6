use Rattle.std.proofs.Common.{◌∙◌, sym, SFits, w64, rules}
use Rattle.std.proofs.lemmas.Int.{to_z-of_z}
use Rattle.tt_scan_edges.proofs.Crosses.{apart_cross}
use Rattle.tt_scan_edges.proofs.crossing.crossing.Goals as goal

pub returns-else-reaches : goal.returns-else-reaches
returns-else-reaches c =
    let y : SFits w64 c.args.at.y = search rules in
    let is = simp to_z-of_z at c.reaches.ensures in
    apart_cross c.args.edge c.args.at.frame.margin c.args.at.y c.apart.result (sym is ∙ c.if-reaches.false)
    c.apart.ensures.touch c.apart.ensures.turn c.apart.ensures.first
