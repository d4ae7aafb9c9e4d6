use Rattle.std.proofs.Common.{SFits, w32, rules}
use Rattle.std.proofs.lemmas.Int.{to_z-of_z}
use Rattle.tt_axes.proofs.Regions.{before-peak, past-peak}
use Rattle.tt_axes.proofs.region.share_between.Goals as goal
use Rattle.tt_axes.proofs.region.share_between.Goals.{then-coordinate-peak, else-coordinate-peak}

pub returns-clause-exact : goal.returns-clause-exact
returns-clause-exact c =
    let fc = c.ranges.coordinate in
    let fp = c.ranges.peak in
    let fs : SFits w32 c.args.ends.start = search rules in
    let fe : SFits w32 c.args.ends.end = search rules in
    let above = simp to_z-of_z at c.if-coordinate-ends.false in
    let below = simp to_z-of_z at c.if-ends-coordinate.false in
    rw c.portion.ensures.exact
    (elim c.if-coordinate-peak.branch [
      | then-coordinate-peak w ↦ before-peak c.args.share.parts _ _ c.args.coordinate c.args.peak c.args.ends above below (simp to_z-of_z at w.if-coordinate-peak.true)
          (simp to_z-of_z at (rw w.end-is at c.abs_diff.ensures)) (simp to_z-of_z at (rw w.end-is at c.abs_diff-2.ensures))
      | else-coordinate-peak w ↦ past-peak c.args.share.parts _ _ c.args.coordinate c.args.peak c.args.ends above below (simp to_z-of_z at w.if-coordinate-peak.false)
          (simp to_z-of_z at (rw w.end-is at c.abs_diff.ensures)) (simp to_z-of_z at (rw w.end-is at c.abs_diff-2.ensures))
    ])
