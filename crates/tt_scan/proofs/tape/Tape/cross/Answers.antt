use Rattle.std.proofs.Common.{◌≡◌, SFits, w64, arith}
use Rattle.std.proofs.lemmas.Int.{to_z-of_z}
use Rattle.tt_scan_edges.specs.Winding.{row_y}
use Rattle.tt_scan.proofs.tape.Tape.cross.Goals as goal

pub returns-clause-exact : goal.returns-clause-exact
returns-clause-exact c =
    let row : SFits w64 c.args.row = c.ranges.row in
    let at_row : c.of.result.r ≡ c.args.row = simp to_z-of_z at c.of.ensures.row in
    let height : c.of.result.y ≡ row_y c.self.inside.frame c.args.row = rw (c.of.ensures.frame, at_row) at c.of.result.height in
    rw (← c.self.view_is) (rw (height, c.of.ensures.frame) at c.cross.ensures.exact)

pub returns-clause-count : goal.returns-clause-count
returns-clause-count c = grind (arith, c.self.view_is)

pub invariant_of-self : goal.invariant_of-self
invariant_of-self c = rw c.cross.ensures.count c.self.invariant
