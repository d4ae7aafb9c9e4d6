use Rattle.std.proofs.Common.{◌≡◌, SFits, w64}
use Rattle.std.proofs.lemmas.Int.{to_z-of_z}
use Rattle.tt_scan_edges.specs.Winding.{row_y}
use Rattle.tt_scan.proofs.tape.Tape.pixel.Goals as goal

pub returns-clause-black : goal.returns-clause-black
returns-clause-black c =
    let column : SFits w64 c.args.c = c.ranges.c in
    let row : SFits w64 c.args.r = c.ranges.r in
    let at_row : c.of.result.r ≡ c.args.r = simp to_z-of_z at c.of.ensures.row in
    let height : c.of.result.y ≡ row_y c.self.inside.frame c.args.r = rw (c.of.ensures.frame, at_row) at c.of.result.height in
    let black = simp to_z-of_z at c.is_black.ensures.black in
    rw (← c.self.view_is) (rw (height, c.of.ensures.frame) at black)

pub invariant_of-self : goal.invariant_of-self
invariant_of-self c = rw c.is_black.ensures.kept c.self.invariant
