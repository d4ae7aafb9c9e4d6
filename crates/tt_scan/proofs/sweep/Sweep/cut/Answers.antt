use Rattle.std.proofs.Common.{◌∙◌, SFits, w64, refl}
use Rattle.std.proofs.lemmas.Int.{to_z-of_z}
use Rattle.tt_scan_edges.specs.Left.{IsLeftBy}
use Rattle.tt_scan_edges.specs.Winding.{row_y}
use Rattle.tt_scan.proofs.sweep.Sweep.cut.Goals as goal

pub returns-clause-black : goal.returns-clause-black
returns-clause-black c = λ at below.
    let row : SFits w64 c.args.r = c.ranges.r in
    let left : IsLeftBy c.args.tape.now.edges c.args.tape.now.frame.margin (row_y c.args.tape.now.frame c.args.r) _ c.collect.new.left =
    simp to_z-of_z at c.collect.ensures.left in
    c.wind.ensures.black at below ∙ rw (left.black at, left.turn at) refl

pub returns-clause-crosses : goal.returns-clause-crosses
returns-clause-crosses c =
    let row : SFits w64 c.args.r = c.ranges.r in
    simp to_z-of_z at c.collect.ensures.crosses
