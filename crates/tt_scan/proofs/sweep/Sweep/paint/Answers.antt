use Rattle.std.proofs.Common.{SFits, w64}
use Rattle.std.proofs.lemmas.Int.{to_z-of_z}
use Rattle.tt_scan.proofs.sweep.Sweep.paint.Goals as goal

pub returns-in-Some-clause-bits : goal.returns-in-Some-clause-bits
returns-in-Some-clause-bits c = λ k.
    let shift : SFits w64 c.args.shift = c.ranges.shift in
    rw (← c.self.view_is) (rw c.black.ensures.exact at (simp to_z-of_z at (c.paint_stamp.ensures.bits k)))
