use Rattle.std.proofs.Common.{◌≡◌, ◌+◌, ◌-ℤ◌, pos, SFits, w64, refl, rules, arith}
use Rattle.std.proofs.lemmas.Int.{ints, to_z-of_z}
use Rattle.tt_scan_dropouts.specs.Pictures.{column_at}
use Rattle.tt_picture.proofs.stamps.stamp_at.Goals as goal

pub returns : goal.returns
returns c = λ k r.
    let f = c.args.frame in
    let pen = c.args.pen in
    let column : pos k -ℤ pos (pen + f.margin) ≡ column_at f pen k = omega (arith, ints) in
    let top : SFits w64 c.top_of.result = search rules in
    simp to_z-of_z (rw (c.top_of.ensures.exact, column) refl)
