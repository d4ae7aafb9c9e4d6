use Rattle.std.proofs.Common.{arith, ◌-ℤ◌, SFits, w64}
use Rattle.std.proofs.lemmas.Int.{ints, to_z-of_z}
use Rattle.tt_bdf.proofs.head.extent_text.Goals as goal

pub returns : goal.returns
returns c =
    let e = c.args.e in
    let near = c.requires in
    let right : SFits w64 e.right = omega (arith, ints, near.2) in
    let top : SFits w64 e.top = omega (arith, ints, near.3) in
    let width : SFits w64 (e.right -ℤ e.left) = omega (arith, ints, near.0, near.2) in
    let height : SFits w64 (e.top -ℤ e.bottom) = omega (arith, ints, near.1, near.3) in
    let left : SFits w64 e.left = omega (arith, ints, near.0) in
    let bottom : SFits w64 e.bottom = omega (arith, ints, near.1) in
    simp to_z-of_z at c.format.ensures.ok
