use Rattle.std.proofs.Common.{◌+ℤ◌, SFits, w32, w64, refl, rules, arith}
use Rattle.std.proofs.lemmas.Int.{ints, to_z-of_z}
use Rattle.tt_arc.proofs.point.moved.Goals as goal

pub returns : goal.returns
returns c =
    let x : SFits w32 c.args.point.0 = search rules in
    let y : SFits w32 c.args.point.1 = search rules in
    let is_x = simp to_z-of_z at c.from.ensures in
    let is_y = simp to_z-of_z at c.from-2.ensures in
    let wide_x : SFits w64 c.from.result = search rules in
    let wide_y : SFits w64 c.from-2.result = search rules in
    let dx : SFits w64 c.args.by.dx = search rules in
    let dy : SFits w64 c.args.by.dy = search rules in
    let sum_x : SFits w64 (c.from.result +ℤ c.args.by.dx) = rw is_x (omega (arith, ints, c.requires.x)) in
    let sum_y : SFits w64 (c.from-2.result +ℤ c.args.by.dy) = rw is_y (omega (arith, ints, c.requires.y)) in
    simp to_z-of_z (rw (is_x, is_y) refl)
