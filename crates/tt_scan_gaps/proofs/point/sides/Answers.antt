use Rattle.std.proofs.Common.{refl, ◌≡◌, ◌*◌, ◌^◌, ◌<◌, SFits, w32, w64, rules, arith}
use Rattle.std.specs.Prelude.{◌-ℤ◌, ◌*ℤ◌, unsigned_abs, ℤ}
use Rattle.std.proofs.lemmas.Int.{ints, fits_signed_mul, to_z-of_z}
use Rattle.tt_scan_gaps.proofs.point.sides.Goals as goal

wide_product : (w h : ℤ) → unsigned_abs w < 2 ^ 31 → unsigned_abs h < 3 * 2 ^ 30 → SFits w64 (w *ℤ h)
wide_product w h wide high =
    fits_signed_mul w64 w h (2 ^ 31) (3 * 2 ^ 30) (omega (arith, ints, wide)) (omega (arith, ints, high)) (omega arith)

pub overflow_mul-result : goal.overflow_mul-result
overflow_mul-result c =
    let e = c.args.edge in
    let ay : SFits w32 e.ay = omega (arith, ints, c.requires.edge.ay) in
    let y : SFits w64 c.args.y = c.ranges.y in
    let run : SFits w64 c.run.result = search rules in
    let from : SFits w64 c.from.result = search rules in
    let is_from : c.from.result ≡ e.ay = simp to_z-of_z at c.from.ensures in
    let high : SFits w64 (c.args.y -ℤ c.from.result) = rw is_from (omega (arith, ints, c.requires.edge.ay, c.requires.y)) in
    simp to_z-of_z (rw (is_from, c.run.ensures.exact) (wide_product (e.bx -ℤ e.ax) (c.args.y -ℤ e.ay)
    (omega (arith, ints, c.requires.edge.ax, c.requires.edge.bx)) (omega (arith, ints, c.requires.edge.ay, c.requires.y))))

pub overflow_mul-result-2 : goal.overflow_mul-result-2
overflow_mul-result-2 c =
    let e = c.args.edge in
    let ax : SFits w32 e.ax = omega (arith, ints, c.requires.edge.ax) in
    let x : SFits w64 c.args.x = c.ranges.x in
    let rise : SFits w64 c.rise.result = search rules in
    let from : SFits w64 c.from-2.result = search rules in
    let is_from : c.from-2.result ≡ e.ax = simp to_z-of_z at c.from-2.ensures in
    let far : SFits w64 (c.args.x -ℤ c.from-2.result) = rw is_from (omega (arith, ints, c.requires.edge.ax, c.requires.x)) in
    simp to_z-of_z (rw (is_from, c.rise.ensures.exact) (wide_product (e.by -ℤ e.ay) (c.args.x -ℤ e.ax)
    (omega (arith, ints, c.requires.edge.ay, c.requires.edge.by)) (omega (arith, ints, c.requires.edge.ax, c.requires.x))))

pub returns-clause-first : goal.returns-clause-first
returns-clause-first c =
    let e = c.args.edge in
    let ay : SFits w32 e.ay = omega (arith, ints, c.requires.edge.ay) in
    let y : SFits w64 c.args.y = c.ranges.y in
    let run : SFits w64 c.run.result = search rules in
    let from : SFits w64 c.from.result = search rules in
    let is_from : c.from.result ≡ e.ay = simp to_z-of_z at c.from.ensures in
    let high : SFits w64 (c.args.y -ℤ c.from.result) = rw is_from (omega (arith, ints, c.requires.edge.ay, c.requires.y)) in
    let whole : SFits w64 (c.run.result *ℤ (c.args.y -ℤ c.from.result)) = rw (is_from, c.run.ensures.exact)
    (wide_product (e.bx -ℤ e.ax) (c.args.y -ℤ e.ay)
    (omega (arith, ints, c.requires.edge.ax, c.requires.edge.bx)) (omega (arith, ints, c.requires.edge.ay, c.requires.y))) in
    simp to_z-of_z (rw (is_from, c.run.ensures.exact) refl)

pub returns-clause-second : goal.returns-clause-second
returns-clause-second c =
    let e = c.args.edge in
    let ax : SFits w32 e.ax = omega (arith, ints, c.requires.edge.ax) in
    let x : SFits w64 c.args.x = c.ranges.x in
    let rise : SFits w64 c.rise.result = search rules in
    let from : SFits w64 c.from-2.result = search rules in
    let is_from : c.from-2.result ≡ e.ax = simp to_z-of_z at c.from-2.ensures in
    let far : SFits w64 (c.args.x -ℤ c.from-2.result) = rw is_from (omega (arith, ints, c.requires.edge.ax, c.requires.x)) in
    let whole : SFits w64 (c.rise.result *ℤ (c.args.x -ℤ c.from-2.result)) = rw (is_from, c.rise.ensures.exact)
    (wide_product (e.by -ℤ e.ay) (c.args.x -ℤ e.ax)
    (omega (arith, ints, c.requires.edge.ay, c.requires.edge.by)) (omega (arith, ints, c.requires.edge.ax, c.requires.x))) in
    simp to_z-of_z (rw (is_from, c.rise.ensures.exact) refl)
