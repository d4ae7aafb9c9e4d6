use Rattle.std.proofs.Common.{◌≡◌, pos, ap₂, ◌∙◌, sym, SFits, w32, w64, rules, arith}
use Rattle.std.specs.Prelude.{◌-ℤ◌, ◌*ℤ◌}
use Rattle.std.proofs.lemmas.Int.{ints, to_z-of_z}
use Rattle.tt_scan_gaps.specs.BothWays.{turn_by}
use Rattle.tt_scan_gaps.proofs.Points.{turns_by}
use Rattle.tt_scan_gaps.proofs.point.turned.Goals as goal

pub returns-then-not-goes_through-clause-exact : goal.returns-then-not-goes_through-clause-exact
returns-then-not-goes_through-clause-exact c =
    let e = c.args.edge.now in
    let y : SFits w64 c.args.y = c.ranges.y in
    let ay : SFits w32 e.ay = omega (arith, ints, c.requires.edge.ay) in
    let by : SFits w32 e.by = omega (arith, ints, c.requires.edge.by) in
    let wide_from : SFits w64 c.from-from.result = search rules in
    let wide_to : SFits w64 c.from-to.result = search rules in
    let is_from : c.from-from.result ≡ e.ay = simp to_z-of_z at c.from-from.ensures in
    let is_to : c.from-to.result ≡ e.by = simp to_z-of_z at c.from-to.ensures in
    let p = (e.bx -ℤ e.ax) *ℤ (c.args.y -ℤ e.ay) in
    let q = (e.by -ℤ e.ay) *ℤ (c.args.x -ℤ e.ax) in
    let none : turn_by e.ay e.by c.args.y p q ≡ pos 0 =
    rw (is_from, is_to) at (simp to_z-of_z at (c.goes_through.ensures c.if-not-goes_through.true p q)) in
    sym none ∙ turns_by e c.args.x c.args.y

pub returns-clause-exact : goal.returns-clause-exact
returns-clause-exact c =
    let e = c.args.edge.now in
    let x : SFits w64 c.args.x = c.ranges.x in
    let y : SFits w64 c.args.y = c.ranges.y in
    let ay : SFits w32 e.ay = omega (arith, ints, c.requires.edge.ay) in
    let by : SFits w32 e.by = omega (arith, ints, c.requires.edge.by) in
    let wide_from : SFits w64 c.from-from.result = search rules in
    let wide_to : SFits w64 c.from-to.result = search rules in
    let is_from : c.from-from.result ≡ e.ay = simp to_z-of_z at c.from-from.ensures in
    let is_to : c.from-to.result ≡ e.by = simp to_z-of_z at c.from-to.ensures in
    let first : SFits w64 c.sides-p.result.0 = search rules in
    let second : SFits w64 c.sides-p.result.1 = search rules in
    let small : SFits w64 c.turn_by.result = omega (arith, ints, c.turn_by.ensures.small) in
    let p : c.sides-p.result.0 ≡ (e.bx -ℤ e.ax) *ℤ (c.args.y -ℤ e.ay) = simp to_z-of_z at c.sides-p.ensures.first in
    let q : c.sides-p.result.1 ≡ (e.by -ℤ e.ay) *ℤ (c.args.x -ℤ e.ax) = simp to_z-of_z at c.sides-p.ensures.second in
    let is : c.turn_by.result ≡ turn_by e.ay e.by c.args.y c.sides-p.result.0 c.sides-p.result.1 =
    rw (is_from, is_to) at (simp to_z-of_z at c.turn_by.ensures.exact) in
    simp to_z-of_z (is ∙ ap₂ (turn_by e.ay e.by c.args.y) p q ∙ turns_by e c.args.x c.args.y)
