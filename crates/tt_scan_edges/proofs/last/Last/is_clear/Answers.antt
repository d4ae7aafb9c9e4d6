use Rattle.std.proofs.Common.{◌≡◌, ◌∙◌, ◌^◌, ◌≤◌, unsigned_abs, SFits, w32, w64, rules, arith}
use Rattle.std.proofs.lemmas.Int.{ints, to_z-of_z}
use Rattle.tt_scan_edges.specs.Joined.{meets_none}
use Rattle.tt_scan_edges.proofs.Bools.{both_if, neither_if}
use Rattle.tt_scan_edges.proofs.last.Last.is_clear.Goals as goal

pub returns-then-is_past : goal.returns-then-is_past
returns-then-is_past c =
    let e = c.self.inside.edge in
    let f = c.args.next in
    let x : SFits w32 c.args.next.bx = search rules in
    let y : SFits w32 c.args.next.by = search rules in
    let across : SFits w64 c.self.inside.across = search rules in
    let up : SFits w64 c.self.inside.up = search rules in
    let x_few : unsigned_abs c.args.next.bx ≤ 2 ^ 31 = omega (arith, ints, x) in
    let y_few : unsigned_abs c.args.next.by ≤ 2 ^ 31 = omega (arith, ints, y) in
    let one : c.is_past.result ≡ meets_none e.ax f.bx = (simp to_z-of_z at c.is_past.ensures) ∙ c.self.invariant.0.tells f.bx x_few in
    let two : c.is_past-then-is_past.result ≡ meets_none e.ay f.by =
    (simp to_z-of_z at c.is_past-then-is_past.ensures) ∙ c.self.invariant.1.tells f.by y_few in
    rw (← c.self.view_is) (both_if (meets_none e.ax f.bx) (meets_none e.ay f.by) c.is_past.result c.is_past-then-is_past.result
    one c.if-is_past.true two)

pub returns-else-is_past : goal.returns-else-is_past
returns-else-is_past c =
    let e = c.self.inside.edge in
    let f = c.args.next in
    let x : SFits w32 c.args.next.bx = search rules in
    let across : SFits w64 c.self.inside.across = search rules in
    let x_few : unsigned_abs c.args.next.bx ≤ 2 ^ 31 = omega (arith, ints, x) in
    let one : c.is_past.result ≡ meets_none e.ax f.bx = (simp to_z-of_z at c.is_past.ensures) ∙ c.self.invariant.0.tells f.bx x_few in
    rw (← c.self.view_is) (neither_if (meets_none e.ax f.bx) (meets_none e.ay f.by) c.is_past.result one c.if-is_past.false)
