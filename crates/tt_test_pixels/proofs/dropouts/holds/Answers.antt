use Rattle.std.proofs.Common.{◌≤ℤ◌, SFits, w32, rules}
use Rattle.std.proofs.lemmas.Int.{to_z-of_z}
use Rattle.std.specs.Int.{int_max, int_min}
use Rattle.tt_test_pixels.proofs.dropouts.holds.Goals as goal

pub returns : goal.returns
returns c = λ is.
    let b = c.args.extents in
    let e = c.args.edge.now in
    let ax : SFits w32 c.args.edge.now.ax = search rules in
    let ay : SFits w32 c.args.edge.now.ay = search rules in
    let bx : SFits w32 c.args.edge.now.bx = search rules in
    let by : SFits w32 c.args.edge.now.by = search rules in
    let left : SFits w32 c.args.extents.across.low = search rules in
    let right : SFits w32 c.args.extents.across.high = search rules in
    let bottom : SFits w32 c.args.extents.up.low = search rules in
    let top : SFits w32 c.args.extents.up.high = search rules in
    let across : (b.across.low ≤ℤ int_min e.ax e.bx) × (int_max e.ax e.bx ≤ℤ b.across.high) =
    simp to_z-of_z at (c.holds_both.ensures c.if-not-holds_both.false) in
    let up : (b.up.low ≤ℤ int_min e.ay e.by) × (int_max e.ay e.by ≤ℤ b.up.high) =
    simp to_z-of_z at (c.holds_both-2.ensures is) in
    record { left = across.0; right = across.1; bottom = up.0; top = up.1 }
