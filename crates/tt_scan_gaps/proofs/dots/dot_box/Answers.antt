use Rattle.std.proofs.Common.{◌≡◌, ◌<◌, ◌+◌, ◌∙◌, sym, SFits, w32, get_or, length, arith}
use Rattle.std.specs.Int.{int_max, int_min}
use Rattle.std.proofs.lemmas.Int.{ints, to_z-of_z}
use Rattle.tt_scan_edges.specs.declared.edge.Edge.{Edge}
use Rattle.tt_scan_gaps.proofs.Boxes.{greatest_over, greatest_over_turned, least_over, least_over_turned}
use Rattle.tt_scan_gaps.proofs.SmallContours.{IsWith, no_box_of_a_dot, one_edge_on}
use Rattle.tt_scan_gaps.proofs.dots.dot_box.Invariants.{none}
use Rattle.tt_scan_gaps.proofs.dots.dot_box.Goals as goal

pub with-up-requires-clause-a : goal.with-up-requires-clause-a
with-up-requires-clause-a c =
    let fits = c.requires c.loop-edge.edge-index none c.loop-edge-test.true in
    omega (arith, ints, fits.ay)

pub with-up-requires-clause-b : goal.with-up-requires-clause-b
with-up-requires-clause-b c =
    let fits = c.requires c.loop-edge.edge-index none c.loop-edge-test.true in
    omega (arith, ints, fits.by)

pub loop-edge-preserved : goal.loop-edge-preserved
loop-edge-preserved c =
    let es = c.args.edges.now in
    let i = c.loop-edge.edge-index in
    let below : i < length es = c.loop-edge-test.true in
    let e : Edge = get_or es i none in
    let fits = c.requires i none below in
    let ax : SFits w32 e.ax = omega (arith, ints, fits.ax) in
    let ay : SFits w32 e.ay = omega (arith, ints, fits.ay) in
    let bx : SFits w32 e.bx = omega (arith, ints, fits.bx) in
    let by : SFits w32 e.by = omega (arith, ints, fits.by) in
    let across = c.loop-edge.across in
    let up = c.loop-edge.up in
    let wide = c.with-across in
    let tall = c.with-up in
    let so_far = c.loop-edge.invariant in
    let low : wide.result.low ≡ int_min across.low (int_min e.ax e.bx) = simp to_z-of_z at wide.ensures.low in
    let high : wide.result.high ≡ int_max across.high (int_max e.ax e.bx) = simp to_z-of_z at wide.ensures.high in
    let bottom : tall.result.low ≡ int_min up.low (int_min e.ay e.by) = simp to_z-of_z at tall.ensures.low in
    let top : tall.result.high ≡ int_max up.high (int_max e.ay e.by) = simp to_z-of_z at tall.ensures.high in
    record {
      left = rw low (sym (least_over across.low es i none below) ∙ so_far.left);
      right = rw high (sym (greatest_over across.high es i none below) ∙ so_far.right);
      bottom = rw bottom (sym (least_over_turned up.low es i none below) ∙ so_far.bottom);
      top = rw top (sym (greatest_over_turned up.high es i none below) ∙ so_far.top);
      across = wide.ensures.fits;
      up = tall.ensures.fits;
    }

-- no box that holds the extents so far is that of a dot
pub returns-then-is_too_long-clause-none : goal.returns-then-is_too_long-clause-none
returns-then-is_too_long-clause-none c =
    let es = c.args.edges.now in
    let i = c.loop-edge.edge-index in
    let below : i < length es = c.loop-edge-test.true in
    let e : Edge = get_or es i none in
    let fits = c.requires i none below in
    let ax : SFits w32 e.ax = omega (arith, ints, fits.ax) in
    let ay : SFits w32 e.ay = omega (arith, ints, fits.ay) in
    let bx : SFits w32 e.bx = omega (arith, ints, fits.bx) in
    let by : SFits w32 e.by = omega (arith, ints, fits.by) in
    let wide = c.with-across in
    let tall = c.with-up in
    let so_far = c.loop-edge.invariant in
    let across : IsWith e.ax e.bx c.loop-edge.across wide.result =
    record { low = simp to_z-of_z at wide.ensures.low; high = simp to_z-of_z at wide.ensures.high } in
    let up : IsWith e.ay e.by c.loop-edge.up tall.result =
    record { low = simp to_z-of_z at tall.ensures.low; high = simp to_z-of_z at tall.ensures.high } in
    let leads = one_edge_on es none i c.loop-edge.across c.loop-edge.up wide.result tall.result below
    (record { left = so_far.left; right = so_far.right; bottom = so_far.bottom; top = so_far.top }) across up in
    no_box_of_a_dot es none (i + 1) wide.result tall.result (omega (arith, below)) leads
    (sym c.is_too_long.ensures ∙ c.if-is_too_long.true)
