use Rattle.std.proofs.Common.{◌≡◌, refl, ap, sym, ◌∙◌, SFits, w32, w64, to_z, arith}
use Rattle.std.specs.Prelude.{pos, ◌-ℤ◌}
use Rattle.std.proofs.lemmas.Int.{ints, to_z-of_z}
use Rattle.tt_scan_gaps.specs.Crossings.{edge_x, centre, gap_at}
use Rattle.tt_scan_gaps.proofs.Bounds.{crosses_in_its_gap}
use Rattle.tt_scan_gaps.proofs.crossings.gap_crossed.Goals as goal

pub returns-then-gap-gap_at-clause-exact : goal.returns-then-gap-gap_at-clause-exact
returns-then-gap-gap_at-clause-exact c =
    let ax : SFits w32 c.args.edge.ax = omega (arith, ints, c.requires.edge.ax) in
    let bx : SFits w32 c.args.edge.bx = omega (arith, ints, c.requires.edge.bx) in
    let gap : SFits w64 c.gap_at-gap.result = omega (arith, ints, c.gap_at-gap.ensures.small) in
    let other : SFits w64 c.gap_at.result = omega (arith, ints, c.gap_at.ensures.small) in
    let at_a : c.gap_at-gap.result ≡ gap_at c.args.edge.ax = simp to_z-of_z at c.gap_at-gap.ensures.exact in
    let at_b : c.gap_at.result ≡ gap_at c.args.edge.bx = simp to_z-of_z at c.gap_at.ensures.exact in
    let same : c.gap_at-gap.result ≡ c.gap_at.result = simp to_z-of_z at (ap (λ n. to_z w64 n) c.if-gap-gap_at.true) in
    let one : gap_at c.args.edge.ax ≡ gap_at c.args.edge.bx = sym at_a ∙ same ∙ at_b in
    simp to_z-of_z (at_a ∙ sym (crosses_in_its_gap c.args.edge c.args.k c.requires.within one))

pub returns-clause-exact : goal.returns-clause-exact
returns-clause-exact c =
    let line : SFits w64 c.line_crossed.result = omega (arith, ints, c.line_crossed.ensures.small) in
    let value : c.centre.result ≡ centre c.line_crossed.result = simp to_z-of_z at c.centre.ensures in
    let y : SFits w64 c.centre.result = rw value (omega (arith, ints, c.line_crossed.ensures.small)) in
    let x : SFits w64 c.edge_x.result = omega (arith, ints, c.edge_x.ensures.small) in
    let from : SFits w64 (c.edge_x.result -ℤ pos 4096) = omega (arith, ints, c.edge_x.ensures.small) in
    let gap : SFits w64 c.whole_pixels.result = omega (arith, ints, c.whole_pixels.ensures.small) in
    let stands : c.edge_x.result ≡ edge_x c.args.edge c.centre.result = simp to_z-of_z at c.edge_x.ensures.exact in
    let whole : c.whole_pixels.result ≡ gap_at c.edge_x.result = simp to_z-of_z at c.whole_pixels.ensures.exact in
    simp to_z-of_z (rw (whole, stands, value, c.line_crossed.ensures.exact) refl)
