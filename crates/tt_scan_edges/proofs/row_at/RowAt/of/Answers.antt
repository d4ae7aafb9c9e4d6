use Rattle.std.proofs.Common.{◌≡◌, refl, to_z, of_z, SFits, w32, w64, rules, arith}
use Rattle.std.proofs.lemmas.Int.{ints, to_z-of_z}
use Rattle.tt_scan_edges.specs.Winding.{FrameFits, row_y}
use Rattle.tt_scan_edges.proofs.row_at.RowAt.of.Goals as goal

pub invariant_of-result-clause-low : goal.invariant_of-result-clause-low
invariant_of-result-clause-low c =
    let row : SFits w64 c.args.r = c.ranges.r in
    let frame : FrameFits c.args.frame = c.requires.frame in
    let short : SFits w32 c.args.r = omega (arith, ints, frame.height_high, c.requires.low, c.requires.high) in
    let long = to_z-of_z w64 c.args.r row in
    let same : to_z w32 (of_z w32 (to_z w64 (of_z w64 c.args.r))) ≡ c.args.r = rw long (to_z-of_z w32 c.args.r short) in
    rw same c.requires.low

pub invariant_of-result-clause-high : goal.invariant_of-result-clause-high
invariant_of-result-clause-high c =
    let row : SFits w64 c.args.r = c.ranges.r in
    let frame : FrameFits c.args.frame = c.requires.frame in
    let short : SFits w32 c.args.r = omega (arith, ints, frame.height_high, c.requires.low, c.requires.high) in
    let long = to_z-of_z w64 c.args.r row in
    let same : to_z w32 (of_z w32 (to_z w64 (of_z w64 c.args.r))) ≡ c.args.r = rw long (to_z-of_z w32 c.args.r short) in
    rw same c.requires.high

pub invariant_of-result-clause-height : goal.invariant_of-result-clause-height
invariant_of-result-clause-height c =
    let row : SFits w64 c.args.r = c.ranges.r in
    let frame : FrameFits c.args.frame = c.requires.frame in
    let short : SFits w32 c.args.r = omega (arith, ints, frame.height_high, c.requires.low, c.requires.high) in
    let long = to_z-of_z w64 c.args.r row in
    let same : to_z w32 (of_z w32 (to_z w64 (of_z w64 c.args.r))) ≡ c.args.r = rw long (to_z-of_z w32 c.args.r short) in
    let fits : SFits w64 c.row_height.result = search rules in
    let height : to_z w64 (of_z w64 c.row_height.result) ≡ c.row_height.result = to_z-of_z w64 c.row_height.result fits in
    let exact : c.row_height.result ≡ row_y c.args.frame c.args.r = rw long at c.row_height.ensures.exact in
    rw (height, same) exact

pub returns-clause-row : goal.returns-clause-row
returns-clause-row c =
    let row : SFits w64 c.args.r = c.ranges.r in
    let frame : FrameFits c.args.frame = c.requires.frame in
    let short : SFits w32 c.args.r = omega (arith, ints, frame.height_high, c.requires.low, c.requires.high) in
    simp to_z-of_z refl
