use Rattle.std.proofs.Common.{◌∙◌, ◌+ℤ◌, pos, SFits, w64, rules, arith}
use Rattle.std.proofs.lemmas.Int.{ints, to_z-of_z}
use Rattle.tt_scan_edges.proofs.Ranges.{pixels_in, none_between}
use Rattle.tt_scan_edges.proofs.quotient.pixels_between.Goals as goal

pub returns-then-first-last-clause-exact : goal.returns-then-first-last-clause-exact
returns-then-first-last-clause-exact c = λ k.
    let low : SFits w64 c.args.low = c.ranges.low in
    let high : SFits w64 c.args.high = c.ranges.high in
    let more : SFits w64 (c.args.low +ℤ pos 8191) = omega (arith, ints, c.requires.low) in
    let first : SFits w64 c.whole_pixels-first.result = search rules in
    let last : SFits w64 c.whole_pixels-last.result = search rules in
    simp to_z-of_z (pixels_in c.args.low c.args.high c.whole_pixels-first.result c.whole_pixels-last.result k
    (simp to_z-of_z at c.whole_pixels-first.ensures.low) (simp to_z-of_z at c.whole_pixels-first.ensures.high)
    (simp to_z-of_z at c.whole_pixels-last.ensures.low) (simp to_z-of_z at c.whole_pixels-last.ensures.high))

pub returns-else-first-last-clause-exact : goal.returns-else-first-last-clause-exact
returns-else-first-last-clause-exact c = λ k.
    let low : SFits w64 c.args.low = c.ranges.low in
    let high : SFits w64 c.args.high = c.ranges.high in
    let more : SFits w64 (c.args.low +ℤ pos 8191) = omega (arith, ints, c.requires.low) in
    let first : SFits w64 c.whole_pixels-first.result = search rules in
    let last : SFits w64 c.whole_pixels-last.result = search rules in
    none_between c.whole_pixels-first.result c.whole_pixels-last.result k (simp to_z-of_z at c.if-first-last.false)
    ∙ pixels_in c.args.low c.args.high c.whole_pixels-first.result c.whole_pixels-last.result k
    (simp to_z-of_z at c.whole_pixels-first.ensures.low) (simp to_z-of_z at c.whole_pixels-first.ensures.high)
    (simp to_z-of_z at c.whole_pixels-last.ensures.low) (simp to_z-of_z at c.whole_pixels-last.ensures.high)
