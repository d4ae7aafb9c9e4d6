use Rattle.std.proofs.Common.{◌≡◌, w32, w64, pos, ◌+ℤ◌, ◌-ℤ◌, to_z}
use Rattle.std.proofs.Common.{SFits, arith}
use Rattle.std.proofs.lemmas.Int.{ints, to_z-of_z}
use Rattle.tt_scan_gaps.proofs.Lines.{few_lines, line_falling, line_high, line_low, line_small}
use Rattle.tt_scan_gaps.proofs.crossings.line_crossed.Goals as goal

pub overflow_sub-result-else-edge : goal.overflow_sub-result-else-edge
overflow_sub-result-else-edge c =
    let ay : SFits w32 c.args.edge.ay = omega (arith, ints, c.requires.edge.ay) in
    let by : SFits w32 c.args.edge.by = omega (arith, ints, c.requires.edge.by) in
    let result : SFits w64 c.line_from-from.result = omega (arith, ints, c.line_from-from.ensures.small) in
    let from = simp to_z-of_z at c.line_from-from.ensures.exact in
    let few = few_lines c.args.edge c.requires.edge in
    let small = c.line_from-from.ensures.small in
    let within = c.requires.within in
    let k : to_z w64 c.args.k ≡ pos c.args.k = omega (arith, ints, few, within) in
    let one : SFits w64 (c.line_from-from.result -ℤ pos 1) = omega (arith, ints, small) in
    rw k (simp to_z-of_z (omega (arith, ints, small, few, within)))

pub returns-then-edge-clause-exact : goal.returns-then-edge-clause-exact
returns-then-edge-clause-exact c =
    let ay : SFits w32 c.args.edge.ay = omega (arith, ints, c.requires.edge.ay) in
    let by : SFits w32 c.args.edge.by = omega (arith, ints, c.requires.edge.by) in
    let result : SFits w64 c.line_from-from.result = omega (arith, ints, c.line_from-from.ensures.small) in
    let from = simp to_z-of_z at c.line_from-from.ensures.exact in
    let few = few_lines c.args.edge c.requires.edge in
    let small = c.line_from-from.ensures.small in
    let within = c.requires.within in
    let k : to_z w64 c.args.k ≡ pos c.args.k = omega (arith, ints, few, within) in
    let rises = simp to_z-of_z at c.if-edge.true in
    let sum : SFits w64 (c.line_from-from.result +ℤ pos c.args.k) = omega (arith, ints, small, few, within) in
    rw k (simp to_z-of_z (grind (arith, ints, from, rises)))

pub returns-then-edge-clause-small : goal.returns-then-edge-clause-small
returns-then-edge-clause-small c =
    let exact = returns-then-edge-clause-exact c in
    rw exact (line_small c.args.edge c.args.k c.requires.edge c.requires.within)

pub returns-then-edge-clause-low : goal.returns-then-edge-clause-low
returns-then-edge-clause-low c =
    let exact = returns-then-edge-clause-exact c in rw exact (line_low c.args.edge c.args.k c.requires.within)

pub returns-then-edge-clause-high : goal.returns-then-edge-clause-high
returns-then-edge-clause-high c =
    let exact = returns-then-edge-clause-exact c in rw exact (line_high c.args.edge c.args.k c.requires.within)

pub returns-else-edge-clause-exact : goal.returns-else-edge-clause-exact
returns-else-edge-clause-exact c =
    let ay : SFits w32 c.args.edge.ay = omega (arith, ints, c.requires.edge.ay) in
    let by : SFits w32 c.args.edge.by = omega (arith, ints, c.requires.edge.by) in
    let result : SFits w64 c.line_from-from.result = omega (arith, ints, c.line_from-from.ensures.small) in
    let from = simp to_z-of_z at c.line_from-from.ensures.exact in
    let few = few_lines c.args.edge c.requires.edge in
    let small = c.line_from-from.ensures.small in
    let within = c.requires.within in
    let k : to_z w64 c.args.k ≡ pos c.args.k = omega (arith, ints, few, within) in
    let falls = simp to_z-of_z at c.if-edge.false in
    let one : SFits w64 (c.line_from-from.result -ℤ pos 1) = omega (arith, ints, small) in
    let rest : SFits w64 ((c.line_from-from.result -ℤ pos 1) -ℤ pos c.args.k) = omega (arith, ints, small, few, within) in
    let line = line_falling c.args.edge c.args.k falls in
    rw k (simp to_z-of_z (omega (arith, ints, from, line)))

pub returns-else-edge-clause-small : goal.returns-else-edge-clause-small
returns-else-edge-clause-small c =
    let exact = returns-else-edge-clause-exact c in
    rw exact (line_small c.args.edge c.args.k c.requires.edge c.requires.within)

pub returns-else-edge-clause-low : goal.returns-else-edge-clause-low
returns-else-edge-clause-low c =
    let exact = returns-else-edge-clause-exact c in rw exact (line_low c.args.edge c.args.k c.requires.within)

pub returns-else-edge-clause-high : goal.returns-else-edge-clause-high
returns-else-edge-clause-high c =
    let exact = returns-else-edge-clause-exact c in rw exact (line_high c.args.edge c.args.k c.requires.within)
