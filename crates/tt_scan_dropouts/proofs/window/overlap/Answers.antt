use Rattle.std.proofs.Common.{SFits, w32, w64, arith}
use Rattle.std.specs.Prelude.{◌-ℤ◌, ◌≤ℤ◌, ◌<ℤ◌}
use Rattle.std.proofs.lemmas.Int.{clamps, ints, to_z-of_z}
use Rattle.tt_scan_dropouts.proofs.Clips.{AreEndsOf, overlap_is, overlap_none, overlap_part}
use Rattle.tt_scan_dropouts.proofs.window.overlap.Goals as goal

pub overflow_cast-result-then-from-end : goal.overflow_cast-result-then-from-end
overflow_cast-result-then-from-end c =
    let first : SFits w32 c.args.first = c.ranges.first in
    let start = simp to_z-of_z at c.start_of-from.ensures.exact in
    let stop = simp to_z-of_z at c.end_of-end.ensures.exact in
    let from : SFits w64 c.start_of-from.result = omega (arith, ints, c.start_of-from.ensures.small) in
    let end : SFits w64 c.end_of-end.result = omega (arith, ints, c.end_of-end.ensures.small) in
    let count : SFits w64 (c.end_of-end.result -ℤ c.start_of-from.result) =
    omega (arith, ints, c.start_of-from.ensures.small, c.end_of-end.ensures.small) in
    let order : c.start_of-from.result <ℤ c.end_of-end.result =
    grind (arith, ints, simp to_z-of_z at c.if-from-end.true) in
    simp to_z-of_z (omega (arith, ints, clamps, order, start, stop, c.ranges.count))

pub returns-then-from-end-clause-some : goal.returns-then-from-end-clause-some
returns-then-from-end-clause-some c =
    let first : SFits w32 c.args.first = c.ranges.first in
    let from : SFits w64 c.start_of-from.result = omega (arith, ints, c.start_of-from.ensures.small) in
    let end : SFits w64 c.end_of-end.result = omega (arith, ints, c.end_of-end.ensures.small) in
    let count : SFits w64 (c.end_of-end.result -ℤ c.start_of-from.result) =
    omega (arith, ints, c.start_of-from.ensures.small, c.end_of-end.ensures.small) in
    let order : c.start_of-from.result <ℤ c.end_of-end.result =
    grind (arith, ints, simp to_z-of_z at c.if-from-end.true) in
    let ends : AreEndsOf c.args.first c.args.count c.args.columns c.start_of-from.result c.end_of-end.result = record {
      start = simp to_z-of_z at c.start_of-from.ensures.exact;
      stop = simp to_z-of_z at c.end_of-end.ensures.exact;
    } in
    let narrow : SFits w32 c.start_of-from.result = omega (arith, ints, clamps, first, ends.start, c.requires.first) in
    simp to_z-of_z
    (overlap_is c.args.first c.args.count c.args.columns c.start_of-from.result c.end_of-end.result ends order)

pub returns-then-from-end-clause-within : goal.returns-then-from-end-clause-within
returns-then-from-end-clause-within c =
    let first : SFits w32 c.args.first = c.ranges.first in
    let from : SFits w64 c.start_of-from.result = omega (arith, ints, c.start_of-from.ensures.small) in
    let end : SFits w64 c.end_of-end.result = omega (arith, ints, c.end_of-end.ensures.small) in
    let count : SFits w64 (c.end_of-end.result -ℤ c.start_of-from.result) =
    omega (arith, ints, c.start_of-from.ensures.small, c.end_of-end.ensures.small) in
    let order : c.start_of-from.result <ℤ c.end_of-end.result =
    grind (arith, ints, simp to_z-of_z at c.if-from-end.true) in
    let ends : AreEndsOf c.args.first c.args.count c.args.columns c.start_of-from.result c.end_of-end.result = record {
      start = simp to_z-of_z at c.start_of-from.ensures.exact;
      stop = simp to_z-of_z at c.end_of-end.ensures.exact;
    } in
    let narrow : SFits w32 c.start_of-from.result = omega (arith, ints, clamps, first, ends.start, c.requires.first) in
    simp to_z-of_z
    (overlap_part c.args.first c.args.count c.args.columns c.start_of-from.result c.end_of-end.result ends order)

pub returns-then-from-end-clause-few : goal.returns-then-from-end-clause-few
returns-then-from-end-clause-few c =
    let first : SFits w32 c.args.first = c.ranges.first in
    let low : SFits w64 c.args.columns.first = omega (arith, ints, c.requires.first) in
    let high : SFits w64 c.args.columns.last = omega (arith, ints, c.requires.last) in
    let start = simp to_z-of_z at c.start_of-from.ensures.exact in
    let stop = simp to_z-of_z at c.end_of-end.ensures.exact in
    let from : SFits w64 c.start_of-from.result = omega (arith, ints, c.start_of-from.ensures.small) in
    let end : SFits w64 c.end_of-end.result = omega (arith, ints, c.end_of-end.ensures.small) in
    let count : SFits w64 (c.end_of-end.result -ℤ c.start_of-from.result) =
    omega (arith, ints, c.start_of-from.ensures.small, c.end_of-end.ensures.small) in
    let order : c.start_of-from.result <ℤ c.end_of-end.result =
    grind (arith, ints, simp to_z-of_z at c.if-from-end.true) in
    simp to_z-of_z (omega (arith, ints, clamps, order, start, stop))

pub returns-else-from-end-clause-none : goal.returns-else-from-end-clause-none
returns-else-from-end-clause-none c =
    let first : SFits w32 c.args.first = c.ranges.first in
    let from : SFits w64 c.start_of-from.result = omega (arith, ints, c.start_of-from.ensures.small) in
    let end : SFits w64 c.end_of-end.result = omega (arith, ints, c.end_of-end.ensures.small) in
    let order : c.end_of-end.result ≤ℤ c.start_of-from.result =
    grind (arith, ints, simp to_z-of_z at c.if-from-end.false) in
    let ends : AreEndsOf c.args.first c.args.count c.args.columns c.start_of-from.result c.end_of-end.result = record {
      start = simp to_z-of_z at c.start_of-from.ensures.exact;
      stop = simp to_z-of_z at c.end_of-end.ensures.exact;
    } in
    overlap_none c.args.first c.args.count c.args.columns c.start_of-from.result c.end_of-end.result ends order
