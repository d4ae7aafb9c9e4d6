use Rattle.std.proofs.Common.{refl, SFits, w32, w64, arith}
use Rattle.std.specs.Prelude.{pos, ◌-ℤ◌}
use Rattle.std.proofs.lemmas.Int.{ints, to_z-of_z}
use Rattle.tt_scan_gaps.proofs.Lines.{gap_small, place_small}
use Rattle.tt_scan_gaps.proofs.crossings.crossing_at.Goals as goal

pub returns : goal.returns
returns c =
    let line : SFits w64 c.args.line = c.ranges.line in
    let x : SFits w64 c.args.x = c.ranges.x in
    let from : SFits w64 (c.args.x -ℤ pos 4096) = omega (arith, ints, c.requires.place) in
    let value = simp to_z-of_z at c.whole_pixels.ensures.exact in
    let rest = simp to_z-of_z at c.rem_euclid.ensures.value in
    let gap : SFits w32 c.whole_pixels.result = rw value (gap_small c.args.x c.requires.place) in
    let wide : SFits w64 c.whole_pixels.result = omega (arith, ints, gap) in
    let narrow : SFits w32 c.args.line = omega (arith, ints, c.requires.line) in
    let place : SFits w64 c.rem_euclid.result = rw rest (place_small c.args.x) in
    simp to_z-of_z (rw (value, rest) refl)
