use Rattle.std.proofs.Common.{◌-ℤ◌, unsigned_abs, SFits, w64, refl, arith}
use Rattle.std.proofs.lemmas.Int.{ints, to_z-of_z}
use Rattle.tt_bitmap.proofs.Places.{on_line, row_fits}
use Rattle.tt_bitmap.proofs.bitmap.row_word.Goals as goal

pub overflow_mul-result : goal.overflow_mul-result
overflow_mul-result c =
    let is_line : SFits w64 c.args.line = c.ranges.line in
    let is_top : SFits w64 c.args.top = c.ranges.top in
    let row = on_line c.args.top c.args.height c.args.line c.requires.has in
    let up : SFits w64 (c.args.top -ℤ c.args.line) = omega (arith, ints, row.above, c.requires.height) in
    let fits = row_fits c.args.width c.args.height (unsigned_abs (c.args.top -ℤ c.args.line)) c.requires.width c.requires.height row.above in
    simp to_z-of_z (rw c.strips_of.ensures (omega (arith, fits.ends, fits.small)))

pub returns-clause-exact : goal.returns-clause-exact
returns-clause-exact c =
    let is_line : SFits w64 c.args.line = c.ranges.line in
    let is_top : SFits w64 c.args.top = c.ranges.top in
    let row = on_line c.args.top c.args.height c.args.line c.requires.has in
    let up : SFits w64 (c.args.top -ℤ c.args.line) = omega (arith, ints, row.above, c.requires.height) in
    simp to_z-of_z (rw c.strips_of.ensures refl)

pub returns-clause-within : goal.returns-clause-within
returns-clause-within c =
    let is_line : SFits w64 c.args.line = c.ranges.line in
    let is_top : SFits w64 c.args.top = c.ranges.top in
    let row = on_line c.args.top c.args.height c.args.line c.requires.has in
    let up : SFits w64 (c.args.top -ℤ c.args.line) = omega (arith, ints, row.above, c.requires.height) in
    let fits = row_fits c.args.width c.args.height (unsigned_abs (c.args.top -ℤ c.args.line)) c.requires.width c.requires.height row.above in
    simp to_z-of_z (rw c.strips_of.ensures (omega (arith, fits.ends)))

pub returns-clause-small : goal.returns-clause-small
returns-clause-small c =
    let is_line : SFits w64 c.args.line = c.ranges.line in
    let is_top : SFits w64 c.args.top = c.ranges.top in
    let row = on_line c.args.top c.args.height c.args.line c.requires.has in
    let up : SFits w64 (c.args.top -ℤ c.args.line) = omega (arith, ints, row.above, c.requires.height) in
    let fits = row_fits c.args.width c.args.height (unsigned_abs (c.args.top -ℤ c.args.line)) c.requires.width c.requires.height row.above in
    simp to_z-of_z (rw c.strips_of.ensures (omega (arith, fits.ends, fits.small)))
