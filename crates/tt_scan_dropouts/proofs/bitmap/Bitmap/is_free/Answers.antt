use Rattle.std.proofs.Common.{◌≡◌, not, ◌&&◌, SFits, w64, arith}
use Rattle.std.specs.Prelude.{pos, ◌+ℤ◌}
use Rattle.std.proofs.lemmas.Int.{ints, to_z-of_z}
use Rattle.tt_scan_dropouts.specs.Windows.{is_black_in}
use Rattle.tt_scan_dropouts.proofs.bitmap.Bitmap.is_free.Goals as goal

pub returns-in-Rows : goal.returns-in-Rows
returns-in-Rows c =
    let gap : SFits w64 c.args.gap = c.ranges.gap in
    let line : SFits w64 c.args.line = c.ranges.line in
    let next : SFits w64 (c.args.gap +ℤ pos 1) = omega (arith, ints, c.requires) in
    let is : c.are_white.result ≡ (not (is_black_in c.args.self.now c.args.gap c.args.line)
    && not (is_black_in c.args.self.now (c.args.gap +ℤ pos 1) c.args.line)) = simp to_z-of_z at c.are_white.ensures in
    rw c.in-Rows.is is

pub returns-in-Columns : goal.returns-in-Columns
returns-in-Columns c =
    let gap : SFits w64 c.args.gap = c.ranges.gap in
    let line : SFits w64 c.args.line = c.ranges.line in
    let next : SFits w64 (c.args.gap +ℤ pos 1) = omega (arith, ints, c.requires) in
    let is : c.are_white-in-Columns.result ≡ (not (is_black_in c.args.self.now c.args.line c.args.gap)
    && not (is_black_in c.args.self.now c.args.line (c.args.gap +ℤ pos 1))) = simp to_z-of_z at c.are_white-in-Columns.ensures in
    rw c.in-Columns.is is
