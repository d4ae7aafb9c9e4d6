use Rattle.std.proofs.Common.{◌≡◌, ◌*◌, ◌-ℤ◌, unsigned_abs, SFits, w64, arith}
use Rattle.std.proofs.lemmas.Int.{to_z-of_z}
use Rattle.tt_bitmap.specs.Bitmaps.{strips}
use Rattle.tt_bitmap.proofs.bitmap.row_number.Goals as goal

pub row_word-requires-clause-has : goal.row_word-requires-clause-has
row_word-requires-clause-has c =
    let is_line : SFits w64 c.args.line = c.ranges.line in
    let is_top : SFits w64 c.args.top = c.ranges.top in
    simp to_z-of_z c.requires.has

pub returns-clause-exact : goal.returns-clause-exact
returns-clause-exact c =
    let is_line : SFits w64 c.args.line = c.ranges.line in
    let is_top : SFits w64 c.args.top = c.ranges.top in
    let word : c.row_word.result ≡ strips c.args.width * unsigned_abs (c.args.top -ℤ c.args.line) =
    simp to_z-of_z at c.row_word.ensures.exact in
    omega (arith, word)
