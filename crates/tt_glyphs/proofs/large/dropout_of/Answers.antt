use Rattle.std.proofs.Common.{◌≡◌, ◌&&◌, ap₂, sym, pos, ◌-ℤ◌, SFits, w32, w64, rules, arith}
use Rattle.std.proofs.lemmas.Int.{ints, to_z-of_z}
use Rattle.tt_glyphs.proofs.SeenPixels.{same_column, same_row}
use Rattle.tt_glyphs.proofs.large.dropout_of.Goals as goal

pub returns-clause-exact : goal.returns-clause-exact
returns-clause-exact c = λ k r.
    let place = c.args.place in
    let p = c.args.pixel in
    let left : SFits w32 place.left = omega (arith, ints, c.requires.place.left) in
    let top : SFits w32 place.top = omega (arith, ints, c.requires.place.top) in
    let from_base : SFits w64 place.top = omega (arith, ints, c.requires.place.top) in
    let from : SFits w64 c.from.result = search rules in
    let from_top : SFits w64 c.from-2.result = search rules in
    let its_column : SFits w64 p.column = search rules in
    let its_row : SFits w64 p.row = search rules in
    let left_is : c.from.result ≡ place.left = simp to_z-of_z at c.from.ensures in
    let top_is : c.from-2.result ≡ place.top = simp to_z-of_z at c.from-2.ensures in
    let over : SFits w64 (place.top -ℤ pos 1) = omega (arith, ints, c.requires.place.top) in
    let across = rw left_is at (simp to_z-of_z at c.distance-column.ensures) in
    let down = simp to_z-of_z at (rw top_is at c.distance-row.ensures) in
    ap₂ (λ a b. a && b) (same_column place.left k c.distance-column.result p.column (sym across))
    (same_row place.top r c.distance-row.result p.row (sym down))
