use Rattle.std.proofs.Common.{◌≡◌, ◌*◌, refl, pos, ◌+ℤ◌, ◌-ℤ◌, SFits, w64, arith, rules}
use Rattle.std.proofs.lemmas.Int.{ints, to_z-of_z}
use Rattle.tt_rows.specs.Places.{half}
use Rattle.tt_rows.proofs.places.first_base_line.Goals as goal

pub returns : goal.returns
returns c =
    let margin : SFits w64 c.from.result = search rules in
    let free : SFits w64 c.free_rows.result = search rules in
    let middle : SFits w64 c.half.result = search rules in
    let rise : SFits w64 c.from-2.result = search rules in
    let first : c.from.result ≡ pos c.args.margin = search rules in
    let last : c.from-2.result ≡ c.args.rise = search rules in
    let top : SFits w64 (c.from.result +ℤ c.half.result) = omega (arith, ints, first, c.half.ensures.bound, c.requires.margin) in
    let all : SFits w64 (c.from.result +ℤ c.half.result +ℤ c.from-2.result)
    = omega (arith, ints, first, last, c.half.ensures.bound, c.requires.margin, c.requires.rise) in
    let by : c.half.result ≡ half c.free_rows.result = simp to_z-of_z at c.half.ensures.exact in
    let rows : SFits w64 c.args.rows = c.ranges.rows in
    let rest : c.free_rows.result ≡ pos c.args.height -ℤ pos (2 * c.args.margin) -ℤ c.args.rows
    = simp to_z-of_z at c.free_rows.ensures.exact in
    simp to_z-of_z (rw (first, by, rest, last) refl)
