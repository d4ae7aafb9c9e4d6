use Rattle.std.proofs.Common.{◌≡◌, ◌∙◌, ◌-ℤ◌, length, replicate, ap, pos, SFits, w32, w64, rules, arith}
use Rattle.std.proofs.lemmas.Int.{ints, to_z-of_z}
use Rattle.std.proofs.lemmas.List.{length-replicate}
use Rattle.tt_glyphs.proofs.BitmapRows.{painted_rows}
use Rattle.tt_glyphs.proofs.small.SmallRows.write.Goals as goal

pub paint-requires-clause-column : goal.paint-requires-clause-column
paint-requires-clause-column c =
    let p = c.args.self.now.place in
    let near = c.requires.place.left in
    let own : SFits w32 p.left = omega (arith, ints, near) in
    let left_is : c.from.result ≡ p.left = simp to_z-of_z at c.from.ensures in
    let left : SFits w64 c.from.result = search rules in
    let shift : SFits w64 (pos 0 -ℤ c.from.result) = omega (arith, ints, near, left_is) in
    simp to_z-of_z (omega (arith, ints, near, left_is))

pub paint-requires-clause-line : goal.paint-requires-clause-line
paint-requires-clause-line c =
    let p = c.args.self.now.place in
    let near = c.requires.place.top in
    let own : SFits w32 p.top = omega (arith, ints, near) in
    let top_is : c.from-2.result ≡ p.top = simp to_z-of_z at c.from-2.ensures in
    let top : SFits w64 c.from-2.result = search rules in
    let line : SFits w64 (c.from-2.result -ℤ pos 1) = omega (arith, ints, near, top_is) in
    simp to_z-of_z (omega (arith, ints, near, top_is))

pub paint-requires-clause-width : goal.paint-requires-clause-width
paint-requires-clause-width c = rw c.row_bytes.ensures.exact (omega arith)

pub paint-requires-clause-bytes : goal.paint-requires-clause-bytes
paint-requires-clause-bytes c = omega (arith, c.row_bytes.ensures.small)

pub paint-requires-clause-band : goal.paint-requires-clause-band
paint-requires-clause-band c =
    let white : c.fill.new.self ≡ replicate (length c.args.rows.now) 0 = search rules in
    rw c.row_bytes.ensures.exact (ap length white ∙ length-replicate (length c.args.rows.now) 0 ∙ c.requires.len)

pub returns : goal.returns
returns c =
    let b = c.args.self.now in
    let p = b.place in
    let white : c.fill.new.self ≡ replicate (length c.args.rows.now) 0 = search rules in
    let near = c.requires.place.left in
    let high = c.requires.place.top in
    let own_left : SFits w32 p.left = omega (arith, ints, near) in
    let own_top : SFits w32 p.top = omega (arith, ints, high) in
    let left_is : c.from.result ≡ p.left = simp to_z-of_z at c.from.ensures in
    let top_is : c.from-2.result ≡ p.top = simp to_z-of_z at c.from-2.ensures in
    let left : SFits w64 c.from.result = search rules in
    let top : SFits w64 c.from-2.result = search rules in
    let shift : SFits w64 (pos 0 -ℤ c.from.result) = omega (arith, ints, near, left_is) in
    let line : SFits w64 (c.from-2.result -ℤ pos 1) = omega (arith, ints, high, top_is) in
    let painted = rw (c.row_bytes.ensures.exact, left_is, top_is) at (simp to_z-of_z at c.paint.ensures) in
    painted_rows p b.bitmap (length c.args.rows.now) c.fill.new.self c.paint.new.band white c.requires.len painted
    (λ i within. (c.type_inv.rows i).fits)
