use Rattle.std.proofs.Common.{◌≡◌, ◌-◌, ◌/◌, min, pos, ◌+ℤ◌, refl, SFits, w64, rules, arith}
use Rattle.std.proofs.lemmas.Int.{ints, to_z-of_z}
use Rattle.tt_bitmap.proofs.Clips.{whole_parts, whole_placed}
use Rattle.tt_bitmap.proofs.clip.whole_place.Goals as goal

pub returns-clause-shown : goal.returns-clause-shown
returns-clause-shown c = λ word k fits.
    let at : SFits w64 c.args.at = c.ranges.at in
    let is_first : pos c.column_of-first.result ≡ c.args.at +ℤ pos 0 = simp to_z-of_z at c.column_of-first.ensures.exact in
    let start : c.min-start.result ≡ min (c.column_of-first.result / 8) (c.args.bytes - 8) =
    omega (arith, c.min-start.ensures, c.saturating_sub.ensures) in
    whole_placed c.args.at c.args.columns c.args.width c.args.bytes c.min-start.result _ c.ones.result c.column_of-first.result word k
    c.requires.whole c.requires.width is_first start refl c.ones.ensures fits (search rules)

pub column_of-first-requires-clause-low : goal.column_of-first-requires-clause-low
column_of-first-requires-clause-low c =
    let at : SFits w64 c.args.at = c.ranges.at in
    let low = (whole_parts c.args.at c.args.columns c.args.width c.args.bytes c.requires.whole).low in
    simp to_z-of_z (omega (arith, ints, low))
