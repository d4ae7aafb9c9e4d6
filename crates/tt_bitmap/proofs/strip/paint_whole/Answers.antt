use Rattle.std.proofs.Common.{◌≡◌, ◌∙◌, ◌+◌, ◌*◌, ◌/◌, ◌&&◌, nat_lt, ap, Bool, slice_index, SFits, w64, rules, arith}
use Rattle.std.proofs.lemmas.Int.{to_z-of_z}
use Rattle.tt_bitmap.specs.Bitmaps.{shown_in}
use Rattle.tt_bitmap.proofs.Bands.{repainted}
use Rattle.tt_bitmap.proofs.Clips.{whole_parts}
use Rattle.tt_bitmap.proofs.Strips.{narrow_strip}
use Rattle.tt_bitmap.proofs.strip.paint_whole.Goals as goal

pub whole_place-place-requires-clause-whole : goal.whole_place-place-requires-clause-whole
whole_place-place-requires-clause-whole c =
    let at : SFits w64 c.args.row.at = search rules in
    simp to_z-of_z c.requires.whole

pub whole_place-place-requires-clause-few : goal.whole_place-place-requires-clause-few
whole_place-place-requires-clause-few c =
    (whole_parts c.args.row.at c.args.row.columns c.args.row.width c.args.row.bytes c.requires.whole).few

pub paint_eight-requires-clause-many : goal.paint_eight-requires-clause-many
paint_eight-requires-clause-many c =
    (whole_parts c.args.row.at c.args.row.columns c.args.row.width c.args.row.bytes c.requires.whole).many

pub returns : goal.returns
returns c =
    let n = c.args.row.columns in
    let words = c.args.words.now in
    let at : SFits w64 c.args.row.at = search rules in
    let whole = whole_parts c.args.row.at n c.args.row.width c.args.row.bytes c.requires.whole in
    let some = whole.some in
    let few = whole.few in
    let one : (n + 55) / 56 ≡ 1 = omega (arith, some, few) in
    let shown = simp to_z-of_z at c.whole_place-place.ensures.shown in
    repainted c.args.row.bytes c.args.rows _ (λ i k. nat_lt k c.args.row.width && shown_in words n c.args.row.at n i k) c.args.band.now _ c.paint_eight.ensures
    (λ i k below. shown (slice_index words (1 * i + 0)) k ((c.type_inv.words (1 * i + 0)).fits)
    ∙ ap (λ (x : Bool). nat_lt k c.args.row.width && x) (narrow_strip words n i k c.args.row.at one))
