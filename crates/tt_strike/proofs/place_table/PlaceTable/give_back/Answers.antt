use Rattle.std.proofs.Common.{◌≡◌, ◌∙◌, sym, ◌+◌, ◌<◌, ◌≤◌, ◌∷◌, drop, get_or, length, arith}
use Rattle.std.proofs.lemmas.List.{drop_all, drop_more, length-set}
use Rattle.tt_picture.specs.Glyphs.{numbers_of}
use Rattle.tt_strike.proofs.Cleared.{all_cleared, all_within, at_first, one_cleared}
use Rattle.tt_strike.proofs.place_table.PlaceTable.give_back.Goals as goal

pub loop-glyph-init : goal.loop-glyph-init
loop-glyph-init c = record {
  within = all_within c.args.places.items c.args.made.now c.requires;
  cleared = at_first c.args.places.items (numbers_of c.args.made.now) c.requires;
}

pub loop-glyph-preserved : goal.loop-glyph-preserved
loop-glyph-preserved c =
    let at = c.loop-glyph in
    let made = c.args.made.now in
    let i = at.glyph-index in
    let glyph = c.glyph-item.result in
    let table = at.table.items in
    let below : i < length made = c.loop-glyph-test.true in
    let here : get_or made i glyph ≡ glyph = sym c.glyph-item.is in
    let left : drop i made ≡ glyph ∷ drop (i + 1) made = rw here at (drop_more made i glyph below) in
    let within : glyph.number < length table = rw here at (at.invariant.within i glyph below) in
    let number : c.from.result ≡ glyph.number = c.from.ensures ∙ c.number.ensures in
    rw number (record {
      within = λ k d under. rw length-set (at.invariant.within k d under);
      cleared = one_cleared table glyph.number (numbers_of (drop (i + 1) made)) within (rw left at at.invariant.cleared);
    })

pub index_mut-requires : goal.index_mut-requires
index_mut-requires c =
    let at = c.loop-glyph in
    let glyph = c.glyph-item.result in
    let here : get_or c.args.made.now at.glyph-index glyph ≡ glyph = sym c.glyph-item.is in
    let within : glyph.number < length at.table.items = rw here at (at.invariant.within at.glyph-index glyph c.loop-glyph-test.true) in
    let number : c.from.result ≡ glyph.number = c.from.ensures ∙ c.number.ensures in
    omega (arith, within, number, at.table.ok.0)

pub invariant_of-self : goal.invariant_of-self
invariant_of-self c =
    let at = c.loop-glyph in
    let made = c.args.made.now in
    let over : length made ≤ at.glyph-index = omega (arith, c.loop-glyph-test.false) in
    all_cleared at.table.items (rw (drop_all at.glyph-index made over) at at.invariant.cleared)
