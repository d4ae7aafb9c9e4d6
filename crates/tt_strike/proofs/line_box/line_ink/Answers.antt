use Rattle.std.proofs.Common.{◌≡◌, ◌∙◌, ℕ, ◌<◌, ◌≤◌, List, get_or, length, map, slice_index, slice_index_or, ap, Option, arith, rules}
use Rattle.std.proofs.lemmas.List.{drop_all, drop_more, get_or-map, length-map}
use Rattle.tt_bitmap.specs.declared.ink.LeastBox.{LeastBox}
use Rattle.tt_picture.specs.Glyphs.{Glyph, numbers_of}
use Rattle.tt_strike.proofs.line_box.line_ink.Goals as goal

-- the ink at a place, of the inks of some numbers
ink_found : (ink : ℕ → Option LeastBox) (inks : List (Option LeastBox)) (gs : List Glyph) (i n : ℕ) (d : Option LeastBox)
    → inks ≡ map ink (numbers_of gs) → i < length gs → slice_index (numbers_of gs) i ≡ n → slice_index_or inks i d ≡ ink n
ink_found ink inks gs i n d are below is =
    let count = length-map gs (λ (g : Glyph). g.number) in
    let here : i < length (numbers_of gs) = omega (arith, count, below) in
    rw are (get_or-map ink (numbers_of gs) i 0 d here ∙ ap ink is)

pub loop-placed-preserved : goal.loop-placed-preserved
loop-placed-preserved c = λ ink inks.
    let at = c.loop-placed in
    let line = c.args.line.glyphs.now in
    let i = at.placed-index in
    let below : i < length line = c.loop-placed-test.true in
    let place = c.place_of-at.ensures in
    let its = c.index.ensures ∙ ink_found ink c.args.inked.now.inks.items c.args.inked.now.glyphs.made.items c.place_of-at.result
    (get_or line i (0, 0)).0 c.index.result.now inks place.within place.number in
    rw (c.joined-all.ensures, c.ink_at.ensures, its) (rw (drop_more line i (0, 0) below) at (at.invariant ink inks))

pub place_of-at-requires : goal.place_of-at-requires
place_of-at-requires c = c.requires c.loop-placed.placed-index (0, 0) c.loop-placed-test.true

pub ink_at-requires-clause-margin : goal.ink_at-requires-clause-margin
ink_at-requires-clause-margin c = c.args.line.fits.fits.margin

pub ink_at-requires-clause-pen : goal.ink_at-requires-clause-pen
ink_at-requires-clause-pen c = c.args.line.pens c.loop-placed.placed-index (0, 0) c.loop-placed-test.true

pub index-requires : goal.index-requires
index-requires c =
    let below : c.place_of-at.result < length c.args.inked.now.inks.items =
    rw (c.args.inked.now.inked, length-map) c.place_of-at.ensures.within in
    search rules

pub returns : goal.returns
returns c = λ ink inks.
    let line = c.args.line.glyphs.now in
    let over : length line ≤ c.loop-placed.placed-index = omega (arith, c.loop-placed-test.false) in
    rw (drop_all c.loop-placed.placed-index line over) at (c.loop-placed.invariant ink inks)
