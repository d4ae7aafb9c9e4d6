use Rattle.std.proofs.Common.{◌≡◌, ◌∙◌, ◌||◌, get_or, take, ap, ap₂, sym}
use Rattle.std.proofs.lemmas.List.{get_or_default, length-map, take_all}
use Rattle.tt_picture.specs.Glyphs.{Glyph}
use Rattle.tt_picture.specs.Placed.{in_bitmap, number_has, place_has}
use Rattle.tt_picture.specs.Stamps.{some_stamp_shows}
use Rattle.tt_picture.proofs.Blackened.{or_false, or_or}
use Rattle.tt_picture.proofs.Placed.{number_at, place_more}
use Rattle.tt_scan_dropouts.specs.Pictures.{column_at, line_at}
use Rattle.tt_picture.proofs.stamps.push_line.Goals as goal

pub loop-placed-init : goal.loop-placed-init
loop-placed-init c = λ k r. rw c.reserve.ensures.items (sym (or_false _))

pub loop-placed-preserved : goal.loop-placed-preserved
loop-placed-preserved c = λ k r.
    let f = c.args.frame in
    let gs = c.args.glyphs.now.made.items in
    let line = c.args.line.now in
    let i = c.loop-placed.placed-index in
    let p = get_or line i (0, 0) in
    let g = c.index.result.now in
    let has = number_has in_bitmap gs in
    let before = some_stamp_shows c.args.stamps.now.items k r in
    let x = column_at f p.1 k in
    let y = line_at f r in
    let here : get_or line i p ≡ p = get_or_default line i p (0, 0) c.loop-placed-test.true in
    let its : has p.0 x y ≡ in_bitmap g.body x y =
    number_at in_bitmap c.args.glyphs.now.places.items gs p.0 c.place_of-at.result g x y c.args.glyphs.now.seated
    (length-map gs (λ (g : Glyph). g.number)) c.place_of-at.ensures.within c.place_of-at.ensures.number (sym c.index.ensures) in
    c.in_ok-push_stamp.ensures k r ∙ ap₂ (λ a b. a || b) (c.loop-placed.invariant k r) (sym its)
    ∙ sym (or_or before (place_has has f (take i line) k r) (has p.0 x y))
    ∙ ap (λ b. before || b) (sym (place_more has f line i p k r c.loop-placed-test.true here))

pub returns : goal.returns
returns c =
    let all = take_all c.loop-placed.placed-index c.args.line.now c.loop-placed-test.false in
    rw all at c.loop-placed.invariant
