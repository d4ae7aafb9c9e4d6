use Rattle.std.proofs.Common.{◌≡◌, ◌∙◌, ◌||◌, get_or, ap, sym, refl}
use Rattle.std.proofs.lemmas.List.{take_all}
use Rattle.tt_picture.specs.Placed.{in_bitmap, number_has, place_has}
use Rattle.tt_picture.proofs.Placed.{line_more}
use Rattle.tt_picture.proofs.stamps.stamps_of.Goals as goal

pub loop-line-init : goal.loop-line-init
loop-line-init c = λ k r. rw c.new-stamps.ensures.items refl

pub push_line-requires-clause-among : goal.push_line-requires-clause-among
push_line-requires-clause-among c =
    let l = c.line-item.result in
    let here : get_or c.args.lines.now c.loop-line.line-index l ≡ l = sym c.line-item.is in
    rw here at (c.requires c.loop-line.line-index l c.loop-line-test.true)

pub loop-line-preserved : goal.loop-line-preserved
loop-line-preserved c = λ k r.
    let gs = c.args.glyphs.now.made.items in
    let lines = c.args.lines.now in
    let i = c.loop-line.line-index in
    let l = c.line-item.result in
    let has = number_has in_bitmap gs in
    let here : get_or lines i l ≡ l = sym c.line-item.is in
    c.in_ok-push_line.ensures k r ∙ ap (λ b. b || place_has has l.frame l.glyphs.now k r) (c.loop-line.invariant k r)
    ∙ sym (line_more has lines i l k r c.loop-line-test.true here)

pub returns : goal.returns
returns c =
    let all = take_all c.loop-line.line-index c.args.lines.now c.loop-line-test.false in
    rw all at c.loop-line.invariant
