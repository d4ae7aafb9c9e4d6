use Rattle.std.proofs.Common.{◌∙◌, sym}
use Rattle.std.proofs.lemmas.List.{take_rest}
use Rattle.tt_bdf.proofs.Blanks.{all_blank, blank_more, no_blank}
use Rattle.tt_bdf.proofs.style.without_front.Goals as goal

pub loop-i-preserved : goal.loop-i-preserved
loop-i-preserved c =
    let blank = rw c.is_visible.ensures at c.if-is_visible.false in
    blank_more c.args.name.now c.loop-i.i c.loop-i-test.true blank ∙ c.loop-i.invariant

pub returns-then-is_visible : goal.returns-then-is_visible
returns-then-is_visible c =
    let visible = rw c.is_visible.ensures at c.if-is_visible.true in
    take_rest c.args.name.now c.loop-i.i
    ∙ sym (no_blank c.args.name.now c.loop-i.i c.loop-i-test.true visible) ∙ c.loop-i.invariant

pub returns : goal.returns
returns c = sym (all_blank c.args.name.now c.loop-i.i c.loop-i-test.false) ∙ c.loop-i.invariant
