use Rattle.std.proofs.Common.{◌≡◌, ◌∙◌, [], drop, arith}
use Rattle.std.proofs.lemmas.List.{drop_all}
use Rattle.tt_render.proofs.LabelTexts.{listed_next}
use Rattle.tt_render.proofs.label_texts.list_all.Goals as goal

pub loop-c-preserved : goal.loop-c-preserved
loop-c-preserved c =
    rw c.in_ok-list.ensures
    (listed_next c.loop-c.listed.items c.args.more.now c.loop-c.c-index c.c-item.result c.loop-c-test.true c.c-item.is
    ∙ c.loop-c.invariant)

pub returns : goal.returns
returns c =
    let none : drop c.loop-c.c-index c.args.more.now ≡ [] =
    drop_all c.loop-c.c-index c.args.more.now (omega (arith, c.loop-c-test.false)) in
    rw none at c.loop-c.invariant
