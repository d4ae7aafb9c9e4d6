use Rattle.std.proofs.Common.{◌∙◌, drop, sym}
use Rattle.tt_line.proofs.LabelTexts.{after_mark, the_mark_at, without_mark}
use Rattle.tt_line.proofs.lines.unmarked.Goals as goal

pub returns-in-Some : goal.returns-in-Some
returns-in-Some c =
    let s = c.args.text.now in
    let found = c.in-Some.ensures.cases in
    let split = found.1.split ∙ the_mark_at (drop found.0 s) in
    found.2 ∙ sym (after_mark s (drop found.0 s) split)

pub returns-in-None : goal.returns-in-None
returns-in-None c =
    sym (without_mark c.args.text.now (λ rest is. c.in-None.ensures.cases rest (is ∙ sym (the_mark_at rest))))
