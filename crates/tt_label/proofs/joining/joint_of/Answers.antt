use Rattle.std.proofs.Common.{◌∙◌, ap, arith}
use Rattle.tt_label.proofs.Joined.{one_is_joint}
use Rattle.tt_line.specs.Outcome.{placement_of}
use Rattle.tt_strike.specs.declared.laid.Laid.{Laid}
use Rattle.tt_label.proofs.joining.joint_of.Goals as goal

pub bounds-lines-0 : goal.bounds-lines-0
bounds-lines-0 c = let one = rw c.in-None.is at c.requires.none in omega (arith, one)

pub returns-in-Some-clause-line : goal.returns-in-Some-clause-line
returns-in-Some-clause-line c = rw c.in-Some.is at c.requires.line

pub returns-in-Some-clause-margin : goal.returns-in-Some-clause-margin
returns-in-Some-clause-margin c = λ margin own all. rw c.in-Some.is at own

pub returns-in-None-clause-line : goal.returns-in-None-clause-line
returns-in-None-clause-line c =
    let one = rw c.in-None.is at c.requires.none in
    ap (λ (l : Laid). placement_of l.line) c.index-lines-0.is ∙ one_is_joint c.args.lines.now c.index-lines-0.result one

pub returns-in-None-clause-margin : goal.returns-in-None-clause-margin
returns-in-None-clause-margin c = λ margin own all.
    let one = rw c.in-None.is at c.requires.none in
    ap (λ (l : Laid). l.margin) c.index-lines-0.is ∙ all 0 c.index-lines-0.result (omega (arith, one))
