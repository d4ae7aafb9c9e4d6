use Rattle.std.proofs.Common.{◌∙◌, sym}
use Rattle.tt_fit.proofs.Falling.{left-where-enough, left-where-spent, made-unfitted, unfitted-where-refused, on-ok, on-told}
use Rattle.tt_fit.proofs.fitting.Fitter.refused.Goals as goal

pub returns-else-not-is_program_fault-clause-exact : goal.returns-else-not-is_program_fault-clause-exact
returns-else-not-is_program_fault-clause-exact c =
    let s = c.args.self.now in
    let f = c.in-Font.fault in
    let pays = rw c.in-Font.is at c.requires.work in
    let fails = rw c.in-Font.is at c.requires.fault in
    let some = unfitted-where-refused s c.args.g f c.requires.fallback (c.args.runner.now.work.left, pays) fails
    (sym c.if-not-is_program_fault.ensures) in
    rw (made-unfitted s c.args.g f some) c.marked.ensures.exact

pub returns-else-not-is_program_fault-clause-left : goal.returns-else-not-is_program_fault-clause-left
returns-else-not-is_program_fault-clause-left c =
    let pays = rw c.in-Font.is at c.requires.work in
    on-ok c.marked.result _
    (c.marked.ensures.left ∙ sym (left-where-enough c.args.self.now c.args.g c.args.runner.now.work.left c.requires.fallback pays))

pub returns-in-Spent-clause-left : goal.returns-in-Spent-clause-left
returns-in-Spent-clause-left c =
    let over = rw c.in-Spent.is at c.requires.work in
    on-ok c.marked-in-Spent.result _
    (c.marked-in-Spent.ensures.left ∙ c.of-runner.ensures ∙ sym (left-where-spent c.args.self.now c.args.g c.in-Spent.over c.requires.fallback over))

pub returns-then-not-is_program_fault-clause-refused : goal.returns-then-not-is_program_fault-clause-refused
returns-then-not-is_program_fault-clause-refused c =
    let pays = rw c.in-Font.is at c.requires.work in
    sym (left-where-enough c.args.self.now c.args.g c.args.runner.now.work.left c.requires.fallback pays)

pub returns-else-not-is_program_fault-clause-refused : goal.returns-else-not-is_program_fault-clause-refused
returns-else-not-is_program_fault-clause-refused c =
    let pays = rw c.in-Font.is at c.requires.work in
    on-told c.marked.result _
    (c.marked.ensures.left ∙ sym (left-where-enough c.args.self.now c.args.g c.args.runner.now.work.left c.requires.fallback pays))

pub returns-in-Spent-clause-refused : goal.returns-in-Spent-clause-refused
returns-in-Spent-clause-refused c =
    let over = rw c.in-Spent.is at c.requires.work in
    on-told c.marked-in-Spent.result _
    (c.marked-in-Spent.ensures.left ∙ c.of-runner.ensures ∙ sym (left-where-spent c.args.self.now c.args.g c.in-Spent.over c.requires.fallback over))
