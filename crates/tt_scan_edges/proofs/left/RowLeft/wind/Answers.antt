use Rattle.std.proofs.Common.{◌≡◌, ◌∙◌, length, pos, refl, arith}
use Rattle.std.proofs.lemmas.Bool.Decides.{nat_tests}
use Rattle.tt_scan_edges.specs.Marks.{IsRising}
use Rattle.tt_scan_edges.proofs.Crossed.{none_turned}
use Rattle.tt_scan_edges.proofs.Stretches.{all_stretches}
use Rattle.tt_scan_edges.proofs.left.RowLeft.wind.Goals as goal

pub returns-then-not-is_empty-clause-black : goal.returns-then-not-is_empty-clause-black
returns-then-not-is_empty-clause-black c = λ at below.
    let order : IsRising c.self.inside.marks.items = rw (← c.self.view_is) at c.requires in
    let wound = all_stretches (pos 0) c.self.inside.marks.items at order in
    rw (← c.self.view_is) ((rw c.deref.ensures.value at (c.wind.ensures.black at below)) ∙ rw wound refl)

pub returns-else-not-is_empty-clause-black : goal.returns-else-not-is_empty-clause-black
returns-else-not-is_empty-clause-black c = λ at below.
    let none : length c.self.inside.marks.items ≡ 0 = grind (arith, nat_tests, c.is_empty.ensures, c.if-not-is_empty.false) in
    rw (← c.self.view_is) (none_turned c.self.inside.marks.items at _ none)
