use Rattle.std.proofs.Common.{SFits, w32, rules, refl}
use Rattle.std.proofs.lemmas.Int.{to_z-of_z}
use Rattle.tt_axes.specs.Axes.{axis_of}
use Rattle.tt_axes.proofs.fvar.Fvar.axis.Goals as goal

pub returns-clause-exact : goal.returns-clause-exact
unfolding axis_of
returns-clause-exact c =
    let least : SFits w32 c.fixed.result = search rules in
    let default : SFits w32 c.fixed-2.result = search rules in
    let greatest : SFits w32 c.fixed-3.result = search rules in
    let whole = simp to_z-of_z at c.in_order.ensures.exact in
    rw (← c.self.view_is, whole, c.tag.ensures, c.fixed.ensures, c.fixed-2.ensures, c.fixed-3.ensures, c.word-2.ensures, c.word-3.ensures, c.from.ensures, c.word.ensures)
    refl
