use Rattle.std.proofs.Common.{◌∙◌, sym}
use Rattle.tt_advances.proofs.Advances.{plain_advances}
use Rattle.tt_strike.proofs.sized.SizedFace.own_units.Goals as goal

pub bounds-units-at : goal.bounds-units-at
bounds-units-at c = (c.requires.at (rw c.finds_advances.ensures at c.if-finds_advances.true)).0

pub returns-then-finds_advances : goal.returns-then-finds_advances
returns-then-finds_advances c = (c.requires.at (rw c.finds_advances.ensures at c.if-finds_advances.true)).1

pub returns : goal.returns
returns c =
    let plain = plain_advances c.args.self.now.face (rw c.finds_advances.ensures at c.if-finds_advances.false) in
    (rw (c.metrics.ensures, c.face.ensures) at c.advance.ensures) ∙ sym (plain.units c.args.glyph)
