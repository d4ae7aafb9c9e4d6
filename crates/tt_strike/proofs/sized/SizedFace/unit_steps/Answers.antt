use Rattle.std.proofs.Common.{refl}
use Rattle.tt_advances.proofs.Advances.{plain_advances, plain_sound}
use Rattle.tt_line.specs.Layout.{text_glyphs}
use Rattle.tt_strike.proofs.sized.SizedFace.unit_steps.Goals as goal

pub found_steps-requires-clause-finds : goal.found_steps-requires-clause-finds
found_steps-requires-clause-finds c = rw c.finds_advances.ensures at c.if-finds_advances.true

-- else the advances are those of the tables
pub returns-clause-exact : goal.returns-clause-exact
returns-clause-exact c =
    let z = c.args.self.now in
    let gs = text_glyphs z.face.cmap c.args.text.now in
    let plain = plain_advances z.face (rw c.finds_advances.ensures at c.if-finds_advances.false) in
    rw (c.in_ok-table_steps.ensures.exact, plain.tested gs, plain.line z.ppem gs) refl

pub returns-clause-defects : goal.returns-clause-defects
returns-clause-defects c =
    let z = c.args.self.now in
    plain_sound z.face (text_glyphs z.face.cmap c.args.text.now) (rw c.finds_advances.ensures at c.if-finds_advances.false)
