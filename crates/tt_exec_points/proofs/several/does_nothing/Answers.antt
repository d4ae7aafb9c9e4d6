use Rattle.std.proofs.Common.{refl}
use Rattle.tt_exec_points.proofs.several.does_nothing.Goals as goal

pub returns-then-not-referred : goal.returns-then-not-referred
returns-then-not-referred c = rw c.if-not-referred.true refl

pub returns-else-not-referred : goal.returns-else-not-referred
returns-else-not-referred c = rw (c.if-not-referred.false, c.len.ensures.exact) refl
