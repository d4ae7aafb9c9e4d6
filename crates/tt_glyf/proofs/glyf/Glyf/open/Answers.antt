use Rattle.std.proofs.Common.{refl}
use Rattle.tt_glyf.proofs.glyf.Glyf.open.Goals as goal

pub returns-clause-exact : goal.returns-clause-exact
returns-clause-exact c = rw (c.of.ensures, c.in_ok-loca.ensures.exact) refl

pub returns-clause-whole : goal.returns-clause-whole
returns-clause-whole c = rw (c.of.ensures, c.in_ok-loca.ensures.whole) refl
