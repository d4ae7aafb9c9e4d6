use Rattle.std.proofs.Common.{arith, refl}
use Rattle.std.proofs.lemmas.Result.{IfOk-weaker}
use Rattle.tt_picture.proofs.BodyInk.{nearer}
use Rattle.tt_picture.proofs.glyph.LargeGlyph.filled_ink.Goals as goal

pub dropouts_ink-requires-clause-few : goal.dropouts_ink-requires-clause-few
dropouts_ink-requires-clause-few c = omega (arith, c.self.invariant.0.few)

pub dropouts_ink-requires-clause-boxed : goal.dropouts_ink-requires-clause-boxed
dropouts_ink-requires-clause-boxed c = rw c.in-Some.is at c.self.invariant.0.boxed

pub dropouts_ink-requires-clause-ends : goal.dropouts_ink-requires-clause-ends
dropouts_ink-requires-clause-ends c = rw c.deref.ensures.value (rw c.in-Some.is at c.self.invariant.0.ends)

pub returns-in-Some-clause-exact : goal.returns-in-Some-clause-exact
returns-in-Some-clause-exact c = rw (← c.self.view_is, c.in-Some.is, ← c.deref.ensures.value) c.dropouts_ink.ensures.exact

pub returns-in-Some-clause-near : goal.returns-in-Some-clause-near
returns-in-Some-clause-near c = IfOk-weaker c.dropouts_ink.result _ _ nearer c.dropouts_ink.ensures.near

pub returns-in-None-clause-exact : goal.returns-in-None-clause-exact
returns-in-None-clause-exact c = rw (← c.self.view_is, c.in-None.is) refl
