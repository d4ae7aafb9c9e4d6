use Rattle.tt_strike.proofs.sized.SizedFace.make_line.Goals as goal

pub make_by_steps-requires-clause-bounded : goal.make_by_steps-requires-clause-bounded
make_by_steps-requires-clause-bounded c = rw (c.is_bounded.ensures, c.fit.ensures) at c.if-is_bounded.true

pub make_by_advances-requires-clause-unbounded : goal.make_by_advances-requires-clause-unbounded
make_by_advances-requires-clause-unbounded c = rw (c.is_bounded.ensures, c.fit.ensures) at c.if-is_bounded.false
