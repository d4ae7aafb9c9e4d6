use Rattle.std.proofs.Common.{refl}
use Rattle.tt_glyphs.specs.Tried.{tried_chords, tried_crossings}
use Rattle.tt_glyphs.proofs.WorkTested.{past_limits, within_limits}
use Rattle.tt_glyphs.proofs.list.drawn_of.Goals as goal

pub returns-in-Some-clause-exact : goal.returns-in-Some-clause-exact
returns-in-Some-clause-exact c =
    let few = rw c.in-Some.is at c.in_ok-drawn.ensures.few in
    let limits = c.limits_for-limits.ensures in
    rw (within_limits c.args.source.now.fit c.args.left c.limits_for-limits.result (tried_chords c.args.tried.items)
    (tried_crossings c.args.tried.items) (limits.bounded, limits.unbounded) few) refl

pub returns-in-None-clause-exact : goal.returns-in-None-clause-exact
returns-in-None-clause-exact c =
    let many = rw c.in-None.is at c.in_ok-drawn.ensures.many in
    let limits = c.limits_for-limits.ensures in
    rw (past_limits c.args.source.now.fit c.args.left c.limits_for-limits.result (tried_chords c.args.tried.items)
    (tried_crossings c.args.tried.items) (limits.bounded, limits.unbounded) many) refl
