use Rattle.std.proofs.Common.{◌+◌, ◌<◌, ap, sym, arith}
use Rattle.tt_state.specs.Vectors.{square}
use Rattle.tt_state.specs.Axes.{vector_of}
use Rattle.tt_state.proofs.Units.{parts_are, unit_nowhere, unit_somewhere}
use Rattle.tt_state.proofs.unit.unit_of.Goals as goal

pub returns-then-l-eq0 : goal.returns-then-l-eq0
returns-then-l-eq0 c =
    unit_nowhere c.args.x.length c.args.y.length (rw (← c.square.ensures.exact, ← c.square-2.ensures.exact) c.if-l-eq0.true)

pub of-requires : goal.of-requires
of-requires c =
    let some : 0 < square c.args.x.length + square c.args.y.length =
    rw (← c.square.ensures.exact, ← c.square-2.ensures.exact) (omega (arith, c.if-l-eq0.false)) in
    rw (c.part_of.ensures, c.part_of-2.ensures, c.square.ensures.exact, c.square-2.ensures.exact)
    (parts_are c.args.x.length c.args.y.length some)

pub returns : goal.returns
returns c =
    let some : 0 < square c.args.x.length + square c.args.y.length =
    rw (← c.square.ensures.exact, ← c.square-2.ensures.exact) (omega (arith, c.if-l-eq0.false)) in
    rw (c.of.ensures, c.part_of.ensures, c.part_of-2.ensures, c.square.ensures.exact, c.square-2.ensures.exact)
    (ap vector_of (sym (unit_somewhere c.args.x.length c.args.y.length some)))
