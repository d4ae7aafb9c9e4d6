use Rattle.std.proofs.Common.{◌≡◌, ◌+◌, ap, length, length-append, refl, arith}
use Rattle.tt_exec_step.proofs.Tables.{few-bodies, put-in-place, put-behind}
use Rattle.tt_exec_step.proofs.function_table.put.Goals as goal

pub returns-then-place-gt0-clause-exact : goal.returns-then-place-gt0-clause-exact
returns-then-place-gt0-clause-exact c =
    (put-in-place c.args.places.now.items c.args.bodies.now.items c.args.body c.args.n c.index.result.now
    c.requires.slots c.requires.numbers c.index.ensures c.if-place-gt0.true).1

pub returns-then-place-gt0-clause-functions : goal.returns-then-place-gt0-clause-functions
returns-then-place-gt0-clause-functions c =
    (put-in-place c.args.places.now.items c.args.bodies.now.items c.args.body c.args.n c.index.result.now
    c.requires.slots c.requires.numbers c.index.ensures c.if-place-gt0.true).0

pub returns-clause-exact : goal.returns-clause-exact
returns-clause-exact c =
    (put-behind c.args.places.now.items c.args.bodies.now.items c.push_reserved.new.self.items c.args.body c.args.n
    c.index.result.now (length c.as_slice.result.now) c.requires.slots c.requires.numbers c.index.ensures
    c.if-place-gt0.false c.push_reserved.ensures.items (ap length c.as_slice.ensures.value)).1

pub returns-clause-functions : goal.returns-clause-functions
returns-clause-functions c =
    (put-behind c.args.places.now.items c.args.bodies.now.items c.push_reserved.new.self.items c.args.body c.args.n
    c.index.result.now (length c.as_slice.result.now) c.requires.slots c.requires.numbers c.index.ensures
    c.if-place-gt0.false c.push_reserved.ensures.items (ap length c.as_slice.ensures.value)).0

pub overflow_cast-as_slice : goal.overflow_cast-as_slice
overflow_cast-as_slice c =
    let more : length c.as_slice.result.now ≡ length c.args.bodies.now.items + 1 =
    rw (c.as_slice.ensures.value, c.push_reserved.ensures.items, length-append) refl in
    omega (arith, few-bodies c.args.places.now.items c.args.bodies.now.items c.requires.slots, more)
