use Rattle.tt_exec_step.proofs.Tables.{room-made}
use Rattle.tt_exec_step.proofs.function_table.Functions.set.Goals as goal

pub returns : goal.returns
returns c =
    let made = room-made c.self.inside.places.items c.make_room.new.places.items c.self.inside.bodies.items
    c.reserve.new.self.items c.from-n.result c.self.invariant c.reserve.ensures.items c.make_room.ensures.grown
    c.make_room.ensures.few c.in_ok-make_room.ensures.room in
    rw (c.from-n.ensures, made.same, c.reserve.ensures.items, c.self.view_is) at c.put.ensures.exact

pub put-requires-clause-numbers : goal.put-requires-clause-numbers
put-requires-clause-numbers c =
    (room-made c.self.inside.places.items c.make_room.new.places.items c.self.inside.bodies.items
    c.reserve.new.self.items c.from-n.result c.self.invariant c.reserve.ensures.items c.make_room.ensures.grown
    c.make_room.ensures.few c.in_ok-make_room.ensures.room).places

pub put-requires-clause-slots : goal.put-requires-clause-slots
put-requires-clause-slots c =
    (room-made c.self.inside.places.items c.make_room.new.places.items c.self.inside.bodies.items
    c.reserve.new.self.items c.from-n.result c.self.invariant c.reserve.ensures.items c.make_room.ensures.grown
    c.make_room.ensures.few c.in_ok-make_room.ensures.room).placed
