use Rattle.std.proofs.Common.{◌≡◌, ◌+◌, ◌*◌, ◌<◌, refl, arith}
use Rattle.tt_axes.specs.Fvar.{instance_count, instance_place}
use Rattle.tt_axes.proofs.Records.{record-fits}
use Rattle.tt_axes.proofs.fvar.Fvar.instance_place.Goals as goal

pub overflow_add-result-2 : goal.overflow_add-result-2
overflow_add-result-2 c =
    let f = c.self.inside.table.now in
    let below : c.args.k < instance_count f = rw (← c.self.view_is) at c.requires in
    let fits = record-fits f c.args.k c.self.invariant below in
    let place : c.from.result + 20 * c.from-axes.result + c.from-size.result * c.args.k ≡ instance_place f c.args.k =
    rw (c.from.ensures, c.from-axes.ensures, c.from-size.ensures, c.word.ensures, c.word-2.ensures, c.word-3.ensures) refl in
    let small = c.self.invariant.small in
    omega (arith, fits, place, small)

pub returns-clause-room : goal.returns-clause-room
returns-clause-room c =
    let f = c.self.inside.table.now in
    let below : c.args.k < instance_count f = rw (← c.self.view_is) at c.requires in
    let fits = record-fits f c.args.k c.self.invariant below in
    let place : c.from.result + 20 * c.from-axes.result + c.from-size.result * c.args.k ≡ instance_place f c.args.k =
    rw (c.from.ensures, c.from-axes.ensures, c.from-size.ensures, c.word.ensures, c.word-2.ensures, c.word-3.ensures) refl in
    rw (← c.self.view_is, place) fits
