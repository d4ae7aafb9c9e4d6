use Rattle.std.proofs.Common.{◌+◌, ◌/◌, ◌<◌, arith}
use Rattle.tt_arc.specs.Chords.{AreDifferences, along_x, along_y, chord_count}
use Rattle.tt_arc.proofs.Places.{coordinates_x, coordinates_y, end_is, first_ok, next_ok, room, second_ok, value_ok, value_within}
use Rattle.tt_arc.proofs.Added.{none_yet, one_chord_added}
use Rattle.tt_arc.proofs.quadratic.push_rounded.Goals as goal

pub next-x-requires-clause-value : goal.next-x-requires-clause-value
next-x-requires-clause-value c =
    let r = c.args.rule in
    let q = c.args.curve in
    let below : c.loop-k.k < chord_count r q = rw c.requires.count at c.loop-k-test.true in
    value_ok r q c.loop-k.k (along_x q) c.loop-k.x (coordinates_x q c.requires.curve) below c.loop-k.invariant.x

pub next-x-requires-clause-first : goal.next-x-requires-clause-first
next-x-requires-clause-first c =
    let r = c.args.rule in
    let q = c.args.curve in
    let below : c.loop-k.k < chord_count r q = rw c.requires.count at c.loop-k-test.true in
    first_ok r q c.loop-k.k (along_x q) c.loop-k.x below c.loop-k.invariant.x

pub next-x-requires-clause-second : goal.next-x-requires-clause-second
next-x-requires-clause-second c =
    second_ok c.args.rule c.args.curve c.loop-k.k (along_x c.args.curve) c.loop-k.x (coordinates_x c.args.curve c.requires.curve) c.loop-k.invariant.x

pub edge_end-to-requires-clause-x : goal.edge_end-to-requires-clause-x
edge_end-to-requires-clause-x c =
    let r = c.args.rule in
    let q = c.args.curve in
    let below : c.loop-k.k < chord_count r q = rw c.requires.count at c.loop-k-test.true in
    let fits = coordinates_x q c.requires.curve in
    let on = next_ok r q c.loop-k.k (along_x q) c.loop-k.x c.next-x.result fits below c.loop-k.invariant.x
    c.next-x.ensures.value c.next-x.ensures.first c.next-x.ensures.second in
    value_within (along_x q) (32 / chord_count r q) (c.loop-k.k + 1) c.next-x.result fits (room r q (c.loop-k.k + 1) (omega (arith, below))) on

pub differences_at_start-x-requires-clause-coordinates : goal.differences_at_start-x-requires-clause-coordinates
differences_at_start-x-requires-clause-coordinates c = rw c.along_x.ensures (coordinates_x c.args.curve c.requires.curve)

pub edge_end-from-requires-clause-x : goal.edge_end-from-requires-clause-x
edge_end-from-requires-clause-x c =
    let h = 32 / c.args.n in
    let at : AreDifferences (along_x c.args.curve) h 0 c.differences_at_start-x.result = rw c.along_x.ensures at c.differences_at_start-x.ensures in
    value_within (along_x c.args.curve) h 0 c.differences_at_start-x.result (coordinates_x c.args.curve c.requires.curve) (omega arith) at

pub next-y-requires-clause-value : goal.next-y-requires-clause-value
next-y-requires-clause-value c =
    let r = c.args.rule in
    let q = c.args.curve in
    let below : c.loop-k.k < chord_count r q = rw c.requires.count at c.loop-k-test.true in
    value_ok r q c.loop-k.k (along_y q) c.loop-k.y (coordinates_y q c.requires.curve) below c.loop-k.invariant.y

pub next-y-requires-clause-first : goal.next-y-requires-clause-first
next-y-requires-clause-first c =
    let r = c.args.rule in
    let q = c.args.curve in
    let below : c.loop-k.k < chord_count r q = rw c.requires.count at c.loop-k-test.true in
    first_ok r q c.loop-k.k (along_y q) c.loop-k.y below c.loop-k.invariant.y

pub next-y-requires-clause-second : goal.next-y-requires-clause-second
next-y-requires-clause-second c =
    second_ok c.args.rule c.args.curve c.loop-k.k (along_y c.args.curve) c.loop-k.y (coordinates_y c.args.curve c.requires.curve) c.loop-k.invariant.y

pub edge_end-to-requires-clause-y : goal.edge_end-to-requires-clause-y
edge_end-to-requires-clause-y c =
    let r = c.args.rule in
    let q = c.args.curve in
    let below : c.loop-k.k < chord_count r q = rw c.requires.count at c.loop-k-test.true in
    let fits = coordinates_y q c.requires.curve in
    let on = next_ok r q c.loop-k.k (along_y q) c.loop-k.y c.next-y.result fits below c.loop-k.invariant.y
    c.next-y.ensures.value c.next-y.ensures.first c.next-y.ensures.second in
    value_within (along_y q) (32 / chord_count r q) (c.loop-k.k + 1) c.next-y.result fits (room r q (c.loop-k.k + 1) (omega (arith, below))) on

pub differences_at_start-y-requires-clause-coordinates : goal.differences_at_start-y-requires-clause-coordinates
differences_at_start-y-requires-clause-coordinates c = rw c.along_y.ensures (coordinates_y c.args.curve c.requires.curve)

pub edge_end-from-requires-clause-y : goal.edge_end-from-requires-clause-y
edge_end-from-requires-clause-y c =
    let h = 32 / c.args.n in
    let at : AreDifferences (along_y c.args.curve) h 0 c.differences_at_start-y.result = rw c.along_y.ensures at c.differences_at_start-y.ensures in
    value_within (along_y c.args.curve) h 0 c.differences_at_start-y.result (coordinates_y c.args.curve c.requires.curve) (omega arith) at

pub loop-k-init : goal.loop-k-init
loop-k-init c =
    let r = c.args.rule in
    let q = c.args.curve in
    let is = c.requires.count in
    let x : AreDifferences (along_x q) (32 / chord_count r q) 0 c.differences_at_start-x.result = rw (c.along_x.ensures, is) at c.differences_at_start-x.ensures in
    let y : AreDifferences (along_y q) (32 / chord_count r q) 0 c.differences_at_start-y.result = rw (c.along_y.ensures, is) at c.differences_at_start-y.ensures in record {
      added = rw c.reserve.ensures.edges (none_yet r c.args.list.now.edges c.args.last.now (chord_count r q) q);
      room = omega (arith, c.in_ok-reserve.ensures.room);
      x = x;
      y = y;
      from = end_is r q 0 c.differences_at_start-x.result c.differences_at_start-y.result c.edge_end-from.result (omega arith) x y c.edge_end-from.ensures.exact;
      fits = c.edge_end-from.ensures.valid;
    }

pub loop-k-preserved : goal.loop-k-preserved
loop-k-preserved c =
    let r = c.args.rule in
    let q = c.args.curve in
    let below : c.loop-k.k < chord_count r q = rw c.requires.count at c.loop-k-test.true in
    let inv = c.loop-k.invariant in
    let x = next_ok r q c.loop-k.k (along_x q) c.loop-k.x c.next-x.result (coordinates_x q c.requires.curve) below inv.x
    c.next-x.ensures.value c.next-x.ensures.first c.next-x.ensures.second in
    let y = next_ok r q c.loop-k.k (along_y q) c.loop-k.y c.next-y.result (coordinates_y q c.requires.curve) below inv.y
    c.next-y.ensures.value c.next-y.ensures.first c.next-y.ensures.second in
    let at = end_is r q (c.loop-k.k + 1) c.next-x.result c.next-y.result c.edge_end-to.result (omega (arith, below)) x y c.edge_end-to.ensures.exact in record {
      added = one_chord_added r c.args.list.now.edges c.loop-k.list.edges c.push_edge.new.list.edges c.args.last.now c.loop-k.last
          c.push_edge.new.last (chord_count r q) q c.loop-k.k c.loop-k.from c.edge_end-to.result c.edge_between.result inv.added
          inv.from at c.edge_between.ensures.exact c.push_edge.ensures.added;
      room = rw c.push_edge.ensures.capacity (omega (arith, inv.room, c.push_edge.ensures.one));
      x = x;
      y = y;
      from = at;
      fits = c.edge_end-to.ensures.valid;
    }
