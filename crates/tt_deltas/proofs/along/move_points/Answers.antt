use Rattle.std.proofs.Common.{◌≡◌, ◌++◌, length, length-append, length-drop, drop, None, Some, sym, arith}
use Rattle.std.proofs.lemmas.List.{length-take}
use Rattle.tt_deltas_inference.proofs.ByNumber.{all_contours_named}
use Rattle.tt_deltas_inference.specs.Bounds.{AreContourEnds}
use Rattle.tt_deltas.specs.Along.{axis_points}
use Rattle.tt_deltas.proofs.Listed.{many, all_named}
use Rattle.tt_deltas.proofs.along.move_points.Goals as goal

pub infer-requires-clause-contours : goal.infer-requires-clause-contours
infer-requires-clause-contours c =
    let long : length c.deref_mut.result.now ≡ length c.args.values.now = rw (c.deref_mut.ensures.value, c.name_listed.ensures.exact) (many c.args.tuple.share.parts (Some c.in-Some.numbers.now) c.args.tuple.deltas.now 0 c.args.values.now) in
    rw long c.requires.contours

pub returns-in-None-clause-count : goal.returns-in-None-clause-count
returns-in-None-clause-count c = rw c.name_all.ensures.exact (many c.args.tuple.share.parts None c.args.tuple.deltas.now 0 c.args.values.now)

pub returns-in-None-clause-exact : goal.returns-in-None-clause-exact
returns-in-None-clause-exact c =
    let values = c.args.values.now in
    let share = c.args.tuple.share.parts in
    let deltas = c.args.tuple.deltas.now in
    let long = rw c.in-None.is at c.requires.numbers in
    let points = axis_points share None deltas 0 values in
    let are : AreContourEnds 0 c.args.ends.now (length points) = rw (many share None deltas 0 values) c.requires.contours in
    let same = all_contours_named c.args.ends.now points are (all_named share deltas values long) in
    rw (c.in-None.is, c.name_all.ensures.exact) (sym same)

pub returns-in-Some-clause-count : goal.returns-in-Some-clause-count
returns-in-Some-clause-count c =
    let moved = c.infer.new.points in
    let items = c.name_listed.new.room.items in
    let long : length items ≡ length c.args.values.now = rw c.name_listed.ensures.exact (many c.args.tuple.share.parts (Some c.in-Some.numbers.now) c.args.tuple.deltas.now 0 c.args.values.now) in
    let left = drop (length moved) items in
    omega (
      arith,
      long,
      length-take c.name_listed.new.room.len (moved ++ left),
      length-append moved left,
      length-drop (length moved) items,
      c.infer.auto.points,
      c.deref_mut.ensures.len,
    )
